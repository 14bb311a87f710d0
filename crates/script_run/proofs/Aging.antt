-- How old the oldest case is at most after calls.
use Rattle.script_run.proofs.Common.{[], ℕ, ◌+◌, ◌∷◌, ◌≡◌, ◌≤◌, age, arith, Bool, call_case, CaseDecl, changed_at, changed_where, ClosedCase, each_of, false, if_among, IfSome, if◌then◌else◌, is_among, List, map, None, Option, put_back}
use Rattle.script_run.proofs.Common.{refl, set, slice_get, Some, suc, true, uncalled, weight, zero}
use Rattle.case_core.proofs.AgesOfSteps.{age-next_case}
use Rattle.case_core.specs.declared.events.Event.{Event}
use Rattle.script_run.specs.Oldest.{oldest}

-- no case is older than the oldest
pub age-oldest : (cs : List ClosedCase) (i : ℕ) (c : ClosedCase) → slice_get cs i ≡ Some c → age c.machine ≤ oldest cs
unfolding oldest
age-oldest [] i c is = absurd (cc)
age-oldest (x ∷ xs) zero c is = let same : c ≡ x = cc in rw same (omega arith)
age-oldest (x ∷ xs) (suc i) c is = let more = age-oldest xs i c is in omega arith

-- a case may be called where the oldest may
pub young-at : (cs : List ClosedCase) (i w n : ℕ) → oldest cs + w ≤ n → IfSome (slice_get cs i) (λ c. age c.machine + w ≤ n)
young-at cs i w n young = go (slice_get cs i) refl
  where
    go : (o : Option ClosedCase) → slice_get cs i ≡ o → IfSome o (λ c. age c.machine + w ≤ n)
    go None is = tt
    go (Some c) is = let old = age-oldest cs i c is in omega arith

-- a case at its place again
oldest-set : (cs : List ClosedCase) (i : ℕ) (c : ClosedCase) (n : ℕ) → age c.machine ≤ n → oldest cs ≤ n → oldest (set cs i c) ≤ n
unfolding oldest
oldest-set [] i c n new old = omega arith
oldest-set (x ∷ xs) zero c n new old = omega arith
oldest-set (x ∷ xs) (suc i) c n new old = let more = oldest-set xs i c n new (omega arith) in omega arith

age-call_case : (caller : ℕ) (e : Event) (c : ClosedCase) → age (call_case caller e c).machine ≤ age c.machine + weight e
age-call_case caller e c = age-next_case c.machine e

pub oldest-changed_at : (caller : ℕ) (e : Event) (i : ℕ) (cs : List ClosedCase) → oldest (changed_at (call_case caller e) i cs) ≤ oldest cs + weight e
oldest-changed_at caller e i cs = go (slice_get cs i) refl
  where
    go : (o : Option ClosedCase) → slice_get cs i ≡ o → oldest (put_back (call_case caller e) i cs o) ≤ oldest cs + weight e
    go None is = omega arith
    go (Some c) is =
        let old = age-oldest cs i c is in
        let called = age-call_case caller e c in
        oldest-set cs i (call_case caller e c) (oldest cs + weight e) (omega arith) (omega arith)

pub oldest-changed_where : (caller : ℕ) (e : Event) (place : Option ℕ) (cs : List ClosedCase) → oldest (changed_where (call_case caller e) place cs) ≤ oldest cs + weight e
oldest-changed_where caller e None cs = omega arith
oldest-changed_where caller e (Some i) cs = oldest-changed_at caller e i cs

age-if_among : (t many caller : ℕ) (e : Event) (d : CaseDecl) (c : ClosedCase) → age (if_among t many (call_case caller e) d c).machine ≤ age c.machine + weight e
age-if_among t many caller e d c = go (is_among t many d)
  where
    go : (b : Bool) → age (if b then call_case caller e c else c).machine ≤ age c.machine + weight e
    go true = age-call_case caller e c
    go false = omega arith

pub oldest-each_of : (t many caller : ℕ) (e : Event) (ds : List CaseDecl) (cs : List ClosedCase) → oldest (each_of t many (call_case caller e) ds cs) ≤ oldest cs + weight e
unfolding oldest
oldest-each_of t many caller e [] cs = omega arith
oldest-each_of t many caller e (d ∷ ds) [] = omega arith
oldest-each_of t many caller e (d ∷ ds) (c ∷ cs) =
    let first = age-if_among t many caller e d c in
    let more = oldest-each_of t many caller e ds cs in
    omega arith

-- nobody has called a case in the beginning
pub oldest-uncalled : (ds : List CaseDecl) → oldest (map uncalled ds) ≡ 0
unfolding oldest
oldest-uncalled [] = refl
oldest-uncalled (d ∷ ds) = rw (oldest-uncalled ds) refl
