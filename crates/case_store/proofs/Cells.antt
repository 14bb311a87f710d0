-- Where cases stand, and what types and cases are before any call.
use Rattle.case_store.proofs.Common.{[], ℕ, ◌++◌, ◌+◌, ◌<◌, ◌∙◌, ◌∷◌, ◌≡◌, ◌≤◌, age, AllByRecursion, ap, append_assoc, arith}
use Rattle.case_store.proofs.Common.{fresh_cases, length, length-append, length-replicate, List, not_created}
use Rattle.case_store.proofs.Common.{refl, replicate, starts_from, suc, sum, sum_by-cons, zero}
use Rattle.std.proofs.{Common.get_or, lemmas.Option.slice_get_read}
use Rattle.script_run.proofs.Aging.{age-oldest}
use Rattle.script_run.specs.{Oldest.oldest, declared.runs.ClosedCase.ClosedCase}

-- the cases of each type begin and end among all cases
pub starts-within : (start : ℕ) (counts : List ℕ) (n : ℕ) → start + sum counts ≤ n → AllByRecursion (λ s. s ≤ n) (starts_from start counts)
starts-within start [] n le = (omega (arith, le), tt)
starts-within start (c ∷ cs) n le =
    let more : sum (c ∷ cs) ≡ c + sum cs = sum_by-cons (λ n. n) c cs in
    (omega (arith, le), starts-within (start + c) cs n (omega (arith, more, le)))

abbrev uncalled_of : ℕ → ClosedCase
uncalled_of t = record { machine = not_created t; journal = [] }

pub length-fresh : (t : ℕ) (counts : List ℕ) → length (fresh_cases t counts) ≡ sum counts
length-fresh t [] = refl
length-fresh t (c ∷ cs) =
    let more : sum (c ∷ cs) ≡ c + sum cs = sum_by-cons (λ n. n) c cs in
    let parts : length (fresh_cases t (c ∷ cs)) ≡ length (replicate c (uncalled_of t) ++ fresh_cases (t + 1) cs) = refl in
    omega (arith, more, parts, length-append (replicate c (uncalled_of t)) (fresh_cases (t + 1) cs), length-replicate c (uncalled_of t), length-fresh (t + 1) cs)

-- nobody has called a case
replicate-young : (n t : ℕ) (cs : List ClosedCase) → oldest cs ≡ 0 → oldest (replicate n (uncalled_of t) ++ cs) ≡ 0
unfolding oldest
replicate-young zero t cs young = young
replicate-young (suc n) t cs young = let more = replicate-young n t cs young in omega (arith, more)

pub fresh-young : (t : ℕ) (counts : List ℕ) → oldest (fresh_cases t counts) ≡ 0
unfolding oldest
fresh-young t [] = refl
fresh-young t (c ∷ cs) = replicate-young c t (fresh_cases (t + 1) cs) (fresh-young (t + 1) cs)

-- one item more
pub one-more : {X : Type 0} {k x : X} (out new rest : List X) {total : List X} → new ≡ out ++ k ∷ [] → k ≡ x → out ++ x ∷ rest ≡ total → new ++ rest ≡ total
one-more {k = k} out new rest pushed same so_far = ap (λ n. n ++ rest) pushed ∙ append_assoc out (k ∷ []) rest ∙ ap (λ q. out ++ q ∷ rest) same ∙ so_far

-- a case may be called where the oldest may
pub called-young : (cases : List ClosedCase) (i w : ℕ) (old : ClosedCase) → i < length cases → old ≡ get_or cases i old → oldest cases + w ≤ 4000000000 → age old.machine + w ≤ 4000000000
called-young cases i w old within value young = omega (arith, age-oldest cases i old (slice_get_read cases (length cases) i old refl within value), young)
