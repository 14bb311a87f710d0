-- A line makes at most one call of a type, and at most one of a case.
use Rattle.legal_run.proofs.Common.{[], ℕ, ◌++◌, ◌+◌, ◌∙◌, ◌∷◌, ◌≡◌, ◌≤◌, ap, AreBegun, AreCallsOfLines, AreOf, ArePart, arith, Bool, Call, call_of, calls_of_case, calls_of_kind, CaseId, Entry, eqb, false, if◌then◌else◌, inl, inr, is_case}
use Rattle.legal_run.proofs.{Common.{length, length-append, Line, List, refl, subst, sym, true}, OnMachines.{IsOn, on-append, on-case, on-kind}, Told.{each-kind, each-once, some-kind, some-once}}
use Rattle.line_calls.specs.declared.calls.Call as line
use Rattle.line_calls.specs.declared.calls.Call.TheVariants as call
use Rattle.line_calls.specs.declared.calls.Told.TheVariants as tell

-- at most one of two lists of at most one
one_if : {A : Type 0} (b : Bool) (x : A) (xs : List A) → xs ≡ [] → length (if b then x ∷ xs else xs) ≤ 1
one_if true x xs none = let e : length xs ≡ 0 = ap length none in omega arith
one_if false x xs none = let e : length xs ≡ 0 = ap length none in omega arith

-- calls of which no machine has more than one
record AreFew (calls : List Call) : Type 0 where
  kind : (t : ℕ) → length (calls_of_kind t calls) ≤ 1
  case : (c : CaseId) → length (calls_of_case c calls) ≤ 1

module _ (roles : List ℕ) (a : ℕ) where
  few-called : (k : line.Call) (calls : List Call) → AreOf a k calls → AreFew calls
  few-called (call.Kind u e) calls m = subst AreFew (sym m.1) (record { kind = λ t. one_if (eqb u t) _ [] refl; case = λ c. omega arith })
  few-called (call.Case d e) calls m = subst AreFew (sym m.1) (record { kind = λ t. omega arith; case = λ c. one_if (is_case c d) _ [] refl })
  few-called (call.Newest u (tell.Create d)) calls m = subst AreFew (sym m.2) (record { kind = λ t. one_if (eqb u t) _ [] refl; case = λ c. one_if (is_case c d) _ [] refl })
  few-called (call.Newest u (tell.Migrate many)) calls m = subst AreFew (sym m.3) (record { kind = λ t. one_if (eqb u t) _ _ (each-kind a u _ t 0 m.1); case = λ c. each-once a u _ c 0 m.1 })

  few-none : (calls : List Call) → calls ≡ [] → AreFew calls
  few-none calls none = subst AreFew (sym none) (record { kind = λ t. omega arith; case = λ c. omega arith })

  few-begun : (k : line.Call) (calls : List Call) → ArePart a k calls → AreFew calls
  few-begun (call.Kind u e) calls m = few-none calls m
  few-begun (call.Case d e) calls m = few-none calls m
  few-begun (call.Newest u (tell.Create d)) calls (inl m) = few-none calls m
  few-begun (call.Newest u (tell.Create d)) calls (inr m) = subst AreFew (sym m.1) (record { kind = λ t. one_if (eqb u t) _ [] refl; case = λ c. omega arith })
  few-begun (call.Newest u (tell.Migrate many)) calls (inl m) = few-none calls m
  few-begun (call.Newest u (tell.Migrate many)) calls (inr m) = subst AreFew (sym m.3) (record { kind = λ t. one_if (eqb u t) _ _ (some-kind a u _ t 0 m.1); case = λ c. some-once a u _ c 0 m.1 })

  module _ {M E R W S : Type 0} (on : List Call → List (Entry M E R W S)) (is : IsOn on) (few : (calls : List Call) → AreFew calls → length (on calls) ≤ 1) where
    one_more : (l : Line) (ls : List Line) (calls first rest : List Call) → calls ≡ first ++ rest → AreOf a (call_of a roles l.act) first → length (on rest) ≤ length ls → length (on calls) ≤ length (l ∷ ls)
    one_more l ls calls first rest both here low =
        let one = few first (few-called (call_of a roles l.act) first here) in
        let all : length (on calls) ≡ length (on first) + length (on rest) = ap (λ xs. length (on xs)) both ∙ (ap length (on-append on is first rest) ∙ length-append (on first) (on rest)) in
        omega arith

    on_lines : (lines : List Line) (calls : List Call) → AreCallsOfLines roles a lines calls → length (on calls) ≤ length lines
    on_lines [] calls k = let none : length (on calls) ≡ 0 = ap (λ xs. length (on xs)) k ∙ ap length is.none in omega arith
    on_lines (l ∷ ls) calls k = one_more l ls calls k.0 k.1 k.2 k.3 (on_lines ls k.1 k.4)

    on_begun : (lines : List Line) (calls : List Call) → AreBegun roles a lines calls → length (on calls) ≤ length lines
    on_begun [] calls k = absurd k
    on_begun (l ∷ ls) calls (inl k) = let one = few calls (few-begun (call_of a roles l.act) calls k) in omega arith
    on_begun (l ∷ ls) calls (inr k) = one_more l ls calls k.0 k.1 k.2 k.3 (on_begun ls k.1 k.4)

  -- so no more calls of a type or of a case are made than there are lines
  pub kind_once_per_line : (t : ℕ) (lines : List Line) (calls : List Call) → AreCallsOfLines roles a lines calls → length (calls_of_kind t calls) ≤ length lines
  kind_once_per_line t = on_lines (calls_of_kind t) (on-kind t) (λ calls few. few.kind t)

  pub case_once_per_line : (c : CaseId) (lines : List Line) (calls : List Call) → AreCallsOfLines roles a lines calls → length (calls_of_case c calls) ≤ length lines
  case_once_per_line c = on_lines (calls_of_case c) (on-case c) (λ calls few. few.case c)

  pub kind_once_begun : (t : ℕ) (lines : List Line) (calls : List Call) → AreBegun roles a lines calls → length (calls_of_kind t calls) ≤ length lines
  kind_once_begun t = on_begun (calls_of_kind t) (on-kind t) (λ calls few. few.kind t)

  pub case_once_begun : (c : CaseId) (lines : List Line) (calls : List Call) → AreBegun roles a lines calls → length (calls_of_case c calls) ≤ length lines
  case_once_begun c = on_begun (calls_of_case c) (on-case c) (λ calls few. few.case c)
