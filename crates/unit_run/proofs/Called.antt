-- A run behind calls that were made at the places of cases.
use Rattle.unit_run.proofs.Common.{ℕ, ◌∙◌, ◌≡◌, ap, call_case, CaseId, changed_at, changed_where, ClosedCase, ClosedKind, Err, File, IsOf, List, None, Ok, on_case, on_each, OnOk, places_of, Placing, Result, Run, slice_get, Some, sym, take}
use Rattle.unit_run.proofs.{Each.all-called, Placed.{changed_all, place-found}}
use Rattle.case_core.specs.declared.events.Event.{Event}

-- what two clauses give
pub both_ok : {X Y A B C : Type 0} (r : Result X Y) → (A → B → C) → OnOk r A → OnOk r B → OnOk r C
both_ok (Ok x) f a b = f a b
both_ok (Err e) f a b = tt

abbrev pub of_parts : List ClosedKind → List ClosedCase → Run
of_parts kinds cases = record { kinds = kinds; cases = cases }

pub case-passed : (f : File) (caller : ℕ) (c : CaseId) (e : Event) (p : Placing) → IsOf f.cases p → slice_get (places_of c.type_no p.placed.types) c.place ≡ None → p.run ≡ on_case f caller c e p.run
case-passed f caller c e p of none = ap (λ o. of_parts p.run.kinds (changed_where (call_case caller e) o p.run.cases)) (sym none ∙ place-found f c p.placed.types of.types of.placed)

pub case-called : (f : File) (caller : ℕ) (c : CaseId) (e : Event) (p : Placing) (place : ℕ) (kinds : List ClosedKind) (cases : List ClosedCase) → IsOf f.cases p → slice_get (places_of c.type_no p.placed.types) c.place ≡ Some place
    → kinds ≡ p.run.kinds → cases ≡ changed_at (call_case caller e) place p.run.cases → of_parts kinds cases ≡ on_case f caller c e p.run
case-called f caller c e p place kinds cases of some same called =
    ap (λ ks. of_parts ks cases) same ∙ (ap (of_parts p.run.kinds) called
    ∙ ap (λ o. of_parts p.run.kinds (changed_where (call_case caller e) o p.run.cases)) (sym some ∙ place-found f c p.placed.types of.types of.placed))

pub each-called : (f : File) (caller t many : ℕ) (e : Event) (p : Placing) (kinds : List ClosedKind) (cases : List ClosedCase) → IsOf f.cases p
    → kinds ≡ p.run.kinds → cases ≡ changed_all (call_case caller e) p.run.cases (take many (places_of t p.placed.types)) → of_parts kinds cases ≡ on_each f caller t many e p.run
each-called f caller t many e p kinds cases of same called =
    ap (λ ks. of_parts ks cases) same ∙ ap (of_parts p.run.kinds) (called ∙ all-called t many (call_case caller e) f.cases p.run.cases p.placed.types of.types of.placed of.many)
