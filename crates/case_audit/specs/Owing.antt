-- What is owed to types and to cases, as the code keeps it.
use Rattle.std.specs.Prelude.{ℕ, Bool, List, [], ◌∷◌, map, filter, if◌then◌else◌, Option, position}
use Rattle.audit_model.specs.{Common.{numbered_from, with_line, Act, case_among, CaseDecl, CaseId, cells_of, changed_where, each_among, has_id, kind_among}, Asked.{Asked, calls_case, calls_kind}}
use Rattle.case_audit.specs.{Asking.asked_of, declared.owed.Owed.Owed, declared.owed.PhaseCalls.PhaseCalls}

-- ---- what cells get of the lines of phases
-- those items changed whose cells pass a test
abbrev pub put_where : {C X : Type 0} → (C → Bool) → (X → X) → List C → List X → List X
put_where test f [] xs = xs
put_where test f (c ∷ cs) [] = []
put_where test f (c ∷ cs) (x ∷ xs) = (if test c then f x else x) ∷ put_where test f cs xs

module _ {C L : Type 0} (calls : C → L → Bool) where
  -- a line of a phase more, for each cell that it calls
  abbrev pub put_line : List C → ℕ → List (List (ℕ × List L)) → L → List (List (ℕ × List L))
  put_line cs p owed l = put_where (λ c. calls c l) (with_line p l) cs owed

  -- for each cell the lines that call it
  abbrev pub given : List C → List (List L) → List (List (ℕ × List L))
  given cs phases = map (λ c. numbered_from 0 (map (λ lines. filter (λ l. calls c l) lines) phases)) cs

-- ---- what is owed to types and to cases, as the code keeps it
-- the lines of a phase with its number
abbrev pub calls_in : PhaseCalls → List Asked
calls_in p = map asked_of p.calls.items

abbrev pub numbered_of : Owed → List (ℕ × List Asked)
numbered_of o = map (λ (p : PhaseCalls). (p.phase, calls_in p)) o.phases.items

-- phase by phase, without those in which nothing is owed
abbrev pub owed_of : Owed → List (List Asked)
owed_of o = map calls_in o.phases.items

-- of each cell
abbrev pub numbers : List Owed → List (List (ℕ × List Asked))
numbers owed = map numbered_of owed

-- ---- types by their numbers
abbrev pub calls_number : ℕ → Asked → Bool
calls_number t l = calls_kind t l.0.act

-- the type that a line calls
abbrev pub called_kind : Act → Option ℕ
called_kind x = kind_among (cells_of x)

abbrev pub kind_put : ℕ → List (List (ℕ × List Asked)) → Asked → List (List (ℕ × List Asked))
kind_put p owed l = changed_where (with_line p l) (called_kind l.0.act) owed

-- ---- cases by their declarations
-- the one case that a line calls, and the type of which it calls the first so many cases
abbrev pub called_case : Act → Option CaseId
called_case x = case_among (cells_of x)

abbrev pub moved_type : Act → Option (ℕ × ℕ)
moved_type x = each_among (cells_of x)

abbrev pub calls_decl : CaseDecl → Asked → Bool
calls_decl d l = calls_case d.id l.0.act

abbrev pub declared_at : List CaseDecl → CaseId → Option ℕ
declared_at cases c = position (has_id c) cases

abbrev pub case_put : List CaseDecl → ℕ → List (List (ℕ × List Asked)) → Asked → List (List (ℕ × List Asked))
case_put cases p owed l = put_line calls_decl cases p owed l
