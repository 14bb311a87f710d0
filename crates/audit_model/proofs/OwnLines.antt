-- The lines of one actor, with the versions that it was told.
use Rattle.std.proofs.{Common.{◌≡◌, ℕ, ◌==◌, Bool, eqb, eq-eqb, false, ◌&&◌, List, [], ◌∷◌, ◌++◌, filter, map, Option, Some, None, refl, sym, ap, ◌∙◌, if◌then◌else◌}, lemmas.Bool.eqb-true}
use Rattle.audit_model.proofs.Common.{actor_of, by-test, filter-swap, all_owed, Asked, asked_lines, asked_phases, asks, calls_case, calls_kind, CaseId, filter-append, first_of, left_to_tell, Line, lines_by, rest_of, Telling, told_at, version_for, VersionModel}
use Rattle.audit_model.proofs.Callers.{other-way}
use Rattle.legal_run.specs.LineCalls.{lines_of}

abbrev pub line_actor : Line → ℕ
line_actor l = l.actor

abbrev pub to_kind : ℕ → Line → Bool
to_kind t l = calls_kind t l.act

abbrev pub to_case : CaseId → Asked → Bool
to_case c l = calls_case c l.0.act

-- the lines of an actor in all phases
abbrev pub own_lines : ℕ → List (List Line) → List Line
own_lines a phases = lines_of a (all_owed phases)

-- what an actor is told by each type
abbrev pub OwnTelling : Type 0
OwnTelling = ℕ → List VersionModel

abbrev pub own_version : OwnTelling → Option ℕ → Option VersionModel
own_version r None = None
own_version r (Some t) = first_of (r t)

abbrev pub own_then : OwnTelling → Option ℕ → OwnTelling
own_then r None = r
own_then r (Some t) = λ u. if eqb u t then rest_of (r u) else r u

abbrev pub asked_own : OwnTelling → List Line → List Asked
asked_own r [] = []
asked_own r (l ∷ ls) = (l, own_version r (asks l.act)) ∷ asked_own (own_then r (asks l.act)) ls

abbrev pub own_left : OwnTelling → List Line → OwnTelling
own_left r [] = r
own_left r (l ∷ ls) = own_left (own_then r (asks l.act)) ls

-- a line that asks was told a version
abbrev pub HasVersion : Asked → Type 0
HasVersion x = (t : ℕ) → asks x.0.act ≡ Some t → (v : VersionModel) × (x.1 ≡ Some v)

-- ---- all phases as one
lines-append : (xs ys : List Line) (q : Telling) → asked_lines q (xs ++ ys) ≡ asked_lines q xs ++ asked_lines (left_to_tell q xs) ys
lines-append [] ys q = refl
lines-append (x ∷ xs) ys q = ap (λ zs. (x, version_for q x.actor (asks x.act)) ∷ zs) (lines-append xs ys (told_at q x.actor (asks x.act)))

all-asked : (q : Telling) (phases : List (List Line)) → all_owed (asked_phases q phases) ≡ asked_lines q (all_owed phases)
all-asked q [] = refl
all-asked q (lines ∷ phases) = ap (λ xs. asked_lines q lines ++ xs) (all-asked (left_to_tell q lines) phases) ∙ sym (lines-append lines (all_owed phases) q)

all-such : {L : Type 0} (p : L → Bool) (phases : List (List L)) → all_owed (map (λ lines. filter p lines) phases) ≡ filter p (all_owed phases)
all-such p [] = refl
all-such p (lines ∷ phases) = ap (λ xs. filter p lines ++ xs) (all-such p phases) ∙ sym (filter-append p lines (all_owed phases))

module _ (a : ℕ) where
  -- an actor's own line, and a line of another
  version-own : (q : Telling) (b : ℕ) → b ≡ a → (o : Option ℕ) → version_for q b o ≡ own_version (q a) o
  version-own q b is None = refl
  version-own q b is (Some t) = ap (λ n. first_of (q n t)) is

  then-own : (q : Telling) (b : ℕ) → b ≡ a → (o : Option ℕ) → told_at q b o a ≡ own_then (q a) o
  then-own q b is None = refl
  then-own q b is (Some t) = ap (λ (test : Bool). λ (u : ℕ). if test && u == t then rest_of (q a u) else q a u) (eq-eqb a b (sym is))

  then-other : (q : Telling) (b : ℕ) → (b == a) ≡ false → (o : Option ℕ) → told_at q b o a ≡ q a
  then-other q b other None = refl
  then-other q b other (Some t) = ap (λ (test : Bool). λ (u : ℕ). if test && u == t then rest_of (q a u) else q a u) (other-way a b ∙ other)

  own-asked : (ls : List Line) (q : Telling) → lines_by actor_of a (asked_lines q ls) ≡ asked_own (q a) (lines_of a ls)
  own-asked [] q = refl
  own-asked (l ∷ ls) q =
      let later = told_at q l.actor (asks l.act) in
      let mine = lines_by actor_of a (asked_lines later ls) in
      let more = λ (r : OwnTelling) (same : later a ≡ r). own-asked ls later ∙ ap (λ (s : OwnTelling). asked_own s (lines_of a ls)) same in
      by-test (λ test. (if test then (l, version_for q l.actor (asks l.act)) ∷ mine else mine) ≡ asked_own (q a) (if test then l ∷ lines_of a ls else lines_of a ls)) (l.actor == a)
      (λ own.
      let is : l.actor ≡ a = eqb-true l.actor a own in
      ap (λ (v : Option VersionModel). (l, v) ∷ mine) (version-own q l.actor is (asks l.act))
      ∙ ap (λ xs. (l, own_version (q a) (asks l.act)) ∷ xs) (more (own_then (q a) (asks l.act)) (then-own q l.actor is (asks l.act))))
      (λ other. more (q a) (then-other q l.actor other (asks l.act)))

  -- ---- what is owed of an actor's lines: all of it, and of it what goes to a case or to a type
  pub own-phases : (phases : List (List Line)) (q : Telling) → lines_by actor_of a (all_owed (asked_phases q phases)) ≡ asked_own (q a) (own_lines a phases)
  own-phases phases q = ap (lines_by actor_of a) (all-asked q phases) ∙ own-asked (all_owed phases) q

  pub own-such : {L : Type 0} (by : L → ℕ) (p : L → Bool) (phases : List (List L)) → lines_by by a (all_owed (map (λ lines. filter p lines) phases)) ≡ filter p (lines_by by a (all_owed phases))
  own-such by p phases = ap (lines_by by a) (all-such p phases) ∙ filter-swap (λ l. by l == a) p (all_owed phases)
