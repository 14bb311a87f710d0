-- What the cases of a type are told one after another, as one machine sees it.
use Rattle.legal_run.proofs.Common.{[], ℕ, ◌&&◌, ◌+◌, ◌<◌, ◌==◌, ◌∙◌, ◌∷◌, ◌≡◌, ◌≢◌, ◌≤◌, ◌⊎◌, and_parts, ap, arith, Bool, calls_of_case, calls_of_kind, CaseEntry, CaseId, entry, eq-eqb, eqb-true, Event, false, if◌then◌else◌, inl, inr}
use Rattle.legal_run.proofs.Common.{length, List, map, ne_eqb, None, Option, refl, Reply, slice_get, Some, subst, suc, sym, told, told_each, told_some, true, zero}

-- the entry of a case that has answered
abbrev pub entry_if : ℕ → Event → Option (Option Reply) → List CaseEntry
entry_if a e (Some (Some r)) = entry a e r ∷ []
entry_if a e (Some None) = []
entry_if a e None = []

module _ (a t : ℕ) (e : Event) where
  -- each was told where all answered
  pub each-all : (place : ℕ) (rs : List Reply) → told_each a t e place rs ≡ told_some a t e place (map (λ r. Some r) rs)
  each-all place [] = refl
  each-all place (r ∷ rs) = ap (λ calls. told a (record { type_no = t; place = place }) e r ∷ calls) (each-all (place + 1) rs)

  -- no type is told anything
  pub some-kind : (u place : ℕ) (answers : List (Option Reply)) → calls_of_kind u (told_some a t e place answers) ≡ []
  some-kind u place [] = refl
  some-kind u place (None ∷ answers) = some-kind u (place + 1) answers
  some-kind u place (Some r ∷ answers) = some-kind u (place + 1) answers

  -- one told at another place, or none, is no call of a case
  skip : (c : CaseId) (place : ℕ) (o : Option Reply) (answers : List (Option Reply)) → (t ≢ c.type_no) ⊎ (place ≢ c.place)
      → calls_of_case c (told_some a t e place (o ∷ answers)) ≡ calls_of_case c (told_some a t e (place + 1) answers)
  skip c place None answers other = refl
  skip c place (Some r) answers (inl not) = rw (ne_eqb t c.type_no not) refl
  skip c place (Some r) answers (inr not) = rw (ne_eqb place c.place not) (no_place (t == c.type_no))
    where
      no_place : (b : Bool) → (if b && false then entry a e r ∷ calls_of_case c (told_some a t e (place + 1) answers) else calls_of_case c (told_some a t e (place + 1) answers)) ≡ calls_of_case c (told_some a t e (place + 1) answers)
      no_place true = refl
      no_place false = refl

  -- nor is a case of another type told anything, or one at an earlier place
  pub some-other : (c : CaseId) (place : ℕ) (answers : List (Option Reply)) → (t ≢ c.type_no) ⊎ (c.place < place) → calls_of_case c (told_some a t e place answers) ≡ []
  some-other c place [] other = refl
  some-other c place (o ∷ answers) (inl not) = skip c place o answers (inl not) ∙ some-other c (place + 1) answers (inl not)
  some-other c place (o ∷ answers) (inr past) = skip c place o answers (inr (λ is. omega arith)) ∙ some-other c (place + 1) answers (inr (omega arith))

  -- a case of the type is told once, where there is an answer at its place
  pub some-at : (c : CaseId) (place j : ℕ) (answers : List (Option Reply)) → t ≡ c.type_no → c.place ≡ place + j → calls_of_case c (told_some a t e place answers) ≡ entry_if a e (slice_get answers j)
  some-at c place j [] same is = refl
  some-at c place zero (None ∷ answers) same is = some-other c (place + 1) answers (inr (omega arith))
  some-at c place zero (Some r ∷ answers) same is = rw (eq-eqb t c.type_no same, eq-eqb place c.place (omega arith)) (ap (λ xs. entry a e r ∷ xs) (some-other c (place + 1) answers (inr (omega arith))))
  some-at c place (suc j) (o ∷ answers) same is = skip c place o answers (inr (λ k. omega arith)) ∙ some-at c (place + 1) j answers same (omega arith)

  pub some-once : (c : CaseId) (place : ℕ) (answers : List (Option Reply)) → length (calls_of_case c (told_some a t e place answers)) ≤ 1
  some-once c place [] = omega arith
  some-once c place (None ∷ answers) = some-once c (place + 1) answers
  some-once c place (Some r ∷ answers) = by (t == c.type_no && place == c.place) refl (some-once c (place + 1) answers)
    where
      rest : List CaseEntry
      rest = calls_of_case c (told_some a t e (place + 1) answers)

      by : (b : Bool) → (t == c.type_no && place == c.place) ≡ b → length rest ≤ 1 → length (if b then entry a e r ∷ rest else rest) ≤ 1
      by true is few =
          let here : place ≡ c.place = eqb-true place c.place (and_parts (t == c.type_no) (place == c.place) is).1 in
          let none : length rest ≡ 0 = ap length (some-other c (place + 1) answers (inr (omega arith))) in
          omega arith
      by false other few = few

  -- so it is with replies of all
  pub each-kind : (u place : ℕ) (rs : List Reply) → calls_of_kind u (told_each a t e place rs) ≡ []
  each-kind u place rs = ap (calls_of_kind u) (each-all place rs) ∙ some-kind u place (map (λ r. Some r) rs)

  pub each-once : (c : CaseId) (place : ℕ) (rs : List Reply) → length (calls_of_case c (told_each a t e place rs)) ≤ 1
  each-once c place rs = subst (λ calls. length (calls_of_case c calls) ≤ 1) (sym (each-all place rs)) (some-once c place (map (λ r. Some r) rs))
