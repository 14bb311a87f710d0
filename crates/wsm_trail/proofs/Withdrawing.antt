-- A trail without the one Start of a node.
use Rattle.wsm_trail.proofs.Common.{[], ℕ, ◌++◌, ◌+◌, ◌<◌, ◌∙◌, ◌∷◌, ◌≡◌, ◌≤◌, All, ap, arith, cases_Bool, cond, drop, drop_more, Entry, false, fold, get_or, inl, inr, is_start_of, IsStartPlace, length, List, noted, noted_entries}
use Rattle.wsm_trail.proofs.{Common.{noted_entry, refl, Rises, Some, starts_of, subst, sym, take, take-append-drop, true, without_start, written_by}, Rising.rises_lower}
use Rattle.std.proofs.lemmas.List.Elements.{All-head, All-tail}
use Rattle.wsm_schema.specs.declared.entries.Entry.TheVariants as entry

-- a Start writes nothing
pub start-writes_none : (n : ℕ) (x : Entry) → is_start_of n x ≡ true → written_by x ≡ []
start-writes_none n (entry.Start node user reads) h = refl
start-writes_none n (entry.End node writes choice) h = absurd (cc)
start-writes_none n (entry.Again node writes) h = absurd (cc)
start-writes_none n (entry.Wrote writes) h = absurd (cc)

module _ (n : ℕ) where
  -- where there is no Start of the node, nothing leaves
  none-leaves : (es : List (ℕ × Entry)) → length (starts_of n es) ≡ 0 → without_start n es ≡ es
  none-leaves [] h = refl
  none-leaves (e ∷ es) h =
      elim (cases_Bool (is_start_of n e.1)) [
        | inl it ↦ let h' : length (e ∷ starts_of n es) ≡ 0 = ap (λ b. length (cond b (e ∷ starts_of n es) (starts_of n es))) (sym it) ∙ h in absurd (cc)
        | inr other ↦ let h' : length (starts_of n es) ≡ 0 = ap (λ b. length (cond b (e ∷ starts_of n es) (starts_of n es))) (sym other) ∙ h in rw other (ap (λ xs. e ∷ xs) (none-leaves es h'))
      ]

  -- of one Start the entries before it and behind it are left
  pub one-leaves : (front behind : List (ℕ × Entry)) (e : ℕ × Entry) → is_start_of n e.1 ≡ true → length (starts_of n (front ++ e ∷ behind)) ≡ 1 → front ++ behind ≡ without_start n (front ++ e ∷ behind)
  one-leaves [] behind e it h =
      let h' : length (e ∷ starts_of n behind) ≡ 1 = ap (λ b. length (cond b (e ∷ starts_of n behind) (starts_of n behind))) (sym it) ∙ h in
      rw it (sym (none-leaves behind (omega (arith, h'))))
  one-leaves (x ∷ front) behind e it h =
      let rest = starts_of n (front ++ e ∷ behind) in
      elim (cases_Bool (is_start_of n x.1)) [
        | inl first ↦
            let h' : length (x ∷ rest) ≡ 1 = ap (λ b. length (cond b (x ∷ rest) rest)) (sym first) ∙ h in
            let more = there front in
            absurd (omega (arith, h', more))
        | inr other ↦
            let h' : length rest ≡ 1 = ap (λ b. length (cond b (x ∷ rest) rest)) (sym other) ∙ h in
            rw other (ap (λ xs. x ∷ xs) (one-leaves front behind e it h'))
      ]
    where
      there : (front : List (ℕ × Entry)) → 1 ≤ length (starts_of n (front ++ e ∷ behind))
      there [] = rw it (omega arith)
      there (x ∷ front) =
          elim (cases_Bool (is_start_of n x.1)) [
            | inl first ↦ rw first (omega arith)
            | inr other ↦ rw other (there front)
          ]

  -- ---- where it stands
  pub none-starts : (es : List (ℕ × Entry)) → All (λ e. is_start_of n e.1 ≡ false) es → starts_of n es ≡ []
  none-starts [] h = refl
  none-starts (e ∷ es) h = rw (All-head (λ x. is_start_of n x.1 ≡ false) e es h) (none-starts es (All-tail (λ x. is_start_of n x.1 ≡ false) e es h))

  pub place-at : (es : List (ℕ × Entry)) (i : ℕ) → i < length es → is_start_of n (get_or es i (0, entry.Wrote [])).1 ≡ true → IsStartPlace n es (Some i)
  place-at es i inside it =
      (inside, (get_or es i (0, entry.Wrote []), (it, sym (take-append-drop i es) ∙ ap (λ l. take i es ++ l) (drop_more es i (0, entry.Wrote []) inside))))

  pub place-left : (es : List (ℕ × Entry)) (i : ℕ) → IsStartPlace n es (Some i) → length (starts_of n es) ≡ 1 → take i es ++ drop (i + 1) es ≡ without_start n es
  place-left es i at one =
      let e : ℕ × Entry = at.1.0 in
      let split : es ≡ take i es ++ e ∷ drop (i + 1) es = at.1.1.1 in
      one-leaves (take i es) (drop (i + 1) es) e at.1.1.0 (subst (λ xs. length (starts_of n xs) ≡ 1) split one) ∙ ap (without_start n) (sym split)

  -- positions still rise
  pub rises-left : (low high : ℕ) (es : List (ℕ × Entry)) → Rises low high es → Rises low high (without_start n es)
  rises-left low high [] h = h
  rises-left low high (e ∷ es) h =
      elim (cases_Bool (is_start_of n e.1)) [
        | inl it ↦ rw it (rises_lower (e.0 + 1) low high (without_start n es) (omega (arith, h.0)) (rises-left (e.0 + 1) high es h.1))
        | inr other ↦ rw other (h.0, rises-left (e.0 + 1) high es h.1)
      ]

  -- the table of last writes stays
  noted-left : (m : List (ℕ × ℕ)) (es : List (ℕ × Entry)) → fold noted_entry m (without_start n es) ≡ fold noted_entry m es
  noted-left m [] = refl
  noted-left m (e ∷ es) =
      elim (cases_Bool (is_start_of n e.1)) [
        | inl it ↦ rw it (noted-left m es ∙ ap (λ ws. fold noted_entry (noted e.0 m ws) es) (sym (start-writes_none n e.1 it)))
        | inr other ↦ rw other (noted-left (noted_entry m e) es)
      ]

  pub noted_entries-left : (es : List (ℕ × Entry)) → noted_entries (without_start n es) ≡ noted_entries es
  noted_entries-left es = noted-left [] es
