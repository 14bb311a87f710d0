-- One entry more in the log of a disk over a file.
use Rattle.store_disk.proofs.Common.{[], ℕ, ◌++◌, ◌∙◌, ◌∷◌, ◌≡◌, ap, Change, change_of, List, logged_onto, Note, past_of, refl, synced, wrote}
use Rattle.store_disk.specs.declared.history.Note.TheVariants as note

module _ {V : Type 0} (items : V → List ℕ) where
  -- the last entry is the newest change
  one-more : (told : List Change) (log : List (V × Note)) (v : V) (n : Note) → logged_onto items told (log ++ (v, n) ∷ []) ≡ change_of items v n ∷ logged_onto items told log
  one-more told [] v n = refl
  one-more told (e ∷ log) v n = one-more (change_of items e.0 e.1 ∷ told) log v n

  pub past-wrote : (log : List (V × Note)) (v : V) (at len : ℕ) (bytes : List ℕ) → items v ≡ bytes → past_of items (log ++ (v, note.Wrote at len) ∷ []) ≡ wrote at bytes ∷ past_of items log
  past-wrote log v at len bytes is = one-more [] log v (note.Wrote at len) ∙ ap (λ b. wrote at b ∷ past_of items log) is

  pub past-synced : (log : List (V × Note)) (v : V) → past_of items (log ++ (v, note.Synced) ∷ []) ≡ synced ∷ past_of items log
  past-synced log v = one-more [] log v note.Synced
