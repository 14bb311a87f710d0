-- The history of a disk over a file, as its log tells it: the bytes of each write, and what each change was, the oldest first.
use Rattle.std.specs.{Prelude.{◌≡◌, ℕ, true, false, List, [], ◌∷◌, MatchOption}, declared.option.Option.Option}
use Rattle.store_disk.specs.{History.{Change, wrote, synced, content, has_written}, declared.history.Note.Note}
use Rattle.store_disk.specs.declared.history.Note.TheVariants as note

-- the history of such a disk
pub record LoggedHistory : Type 0 where
  pub first : List ℕ
  pub past : List Change

module _ {V : Type 0} (items : V → List ℕ) where
  abbrev pub change_of : V → Note → Change
  change_of v (note.Wrote at len) = wrote at (items v)
  change_of v note.Synced = synced

  abbrev pub logged_onto : List Change → List (V × Note) → List Change
  logged_onto told [] = told
  logged_onto told (entry ∷ log) = logged_onto (change_of entry.0 entry.1 ∷ told) log

  -- the changes, the newest first
  abbrev pub past_of : List (V × Note) → List Change
  past_of log = logged_onto [] log

  -- the bytes of the first entry
  abbrev pub first_of : List (V × Note) → List ℕ
  first_of [] = []
  first_of (entry ∷ log) = items entry.0

-- the bytes are held until there is a write
abbrev pub IsHeld : {B : Type 0} → (B → List ℕ) → Option B → List ℕ → List Change → Type 0
IsHeld shows held first past = MatchOption held (has_written past ≡ true) (λ b. (shows b ≡ content first past) × (has_written past ≡ false))
