-- For each element that was written, the position of its last write, ascending by element.
use Rattle.std.specs.{Prelude.{ℕ, List, [], ◌∷◌, ◌++◌, Option, Some, None, filter, nat_lt}, List.fold}
use Rattle.wsm_lists.specs.{Keys.first, Rows.put_row, Values.Written, declared.values.Value.Value}
use Rattle.wsm_schema.specs.{Trail.written_by, declared.entries.Entry.Entry}
use Rattle.wsm_trail.specs.EntryAt.{entry_at, written_to}

-- rows, with the room that is reserved for more of them
pub record RowsWithRoom : Type 0 where
  pub rows : List (ℕ × ℕ)
  pub spare : ℕ

-- the rows after these writes at a position
abbrev pub noted : ℕ → List (ℕ × ℕ) → Written → List (ℕ × ℕ)
noted position rows writes = fold (λ m w. put_row first (w.0, position) m) rows writes

abbrev pub noted_entry : List (ℕ × ℕ) → ℕ × Entry → List (ℕ × ℕ)
noted_entry rows e = noted e.0 rows (written_by e.1)

abbrev pub noted_entries : List (ℕ × Entry) → List (ℕ × ℕ)
noted_entries entries = fold noted_entry [] entries

-- the rows of the entries below a position
abbrev pub noted_until : ℕ → List (ℕ × Entry) → List (ℕ × ℕ)
noted_until position entries = noted_entries (filter (λ e. nat_lt e.0 position) entries)

-- a write, where there is a value
abbrev pub write_of : ℕ → Option Value → Written
write_of element None = []
write_of element (Some value) = (element, value) ∷ []

-- what the entries wrote to the elements of these rows, each at the position in its row
abbrev pub values_at : List (ℕ × Entry) → List (ℕ × ℕ) → Written
values_at entries [] = []
values_at entries (r ∷ rs) = write_of r.0 (written_to r.0 (entry_at r.1 entries)) ++ values_at entries rs
