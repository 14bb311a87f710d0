-- Rows with a number in front, which stand by that number, and what changes make of them.
use Rattle.std.specs.Prelude.{ℕ, List, [], ◌∷◌, Option, Some, None, option_map}
use Rattle.wsm_lists.specs.{Keys.first, Rows.{drop_row, put_row, row_at}}

-- what the row of a number holds
abbrev pub item_at : {A : Type 0} → ℕ → List (ℕ × A) → Option A
item_at number rows = option_map (λ r. r.1) (row_at first (number, 0) rows)

-- rows, and how many more may come before memory is taken
pub record RowsWithRoom (A : Type 0) : Type 0 where
  pub rows : List (ℕ × A)
  pub spare : ℕ

-- the row of a number holds that from now on, or goes
abbrev pub change_row : {A : Type 0} → ℕ → Option A → List (ℕ × A) → List (ℕ × A)
change_row number None rows = drop_row first (number, 0) rows
change_row number (Some x) rows = put_row first (number, x) rows

-- the rows after changes, one after another
abbrev pub changed : {A : Type 0} → List (ℕ × Option A) → List (ℕ × A) → List (ℕ × A)
changed [] rows = rows
changed (c ∷ cs) rows = changed cs (change_row c.0 c.1 rows)

-- what a number's row holds after changes, by what they say of it and by what it held
abbrev pub item_after : {A : Type 0} → Option (Option A) → Option A → Option A
item_after None old = old
item_after (Some new) old = new
