-- How changes are taken into rows: all that they put, and then those go that they drop.
use Rattle.std.specs.Prelude.{◌≡◌, ℕ, ◌≤◌, Bool, true, false, List, [], ◌∷◌, ◌++◌, length, take, drop, Option, Some, None, filter, is_some, not}
use Rattle.wsm_lists.specs.{ByNumber.item_at, Keys.first, Rows.put_row}

-- the row that a change puts, in front of others
abbrev pub put_before : {A : Type 0} → ℕ → Option A → List (ℕ × A) → List (ℕ × A)
put_before number None rows = rows
put_before number (Some x) rows = (number, x) ∷ rows

-- the rows that changes put
abbrev pub puts_of : {A : Type 0} → List (ℕ × Option A) → List (ℕ × A)
puts_of [] = []
puts_of (c ∷ cs) = put_before c.0 c.1 (puts_of cs)

-- the rows with others put one after another
abbrev pub put_all : {A : Type 0} → List (ℕ × A) → List (ℕ × A) → List (ℕ × A)
put_all [] rows = rows
put_all (y ∷ ys) rows = put_all ys (put_row first y rows)

-- those of the others that have a number for which there is no row
abbrev pub absent_of : {A : Type 0} → List (ℕ × A) → List (ℕ × A) → List (ℕ × A)
absent_of ys rows = filter (λ y. not (is_some (item_at y.0 rows))) ys

-- whether what is said of a number is that its row goes
abbrev pub is_gone : {A : Type 0} → Option (Option A) → Bool
is_gone None = false
is_gone (Some None) = true
is_gone (Some (Some x)) = false

-- the number of the last row
abbrev pub last_number : {A : Type 0} → List (ℕ × A) → Option ℕ
last_number [] = None
last_number (x ∷ []) = Some x.0
last_number (x ∷ xs) = last_number xs

-- where a merge from the back stands: `kept` rows and `left` changes are still to come, and from `from` on all is done
pub record Merging {A : Type 0} (old : List (ℕ × A)) (cs : List (ℕ × Option A)) (rows : List (ℕ × A)) (kept left from : ℕ) : Type 0 where
  pub front : take kept rows ≡ take kept old
  pub low : kept ≤ length old
  pub few : left ≤ length cs
  pub place : from ≡ length (put_all (puts_of (take left cs)) (take kept old))
  pub size : length rows ≡ length (put_all (puts_of cs) old)
  pub done : put_all (puts_of (take left cs)) (take kept old) ++ drop from rows ≡ put_all (puts_of cs) old
