-- The cut of entries in place.
use Rattle.std.specs.{Prelude.{◌≡◌, ℕ, Bool, true, List, Some, None, nat_lt, if◌then◌else◌}, List.filter_map}
use Rattle.wsm_lists.specs.Rows.{AllRows}
use Rattle.wsm_schema.specs.{Trail.cut_entry, declared.entries.Entry.Entry}

-- the cut drops the entry, or leaves it as `new`, at any position
abbrev pub Cuts : List ℕ → Entry → Bool → Entry → Type 0
Cuts body old stays new = (p : ℕ) → cut_entry body p old ≡ (if stays then Some (p, new) else None)

-- what a cut leaves of entries
abbrev pub cut_entries : List ℕ → List (ℕ × Entry) → List (ℕ × Entry)
cut_entries body es = filter_map (λ e. cut_entry body e.0 e.1) es

-- what stands below a position is not of the loop
abbrev pub StaysBelow : ℕ → List ℕ → List (ℕ × Entry) → Type 0
StaysBelow position body es = AllRows (λ e. nat_lt e.0 position ≡ true → cut_entry body e.0 e.1 ≡ Some e) es
