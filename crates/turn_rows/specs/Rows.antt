-- Rows: one pass of each of many cells.
use Rattle.std.specs.Prelude.{◌≡◌, ℕ, ◌+◌, ◌-◌, ◌^◌, ◌<◌, Bool, false, List, [], ◌∷◌, map, Option, Some, None, slice_get}
use mathlib.Core.List.{IsPrefix}
use Rattle.turn_cell.specs.{declared.journal.Closed.Closed, declared.journal.Entry.Entry, declared.pass.Pass.Pass, declared.cell.Cell.Cell, Passes.{PassView, view_of, cell_id, first_of, IsClosed, IsLegalView}, Rule.longer}

-- f of the two items at each place
abbrev pub zip_with : {A B C : Type 0} → (A → B → C) → List A → List B → List C
zip_with f [] ys = []
zip_with f (x ∷ xs) [] = []
zip_with f (x ∷ xs) (y ∷ ys) = f x y ∷ zip_with f xs ys

module _ {M E R W S : Type 0} where
  -- a first pass that can make another one
  abbrev pub CanSplit : PassView M E R W S → Type 0
  CanSplit v = (v.number ≡ 0) × (v.made < 2 ^ 32 - 1)

  -- a first pass that can take another one in
  abbrev pub CanJoin : PassView M E R W S → Type 0
  CanJoin v = (v.number ≡ 0) × (v.taken < 2 ^ 32 - 1)

  -- a first pass that has taken in all others
  abbrev pub CanClose : PassView M E R W S → Type 0
  CanClose v = (v.number ≡ 0) × (v.made ≡ v.taken + 1)

  -- v after it has made a pass
  abbrev pub split_from : PassView M E R W S → PassView M E R W S
  split_from v = record v { made = v.made + 1 }

  -- what two passes have seen once they have met
  abbrev pub seen_by_both : PassView M E R W S → PassView M E R W S → List (Entry M E R W S)
  seen_by_both v w = longer w.seen v.seen

  -- the first of them then, and the second
  abbrev pub first_met : PassView M E R W S → PassView M E R W S → PassView M E R W S
  first_met v w = record v { seen = seen_by_both v w }

  abbrev pub second_met : PassView M E R W S → PassView M E R W S → PassView M E R W S
  second_met v w = record w { seen = seen_by_both v w }

  -- all that v has seen, w has seen
  abbrev pub IsSeenBy : PassView M E R W S → PassView M E R W S → Type 0
  IsSeenBy v w = IsPrefix v.seen w.seen

  -- the views of two passes, and those that they have once they have met
  pub record HasMet (after : S → E → S) (reply : S → E → R) (v w x y : PassView M E R W S) : Type 0 where
    pub one : x ≡ record v { seen = y.seen }
    pub two : y ≡ second_met v w
    pub more : IsPrefix v.seen y.seen × IsPrefix w.seen y.seen
    pub legal : IsLegalView after reply x × IsLegalView after reply y

  -- what the pass at a place has seen, where there is one
  abbrev pub seen_of : Option (PassView M E R W S) → Option (List (Entry M E R W S))
  seen_of None = None
  seen_of (Some v) = Some v.seen

  -- of each cell that was not called two rows have seen the same
  abbrev pub AreLevel : List Bool → List (PassView M E R W S) → List (PassView M E R W S) → Type 0
  AreLevel called vs ws = (i : ℕ) → slice_get called i ≡ Some false → seen_of (slice_get vs i) ≡ seen_of (slice_get ws i)

  -- the cell of a last pass with the view v was closed as c
  abbrev pub IsClosedAs : (S → E → S) → (S → E → R) → (M → S) → PassView M E R W S → Closed M E R W S → Type 0
  IsClosedAs after reply state v c = IsClosed after reply state v c.machine c.journal.items.items

module _ {M E R W S : Type 0} {g : _} where
  abbrev pub views : List (Pass M E R W S g) → List (PassView M E R W S)
  views ps = map view_of ps

  -- each cell has a machine in the state of the one at its place, and the pass there is the cell's first
  abbrev pub AreOpened : (M → S) → List M → List (Cell M E R W S) → List (Pass M E R W S g) → Type 0
  AreOpened state [] [] [] = Unit {0}
  AreOpened state (m ∷ ms) (c ∷ cs) (p ∷ ps) = (view_of p ≡ first_of (cell_id c) (state m)) × AreOpened state ms cs ps
  AreOpened state _ _ _ = ⊥
