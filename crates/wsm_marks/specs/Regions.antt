-- Regions of a net: outside of them nothing differs.
use Rattle.std.specs.Prelude.{◌≡◌, ℕ, Bool, true, false, List, [], ◌∷◌, Option, Some, None, if◌then◌else◌}
use Rattle.wsm_lists.specs.{Rows.AllRows, Values.Written, declared.values.Value.Value}
use Rattle.wsm_schema.specs.{Kinds.is_loop_end, Replay.fits_edges, Flat.{FlatModel, card_at}, Marks.Facts, declared.cards.Card.Card, declared.entries.Entry.Entry}
use Rattle.wsm_schema.specs.declared.entries.Entry.TheVariants as entry
use Rattle.wsm_marks.specs.{Fits.fits, Timed.{Entries, Marking}}

-- outside the region cards and facts are the same, and no edge of the second net leads out of it
pub record Closed (cards1 : List Card) (f1 : Facts) (cards2 : List Card) (f2 : Facts) (inside : ℕ → Bool) : Type 0 where
  pub cards : (n : ℕ) → inside n ≡ false → card_at n cards1 ≡ card_at n cards2
  pub ended : (n : ℕ) → inside n ≡ false → f1.ended n ≡ f2.ended n
  pub choice : (n : ℕ) → inside n ≡ false → f1.choice n ≡ f2.choice n
  pub ins : (n : ℕ) (c : Card) → card_at n cards2 ≡ Some c → inside n ≡ false → AllRows (λ e. inside e.node ≡ false) c.ins
  pub syncs : (n : ℕ) (c : Card) → card_at n cards2 ≡ Some c → inside n ≡ false → AllRows (λ k. inside k ≡ false) c.syncs_in

-- what local re-marking asks of a region: outside of it cards are the same and write elements of the same kinds, and neither an edge of the second flat form nor a loop leads out of it
pub record Region (g1 g2 : FlatModel) (inside : ℕ → Bool) : Type 0 where
  pub cards : (n : ℕ) → inside n ≡ false → card_at n g1.cards ≡ card_at n g2.cards
  pub kinds : (n : ℕ) (c : Card) → card_at n g2.cards ≡ Some c → inside n ≡ false → (w : Written) → fits_edges g1.elements w c.writes ≡ fits_edges g2.elements w c.writes
  pub ins : (n : ℕ) (c : Card) → card_at n g2.cards ≡ Some c → inside n ≡ false → AllRows (λ e. inside e.node ≡ false) c.ins
  pub syncs : (n : ℕ) (c : Card) → card_at n g2.cards ≡ Some c → inside n ≡ false → AllRows (λ k. inside k ≡ false) c.syncs_in
  pub partners : (n k : ℕ) (c : Card) → card_at n g2.cards ≡ Some c → inside n ≡ false → is_loop_end c.kind ≡ true → c.partner ≡ Some k → inside k ≡ false

-- whether an entry is of a node of the region
abbrev pub is_of : (ℕ → Bool) → Entry → Bool
is_of inside (entry.Start node user reads) = inside node
is_of inside (entry.End node writes choice) = inside node
is_of inside (entry.Again node writes) = inside node
is_of inside (entry.Wrote writes) = false

-- the first entry of the region that does not fit
abbrev pub misfit_in : (ℕ → Bool) → FlatModel → Facts → Marking → (ℕ → ℕ → Option Value) → Entries → Option ℕ
misfit_in inside g f m value [] = None
misfit_in inside g f m value (e ∷ es) =
    if is_of inside e.1 then (if fits g f m (λ d. value d e.0) e.0 e.1 then misfit_in inside g f m value es else Some e.0)
    else misfit_in inside g f m value es
