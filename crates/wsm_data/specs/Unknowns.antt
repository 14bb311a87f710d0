-- Reads and writes that name no node that is worked on, or no listed element, by a flat form.
use Rattle.std.specs.{Prelude.{ℕ, Bool, false, ◌&&◌, not, Option, Some, None, ◌==◌}, List.list_any}
use Rattle.wsm_schema.specs.{Flat.FlatModel, Kinds.worked_on, Sound.{when, is_worked_on_in}, declared.cards.Card.Card, declared.faults.DataFault.DataFault}
use Rattle.wsm_schema.specs.declared.faults.DataFault.TheVariants.{Unknown}

-- whether a card that was found is of a node that is worked on
abbrev pub works : Option Card → Bool
works None = false
works (Some c) = worked_on c.kind

-- the fault of one read or write
abbrev pub unknown_in : FlatModel → ℕ → ℕ → Option DataFault
unknown_in f n d = when (not (is_worked_on_in f.cards n && list_any (λ e. e.0 == d) f.elements)) (Unknown n d)
