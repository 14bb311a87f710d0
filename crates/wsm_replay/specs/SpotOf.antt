-- The spot that an entry gives to its node.
use Rattle.std.specs.Prelude.{Option, Some, None}
use Rattle.wsm_schema.specs.{Rules.spot, declared.entries.Entry.Entry, declared.states.Spot.Spot}
use Rattle.wsm_schema.specs.declared.entries.Entry.TheVariants as entry
use Rattle.wsm_schema.specs.declared.states.State.TheVariants as state

abbrev pub spot_of : Entry → Option Spot
spot_of (entry.Start node user reads) = Some (spot node state.Running None)
spot_of (entry.End node writes choice) = Some (spot node state.Completed choice)
spot_of (entry.Again node writes) = None
spot_of (entry.Wrote writes) = None
