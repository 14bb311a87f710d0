-- The answer of a replay.
use Rattle.std.specs.Prelude.{List}
use Rattle.wsm_schema.specs.{Rules.marking_of, Replay.{Outcome, whole, fails}, declared.cards.Card.Card}
use Rattle.wsm_replay.specs.declared.Replayed.{Replayed}
use Rattle.wsm_replay.specs.declared.Replayed.TheVariants as replayed

-- the spots of the net's nodes, ascending by node, or the position
abbrev pub answer : List Card → Outcome → Replayed
answer cards (whole table) = replayed.Whole (marking_of cards table)
answer cards (fails position) = replayed.Fails position
