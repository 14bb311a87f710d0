-- What the replay of a trail with its marks answers.
use Rattle.std.specs.Prelude.{◌≡◌, ℕ, List, Option, Some, None}
use Rattle.wsm_schema.specs.{Flat.{FlatModel, cards_of, flat_of}, Marks.marks_of, Rank.IsRank, Replay.{Outcome, fails, replay_of, whole}, Rules.Spots, SchemaModel.SchemaModel, declared.marks.Mark.Mark}
use Rattle.wsm_marks.specs.{Schemas.Regular, Timed.Entries}
use Rattle.wsm_replay.specs.declared.Replayed.{Replayed}
use Rattle.wsm_replay.specs.declared.Replayed.TheVariants as replayed
use Rattle.wsm_settle.specs.declared.timing.TimedMarks.{TimedMarks}
use Rattle.wsm_settle.specs.declared.timing.TimedMarks.TheVariants as timed

-- where a replay fails, and where its answer tells so
abbrev pub failed_at : Outcome → Option ℕ
failed_at (whole spots) = None
failed_at (fails position) = Some position

abbrev pub position_in : Replayed → Option ℕ
position_in (replayed.Whole marking) = None
position_in (replayed.Fails position) = Some position

-- the marks of a trail that replays whole on a schema
abbrev pub MarksRight : FlatModel → List ℕ → Entries → List (ℕ × Mark) → Type 0
MarksRight flat rank es rows =
    (s : SchemaModel) (t : Spots) → flat ≡ flat_of s → Regular s → IsRank (cards_of s) rank → replay_of flat es ≡ whole t → rows ≡ marks_of flat es

-- the marks where the trail replays whole, else the position at which it fails
abbrev pub IsTimed : FlatModel → Entries → TimedMarks → Type 0
IsTimed flat es (timed.Whole marks) = (t : Spots) × (replay_of flat es ≡ whole t) × ((s : SchemaModel) → flat ≡ flat_of s → Regular s → marks.rows ≡ marks_of flat es)
IsTimed flat es (timed.Fails position) = replay_of flat es ≡ fails position
