-- A trail that replays whole below a position, with its marks.
use Rattle.std.specs.Prelude.{◌≡◌, ℕ, List}
use Rattle.wsm_schema.specs.{Flat.{cards_of, flat_of}, Marks.{facts_of, marks_of}, Rank.IsRank, Replay.{replay_of, whole}, Rules.Spots, SchemaModel.SchemaModel, declared.marks.Mark.Mark}
use Rattle.wsm_trail.specs.TrailWithRoom.{Rises}
use Rattle.wsm_marks.specs.{MarkBy.mark_by, Schemas.Regular, Solving.solution, Timed.Entries}

-- a regular schema with a rank, a trail that replays whole on it, at rising positions below p, and its marks
pub record Current (s : SchemaModel) (rank : List ℕ) (es : Entries) (p : ℕ) (rows : List (ℕ × Mark)) : Type 0 where
  pub regular : Regular s
  pub ranked : IsRank (cards_of s) rank
  pub rises : Rises 1 p es
  pub marking : Spots
  pub replays : replay_of (flat_of s) es ≡ whole marking
  pub marks : rows ≡ marks_of (flat_of s) es

-- the mark of a node by the solution of a trail's equations
abbrev pub mark_now : SchemaModel → List ℕ → Entries → ℕ → Mark
mark_now s rank es = mark_by (solution (cards_of s) rank (facts_of es)) es
