-- What is asked of a change of a running case's schema, and what is found of it.
use Rattle.std.specs.Prelude.{◌≡◌, ℕ, false, List}
use Rattle.wsm_schema.specs.{Flat.{cards_of, flat_of}, Rank.IsRank, Replay.{replay_of, whole}, Rules.Spots, SchemaModel.SchemaModel, Trail.is_one_of}
use Rattle.wsm_marks.specs.{Fits.RisesAfter, Schemas.Regular, Timed.Entries}
use Rattle.wsm_walk.specs.Untouched.{Untouched}

-- two regular schemas with ranks, which differ in the touched nodes alone, and a trail that replays whole on the first
pub record Changes (before after : SchemaModel) (rank touched : List ℕ) (es : Entries) : Type 0 where
  pub regular_before : Regular before
  pub regular_after : Regular after
  pub rank_before : List ℕ
  pub ranked_before : IsRank (cards_of before) rank_before
  pub ranked_after : IsRank (cards_of after) rank
  pub untouched : (n : ℕ) → is_one_of n touched ≡ false → Untouched (flat_of before) (flat_of after) n
  pub rises : RisesAfter 0 es
  pub marking : Spots
  pub replays : replay_of (flat_of before) es ≡ whole marking
