-- The mark of a node by a solution and by what a trail tells.
use Rattle.std.specs.Prelude.{ℕ, Option, Some, None}
use Rattle.wsm_schema.specs.{Marks.{position_of, is_again_of, facts_of}, declared.marks.Mark.Mark, declared.states.Flow.Flow}
use Rattle.wsm_schema.specs.declared.states.Flow.TheVariants.{Yes, No}
use Rattle.wsm_marks.specs.Timed.{Entries, Marking, Timed}

-- since when a node is ready (Yes), or skipped (No)
abbrev pub since : Flow → Timed → Option ℕ
since Yes None = None
since Yes (Some (t, Yes)) = Some t
since Yes (Some (t, No)) = None
since No None = None
since No (Some (t, Yes)) = None
since No (Some (t, No)) = Some t

-- the mark of a node
abbrev pub mark_by : Marking → Entries → ℕ → Mark
mark_by m es n = let facts = facts_of es in record {
  ready_at = since Yes (m n);
  skipped_at = since No (m n);
  started = facts.started n;
  ended = facts.ended n;
  choice = facts.choice n;
  again = position_of (is_again_of n) es;
}
