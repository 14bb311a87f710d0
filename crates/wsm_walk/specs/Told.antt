-- What entries tell of their nodes, beside the times.
use Rattle.std.specs.{Prelude.{ℕ, List, [], ◌∷◌, Option, Some, None, is_some, if◌then◌else◌}, Option.option_or}
use Rattle.wsm_lists.specs.{Keys.first, Rows.put_row}
use Rattle.wsm_schema.specs.{Marks.{facts_of, is_again_of, position_of}, declared.entries.Entry.Entry, declared.marks.Mark.Mark}
use Rattle.wsm_schema.specs.declared.entries.Entry.TheVariants as entry
use Rattle.wsm_marks.specs.Timed.{Entries}
use Rattle.wsm_walk.specs.Listed.{seen}

-- what a trail tells of a node
abbrev pub told : Entries → ℕ → Mark
told es n = let facts = facts_of es in record {
  ready_at = None;
  skipped_at = None;
  started = facts.started n;
  ended = facts.ended n;
  choice = facts.choice n;
  again = position_of (is_again_of n) es;
}

-- the node of which an entry tells
abbrev pub node_of : Entry → Option ℕ
node_of (entry.Start node user reads) = Some node
node_of (entry.End node writes choice) = Some node
node_of (entry.Again node writes) = Some node
node_of (entry.Wrote writes) = None

-- its mark with what the entry at p tells: the first Start, End and Again count
abbrev pub tell : ℕ → Entry → Mark → Mark
tell p (entry.Start node user reads) m = record m { started = option_or m.started (Some p) }
tell p (entry.End node writes choice) m = if is_some m.ended then m else record m { ended = Some p; choice = choice }
tell p (entry.Again node writes) m = record m { again = option_or m.again (Some p) }
tell p (entry.Wrote writes) m = m

-- the changes with what one more entry tells, by its node
abbrev pub tell_row : ℕ × Entry → Option ℕ → List (ℕ × Option Mark) → List (ℕ × Option Mark)
tell_row e None rows = rows
tell_row e (Some n) rows = put_row first (n, Some (tell e.0 e.1 (seen [] rows n))) rows

-- and with what each of several tells
abbrev pub told_rows : Entries → List (ℕ × Option Mark) → List (ℕ × Option Mark)
told_rows [] rows = rows
told_rows (e ∷ es) rows = told_rows es (tell_row e (node_of e.1) rows)
