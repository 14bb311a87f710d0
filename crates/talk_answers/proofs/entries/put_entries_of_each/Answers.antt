use Rattle.talk_answers.proofs.Common.{entry_at, gives_row}
use Rattle.talk_answers.proofs.entries.put_entries_of_each.Goals as goal

pub loop-place-preserved : goal.loop-place-preserved
loop-place-preserved g c =
    gives_row _ _ _ _ _ _ _ _ (entry_at c.args.file.now c.args.run.now) c.first_of_kind-place-items.result.now c.loop-place.place-index _
    c.loop-place-test.true c.loop-place.invariant c.put_entry_at-well.ensures
