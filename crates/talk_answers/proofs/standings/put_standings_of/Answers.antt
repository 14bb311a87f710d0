use Rattle.talk_answers.proofs.Common.{gives_row, standing_at}
use Rattle.talk_answers.proofs.standings.put_standings_of.Goals as goal

pub loop-place-preserved : goal.loop-place-preserved
loop-place-preserved g c =
    gives_row _ _ _ _ _ _ _ _ (standing_at c.args.file.now c.args.run.now) c.of_kind-place-items.result.now c.loop-place.place-index _
    c.loop-place-test.true c.loop-place.invariant c.put_standing_at-well.ensures
