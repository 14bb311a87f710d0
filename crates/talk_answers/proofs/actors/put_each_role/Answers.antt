use Rattle.talk_answers.proofs.Common.{gives_row, spaced_role}
use Rattle.talk_answers.proofs.actors.put_each_role.Goals as goal

pub loop-role-preserved : goal.loop-role-preserved
loop-role-preserved g c =
    gives_row _ _ _ _ _ _ _ _ (spaced_role c.args.file.now) c.args.roles.now c.loop-role.role-index _
    c.loop-role-test.true c.loop-role.invariant c.put_spaced_role-well.ensures
