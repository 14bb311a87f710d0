use Rattle.store_form.proofs.RoleRows.{roles-next}
use Rattle.store_form.proofs.schemas.roles_of.Goals as goal

pub loop-row-preserved : goal.loop-row-preserved
loop-row-preserved c =
    roles-next c.args.rows.now c.loop-row.roles c.put.new.self c.loop-row.row-index (0, 0) c.loop-row-test.true c.requires.rise c.requires.roles c.in_ok-put.ensures.ok c.loop-row.invariant
