-- The operations that put something new at a gap.
use Rattle.wsm_ops.specs.{declared.operations.Gap.Gap, declared.operations.Op.Op, declared.insertions.New.New}
use Rattle.wsm_ops.specs.declared.operations.Op.TheVariants as op
use Rattle.wsm_ops.specs.declared.insertions.New.TheVariants as new

-- the operation that puts it there, with no role
abbrev pub put_op : New → Gap → Op
put_op (new.Activity node) gap = op.InsertSerial node 0 gap
put_op (new.Choice node split join) gap = op.InsertConditional node 0 split join gap
