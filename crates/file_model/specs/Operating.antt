-- Lines of a group of operations. Names get their numbers in the order of the line.
use Rattle.std.specs.Prelude.{List, [], ◌∷◌, ◌++◌, length, nat_le, Option, Some, None, Ok}
use Rattle.wsm_ops.specs.{declared.operations.Op.Op, declared.operations.Gap.Gap}
use Rattle.wsm_ops.specs.declared.operations.Op.TheVariants as op
use Rattle.wsm_ops.specs.declared.operations.Gap.TheVariants as gap
use Rattle.file_limits.specs.declared.TheConstants.{MAX_OPS}
use Rattle.file_forms.specs.Forms.{NamedGap, behind, at_head, OperationLine, insert, parallel, conditional, delete, move, sync, unsync, element, read, unread, write, unwrite, set_role, group_end}
use Rattle.file_model.specs.{Steps.{Step, at_place, outside, unless, over, role_in, with_role, node_in, with_node, element_in, with_element, with_script_line}, declared.files.Line.Line, declared.files.Act.Act}
use Rattle.file_model.specs.{declared.states.Contents.Contents, declared.states.Group.Group, declared.states.Target.Target}
use Rattle.file_model.specs.declared.files.Act.TheVariants as act
use Rattle.file_model.specs.declared.refusals.FileLimit.TheVariants as limit
use Rattle.file_model.specs.declared.states.Target.TheVariants as target
use Rattle.file_model.specs.declared.states.Section.TheVariants as section

abbrev pub gap_in : NamedGap → Contents → Gap
gap_in (behind n) c = gap.After (node_in n c)
gap_in (at_head n code) c = gap.Head (node_in n c) code

abbrev pub with_place : NamedGap → Contents → Contents
with_place (behind n) c = with_node n c
with_place (at_head n code) c = with_node n c

-- the operation of a line; the end of the group is none
abbrev pub op_in : OperationLine → Contents → Option Op
op_in (insert n r p) c = Some (op.InsertSerial (node_in n c) (role_in r c) (gap_in p (with_node n c)))
op_in (parallel n r s j a b) c =
    let c1 = with_node n c in
    let c2 = with_node s c1 in
    let c3 = with_node j c2 in
    let c4 = with_node a c3 in
    Some (op.InsertParallel (node_in n c) (role_in r c) (node_in s c1) (node_in j c2) (node_in a c3) (node_in b c4))
op_in (conditional n r s j p) c =
    let c1 = with_node n c in
    let c2 = with_node s c1 in
    let c3 = with_node j c2 in
    Some (op.InsertConditional (node_in n c) (role_in r c) (node_in s c1) (node_in j c2) (gap_in p c3))
op_in (delete n) c = Some (op.DeleteActivity (node_in n c))
op_in (move n p) c = Some (op.MoveActivity (node_in n c) (gap_in p (with_node n c)))
op_in (sync a b) c = Some (op.InsertSync (node_in a c) (node_in b (with_node a c)))
op_in (unsync a b) c = Some (op.DeleteSync (node_in a c) (node_in b (with_node a c)))
op_in (element e k) c = Some (op.AddElement (element_in e c) k)
op_in (read n e m) c = Some (op.AddRead (node_in n c) (element_in e (with_node n c)) m)
op_in (unread n e) c = Some (op.RemoveRead (node_in n c) (element_in e (with_node n c)))
op_in (write n e) c = Some (op.AddWrite (node_in n c) (element_in e (with_node n c)))
op_in (unwrite n e) c = Some (op.RemoveWrite (node_in n c) (element_in e (with_node n c)))
op_in (set_role n r) c = Some (op.SetRole (node_in n c) (role_in r c))
op_in group_end c = None

-- the contents with the names of a line
abbrev pub with_names : OperationLine → Contents → Contents
with_names (insert n r p) c = with_role r (with_place p (with_node n c))
with_names (parallel n r s j a b) c = with_role r (with_node b (with_node a (with_node j (with_node s (with_node n c)))))
with_names (conditional n r s j p) c = with_role r (with_place p (with_node j (with_node s (with_node n c))))
with_names (delete n) c = with_node n c
with_names (move n p) c = with_place p (with_node n c)
with_names (sync a b) c = with_node b (with_node a c)
with_names (unsync a b) c = with_node b (with_node a c)
with_names (element e k) c = with_element e c
with_names (read n e m) c = with_element e (with_node n c)
with_names (unread n e) c = with_element e (with_node n c)
with_names (write n e) c = with_element e (with_node n c)
with_names (unwrite n e) c = with_element e (with_node n c)
with_names (set_role n r) c = with_role r (with_node n c)
with_names group_end c = c

abbrev pub act_of : Target → List Op → Act
act_of (target.Case id) ops = act.Change id ops
act_of (target.«Type» t) ops = act.Install t ops

abbrev pub line_of_group : Group → Line
line_of_group g = record { at = g.at; order = g.order; actor = g.actor; act = act_of g.target g.ops }

abbrev pub with_op : Op → Group → Group
with_op o g = record g { ops = g.ops ++ o ∷ [] }

abbrev pub grouped : Option Op → Group → Contents → Step
grouped None g c = Ok (outside (with_script_line (line_of_group g) c))
grouped (Some o) g c = unless (over (nat_le MAX_OPS (length g.ops)) limit.Ops) c (at_place (section.InGroup (with_op o g)) c)

abbrev pub operated : OperationLine → Group → Contents → Step
operated l g c = grouped (op_in l c) g (with_names l c)
