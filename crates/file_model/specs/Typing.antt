-- Lines of a type. Names get their numbers in the order of the line.
use Rattle.std.specs.{Prelude.{Bool, true, false, not, length, nat_le, Option, Some, None, Ok}, Option.is_some}
use Rattle.wsm_lists.specs.{Rows.row_at, Keys.{both, first, first_two}, declared.values.ElementKind.ElementKind}
use Rattle.wsm_schema.specs.SchemaModel.{SchemaModel}
use Rattle.wsm_sound.specs.{Faults.fault_of, declared.faults.Fault.Fault}
use Rattle.file_limits.specs.declared.TheConstants.{MAX_DEPTH}
use Rattle.file_words.specs.Lines.{Bytes}
use Rattle.file_forms.specs.Forms.{RoleWord, TypeLine, activity, opens_and, opens_xor, opens_branch, opens_loop, closes_block, a_sync, an_element, a_read, a_write, type_end}
use Rattle.file_drafts.specs.{Drafts.{with_activity, gate_opened, loop_opened, closed, branched, around, with_sync, with_read, with_write, whole}, declared.drafts.Draft.Draft, declared.drafts.Around.Around}
use Rattle.file_drafts.specs.Drafts as draft
use Rattle.file_drafts.specs.declared.drafts.Around.TheVariants.{NoBlock, BeforeBranches, InBranch, InBody}
use Rattle.file_drafts.specs.declared.frames.GateKind.TheVariants as kind
use Rattle.file_model.specs.Steps.{State, Step, at_place, outside, refuse, unless, over, twice, role_in, with_role, node_in, with_node, element_in, with_element, node_behind, with_nodes, element_behind, with_node_and_element}
use Rattle.file_model.specs.{Declaring.with_type, declared.states.Contents.Contents}
use Rattle.file_model.specs.declared.refusals.FileLimit.TheVariants as limit
use Rattle.file_model.specs.declared.refusals.Why.TheVariants as why
use Rattle.file_model.specs.declared.states.Section.TheVariants as section

-- whether blocks and branches may stand there
abbrev pub takes_blocks : Around → Bool
takes_blocks BeforeBranches = false
takes_blocks _ = true

abbrev pub takes_branch : Around → Bool
takes_branch NoBlock = false
takes_branch BeforeBranches = true
takes_branch InBranch = true
takes_branch InBody = false

abbrev pub is_outside : Around → Bool
is_outside NoBlock = true
is_outside _ = false

-- whether a line may stand there: behind the line that opens a block, a branch or the block's end stands
abbrev pub fits_in : Around → TypeLine → Bool
fits_in a (activity node role) = takes_blocks a
fits_in a (opens_and split join) = takes_blocks a
fits_in a (opens_xor split join role) = takes_blocks a
fits_in a (opens_loop start end role) = takes_blocks a
fits_in a (opens_branch code) = takes_branch a
fits_in a closes_block = not (is_outside a)
fits_in a (a_sync source target) = is_outside a
fits_in a (an_element element kind) = is_outside a
fits_in a (a_read node element mandatory) = is_outside a
fits_in a (a_write node element) = is_outside a
fits_in a type_end = is_outside a

abbrev pub drafted : Draft → Contents → Step
drafted d c = Ok (at_place (section.InType d) c)

-- one block more is open; on a refusal no name of the line is noted
abbrev pub opened : Draft → Contents → State → Step
opened d c s = unless (over (nat_le MAX_DEPTH (length d.frames)) limit.Depth) c s

abbrev pub unless_there : Bool → Draft → Contents → Step
unless_there there d c = unless (twice there) c (at_place (section.InType d) c)

abbrev pub ended : Bytes → SchemaModel → Option Fault → Contents → Step
ended n schema None c = Ok (outside (with_type n schema c))
ended n schema (Some fault) c = refuse c (why.Unsound fault)

-- the draft with what a line puts into it, and whether it has a row with that key, where the contents were these before
abbrev pub with_role_of : Bytes → RoleWord → Draft → Contents → Draft
with_role_of n role d c = draft.with_role (node_in n c) (role_in role c) (with_activity (node_in n c) d)

abbrev pub with_and : Bytes → Bytes → Draft → Contents → Draft
with_and a b d c = gate_opened kind.And (node_in a c) (node_behind a b c) d

abbrev pub with_xor : Bytes → Bytes → RoleWord → Draft → Contents → Draft
with_xor a b role d c = draft.with_role (node_in a c) (role_in role c) (gate_opened kind.Xor (node_in a c) (node_behind a b c) d)

abbrev pub with_loop : Bytes → Bytes → RoleWord → Draft → Contents → Draft
with_loop a b role d c = draft.with_role (node_behind a b c) (role_in role c) (loop_opened (node_in a c) (node_behind a b c) d)

abbrev pub has_sync : Bytes → Bytes → Draft → Contents → Bool
has_sync a b d c = is_some (row_at both (node_in a c, node_behind a b c) d.schema.syncs)

abbrev pub put_sync : Bytes → Bytes → Draft → Contents → Draft
put_sync a b d c = with_sync (node_in a c) (node_behind a b c) d

abbrev pub has_element : Bytes → Draft → Contents → Bool
has_element e d c = is_some (row_at first (element_in e c, 0) d.schema.elements)

abbrev pub put_element : Bytes → ElementKind → Draft → Contents → Draft
put_element e k d c = draft.with_element (element_in e c) k d

abbrev pub has_read : Bytes → Bytes → Draft → Contents → Bool
has_read n e d c = is_some (row_at first_two (node_in n c, element_behind n e c) d.schema.reads)

abbrev pub put_read : Bytes → Bytes → Bool → Draft → Contents → Draft
put_read n e mandatory d c = with_read (node_in n c) (element_behind n e c) mandatory d

abbrev pub has_write : Bytes → Bytes → Draft → Contents → Bool
has_write n e d c = is_some (row_at both (node_in n c, element_behind n e c) d.schema.writes)

abbrev pub put_write : Bytes → Bytes → Draft → Contents → Draft
put_write n e d c = with_write (node_in n c) (element_behind n e c) d

abbrev pub typed : TypeLine → Draft → Contents → Step
typed (activity n role) d c = drafted (with_role_of n role d c) (with_role role (with_node n c))
typed (opens_and a b) d c = opened d c (at_place (section.InType (with_and a b d c)) (with_nodes a b c))
typed (opens_xor a b role) d c = opened d c (at_place (section.InType (with_xor a b role d c)) (with_role role (with_nodes a b c)))
typed (opens_branch code) d c = drafted (branched code d) c
typed (opens_loop a b role) d c = opened d c (at_place (section.InType (with_loop a b role d c)) (with_role role (with_nodes a b c)))
typed closes_block d c = drafted (closed d) c
typed (a_sync a b) d c = unless_there (has_sync a b d c) (put_sync a b d c) (with_nodes a b c)
typed (an_element e k) d c = unless_there (has_element e d c) (put_element e k d c) (with_element e c)
typed (a_read n e mandatory) d c = unless_there (has_read n e d c) (put_read n e mandatory d c) (with_node_and_element n e c)
typed (a_write n e) d c = unless_there (has_write n e d c) (put_write n e d c) (with_node_and_element n e c)
typed type_end d c = ended d.name (whole d) (fault_of (whole d)) c
