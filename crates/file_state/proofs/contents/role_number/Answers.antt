use Rattle.std.proofs.Common.{arith}
use Rattle.file_state.proofs.RoleNumbers.{number_small}
use Rattle.file_state.proofs.contents.role_number.Goals as goal

pub overflow_add-result : goal.overflow_add-result
overflow_add-result c =
    let small = number_small c.args.contents.now.roles c.in-Name.name.bytes.now c.in_ok-note-in-Name.field-0 c.in_ok-note-in-Name.ensures.number in
    let room = c.requires.room in
    omega (arith, small, room)
