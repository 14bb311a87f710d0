use Rattle.std.proofs.Common.{◌≡◌, ◌+◌, None, Ok, length, rules, sym, ◌∙◌, ap}
use Rattle.type_core.proofs.Numbering.{none_newest, one_more}
use Rattle.type_core.specs.Machine.{newest_of}
use Rattle.wsm_sound.proofs.Numbers.{first-type, first-number}
use Rattle.wsm_sound.specs.Versions.{first_of}
use Rattle.type_core.proofs.kinds.Kind.define.Goals as goal

pub invariant_of-self-in-Ok : goal.invariant_of-self-in-Ok
invariant_of-self-in-Ok c =
    let versions = c.self.inside.versions in
    let none : newest_of versions ≡ None = search rules in
    let made : first_of c.self.inside.type_no c.args.schema.now ≡ Ok c.in-Ok.version = search rules in
    let grown = one_more c.self.inside.type_no versions c.in-Ok.version c.self.invariant
    (first-type c.self.inside.type_no c.args.schema.now c.in-Ok.version made)
    (first-number c.self.inside.type_no c.args.schema.now c.in-Ok.version made ∙ sym (ap (λ n. n + 1) (none_newest versions none))) in
    search rules
