use Rattle.std.proofs.Common.{◌≡◌, ◌+◌, ◌<◌, Some, Ok, length, rules, arith, sym, ◌∙◌, ap}
use Rattle.type_core.proofs.Numbering.{newest-number, newest-type, one_more}
use Rattle.type_core.specs.Machine.{newest_of}
use Rattle.wsm_sound.proofs.Numbers.{next-type, next-number}
use Rattle.wsm_sound.specs.Versions.{evolved}
use Rattle.type_core.proofs.kinds.Kind.install.Goals as goal

pub evolve-requires-clause-number : goal.evolve-requires-clause-number
evolve-requires-clause-number c =
    let newest : newest_of c.self.inside.versions ≡ Some c.in-Some.newest.now = search rules in
    let number = newest-number c.self.inside.type_no c.self.inside.versions c.in-Some.newest.now c.self.invariant newest in
    rw number (search rules)

pub invariant_of-self-in-Ok : goal.invariant_of-self-in-Ok
invariant_of-self-in-Ok c =
    let versions = c.self.inside.versions in
    let newest : newest_of versions ≡ Some c.in-Some.newest.now = search rules in
    let number = newest-number c.self.inside.type_no versions c.in-Some.newest.now c.self.invariant newest in
    let kind = newest-type c.self.inside.type_no versions c.in-Some.newest.now c.self.invariant newest in
    let next : evolved c.in-Some.newest.now c.args.ops.now ≡ Ok c.in-Ok.version = search rules in
    let grown = one_more c.self.inside.type_no versions c.in-Ok.version c.self.invariant
    (next-type c.in-Some.newest.now c.in-Ok.version c.args.ops.now next ∙ kind)
    (next-number c.in-Some.newest.now c.in-Ok.version c.args.ops.now next ∙ ap (λ n. n + 1) number) in
    search rules
