use Rattle.case_core.proofs.Common.{◌++◌, ◌≡◌, applied-in_a_row, changed_by, LiveModel, Ok, rules, SchemaModel, taken_parts}
use Rattle.case_core.proofs.live.Live.change.Goals as goal

pub take-requires-clause-own : goal.take-requires-clause-own
take-requires-clause-own g c =
    let l : LiveModel = c.of-case.result in
    let new : SchemaModel = c.in-Ok.schema.value in
    let made : changed_by l.schema c.args.ops.now ≡ Ok new = search rules in
    let both = applied-in_a_row l.base.schema l.schema new l.own c.args.ops.now c.base.ensures.kept.own (taken_parts l.schema new c.args.ops.now made).0 in
    let base : c.in_ok-base-in-Ok.base ≡ l.base = search rules in
    let own : c.in_ok-own-in-Ok.own ≡ l.own ++ c.args.ops.now = search rules in
    search rules
