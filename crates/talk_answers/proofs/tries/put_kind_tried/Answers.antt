use Rattle.talk_answers.proofs.{Common.{◌≡◌, gives_as, next_kind_entry, option_map, rules, slice_get, Some}, Tried.kind-told}
use Rattle.talk_answers.proofs.tries.put_kind_tried.Goals as goal

pub returns-in-Some : goal.returns-in-Some
returns-in-Some g c =
    let p = c.args.run.now in
    let told : Some (c.in-Some.place, c.in-Some.entry) ≡ option_map (next_kind_entry c.args.caller c.args.event) (slice_get p.run.kinds c.args.type_no) = search rules in
    gives_as _ _ _ _ _ _ _ _ c.put_kind_numbered.ensures (kind-told c.args.file.now p c.args.caller c.args.event c.args.type_no c.in-Some.place c.in-Some.entry told)
