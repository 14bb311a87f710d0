use Rattle.talk_answers.proofs.{Common.{◌≡◌, gives_as, next_case_entry, option_map, rules, slice_get, Some}, Tried.at-told}
use Rattle.case_core.specs.Ages.{weight}
use Rattle.script_run.proofs.Aging.{young-at}
use Rattle.talk_answers.proofs.tries.put_tried_at.Goals as goal

pub try_case_at-requires : goal.try_case_at-requires
try_case_at-requires g c = young-at c.args.run.now.run.cases c.args.place (weight c.args.event) 4000000000 c.requires.age

pub returns-in-Some-2-clause-entries : goal.returns-in-Some-2-clause-entries
returns-in-Some-2-clause-entries g c =
    let p = c.args.run.now in
    let at : slice_get c.args.file.now.cases c.args.place ≡ Some c.in-Some.decl.now = search rules in
    let told : Some (c.in-Some-2.number, c.in-Some-2.entry) ≡ option_map (next_case_entry c.args.caller c.args.event) (slice_get p.run.cases c.args.place) = search rules in
    gives_as _ _ _ _ _ _ _ _ c.put_case_numbered.ensures
    (at-told c.args.file.now p c.args.caller c.args.event c.args.place c.in-Some.decl.now c.in-Some-2.number c.in-Some-2.entry at told)
