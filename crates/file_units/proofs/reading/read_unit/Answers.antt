use Rattle.file_units.proofs.Common.{◌*◌, ◌∙◌, ◌≡◌, ◌≢◌, ◌≤◌, arith, at_place, Bytes, false, FileRefusal, front_line, Grows, is_skipped, IsHeld, length, lines_of, Ok, one_left, rules, SaysSome, settled, shown, subst}
use Rattle.file_units.proofs.{Common.{sym, unit_read, unit_step, without_return, words_of}, LineRoom.words_take, Ending.{ended-held, ended-read, ended-says, on-err, on-ok}, Inside.refused-inside}
use Rattle.file_units.proofs.ReadLines.{read-on}
use Rattle.file_model.specs.declared.refusals.FileRefusal.TheVariants as reader
use Rattle.file_model.specs.declared.states.Section.TheVariants as section
use Rattle.file_units.proofs.reading.read_unit.Goals as goal

pub unit_step-requires-clause-room : goal.unit_step-requires-clause-room
unit_step-requires-clause-room c =
    let are : shown c.as_slice-words.result.now ≡ words_of (without_return c.in-Some.line.now) = search rules in
    let split : lines_of c.loop-line.rest.now ≡ front_line c.in-Some.line.now (lines_of c.in-Some.more.now) = search rules in
    let takes = words_take c.as_slice-words.result.now c.loop-line.rest.now c.in-Some.line.now c.in-Some.more.now are split in
    omega (arith, takes, c.loop-line.invariant.room, c.requires.room)

pub returns-in-Err-Refused-clause-grows : goal.returns-in-Err-Refused-clause-grows
returns-in-Err-Refused-clause-grows c some =
    refused-inside c.args.contents.now c.loop-line.at c.loop-line.place c.without_return-line.result.now (shown c.as_slice-words.result.now) c.loop-line.contents
    c.unit_step.new.contents c.in-Err-Refused.why (rw c.in-Err-Refused.field-0-is at c.in-Err-Refused.ensures.refused) c.loop-line.invariant.inside

pub loop-line-preserved-in-Ok : goal.loop-line-preserved-in-Ok
loop-line-preserved-in-Ok c =
    let ws = c.as_slice-words.result.now in
    let are : shown ws ≡ words_of (without_return c.in-Some.line.now) = search rules in
    let split : lines_of c.loop-line.rest.now ≡ front_line c.in-Some.line.now (lines_of c.in-Some.more.now) = search rules in
    let says : is_skipped (shown ws) ≡ false = search rules in
    let stepped = subst (λ (l : Bytes). unit_step c.loop-line.at c.loop-line.place l (shown ws) c.loop-line.contents ≡ Ok (at_place c.in-Ok.next c.unit_step.new.contents)) c.without_return-line.ensures c.in-Ok.ensures.ok in
    read-on c.loop-line.invariant c.in-Some.line.now c.in-Some.more.now split ws are c.in-Ok.next c.unit_step.new.contents says stepped

pub returns-clause-read : goal.returns-clause-read
returns-clause-read c =
    let none : lines_of c.loop-line.rest.now ≡ one_left c.loop-line.rest.now = search rules in
    on-ok c.end_unit.result _ (unit_read c.args.contents.now c.args.unit.now ≡ Ok c.loop-line.contents)
    (λ (outside : c.loop-line.place ≡ section.Outside). sym c.loop-line.invariant.left ∙ ended-read c.loop-line.place c.loop-line.contents c.loop-line.at c.loop-line.rest.now none outside)
    c.end_unit.ensures.ok

pub returns-clause-held : goal.returns-clause-held
returns-clause-held c =
    on-ok c.end_unit.result _ (IsHeld (settled c.loop-line.contents))
    (λ (outside : c.loop-line.place ≡ section.Outside). ended-held c.args.contents.now c.loop-line.at c.loop-line.place c.loop-line.contents c.requires.held c.loop-line.invariant.inside outside)
    c.end_unit.ensures.ok

pub returns-clause-says : goal.returns-clause-says
returns-clause-says c =
    let fits : 3 * c.loop-line.at ≤ 2 * length c.args.unit.now = omega (arith, c.loop-line.invariant.counted) in
    on-ok c.end_unit.result _ (SaysSome (2 * length c.args.unit.now) c.args.contents.now c.loop-line.contents)
    (λ (outside : c.loop-line.place ≡ section.Outside). ended-says c.args.contents.now c.loop-line.at (2 * length c.args.unit.now) c.loop-line.place c.loop-line.contents fits c.loop-line.invariant.inside outside)
    c.end_unit.ensures.ok

pub returns-clause-more : goal.returns-clause-more
returns-clause-more c =
    on-ok c.end_unit.result _ (Grows c.args.contents.now c.loop-line.contents) (λ (outside : c.loop-line.place ≡ section.Outside). c.loop-line.invariant.inside.grows)
    c.end_unit.ensures.ok

pub returns-clause-grows : goal.returns-clause-grows
returns-clause-grows c =
    on-err c.end_unit.result (λ (o : FileRefusal). o ≢ reader.NoMemory → Grows c.args.contents.now c.loop-line.contents) (λ o some. c.loop-line.invariant.inside.grows)
