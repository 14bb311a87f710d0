use Rattle.case_audit.proofs.{Common.{◌<◌, arith, asked_of, length, numbered_of, on_ok_weaker, refl, with_line}, Changes.item-changed}
use Rattle.case_audit.proofs.owed.add_at.Goals as goal

pub returns-in-Some : goal.returns-in-Some
returns-in-Some c =
    let owed = c.args.owed.now in
    let low : c.args.place < length owed.items = omega (arith, c.in-Some.ensures.variant.0 refl, owed.ok.0) in
    on_ok_weaker c.add.result (λ is. item-changed numbered_of (with_line c.args.phase (asked_of c.args.call)) owed.items c.args.place c.in-Some.cell.now c.add.new.self low c.in-Some.ensures.value is) c.add.ensures
