use Rattle.adept_server.proofs.{Common.{ap, arith, map, rules, view_of}, Called.of_rest, Looks.{first_looked, opened_rest}}
use Rattle.adept_server.proofs.offering.+look_row.Goals as goal

pub returns-in_err-look_at-clause-looked : goal.returns-in_err-look_at-clause-looked
returns-in_err-look_at-clause-looked g t c =
    let split = c.in-Some-split_first_mut.ensures.cases in
    first_looked (map view_of c.args.passes.now) (map view_of c.in-Some-split_first_mut.passes.now) (view_of c.in-Some-split_first_mut.pass.now) (view_of c.look_at.new.pass) (ap (map view_of) split.0) c.in_err-look_at.ensures.looked

pub look_row-requires : goal.look_row-requires
look_row-requires g t c = λ κs lives.
    let cells = c.in-Some.ensures.cases in
    let passes = c.in-Some-split_first_mut.ensures.cases in (
      omega arith,
      (
        search rules,
        (
          of_rest c.args.cells.now c.in-Some.cells.now c.in-Some.cell.now c.args.passes.now c.in-Some-split_first_mut.passes.now c.in-Some-split_first_mut.pass.now cells.0 passes.0 c.requires.cells,
          (opened_rest c.args.case.type_no (map view_of c.args.passes.now) (map view_of c.in-Some-split_first_mut.passes.now) (view_of c.in-Some-split_first_mut.pass.now) (ap (map view_of) passes.0) c.requires.opening, omega arith),
        ),
      ),
    )
