use Rattle.adept_server.proofs.{Common.{ap, map, view_of}, Looks.{no_row_looked, first_row_looked}}
use Rattle.adept_server.proofs.offering.+look_rows.Goals as goal

pub returns-in_err-look_type-clause-looked : goal.returns-in_err-look_type-clause-looked
returns-in_err-look_type-clause-looked g t c =
    let rest = map (λ row. map view_of row.items) c.in-Some-split_first_mut.passes.now in
    first_row_looked (map (λ row. map view_of row.items) c.args.passes.now) rest rest (map view_of c.in-Some-split_first_mut.own.now.items) (map view_of c.look_type.new.passes.items)
    (ap (map (λ row. map view_of row.items)) c.in-Some-split_first_mut.ensures.cases.0) c.in_err-look_type.ensures.looked (no_row_looked rest)
