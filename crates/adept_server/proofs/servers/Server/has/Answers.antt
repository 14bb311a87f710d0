use Rattle.adept_server.proofs.{Common.{◌∙◌, ◌≤◌, arith, length, sym}, Rows.{no_cell, read_there, has_by, cells_and_passes}}
use Rattle.std.proofs.lemmas.Bool.Decides.{nat_tests}
use Rattle.adept_server.proofs.servers.Server.has.Goals as goal

pub returns-in-None-clause-pass : goal.returns-in-None-clause-pass
returns-in-None-clause-pass c = λ d k. (
  λ no. absurd (cc),
  λ there.
      let e = c.in-None.ensures.lookup.0 in
      let past : length c.args.self.now.cases.items ≤ c.args.case.type_no = grind (arith, nat_tests) in
      absurd (no_cell c.args.self.now.cases.items c.args.case.type_no c.args.case.place past (cells_and_passes c.args.self.now.cases.items d.cases.items k.cases c.args.case.type_no c.args.case.place ∙ there)),
)

pub returns-in-Some-clause-cell : goal.returns-in-Some-clause-cell
returns-in-Some-clause-cell c =
    let cells = c.args.self.now.cases.items in
    let row = c.in-Some.row.now in
    let there = read_there cells c.deref.result.now c.args.case.type_no row c.deref.ensures.value c.in-Some.ensures.lookup.0 c.in-Some.ensures.lookup.1 in
    has_by cells c.args.case.type_no c.args.case.place c.len.result row there (c.len.ensures ∙ row.ok.0)

pub returns-in-Some-clause-pass : goal.returns-in-Some-clause-pass
returns-in-Some-clause-pass c = λ d k.
    let cells = c.args.self.now.cases.items in
    let row = c.in-Some.row.now in
    let there = read_there cells c.deref.result.now c.args.case.type_no row c.deref.ensures.value c.in-Some.ensures.lookup.0 c.in-Some.ensures.lookup.1 in
    let both = has_by cells c.args.case.type_no c.args.case.place c.len.result row there (c.len.ensures ∙ row.ok.0) in
    let same = cells_and_passes cells d.cases.items k.cases c.args.case.type_no c.args.case.place in
    ((λ lt. sym same ∙ both.0 lt), λ some. both.1 (same ∙ some))
