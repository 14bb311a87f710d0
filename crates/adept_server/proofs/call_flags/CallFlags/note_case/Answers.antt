use Rattle.adept_server.proofs.{Common.{◌<◌, ◌∙◌, ◌≡◌, ap, arith, length, slice_get, slice_get-get_or, Some, sym}, Noted.{case-calm, no-row}}
use Rattle.adept_server.proofs.call_flags.CallFlags.note_case.Goals as goal

pub returns-then-index-len-clause-cases : goal.returns-then-index-len-clause-cases
returns-then-index-len-clause-cases c = λ d calm.
    let rows = c.args.self.now.cases.items in
    let row = c.index_mut.result.now in
    let lt : c.args.id.type_no < length rows = omega (arith, c.if-index-len.true, c.len.ensures, c.args.self.now.cases.ok.0) in
    let there : slice_get rows c.args.id.type_no ≡ Some row = slice_get-get_or rows c.args.id.type_no row lt ∙ ap Some (sym c.index_mut.ensures.value) in
    case-calm rows c.args.id.type_no row c.raise.new.flags there c.args.id.place c.raise.ensures d calm

pub returns-else-index-len-clause-cases : goal.returns-else-index-len-clause-cases
returns-else-index-len-clause-cases c = λ d calm.
    let rows = c.args.self.now.cases.items in
    (calm, λ same. no-row rows c.args.id.type_no (λ lt. omega (arith, lt, c.if-index-len.false, c.len.ensures, c.args.self.now.cases.ok.0)) d calm (ap (λ e. e.type_no) same))
