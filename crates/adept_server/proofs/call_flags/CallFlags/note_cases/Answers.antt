use Rattle.adept_server.proofs.{Common.{◌<◌, ◌∙◌, ◌≡◌, ap, arith, length, slice_get, slice_get-get_or, Some, sym, vec_len}, Noted.{cases-calm, no-row}}
use Rattle.adept_server.proofs.call_flags.CallFlags.note_cases.Goals as goal

pub returns-then-index-len-clause-cases : goal.returns-then-index-len-clause-cases
returns-then-index-len-clause-cases c = λ d calm.
    let rows = c.args.self.now.cases.items in
    let row = c.index_mut.result.now in
    let lt : c.args.type_no < length rows = omega (arith, c.if-index-len.true, c.len.ensures, c.args.self.now.cases.ok.0) in
    let there : slice_get rows c.args.type_no ≡ Some row = slice_get-get_or rows c.args.type_no row lt ∙ ap Some (sym c.index_mut.ensures.value) in
    cases-calm rows c.args.type_no row c.fill.new.self there (vec_len row) (c.fill.ensures.items (λ y e. e)) d calm

pub returns-else-index-len-clause-cases : goal.returns-else-index-len-clause-cases
returns-else-index-len-clause-cases c = λ d calm.
    let rows = c.args.self.now.cases.items in
    (calm, λ same. no-row rows c.args.type_no (λ lt. omega (arith, lt, c.if-index-len.false, c.len.ensures, c.args.self.now.cases.ok.0)) d calm same)
