use Rattle.case_keep.proofs.{Common.{◌<◌, ◌≡◌, arith, case_counts, cases_of_type, length}, Stepped.counts-next}
use Rattle.case_keep.proofs.storing.case_counts.Goals as goal

pub loop-type_no-preserved : goal.loop-type_no-preserved
loop-type_no-preserved c =
    let f = c.args.file.now in
    let t = c.loop-type_no.type_no in
    let low : t < length f.types = omega (arith, c.loop-type_no-test.true) in
    let counted : c.cases_of_type.result ≡ cases_of_type t f.cases = cc (c.cases_of_type.ensures) in
    counts-next f.types f.cases c.loop-type_no.counts.items c.push.new.self.items (case_counts f) t c.cases_of_type.result low c.loop-type_no.invariant counted c.in_ok-push.ensures.items
