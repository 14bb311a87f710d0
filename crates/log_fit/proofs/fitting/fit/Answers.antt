use Rattle.log_fit.proofs.Common.{◌+◌, ◌∙◌, ◌≡◌, ◌≤◌, ap, arith, length, records_of, suc, sym}
use Rattle.log_records.proofs.Counts.{few_records}
use Rattle.log_fit.proofs.fitting.fit.Goals as goal

pub fit_behind-requires : goal.fit_behind-requires
fit_behind-requires c =
    let all : length (records_of c.args.log.now) ≡ suc (length c.next.new.self) = ap length (sym c.new-reader.ensures ∙ c.in_ok-next.ensures.found c.if-not-branch.false) in
    omega (arith, all, few_records c.args.log.now, c.requires.log)
