use Rattle.std.proofs.Common.{◌≤◌, length, sym, subst}
use Rattle.std.specs.Io.KnownBytes.{Consumes}
use Rattle.file_limits.specs.declared.TheConstants.{MAX_FILE_BYTES}
use Rattle.adept_top.proofs.Got.{unworked-input}
use Rattle.adept_top.proofs.reading.read_process.Goals as goal

-- src/reading.rt:18:1
pub returns-clause-err : goal.returns-clause-err
returns-clause-err g c = unworked-input g.S.Source.left g.S.Source.faults c.args.source.now c.read_to_limit.new.source c.as_slice.result.now c.file_of.result (subst (λ b. Consumes (g.S.Source.left c.args.source.now) (g.S.Source.left c.read_to_limit.new.source) b) (sym c.as_slice.ensures) c.in_ok-bytes.ensures.all) c.in_ok-bytes.ensures.end (subst (λ b. length b ≤ MAX_FILE_BYTES) (sym c.as_slice.ensures) c.in_ok-bytes.ensures.within) (c.in_ok-bytes.ensures.steady (λ is. absurd (cc))) c.file_of.ensures.statuses c.file_of.ensures.refused c.file_of.ensures.no_run c.file_of.ensures.no_place c.file_of.ensures.exact
