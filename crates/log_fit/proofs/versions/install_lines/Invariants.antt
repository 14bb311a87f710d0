use Rattle.log_fit.proofs.Common.{◌≡◌, drop, installed_lines}
use Rattle.log_fit.proofs.versions.install_lines.Given as goal

abbrev pub invariant-loop-line : goal.invariant-loop-line
invariant-loop-line l = installed_lines l.number l.kind (drop l.line-index l.lines) ≡ installed_lines l.number l.initial.kind l.lines
