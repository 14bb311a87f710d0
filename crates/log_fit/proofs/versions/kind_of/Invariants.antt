use Rattle.log_fit.proofs.Common.{◌≡◌, drop, fold, installed_lines, kind_of}
use Rattle.log_fit.proofs.versions.kind_of.Given as goal

abbrev pub invariant-loop-lines : goal.invariant-loop-lines
invariant-loop-lines l = fold (installed_lines l.number) l.kind (drop l.lines-index l.lines-items) ≡ kind_of l.number l.file.phases l.decl
