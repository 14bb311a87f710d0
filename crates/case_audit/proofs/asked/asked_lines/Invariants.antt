use Rattle.case_audit.proofs.Common.{◌++◌, ◌≡◌, asked_by, asked_in, drop, left_by, told_versions}
use Rattle.case_audit.proofs.asked.asked_lines.Given as goal

abbrev pub invariant-loop-line : goal.invariant-loop-line
invariant-loop-line l = record {
  lines : asked_in l.asked.items ++ asked_by (told_versions l.told) (drop l.line-index l.lines) ≡ asked_by (told_versions l.fn.told) l.lines;
  told : left_by (told_versions l.told) (drop l.line-index l.lines) ≡ left_by (told_versions l.fn.told) l.lines;
}
