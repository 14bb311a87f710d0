use Rattle.std.proofs.Common.{◌≡◌, drop, fold}
use Rattle.case_writes.specs.Writes.{by_element}
use Rattle.wsm_lists.specs.{Keys.first, Rows.put_row}
use Rattle.case_writes.proofs.by_element.Given as goal

abbrev pub invariant-loop-write : goal.invariant-loop-write
invariant-loop-write l = fold (λ sorted w. put_row first w sorted) l.sorted (drop l.write-index l.write-items) ≡ by_element l.writes
