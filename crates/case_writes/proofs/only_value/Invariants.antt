use Rattle.std.proofs.Common.{◌≡◌, drop}
use Rattle.std.specs.Option.{option_copied}
use Rattle.case_writes.specs.Writes.{only_value, writes_to}
use Rattle.case_writes.proofs.OnlyWrite.{only_after}
use Rattle.case_writes.proofs.only_value.Given as goal

abbrev pub invariant-loop-write : goal.invariant-loop-write
invariant-loop-write l =
    only_after (option_copied l.found) (writes_to l.element (drop l.write-index l.writes)) ≡ only_value (writes_to l.element l.writes)
