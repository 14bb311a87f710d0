use Rattle.talk_items.proofs.{Common.{◌-◌, ◌≤◌, length}, Scanned.SoFar}
use Rattle.talk_items.proofs.scanner.Scanner.scan.Given as goal

abbrev pub invariant-loop-len : goal.invariant-loop-len
invariant-loop-len l = record {
  within : l.done ≤ length l.bytes;
  so_far : SoFar l.initial.self l.bytes l.self l.done;
}

abbrev pub decreases-loop-len : goal.decreases-loop-len
decreases-loop-len l = length l.bytes - l.done
