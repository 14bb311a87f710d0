use Rattle.std.proofs.Common.{◌-◌, ◌≡◌, ◌≤◌, length, drop, ◌+◌}
use Rattle.text_follower.specs.Followed.{behind_lines}
use Rattle.text_follower.proofs.follower.behind_lines.Given as goal

abbrev pub invariant-loop-left : goal.invariant-loop-left
invariant-loop-left l = record {
  within : l.place ≤ length l.bytes;
  place : l.place + behind_lines l.left (drop l.place l.bytes) ≡ behind_lines l.lines l.bytes;
}

abbrev pub decreases-loop-left : goal.decreases-loop-left
decreases-loop-left l = length l.bytes - l.place
