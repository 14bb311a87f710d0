use Rattle.std.proofs.Common.{◌-◌, ◌≡◌, ◌≤◌, length, drop, ◌+◌}
use Rattle.text_follower.specs.Followed.{same_front}
use Rattle.text_follower.proofs.follower.same_front.Given as goal

abbrev pub invariant-loop-same : goal.invariant-loop-same
invariant-loop-same l = record {
  in_piece : l.same ≤ length l.piece;
  in_rest : l.same ≤ length l.rest;
  same : l.same + same_front (drop l.same l.piece) (drop l.same l.rest) ≡ same_front l.piece l.rest;
}

abbrev pub decreases-loop-same : goal.decreases-loop-same
decreases-loop-same l = length l.piece - l.same
