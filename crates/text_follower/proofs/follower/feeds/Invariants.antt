use Rattle.std.proofs.Common.{◌≡◌, ◌≤◌, drop, ◌+◌}
use Rattle.text_follower.specs.Followed.{feeds}
use Rattle.text_follower.proofs.follower.feeds.Given as goal

abbrev pub invariant-loop-byte : goal.invariant-loop-byte
invariant-loop-byte l = record {
  few : l.count ≤ l.byte-index;
  count : l.count + feeds (drop l.byte-index l.bytes) ≡ feeds l.bytes;
}
