use Rattle.std.proofs.Common.{◌≡◌, ◌+◌, ◌-◌, ◌≤◌, ◌++◌, length, vec_len, vec_capacity}
use Rattle.turn_batch.proofs.Takings.{HaveTaken}
use Rattle.turn_batch.proofs.take_answers.Given as goal

abbrev pub invariant-loop-pass : goal.invariant-loop-pass
invariant-loop-pass g l = record {
  even : length l.passes ≡ length l.fn.passes;
  taken : (answers : _) × (l.items.items ≡ l.fn.items.items ++ answers) × HaveTaken l.pass-index l.fn.passes l.passes answers;
  room : vec_len l.items + (length l.passes - l.pass-index) ≤ vec_capacity l.items;
}
