use Rattle.adept_actor.proofs.Common.{◌≡◌, first_fault, length}
use Rattle.std.specs.Vec.Iter.{into_iter_items, into_iter_len}
use Rattle.adept_actor.proofs.calls.first_fault.Given as goal

abbrev pub invariant-loop-answer : goal.invariant-loop-answer
invariant-loop-answer l =
    let rest = into_iter_items l.answer-iterator in
    record {
      left : into_iter_len l.answer-iterator ≡ length rest;
      first : first_fault l.fn.answers.items.items ≡ first_fault rest;
    }
