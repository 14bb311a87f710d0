use Rattle.talk_state.proofs.{Common.{◌+◌, ap, length, refl}, Nothing.nothing-sound}
use Rattle.talk_state.proofs.states.TalkState.nothing.Goals as goal

pub invariant_of-result : goal.invariant_of-result
invariant_of-result c = λ whole. nothing-sound _ (record {
  contents = c.in_ok-new.ensures;
  placing = c.new-2.ensures;
  called = refl;
  bytes = c.new-3.ensures.items;
  last = refl;
  count = refl;
  long = ap (λ bs. 5 + length bs) c.header.ensures;
  whole = refl;
})
