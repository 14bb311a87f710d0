use Rattle.talk_state.proofs.Common.{◌++◌, ◌≡◌, map, take}
use Rattle.talk_state.proofs.answers.note.Given as goal

abbrev pub invariant-loop-byte : goal.invariant-loop-byte
invariant-loop-byte l = map (λ e. e.0) l.put.items ≡ map (λ e. e.0) l.initial.put.items ++ take l.byte-index l.bytes
