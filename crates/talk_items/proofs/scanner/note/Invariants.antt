use Rattle.talk_items.proofs.Common.{◌++◌, ◌≡◌, map, take}
use Rattle.talk_items.proofs.scanner.note.Given as goal

abbrev pub invariant-loop-byte : goal.invariant-loop-byte
invariant-loop-byte l = map (λ p. p.0) l.log.items ≡ map (λ p. p.0) l.initial.log.items ++ take l.byte-index l.bytes
