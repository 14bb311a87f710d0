use Rattle.talk_items.proofs.Common.{◌++◌, ◌≡◌, take}
use Rattle.talk_items.proofs.lines.Line.extend.Given as goal

abbrev pub invariant-loop-byte : goal.invariant-loop-byte
invariant-loop-byte l = l.self ≡ l.initial.self ++ take l.byte-index l.bytes
