use Rattle.store_disk.proofs.Common.{◌≡◌, map, take}
use Rattle.store_disk.proofs.logged.noted.Given as goal

abbrev pub invariant-loop-byte : goal.invariant-loop-byte
invariant-loop-byte l = map (λ e. e.0) l.noted.items ≡ take l.byte-index l.bytes
