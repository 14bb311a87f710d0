use Rattle.std.proofs.Common.{◌≡◌, take}
use Rattle.type_core.proofs.kinds.shared.Given as goal

abbrev pub invariant-loop-version : goal.invariant-loop-version
invariant-loop-version l = l.all.items ≡ take l.version-index l.versions
