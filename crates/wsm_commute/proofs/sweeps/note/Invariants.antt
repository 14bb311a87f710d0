use Rattle.wsm_commute.proofs.{Common.{◌≡◌, drop, Name, name_cmp}, FirstPairs.noted_of}
use Rattle.std.specs.BTreeMap as tree
use Rattle.wsm_commute.proofs.sweeps.note.Given as goal

abbrev pub invariant-loop-name : goal.invariant-loop-name
invariant-loop-name l = (n : Name) → noted_of (drop l.name-index l.names) l.place (tree.get name_cmp l.noted n) n ≡ noted_of l.names l.place (tree.get name_cmp l.initial.noted n) n
