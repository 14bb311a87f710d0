use Rattle.wsm_commute.proofs.Common.{◌≡◌, drop, first_changing, first_pair, first_touching, Name, name_cmp}
use Rattle.std.specs.BTreeMap as tree
use Rattle.wsm_commute.proofs.sweeps.first_pair.Given as goal

abbrev pub invariant-loop-place : goal.invariant-loop-place
invariant-loop-place l = record {
  touched : (n : Name) → tree.get name_cmp l.touched n ≡ first_touching l.place (drop l.place l.lists) n;
  changed : (n : Name) → tree.get name_cmp l.changed n ≡ first_changing l.place (drop l.place l.lists) n;
  pair : l.pair ≡ first_pair l.place (drop l.place l.lists);
}
