use Rattle.store_form.proofs.Common.{◌++◌, ◌≡◌, AllByRecursion, drop, flat_map}
use Rattle.store_form.proofs.lists.put_each.Given as goal

abbrev pub invariant-loop-item : goal.invariant-loop-item
invariant-loop-item g l =
    (l.out.items ++ flat_map g.T.Part.bytes (drop l.item-index l.items) ≡ l.fn.out.items ++ flat_map g.T.Part.bytes l.items)
    × (AllByRecursion g.T.Part.fits (drop l.item-index l.items) → AllByRecursion g.T.Part.fits l.items)
