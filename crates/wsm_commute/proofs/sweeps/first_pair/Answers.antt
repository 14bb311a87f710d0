use Rattle.wsm_commute.proofs.{Common.{◌+◌, ◌-◌, ◌∙◌, ◌≡◌, all_changes, ap, arith, earlier, footprint, name_cmp, pair_or}, FirstPairs.{list-noted, list-paired}}
use Rattle.std.specs.BTreeMap as tree
use Rattle.wsm_commute.proofs.sweeps.first_pair.Goals as goal

pub loop-place-preserved : goal.loop-place-preserved
loop-place-preserved c =
    let i = c.loop-place.place - 1 in
    let next : i + 1 ≡ c.loop-place.place = omega arith in
    let lists = c.args.lists.now in
    let ops = c.index-lists-place.result in
    let touched = rw (← next) at c.loop-place.invariant.touched in
    let changed = rw (← next) at c.loop-place.invariant.changed in
    let pair = rw (← next) at c.loop-place.invariant.pair in
    let touches = c.in_ok-touches.ensures ∙ ap footprint c.index-lists-place.is in
    let changes = c.in_ok-changes.ensures ∙ ap all_changes c.index-lists-place.is in
    record {
      touched = λ n. list-noted lists i ops (omega arith) footprint c.deref-in-loop-place-2.result.now n _ _ (c.deref-in-loop-place-2.ensures.value ∙ touches) (c.in_ok-note.ensures n) (touched n);
      changed = λ n. list-noted lists i ops (omega arith) all_changes c.deref-in-loop-place-3.result.now n _ _ (c.deref-in-loop-place-3.ensures.value ∙ changes) (c.in_ok-note-2.ensures n) (changed n);
      pair =
          c.pair_or-pair.ensures
          ∙ ap (λ o. pair_or i o c.loop-place.pair) (c.earlier-partner.ensures ∙ ap (λ o. earlier o c.first_of-in-loop-place.result) c.first_of.ensures ∙ ap (earlier _) c.first_of-in-loop-place.ensures)
          ∙ list-paired lists i ops (omega arith) (tree.get name_cmp c.loop-place.touched) (tree.get name_cmp c.loop-place.changed) c.deref.result.now c.deref-in-loop-place.result.now c.loop-place.pair
          (c.deref.ensures.value ∙ changes) (c.deref-in-loop-place.ensures.value ∙ touches) touched changed pair;
    }
