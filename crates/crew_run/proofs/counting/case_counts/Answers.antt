use Rattle.crew_run.proofs.{Common.{◌<◌, ◌∙◌, ◌≡◌, ap, arith, get_or, get_or_default, length, replicate}, CasePlaces.typed_at, CasesCounted.{none_counted, one_more_counted}}
use Rattle.crew_run.proofs.counting.case_counts.Goals as goal

pub loop-decl-init : goal.loop-decl-init
loop-decl-init c =
    let f = c.args.file.now in
    let zeros : c.in_ok-counts.counts.items ≡ replicate (length f.types) 0 = c.in_ok-counts.ensures.items_if_clones_equal (λ y e. e) ∙ ap (λ n. replicate n 0) c.len.ensures in
    rw zeros (none_counted (length f.types) f.cases)

pub loop-decl-preserved : goal.loop-decl-preserved
loop-decl-preserved c =
    let l = c.loop-decl in
    let f = c.args.file.now in
    let d = c.decl-item.result in
    let lt : l.decl-index < length f.cases = omega (arith, ap length c.as_slice-decl-items.ensures) in
    let at : d ≡ get_or f.cases l.decl-index d = rw c.as_slice-decl-items.ensures at c.decl-item.is in
    let typed = typed_at f c.requires l.decl-index d lt at in
    let count : c.index_mut.result.now ≡ get_or l.counts.items d.id.type_no 0 =
    c.index_mut.ensures.value ∙ get_or_default l.counts.items d.id.type_no c.index_mut.result.now 0 (omega (arith, typed, l.invariant.even)) in
    rw count (one_more_counted l.decl-index (length f.types) f.cases l.counts.items d l.invariant lt at typed)
