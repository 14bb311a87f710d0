use Rattle.wsm_lists.proofs.{Common.{◌∙◌, arith, Ascends, first, refl, subst, sym, take_all}, TakenIn.{no-more, push-step}}
use Rattle.wsm_lists.proofs.taking.push_absent.Goals as goal

pub loop-change-init : goal.loop-change-init
loop-change-init g c = (
  omega (arith, c.len-count.ensures),
  take_all c.len-count.result c.args.rows.now.items (omega (arith, c.len-count.ensures, c.args.rows.now.ok.0)),
  refl,
  omega arith,
  omega arith,
)

pub push_if_absent-requires-clause-rows : goal.push_if_absent-requires-clause-rows
push_if_absent-requires-clause-rows g c = subst (Ascends first) (sym c.loop-change.invariant.1) c.requires.rows

pub loop-change-preserved : goal.loop-change-preserved
loop-change-preserved g c =
    let i = c.loop-change.invariant in
    let next = push-step c.args.rows.now.items c.loop-change.rows.items c.push_if_absent.new.rows.items c.args.changes.now c.loop-change.change-index c.change-item.result c.len-count.result c.loop-change-test.true c.change-item.is (omega (arith, i.0, c.loop-change.rows.ok.0)) i.1 c.push_if_absent.ensures.rows in (
      omega (arith, next.0, c.push_if_absent.new.rows.ok.0),
      next.1,
      next.2 ∙ i.2,
      omega (arith, c.push_if_absent.ensures.len, i),
      omega (arith, c.push_if_absent.ensures.capacity, i),
    )

pub returns-clause-rows : goal.returns-clause-rows
returns-clause-rows g c =
    sym (no-more c.args.rows.now.items c.loop-change.rows.items c.args.changes.now c.loop-change.change-index c.loop-change-test.false) ∙ c.loop-change.invariant.2
