use Rattle.wsm_settle.proofs.{Common.{◌∙◌, ◌≡◌, ap, arith, length, refl}, AllPlaces.{left-first, left-next, left-none}}
use Rattle.wsm_settle.proofs.walks.walk_all.Goals as goal

pub loop-place-init : goal.loop-place-init
loop-place-init g c = record {
  left = left-first c.args.flat.now.cards c.args.rank.now (g.M.MarkReads.kept c.args.marks.now) c.args.changes.now;
  same = refl;
}

pub loop-place-preserved : goal.loop-place-preserved
loop-place-preserved g c = record {
  left =
      left-next c.args.flat.now.cards c.args.rank.now (g.M.MarkReads.kept c.args.marks.now) (g.M.MarkReads.kept c.loop-place.marks) c.args.changes.now c.loop-place.changes c.revise_at.new.changes c.loop-place.place c.loop-place.invariant.left
      c.loop-place.invariant.same c.in_ok-revise_at.ensures.walked;
  same = c.revise_at.ensures.same ∙ c.loop-place.invariant.same;
}

pub returns-clause-walked : goal.returns-clause-walked
returns-clause-walked g c =
    let all : length c.nodes-place-end.result.now ≡ length c.args.rank.now = ap length c.nodes-place-end.ensures in
    left-none c.args.flat.now.cards c.args.rank.now (g.M.MarkReads.kept c.args.marks.now) c.args.changes.now c.loop-place.changes c.loop-place.place c.loop-place.invariant.left
    (omega (arith, all, c.loop-place-test.false, c.loop-place.auto.place-end))
