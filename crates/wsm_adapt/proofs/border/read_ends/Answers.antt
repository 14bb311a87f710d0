use Rattle.wsm_adapt.proofs.{Common.{ℕ, ◌∙◌, AllKnown, arith, drop_all, end_node, List, Mark, ReadsMore, refl, subst, sym}, ReadBorder.{all-next, few-next, few-spent, more-none, more-then, spends-next}}
use Rattle.wsm_adapt.proofs.border.read_ends.Goals as goal

pub loop-end-init : goal.loop-end-init
loop-end-init g c = record {
  more = more-none (g.M.MarkReads.kept c.args.marks.now) c.args.known.now;
  sources = λ last more rest. rest;
  same = refl;
  rises = omega arith;
  spent = λ all among. omega arith;
}

pub loop-end-preserved : goal.loop-end-preserved
loop-end-preserved g c =
    let i = c.loop-end.invariant in
    let kept : List (ℕ × Mark) = g.M.MarkReads.kept c.args.marks.now in
    let lt = c.loop-end-test.true in
    let step : ReadsMore kept c.loop-end.known c.read_unknown.new.known = subst (λ k. ReadsMore k c.loop-end.known c.read_unknown.new.known) i.same c.in_ok-read_unknown.ensures.more in
    record {
      more = more-then kept c.args.known.now c.loop-end.known c.read_unknown.new.known i.more step;
      sources = λ last more rest.
          i.sources last (more-then kept c.loop-end.known c.read_unknown.new.known last step more)
          (all-next kept end_node c.args.ends.now c.loop-end.end-index _ lt c.read_unknown.new.known last c.in_ok-read_unknown.ensures.there more rest);
      same = c.read_unknown.ensures.same ∙ i.same;
      rises = (let a = i.rises in let b = c.read_unknown.ensures.rises in omega (arith, a, b));
      spent = spends-next end_node c.args.ends.now c.loop-end.end-index _ lt c.args.known.now c.loop-end.known c.read_unknown.new.known _ _ _ i.spent c.in_ok-read_unknown.ensures.spent;
    }

pub returns-clause-sources : goal.returns-clause-sources
returns-clause-sources g c =
    let i = c.loop-end.invariant in
    let all = c.loop-end-test.false in
    i.sources c.loop-end.known (more-none (g.M.MarkReads.kept c.args.marks.now) c.loop-end.known)
    (subst (λ l. AllKnown c.loop-end.known end_node l) (sym (drop_all c.loop-end.end-index c.args.ends.now (omega (arith, all)))) tt)

pub returns-in_err-read_unknown-clause-few : goal.returns-in_err-read_unknown-clause-few
returns-in_err-read_unknown-clause-few g c =
    few-next end_node c.args.ends.now c.loop-end.end-index _ c.loop-end-test.true c.args.known.now c.loop-end.known _ _ _ c.loop-end.invariant.spent c.read_unknown.ensures.few

pub returns-clause-few : goal.returns-clause-few
returns-clause-few g c = few-spent _ _ c.args.known.now _ c.loop-end.known c.loop-end.invariant.spent
