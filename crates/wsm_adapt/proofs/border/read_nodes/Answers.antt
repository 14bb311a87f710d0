use Rattle.wsm_adapt.proofs.{Common.{ℕ, ◌∙◌, AllKnown, arith, drop_all, List, Mark, own, ReadsMore, refl, subst, sym}, ReadBorder.{all-next, few-next, few-spent, more-none, more-then, spends-next}}
use Rattle.wsm_adapt.proofs.border.read_nodes.Goals as goal

pub loop-node-init : goal.loop-node-init
loop-node-init g c = record {
  more = more-none (g.M.MarkReads.kept c.args.marks.now) c.args.known.now;
  sources = λ last more rest. rest;
  same = refl;
  rises = omega arith;
  spent = λ all among. omega arith;
}

pub loop-node-preserved : goal.loop-node-preserved
loop-node-preserved g c =
    let i = c.loop-node.invariant in
    let kept : List (ℕ × Mark) = g.M.MarkReads.kept c.args.marks.now in
    let lt = c.loop-node-test.true in
    let step : ReadsMore kept c.loop-node.known c.read_unknown.new.known = subst (λ k. ReadsMore k c.loop-node.known c.read_unknown.new.known) i.same c.in_ok-read_unknown.ensures.more in
    record {
      more = more-then kept c.args.known.now c.loop-node.known c.read_unknown.new.known i.more step;
      sources = λ last more rest.
          i.sources last (more-then kept c.loop-node.known c.read_unknown.new.known last step more)
          (all-next kept own c.args.nodes.now c.loop-node.node-index 0 lt c.read_unknown.new.known last c.in_ok-read_unknown.ensures.there more rest);
      same = c.read_unknown.ensures.same ∙ i.same;
      rises = (let a = i.rises in let b = c.read_unknown.ensures.rises in omega (arith, a, b));
      spent = spends-next own c.args.nodes.now c.loop-node.node-index 0 lt c.args.known.now c.loop-node.known c.read_unknown.new.known _ _ _ i.spent c.in_ok-read_unknown.ensures.spent;
    }

pub returns-clause-sources : goal.returns-clause-sources
returns-clause-sources g c =
    let i = c.loop-node.invariant in
    let all = c.loop-node-test.false in
    i.sources c.loop-node.known (more-none (g.M.MarkReads.kept c.args.marks.now) c.loop-node.known)
    (subst (λ l. AllKnown c.loop-node.known own l) (sym (drop_all c.loop-node.node-index c.args.nodes.now (omega (arith, all)))) tt)

pub returns-in_err-read_unknown-clause-few : goal.returns-in_err-read_unknown-clause-few
returns-in_err-read_unknown-clause-few g c =
    few-next own c.args.nodes.now c.loop-node.node-index 0 c.loop-node-test.true c.args.known.now c.loop-node.known _ _ _ c.loop-node.invariant.spent c.read_unknown.ensures.few

pub returns-clause-few : goal.returns-clause-few
returns-clause-few g c = few-spent _ _ c.args.known.now _ c.loop-node.known c.loop-node.invariant.spent
