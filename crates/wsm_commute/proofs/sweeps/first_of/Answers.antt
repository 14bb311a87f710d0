use Rattle.wsm_commute.proofs.{Common.{◌∙◌, ap, arith, earlier, earliest, name_cmp}, FirstPairs.{earliest-goes_on, earliest-ends}}
use Rattle.std.specs.BTreeMap as tree
use Rattle.wsm_commute.proofs.sweeps.first_of.Goals as goal

pub loop-name-preserved : goal.loop-name-preserved
loop-name-preserved c =
    earliest-goes_on (tree.get name_cmp c.args.noted.now) c.args.names.now c.loop-name.name-index _ c.loop-name.first c.earlier-first.result (earliest (tree.get name_cmp c.args.noted.now) c.args.names.now) (omega arith) (c.earlier-first.ensures ∙ ap (earlier c.loop-name.first) (c.copied.ensures ∙ c.get.ensures.value)) c.loop-name.invariant

pub returns : goal.returns
returns c = earliest-ends (tree.get name_cmp c.args.noted.now) c.args.names.now c.loop-name.name-index c.loop-name.first (earliest (tree.get name_cmp c.args.noted.now) c.args.names.now) (omega arith) c.loop-name.invariant
