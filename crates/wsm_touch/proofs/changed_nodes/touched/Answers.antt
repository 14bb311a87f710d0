use Rattle.std.proofs.Common.{ap, sym, ◌∙◌, subst}
use Rattle.wsm_lists.specs.Rows.{AllRows}
use Rattle.wsm_schema.specs.{Touched.Touched, Trail.is_one_of}
use Rattle.wsm_touch.proofs.Touching.{each-touched, listed-is, others-untouched}
use Rattle.wsm_touch.proofs.changed_nodes.touched.Goals as goal

pub returns-clause-nodes : goal.returns-clause-nodes
returns-clause-nodes c =
    c.from_vec.ensures ∙ c.into_vec.ensures ∙ c.in_ok-nodes.ensures
    ∙ listed-is c.args.old.now c.args.new.now c.cards.result.now c.cards.ensures c.new-nodes.result c.put_touched.new.nodes c.put_absent.new.nodes c.new-nodes.ensures c.in_ok-put_touched.ensures c.in_ok-put_absent.ensures

pub returns-clause-each : goal.returns-clause-each
returns-clause-each c = subst (AllRows (Touched c.args.old.now c.args.new.now)) (sym (returns-clause-nodes c)) (each-touched c.args.old.now c.args.new.now)

pub returns-clause-others : goal.returns-clause-others
returns-clause-others c = λ n h. others-untouched c.args.old.now c.args.new.now n (ap (is_one_of n) (sym (returns-clause-nodes c)) ∙ h)
