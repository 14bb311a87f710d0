use Rattle.wsm_settle.proofs.{Common.{◌∙◌, both_ways, low_of, sym}, Handing.{node-away, node-before, node-comes}}
use Rattle.wsm_settle.proofs.pending.hand_to_node.Goals as goal

pub returns-in_ok-insert-in-Some : goal.returns-in_ok-insert-in-Some
returns-in_ok-insert-in-Some c = record {
  handed = node-comes c.args.rank.now c.args.node (low_of c.args.from) c.args.pending.now.keys c.in-Some.place (sym c.place.ensures ∙ c.in-Some.is) (c.is_behind.ensures.0 c.if-is_behind.true) c.insert.new.self.keys c.in_ok-insert-in-Some.ensures.ok;
}

pub returns-else-is_behind : goal.returns-else-is_behind
returns-else-is_behind c = record {
  handed = node-before c.args.rank.now c.args.node (low_of c.args.from) c.args.pending.now.keys c.in-Some.place (sym c.place.ensures ∙ c.in-Some.is) (λ h. both_ways _ c.if-is_behind.false (c.is_behind.ensures.1 h));
}

pub returns-in-None : goal.returns-in-None
returns-in-None c = record { handed = node-away c.args.rank.now c.args.node (low_of c.args.from) c.args.pending.now.keys (sym c.place.ensures ∙ c.in-None.is) }
