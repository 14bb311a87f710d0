use Rattle.talk_server.proofs.{Common.{[], false, held_behind, server_rules, Serves, subst, sym}, Answering.then-serves}
use Rattle.talk_server.proofs.responding.ServerResponder.work.Goals as goal

pub returns-clause-holds : goal.returns-clause-holds
returns-clause-holds g c = λ first ps item s whole.
    let h = g.H.Holder in
    let told = c.in_ok-accepted.ensures in
    subst (λ i. Serves h.holds false (held_behind (server_rules h.rules) ps item) [] c.answer.new.self.state i false) (sym c.clear.ensures)
    (then-serves h.rules ps item h.holds first c.args.self.now.state c.args.self.now.item c.args.self.now.is_first c.in_ok-accepted.accepted c.answer.new.self.state s (told.accepted first ps item s) (told.holds first ps item s))

pub returns-clause-answer : goal.returns-clause-answer
returns-clause-answer g c = λ first ps item s whole. c.in_ok-accepted.ensures.answer first ps item s
