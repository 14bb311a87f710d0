use Rattle.wsm_replay.proofs.{Common.{[], Ascends, by_node, pass, SameRows, subst}, Markings.settled-marking}
use Rattle.wsm_replay.proofs.settling.settled.Goals as goal

pub returns : goal.returns
returns c =
    let cards = c.args.flat.now.cards in
    let old = c.args.old.now in
    let new = c.in_ok-new.new in
    let rows : SameRows new (pass cards old c.args.rank.now []) = subst (λ ns. SameRows new (pass cards old ns [])) c.nodes.ensures c.in_ok-new.ensures in
    settled-marking cards c.args.rank.now c.requires old new rows (subst (Ascends by_node) c.as_slice.ensures.rows c.as_slice.ensures.ascends)
