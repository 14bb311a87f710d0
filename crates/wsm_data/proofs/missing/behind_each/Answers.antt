use Rattle.wsm_data.proofs.Common.{[], ℕ, ◌++◌, ◌+◌, ◌<◌, ◌∙◌, ◌∷◌, ◌≡◌, ap, arith, block_fault, Card, card_at, card_at-node, cards_of, drop, FlatModel, get_or, Holds, IsNext, IsRank, length, List, None, Option, option_copied, SchemaModel}
use Rattle.wsm_data.proofs.{Common.{Some, subst, suc, sure_of, sym, take, Tells, told_at}, Sure.rank-next, Pass.{told-sure, put-sure, tells-next, tells-none, seen-next, seen-one}}
use Rattle.wsm_data.proofs.missing.behind_each.Goals.{in-Some+in_ok-sure+in_ok-put_behind, in_default}
use Rattle.wsm_data.proofs.missing.behind_each.Goals as goal

-- the card that the next node of a rank has comes next
next-card : (s : SchemaModel) (rank nodes : List ℕ) (i : ℕ) (card : Card) → nodes ≡ rank → IsRank (cards_of s) rank → block_fault s ≡ None → i < length nodes →
    card_at (get_or nodes i 0) (cards_of s) ≡ Some card → IsNext s (take i nodes) card
next-card s rank nodes i card same is blocks lt at =
    rank-next s nodes (subst (IsRank (cards_of s)) (sym same) is) blocks (take i nodes) (drop (suc i) nodes) (get_or nodes i 0) card (seen-next nodes i 0 lt) at

pub sure_at-requires : goal.sure_at-requires
sure_at-requires c =
    (next-card c.args.schema.now c.args.rank.now c.nodes-node-items.result.now c.loop-node.node-index c.in-Some.card.now c.nodes-node-items.ensures c.requires.rank c.requires.blocks c.loop-node-test.true
    (sym (ap (λ (f : FlatModel). card_at (get_or c.nodes-node-items.result.now c.loop-node.node-index 0) f.cards) c.requires.flat) ∙ sym c.card.ensures ∙ ap option_copied c.in-Some.is)).edged

pub loop-node-preserved : goal.loop-node-preserved
loop-node-preserved c =
    let s = c.args.schema.now in
    let nodes = c.nodes-node-items.result.now in
    let i = c.loop-node.node-index in
    let node = get_or nodes i 0 in
    let rows = c.loop-node.table in
    let lt = c.loop-node-test.true in
    let flat : card_at node c.args.flat.now.cards ≡ card_at node (cards_of s) = ap (λ (f : FlatModel). card_at node f.cards) c.requires.flat in
    elim c.match-card.branch [
      | in-Some+in_ok-sure+in_ok-put_behind w ↦
          let card = w.in-Some.card.now in
          let sure = w.in_ok-sure.sure.value in
          let new = w.put_behind.new.table in
          let at : card_at node (cards_of s) ≡ Some card = sym flat ∙ sym c.card.ensures ∙ ap option_copied w.in-Some.is in
          let next = next-card s c.args.rank.now nodes i card c.nodes-node-items.ensures c.requires.rank c.requires.blocks lt at in
          let told = told-sure s rows (take i nodes) card c.loop-node.invariant next in
          let holds : Holds sure (sure_of s node) =
          λ d. w.in_ok-sure.ensures d ∙ ap (λ m. told_at m rows card d) c.requires.enclosed ∙ told d ∙ ap (λ k. sure_of s k d) (card_at-node node (cards_of s) card at) in
          let put = put-sure s node sure rows new holds w.in_ok-put_behind.ensures in
          subst (λ table. Tells s table (take (i + 1) nodes)) (sym w.table-is) (subst (Tells s new) (seen-one nodes i 0 lt) (tells-next s rows new (take i nodes) node c.loop-node.invariant put))
      | in_default w ↦
          subst (λ table. Tells s table (take (i + 1) nodes)) (sym w.table-is)
          (subst (Tells s rows) (seen-one nodes i 0 lt) (tells-none s rows (take i nodes) node c.loop-node.invariant (w.in_default.ensures ∙ flat)))
    ]
