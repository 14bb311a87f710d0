use Rattle.wsm_block.proofs.{Common.{ℕ, ◌∙◌, ◌≡◌, ap, Card, is_one_of, length, List, list_all, nodes_of, sym, true}, FrontOrders.tested-same}
use Rattle.wsm_block.proofs.fronts.has_same.Goals as goal

pub returns-then-are_nodes : goal.returns-then-are_nodes
returns-then-are_nodes c = λ yes.
    let ns : List ℕ = c.args.order.now in
    let cards : List Card = c.args.flat.now.cards in
    let size : length ns ≡ length cards = sym (ap length c.numbers.ensures) ∙ c.if-numbers-cards.false ∙ ap length c.cards.ensures in
    let one : list_all (λ n. is_one_of n (nodes_of cards)) ns ≡ true = ap (list_all (λ n. is_one_of n (nodes_of cards))) (sym c.numbers-2.ensures) ∙ sym c.are_nodes.ensures ∙ c.if-are_nodes.true in
    let other : list_all (λ d. is_one_of d.node ns) cards ≡ true = ap (list_all (λ d. is_one_of d.node ns)) (sym c.cards-then-are_nodes.ensures) ∙ sym c.has_nodes.ensures ∙ yes in
    tested-same ns cards size one other
