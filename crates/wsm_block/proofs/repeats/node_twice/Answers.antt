use Rattle.wsm_block.proofs.{Common.{[], ℕ, ◌∙◌, ◌≡◌, ap, Card, false, get_or, is_one_of, List, nodes_of, sym, take, true, twice}, Repeated.{fresh-row, found-row}}
use Rattle.wsm_block.proofs.repeats.node_twice.Goals as goal

pub loop-i-preserved : goal.loop-i-preserved
loop-i-preserved c =
    let cards : List Card = c.cards-cards.result.now in
    let n : ℕ = (get_or cards c.loop-i.i c.index-cards-i.result).node in
    let new : is_one_of n (take c.loop-i.i (nodes_of cards)) ≡ false =
    ap (λ cs. is_one_of n (take c.loop-i.i (nodes_of cs))) c.cards-cards.ensures ∙ sym c.is_among.ensures ∙ c.if-is_among.false in
    fresh-row (λ d. d.node) cards c.loop-i.i c.index-cards-i.result c.loop-i-test.true new ∙ c.loop-i.invariant

pub returns-then-is_among : goal.returns-then-is_among
returns-then-is_among c =
    let cards : List Card = c.cards-cards.result.now in
    let n : ℕ = (get_or cards c.loop-i.i c.index-cards-i.result).node in
    let old : is_one_of n (take c.loop-i.i (nodes_of cards)) ≡ true =
    ap (λ cs. is_one_of n (take c.loop-i.i (nodes_of cs))) c.cards-cards.ensures ∙ sym c.is_among.ensures ∙ c.if-is_among.true in
    sym (found-row (λ d. d.node) cards c.loop-i.i c.index-cards-i.result c.loop-i-test.true old) ∙ c.loop-i.invariant
    ∙ ap (λ cs. twice [] (nodes_of cs)) c.cards-cards.ensures
