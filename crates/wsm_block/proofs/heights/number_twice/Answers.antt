use Rattle.wsm_block.proofs.{Common.{ℕ, ◌∙◌, ◌≡◌, ap, false, get_or, is_one_of, List, sym, take}, Repeated.fresh-next}
use Rattle.wsm_block.proofs.heights.number_twice.Goals as goal

pub loop-i-preserved : goal.loop-i-preserved
loop-i-preserved c =
    let ns : List ℕ = c.numbers-numbers.result.now in
    let i : ℕ = c.loop-i.i in
    let new : is_one_of (get_or ns i 0) (take i ns) ≡ false =
    ap (λ ms. is_one_of (get_or ns i 0) (take i ms)) c.numbers-numbers.ensures ∙ sym c.is_among.ensures ∙ c.if-is_among.false in
    fresh-next ns i 0 c.loop-i-test.true new ∙ c.loop-i.invariant
