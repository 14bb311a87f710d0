use Rattle.wsm_block.proofs.{Common.{ℕ, ◌∙◌, ◌≡◌, ap, Branch, false, get_or, is_one_of, List, map, sym, take, true}, Repeated.{fresh-row, found-row}}
use Rattle.wsm_block.proofs.repeats.first_twice.Goals as goal

pub loop-i-preserved : goal.loop-i-preserved
loop-i-preserved c =
    let branches : List Branch = c.args.branches.now in
    let code : ℕ = (get_or branches c.loop-i.i c.index-branches-i.result).code in
    let new : is_one_of code (take c.loop-i.i (map (λ b. b.code) branches)) ≡ false =
    ap (λ n. is_one_of n (take c.loop-i.i (map (λ b. b.code) branches))) (sym c.from.ensures)
    ∙ ap (λ codes. is_one_of c.from.result (take c.loop-i.i codes)) (sym c.requires) ∙ sym c.is_among.ensures ∙ c.if-is_among.false in
    fresh-row (λ b. b.code) branches c.loop-i.i c.index-branches-i.result c.loop-i-test.true new ∙ c.loop-i.invariant

pub returns-then-is_among : goal.returns-then-is_among
returns-then-is_among c =
    let branches : List Branch = c.args.branches.now in
    let code : ℕ = (get_or branches c.loop-i.i c.index-branches-i.result).code in
    let old : is_one_of code (take c.loop-i.i (map (λ b. b.code) branches)) ≡ true =
    ap (λ n. is_one_of n (take c.loop-i.i (map (λ b. b.code) branches))) (sym c.from.ensures)
    ∙ ap (λ codes. is_one_of c.from.result (take c.loop-i.i codes)) (sym c.requires) ∙ sym c.is_among.ensures ∙ c.if-is_among.true in
    sym (found-row (λ b. b.code) branches c.loop-i.i c.index-branches-i.result c.loop-i-test.true old) ∙ c.loop-i.invariant
