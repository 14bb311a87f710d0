use Rattle.wsm_adapt.proofs.Common.{ℕ, ◌∙◌, ◌≡◌, ap, arith, false, first, is_known, is_one_of, is_some, item_at, List, Mark, on_ok, Option, put_row, ReadsMore, SpendsAmong, sym, true}
use Rattle.wsm_adapt.proofs.ReadBorder.{few-one, known-one, more-like, more-one, spends-one, unknown-like}
use Rattle.wsm_adapt.proofs.border.read_unknown.Goals as goal

pub returns-clause-more : goal.returns-clause-more
returns-clause-more g c =
    let kept : List (ℕ × Mark) = g.M.MarkReads.kept c.args.marks.now in
    let old : List (ℕ × Option Mark) = c.args.known.now in
    let none : is_known old c.args.node ≡ false = (sym c.has.ensures ∙ c.if-has.false) in
    on_ok ((n : ℕ) → item_at n c.set.new.self ≡ item_at n (put_row first (c.args.node, c.get-mark.result) old)) (ReadsMore kept old c.set.new.self)
    (λ put. more-like kept old (put_row first (c.args.node, item_at c.args.node kept) old) c.set.new.self (more-one kept old c.args.node none) (λ n. put n ∙ ap (λ o. item_at n (put_row first (c.args.node, o) old)) c.get-mark.ensures.mark))
    c.set.result c.set.ensures

pub returns-clause-there : goal.returns-clause-there
returns-clause-there g c =
    on_ok ((n : ℕ) → item_at n c.set.new.self ≡ item_at n (put_row first (c.args.node, c.get-mark.result) c.args.known.now)) (is_known c.set.new.self c.args.node ≡ true)
    (λ put. ap is_some (put c.args.node) ∙ known-one c.args.known.now c.args.node c.get-mark.result)
    c.set.result c.set.ensures

pub returns-then-has-clause-spent : goal.returns-then-has-clause-spent
returns-then-has-clause-spent g c = λ all among. omega arith

pub returns-then-has-clause-few : goal.returns-then-has-clause-few
returns-then-has-clause-few g c = λ all among. omega arith

pub returns-clause-spent : goal.returns-clause-spent
returns-clause-spent g c =
    let kept : List (ℕ × Mark) = g.M.MarkReads.kept c.args.marks.now in
    let old : List (ℕ × Option Mark) = c.args.known.now in
    let none : is_known old c.args.node ≡ false = (sym c.has.ensures ∙ c.if-has.false) in
    on_ok ((n : ℕ) → item_at n c.set.new.self ≡ item_at n (put_row first (c.args.node, c.get-mark.result) old)) (SpendsAmong (λ all. is_one_of c.args.node all ≡ true) (g.M.MarkReads.reads c.args.marks.now) old (g.M.MarkReads.reads c.get-mark.new.self) c.set.new.self)
    (λ put all among.
    let rows = put_row first (c.args.node, item_at c.args.node kept) old in
    let like = unknown-like rows c.set.new.self (λ n. put n ∙ ap (λ o. item_at n (put_row first (c.args.node, o) old)) c.get-mark.ensures.mark) all in
    let spent = spends-one kept old rows c.args.node (g.M.MarkReads.reads c.args.marks.now) (g.M.MarkReads.reads c.get-mark.new.self) (more-one kept old c.args.node none) none (known-one old c.args.node (item_at c.args.node kept)) c.get-mark.ensures.count all among in
    omega (arith, like, spent))
    c.set.result c.set.ensures

pub returns-clause-few : goal.returns-clause-few
returns-clause-few g c = few-one c.args.known.now c.args.node _ _ (sym c.has.ensures ∙ c.if-has.false) c.get-mark.ensures.count
