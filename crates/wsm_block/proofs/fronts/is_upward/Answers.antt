use Rattle.wsm_block.proofs.{Common.{[], ◌∙◌, ◌≡◌, None, sym, twice}, FrontOrders.{none-of, tested-order}}
use Rattle.wsm_block.proofs.fronts.is_upward.Goals as goal

pub returns-then-go_up : goal.returns-then-go_up
returns-then-go_up c = λ yes.
    let none : twice [] c.args.order.now ≡ None = sym c.number_twice.ensures ∙ none-of c.number_twice.result (sym c.is_some.ensures ∙ c.if-is_some.false) in
    tested-order c.args.control.now c.args.front.now c.args.order.now none (sym c.go_up.ensures ∙ c.if-go_up.true) (sym c.go_up-then-go_up.ensures ∙ yes)
