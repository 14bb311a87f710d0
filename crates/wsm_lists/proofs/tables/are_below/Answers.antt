use Rattle.wsm_lists.proofs.{Common.{◌∙◌, ◌≡◌, ap, key_lt, option_copied, sym, true}, Rows.ends-below}
use Rattle.wsm_lists.proofs.tables.are_below.Goals as goal

pub returns-in-Some : goal.returns-in-Some
returns-in-Some g c =
    let key = g.K.Keys.key_of in
    let there = sym c.last.ensures.value ∙ ap option_copied c.in-Some.is in
    λ is.
    let below : key_lt (key c.in-Some.row.now) c.args.key ≡ true = ap (λ k. key_lt k c.args.key) (sym c.key.ensures) ∙ sym c.is_below.ensures ∙ is in
    ends-below key c.args.key c.args.rows.now c.in-Some.row.now c.requires there below
