use Rattle.wsm_lists.proofs.{Common.{◌∙◌, ◌≡◌, ap, first, key_lt, lt-ltb, option_copied, sym, true}, Rows.ends-below, ByNumber.lt_number}
use Rattle.wsm_lists.proofs.reserved.place_before_last.Goals as goal

pub returns-then-last-number : goal.returns-then-last-number
returns-then-last-number g c =
    let last = c.in-Some.last.now in
    let there = sym c.last.ensures.value ∙ ap option_copied c.in-Some.is in
    let below : key_lt (first last) (c.args.number, 0) ≡ true = lt_number last.0 c.args.number ∙ lt-ltb last.0 c.args.number c.if-last-number.true in
    sym (ends-below first (c.args.number, 0) c.args.rows.now last c.requires there below)
