use Rattle.wsm_data.proofs.{Common.{◌||◌, ◌∙◌, ◌≡◌, ap, eqb, false, is_one_of, number, rows_below, sym}, Elements.{insert-put, insert-order, has-put_row}}
use Rattle.wsm_data.proofs.sets.ElementSet.add.Goals as goal

pub invariant_of-self-2 : goal.invariant_of-self-2
invariant_of-self-2 c =
    let d = c.args.element in
    let old = c.self.inside.numbers.items in
    let place : c.place_of-at.result ≡ rows_below number (d, 0) old = c.place_of-at.ensures.place ∙ ap (rows_below number (d, 0)) c.deref.ensures.value in
    let absent : is_one_of d old ≡ false = sym (ap (is_one_of d) c.deref-2.ensures.value) ∙ sym c.stands_at.ensures ∙ c.if-stands_at.false in
    insert-order d old c.insert.new.self.items c.self.invariant (insert-put d c.place_of-at.result old c.insert.new.self.items c.self.invariant place absent c.in_ok-insert.ensures.items)

pub returns : goal.returns
returns c =
    let d = c.args.element in
    let old = c.self.inside.numbers.items in
    let place : c.place_of-at.result ≡ rows_below number (d, 0) old = c.place_of-at.ensures.place ∙ ap (rows_below number (d, 0)) c.deref.ensures.value in
    let absent : is_one_of d old ≡ false = sym (ap (is_one_of d) c.deref-2.ensures.value) ∙ sym c.stands_at.ensures ∙ c.if-stands_at.false in
    let put = insert-put d c.place_of-at.result old c.insert.new.self.items c.self.invariant place absent c.in_ok-insert.ensures.items in
    λ n. ap (is_one_of n) put ∙ has-put_row n d old ∙ ap (λ set. is_one_of n set || eqb d n) c.self.view_is
