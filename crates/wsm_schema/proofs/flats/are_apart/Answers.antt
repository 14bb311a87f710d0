use Rattle.wsm_schema.proofs.{Common.{ℕ, ◌∙◌, ◌≡◌, ap, arith, Card, cases_lt, get_or, inl, inr, option_map, rows_with, slice_get, Some, subst, sym}, FirstCards.{first-there, found-there, no-other, within}}
use Rattle.wsm_schema.proofs.flats.are_apart.Goals as goal

pub loop-place-preserved : goal.loop-place-preserved
loop-place-preserved c = λ p d low there.
    elim (cases_lt p c.loop-place.place) [
      | inl before ↦ c.loop-place.invariant p d before there
      | inr on ↦
          let here : p ≡ c.loop-place.place = omega (arith, low, on) in
          let card : c.index-cards-place.result ≡ d = found-there c.args.cards.now p d c.index-cards-place.result there (c.index-cards-place.is ∙ ap (λ q. get_or c.args.cards.now q c.index-cards-place.result) (sym here)) in
          let found : c.place_in.result ≡ Some p = no-other c.place_in.result c.loop-place.place c.if-ne.ensures ∙ ap Some (sym here) in
          let told : option_map (λ (row : ℕ × ℕ). row.1) (slice_get (rows_with d.node c.args.index.now) 0) ≡ Some p = subst (λ (k : Card). option_map (λ (row : ℕ × ℕ). row.1) (slice_get (rows_with k.node c.args.index.now) 0) ≡ Some p) card (sym c.place_in.ensures ∙ found) in
          first-there c.args.cards.now c.args.index.now c.requires p d there told
    ]

pub returns : goal.returns
returns c = λ yes place d there.
    let low = within c.args.cards.now place d there in
    c.loop-place.invariant place d (omega (arith, low, c.loop-place-test.false)) there
