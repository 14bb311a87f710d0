-- Cards that are the first of their nodes.
use Rattle.wsm_schema.proofs.Common.{[], ℕ, ◌<◌, ◌∙◌, ◌∷◌, ◌≡◌, ap, arith, Card, card_at, cases_Bool, eqb-true, false, get_or, inl, inr, List, nat_eq, None, not, numbered, Option, option_eq, option_map, rows_with, SameGroups, slice_get}
use Rattle.wsm_schema.proofs.{Common.{Some, sym, true}, Runs.{place-numbered, card-placed}}
use Rattle.std.specs.Prelude.{length}

-- a card whose place is told of its node is the first of the node
pub first-there : (cards : List Card) (rows : List (ℕ × ℕ)) → SameGroups (numbered 0 cards) rows → (place : ℕ) (c : Card) → slice_get cards place ≡ Some c →
    option_map (λ (row : ℕ × ℕ). row.1) (slice_get (rows_with c.node rows) 0) ≡ Some place → card_at c.node cards ≡ Some c
first-there cards rows placed place c there told =
    let tells = ap (λ found. option_map (λ (row : ℕ × ℕ). row.1) (slice_get found 0)) (sym (placed.same c.node)) ∙ told in
    sym (card-placed c.node cards place (sym (place-numbered c.node 0 cards) ∙ tells)) ∙ there

-- a card that is there stands within the list
pub within : (cards : List Card) (place : ℕ) (c : Card) → slice_get cards place ≡ Some c → place < length cards
within [] place c there = absurd (cc)
within (d ∷ ds) ℕ.zero c there = omega arith
within (d ∷ ds) (ℕ.suc place) c there = let low = within ds place c there in omega (arith, low)

-- a card that is there is found there
pub found-there : (cards : List Card) (place : ℕ) (c d : Card) → slice_get cards place ≡ Some c → d ≡ get_or cards place d → d ≡ c
found-there [] place c d there is = absurd (cc)
found-there (k ∷ ks) ℕ.zero c d there is = cc
found-there (k ∷ ks) (ℕ.suc place) c d there is = found-there ks place c d there is

-- an answer that does not differ from a place is that place
pub no-other : (found : Option ℕ) (place : ℕ) → false ≡ not (option_eq nat_eq found (Some place)) → found ≡ Some place
no-other None place is = absurd (cc)
no-other (Some other) place is =
    elim (cases_Bool (nat_eq other place)) [
      | inl same ↦ ap Some (eqb-true other place same)
      | inr apart ↦ let bad : false ≡ true = is ∙ ap not apart in absurd (cc)
    ]
