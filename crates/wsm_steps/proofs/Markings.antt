-- The spots of a marking.
use Rattle.std.proofs.{Common.{◌≡◌, ◌⊎◌, ℕ, Bool, true, false, eqb, List, [], ◌∷◌, fold, refl, ap, sym, ◌∙◌, subst, inl, inr, Some, None}, lemmas.Bool.cases_Bool}
use Rattle.wsm_lists.proofs.Rows.{all_put}
use Rattle.wsm_lists.specs.Rows.{AllRows, put_row}
use Rattle.wsm_schema.proofs.Rounds.{node_of-spot_in}
use Rattle.wsm_schema.specs.{Rules.{Spots, spot, spot_in, by_node, marking_of}, declared.cards.Card.Card, declared.states.Spot.Spot}
use Rattle.wsm_schema.specs.declared.states.State.TheVariants.{NotActivated}

-- each spot of a marking is that of its node in the table
abbrev pub IsSpotOf : Spots → Spot → Type 0
IsSpotOf t s = s ≡ spot_in s.node t

its-own : (t : Spots) (n : ℕ) → IsSpotOf t (spot_in n t)
its-own t n = ap (λ k. spot_in k t) (sym (node_of-spot_in n t))

folded : (t : Spots) (cs : List Card) (m : Spots) → AllRows (IsSpotOf t) m → AllRows (IsSpotOf t) (fold (λ m c. put_row by_node (spot_in c.node t) m) m cs)
folded t [] m h = h
folded t (c ∷ cs) m h = folded t cs (put_row by_node (spot_in c.node t) m) (all_put by_node (IsSpotOf t) (spot_in c.node t) m (its-own t c.node) h)

pub marking-rows : (cards : List Card) (t : Spots) → AllRows (IsSpotOf t) (marking_of cards t)
marking-rows cards t = folded t cards [] tt

-- the spot of a node is one of the spots, or it is not activated
pub spot-among : (Q : Spot → Type 0) (m : Spots) → AllRows Q m → (n : ℕ) → Q (spot_in n m) ⊎ (spot_in n m ≡ spot n NotActivated None)
spot-among Q [] h n = inr refl
spot-among Q (s ∷ ss) h n =
    elim (cases_Bool (eqb s.node n)) [
      | inl here ↦ rw here (inl h.0)
      | inr away ↦ rw away (spot-among Q ss h.1 n)
    ]
