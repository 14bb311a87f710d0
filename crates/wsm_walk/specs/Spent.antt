-- How many marks a walk along a rank may have read.
use Rattle.std.specs.Prelude.{◌≡◌, ◌≤◌, ◌+◌, ◌++◌, ℕ, Bool, true, List, [], ◌∷◌, length, Option, Some, None}
use Rattle.wsm_schema.specs.{Flat.card_at, Rank.IsRank, Trail.is_one_of, declared.cards.Card.Card}
use Rattle.wsm_walk.specs.{RankPlaces.is_pending, Reached.{edges_into, reach_cost, reached_from}, Targets.leads_to}

-- a visit reads the mark of its node, and one for each edge into it
abbrev pub visit_cost : Option Card → ℕ
visit_cost None = 0
visit_cost (Some c) = 1 + edges_into (Some c)

-- what a card names is inside where its node is
abbrev pub NamesInside : List Card → (ℕ → Bool) → Type 0
NamesInside cards inside = (n : ℕ) (c : Card) → card_at n cards ≡ Some c → inside n ≡ true → (k : ℕ) (d : Card) → card_at k cards ≡ Some d → leads_to c k ≡ true → inside k ≡ true

-- a walk that has read no more than the nodes of its front and the edges into them ask for
pub record Spent (cards : List Card) (rank : List ℕ) (inside : ℕ → Bool) (base reads : ℕ) (places : List ℕ) : Type 0 where
  pub front : List ℕ
  pub rest : List ℕ
  pub split : rank ≡ front ++ rest
  pub low : (q : ℕ) → is_one_of q places ≡ true → length front ≤ q
  pub pending : (k : ℕ) (d : Card) → card_at k cards ≡ Some d → is_pending rank places k ≡ true → inside k ≡ true
  pub cost : reads ≤ base + reach_cost cards inside front

-- a walk goes on from some pending places and reads to others
abbrev pub Spends : List Card → List ℕ → ℕ → List ℕ → ℕ → List ℕ → Type 0
Spends cards rank reads places reads' places' =
    (inside : ℕ → Bool) (base : ℕ) → IsRank cards rank → NamesInside cards inside → Spent cards rank inside base reads places → Spent cards rank inside base reads' places'

-- and reads no more, in all, than the nodes that are inside and the edges into them ask for
abbrev pub ReadsFew : List Card → List ℕ → ℕ → List ℕ → ℕ → Type 0
ReadsFew cards rank reads places reads' =
    (inside : ℕ → Bool) (base : ℕ) → IsRank cards rank → NamesInside cards inside → Spent cards rank inside base reads places → reads' ≤ base + reach_cost cards inside rank

-- the nodes that a node reaches, and the edges into them
abbrev pub reach_size : List Card → List ℕ → ℕ → ℕ
reach_size cards rank n = reach_cost cards (λ k. is_one_of k (reached_from cards rank (n ∷ []))) rank
