-- Ranks: lists of all nodes in which each edge's source stands before its target.
use Rattle.std.specs.Prelude.{◌≡◌, ℕ, ◌≤◌, true, false, List, [], ◌∷◌, ◌++◌, length, Some}
use Rattle.wsm_lists.specs.Rows.{AllRows}
use Rattle.wsm_schema.specs.{Trail.is_one_of, Flat.card_at, declared.cards.Card.Card}

-- every node of the cards stands there, once, and behind the sources of its edges
pub record IsRank (cards : List Card) (rank : List ℕ) : Type 0 where
  pub size : length rank ≤ length cards
  pub all : AllRows (λ c. is_one_of c.node rank ≡ true) cards
  pub once : (front rest : List ℕ) (n : ℕ) → rank ≡ front ++ (n ∷ rest) → is_one_of n front ≡ false
  pub behind : (front rest : List ℕ) (n : ℕ) (c : Card) → rank ≡ front ++ (n ∷ rest) → card_at n cards ≡ Some c →
      AllRows (λ e. is_one_of e.node front ≡ true) c.ins × AllRows (λ m. is_one_of m front ≡ true) c.syncs_in

-- each node stands behind the sources of its edges, where those of `seen` stand before all
abbrev pub Behind : List ℕ → List Card → Type 0
Behind seen [] = Unit {0}
Behind seen (c ∷ cs) =
    (AllRows (λ e. is_one_of e.node seen ≡ true) c.ins × AllRows (λ m. is_one_of m seen ≡ true) c.syncs_in) × Behind (seen ++ (c.node ∷ [])) cs
