-- With what a walk over a change begins, and what it finds.
use Rattle.std.specs.Prelude.{◌≡◌, ℕ, Bool, true, false, List, [], ◌∷◌, Option, Some, None}
use Rattle.wsm_lists.specs.{ByNumber.item_at, Keys.first, Rows.{AllRows, put_row}}
use Rattle.wsm_schema.specs.{Flat.card_at, Trail.is_one_of, declared.cards.Card.Card, declared.marks.Mark.Mark}
use Rattle.wsm_marks.specs.Schemas.{HasCard}
use Rattle.wsm_walk.specs.{Kept.{mark_or, timed_of}, Listed.{said, seen}, Targets.leads_to, Walk.{Aim, time_by, untimed, with_time}}
use Rattle.wsm_adapt.specs.{Border.is_known, Walking.Standing, declared.walks.Found.Found}

-- a row of what is known of each of some nodes that the net has
abbrev pub begun_row : ℕ → Option Card → List (ℕ × Option Mark) → List (ℕ × Option Mark) → List (ℕ × Option Mark)
begun_row n None known rows = rows
begun_row n (Some c) known rows = put_row first (n, said (seen [] known n)) rows

abbrev pub begun_rows : List Card → List (ℕ × Option Mark) → List ℕ → List (ℕ × Option Mark) → List (ℕ × Option Mark)
begun_rows cards known [] rows = rows
begun_rows cards known (n ∷ ns) rows = begun_rows cards known ns (begun_row n (card_at n cards) known rows)

-- whether a card names a node
abbrev pub is_led : Option Card → ℕ → Bool
is_led None k = false
is_led (Some c) k = leads_to c k

-- no edge leads to the card's node from one of some nodes
abbrev pub NoneOf : List ℕ → Card → Type 0
NoneOf nodes c = AllRows (λ e. is_one_of e.node nodes ≡ false) c.ins × AllRows (λ m. is_one_of m nodes ≡ false) c.syncs_in

-- kept marks from which a walk may begin: but for their times they are right, and a node that is not touched, with no edge from one
-- that is, has the time of its equation
pub record Begins (cards : List Card) (goal : ℕ → Mark) (kept : List (ℕ × Mark)) (touched : List ℕ) : Type 0 where
  pub facts : (n : ℕ) (c : Card) → card_at n cards ≡ Some c → untimed (mark_or (item_at n kept)) ≡ untimed (goal n)
  pub times : (n : ℕ) → mark_or (item_at n kept) ≡ with_time (timed_of (mark_or (item_at n kept))) (mark_or (item_at n kept))
  pub meets : (n : ℕ) (c : Card) → card_at n cards ≡ Some c → is_one_of n touched ≡ false → NoneOf touched c → timed_of (mark_or (item_at n kept)) ≡ time_by cards (λ k. mark_or (item_at k kept)) c
  pub sources : (n : ℕ) (c : Card) → card_at n cards ≡ Some c → AllRows (λ e. HasCard cards e.node) c.ins × AllRows (HasCard cards) c.syncs_in

-- nothing is pending any more
abbrev pub IsFound : List Card → List ℕ → List (ℕ × Mark) → List ℕ → Found → Type 0
IsFound cards rank kept touched found = (goal : ℕ → Mark) → Aim cards rank goal → Begins cards goal kept touched → Standing cards rank goal kept touched [] found

-- each touched node that the net has has a row among the changes
abbrev pub TellsOf : List Card → List ℕ → Found → Type 0
TellsOf cards touched found = (n : ℕ) (c : Card) → card_at n cards ≡ Some c → is_one_of n touched ≡ true → is_known found.changes n ≡ true

-- nothing is known or changed yet
abbrev pub IsEmpty : Found → Type 0
IsEmpty found = (found.known ≡ []) × (found.changes ≡ []) × (found.nodes ≡ [])
