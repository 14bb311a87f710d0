-- A walk over a change: where it stands, and what it may read.
use Rattle.std.specs.Prelude.{◌≡◌, ◌≤◌, ◌<◌, ℕ, ◌+◌, Bool, true, false, List, [], ◌∷◌, ◌++◌, Option, Some, None, if◌then◌else◌}
use Rattle.wsm_lists.specs.ByNumber.{item_at}
use Rattle.wsm_schema.specs.{Flat.card_at, Kinds.is_loop_start, Rank.IsRank, Trail.is_one_of, declared.cards.Card.Card, declared.marks.Mark.Mark}
use Rattle.wsm_marks.specs.Schemas.{HasCard}
use Rattle.wsm_walk.specs.{Kept.mark_or, Listed.seen, RankPlaces.{is_pending, rank_place}, Spent.NamesInside, Walk.{Aim, Stands}}
use Rattle.wsm_adapt.specs.{Border.{ReadsMore, SourcesAmong, SourcesKnown, is_known, unknown_in}, declared.walks.Found.Found}

-- the end of the loop that the card's node starts
abbrev pub loop_end : Card → Option ℕ
loop_end c = if is_loop_start c.kind then c.partner else None

abbrev pub is_named : Option ℕ → ℕ → Bool
is_named None k = false
is_named (Some n) k = is_one_of k (n ∷ [])

-- a node's mark is what is kept of it
abbrev pub IsAsKept : List (ℕ × Mark) → List (ℕ × Option Mark) → ℕ → Type 0
IsAsKept kept changes n = seen kept changes n ≡ mark_or (item_at n kept)

-- a walk over kept marks: what is known is as the changes have it; touched and visited nodes are known; nodes that were not visited
-- have the marks that were kept, and so have the starts of loops whose ends are neither visited nor pending
pub record Standing (cards : List Card) (rank : List ℕ) (goal : ℕ → Mark) (kept : List (ℕ × Mark)) (touched places : List ℕ) (found : Found) : Type 0 where
  pub stands : Stands cards rank goal kept places found.changes
  pub known : (n : ℕ) (o : Option Mark) → item_at n found.known ≡ Some o → mark_or o ≡ seen kept found.changes n
  pub asked : (n : ℕ) → is_one_of n touched ≡ true → is_known found.known n ≡ true
  pub visited : (n : ℕ) → is_one_of n found.nodes ≡ true → is_known found.known n ≡ true
  pub others : (n : ℕ) → is_one_of n found.nodes ≡ false → IsAsKept kept found.changes n
  pub loops : (l e : ℕ) (c d : Card) → card_at l cards ≡ Some c → loop_end c ≡ Some e → card_at e cards ≡ Some d → rank_place l rank < rank_place e rank →
      is_one_of e found.nodes ≡ false → is_pending rank places e ≡ false → IsAsKept kept found.changes l

-- the walk goes on
abbrev pub GoesOn : List Card → List ℕ → List (ℕ × Mark) → List ℕ → Found → List ℕ → Found → Type 0
GoesOn cards rank kept places found places' found' =
    (goal : ℕ → Mark) (touched : List ℕ) → Aim cards rank goal → Standing cards rank goal kept touched places found → Standing cards rank goal kept touched places' found'

-- nodes that have rows among the changes keep them
abbrev pub KeepsTold : Found → Found → Type 0
KeepsTold found found' = (n : ℕ) → is_known found.changes n ≡ true → is_known found'.changes n ≡ true

-- ---- where it goes
-- what the card of a node that is inside names is inside too, and the end of a loop where its start is
pub record Closed (cards : List Card) (inside : ℕ → Bool) : Type 0 where
  pub names : NamesInside cards inside
  pub loops : (l e : ℕ) (c : Card) → card_at l cards ≡ Some c → loop_end c ≡ Some e → inside l ≡ true → inside e ≡ true

-- visited nodes are nodes of the net, and these and those that are pending are inside
pub record Confined (cards : List Card) (rank : List ℕ) (inside : ℕ → Bool) (places nodes : List ℕ) : Type 0 where
  pub pending : (k : ℕ) (d : Card) → card_at k cards ≡ Some d → is_pending rank places k ≡ true → inside k ≡ true
  pub visited : (n : ℕ) → is_one_of n nodes ≡ true → (inside n ≡ true) × HasCard cards n

abbrev pub StaysInside : List Card → List ℕ → List ℕ → Found → List ℕ → Found → Type 0
StaysInside cards rank places found places' found' =
    (inside : ℕ → Bool) → IsRank cards rank → Closed cards inside → Confined cards rank inside places found.nodes → Confined cards rank inside places' found'.nodes

-- ---- what it reads
-- the nodes that are inside, and those from which edges lead to them, are among some
pub record Covered (cards : List Card) (inside : ℕ → Bool) (all : List ℕ) : Type 0 where
  pub own : (n : ℕ) (c : Card) → card_at n cards ≡ Some c → inside n ≡ true → is_one_of n all ≡ true
  pub sources : (n : ℕ) (c : Card) → card_at n cards ≡ Some c → inside n ≡ true → SourcesAmong all c

-- one mark for each of these that is known since
abbrev pub SpendsOn : List Card → List ℕ → ℕ → List ℕ → Found → ℕ → Found → Type 0
SpendsOn cards rank reads places found reads' found' =
    (inside : ℕ → Bool) (all : List ℕ) → IsRank cards rank → Covered cards inside all → Confined cards rank inside places found.nodes →
    reads' + unknown_in found'.known all ≤ reads + unknown_in found.known all

-- and in any case no more than are not known
abbrev pub ReadsFew : List Card → List ℕ → ℕ → List ℕ → Found → ℕ → Type 0
ReadsFew cards rank reads places found reads' =
    (inside : ℕ → Bool) (all : List ℕ) → IsRank cards rank → Closed cards inside → Covered cards inside all → Confined cards rank inside places found.nodes →
    reads' ≤ reads + unknown_in found.known all

-- ---- one visit
-- the card's node is visited; its mark and those of the nodes from which edges lead to it are known, and nothing changes
pub record IsVisit (kept : List (ℕ × Mark)) (c : Card) (old new : Found) : Type 0 where
  pub more : ReadsMore kept old.known new.known
  pub own : is_known new.known c.node ≡ true
  pub sources : SourcesKnown new.known c
  pub changes : new.changes ≡ old.changes
  pub nodes : new.nodes ≡ old.nodes ++ c.node ∷ []

abbrev pub VisitAmong : Card → List ℕ → Type 0
VisitAmong c all = (is_one_of c.node all ≡ true) × SourcesAmong all c
