-- The marks of nodes, and of those from which edges lead to a node, read where they are not known.
use Rattle.std.specs.Prelude.{◌≡◌, ◌≤◌, ◌⊎◌, ℕ, ◌+◌, Bool, true, List, [], ◌∷◌, Option, Some, None, is_some, if◌then◌else◌}
use Rattle.wsm_lists.specs.{ByNumber.item_at, Rows.AllRows}
use Rattle.wsm_schema.specs.{Trail.is_one_of, declared.cards.Card.Card, declared.cards.End.End, declared.marks.Mark.Mark}

-- whether a node has a row
abbrev pub is_known : List (ℕ × Option Mark) → ℕ → Bool
is_known rows n = is_some (item_at n rows)

-- rows stay as they are, and nodes that had none may have one of what is kept of them
abbrev pub ReadsMore : List (ℕ × Mark) → List (ℕ × Option Mark) → List (ℕ × Option Mark) → Type 0
ReadsMore kept old new = (n : ℕ) → (item_at n new ≡ item_at n old) ⊎ ((item_at n old ≡ None) × (item_at n new ≡ Some (item_at n kept)))

-- all of these have rows
abbrev pub AllKnown : {X : Type 0} → List (ℕ × Option Mark) → (X → ℕ) → List X → Type 0
AllKnown rows node xs = AllRows (λ x. is_known rows (node x) ≡ true) xs

-- or are among some nodes
abbrev pub AllAmong : {X : Type 0} → List ℕ → (X → ℕ) → List X → Type 0
AllAmong all node xs = AllRows (λ x. is_one_of (node x) all ≡ true) xs

-- the edges into a node, by their sources
abbrev pub end_node : End → ℕ
end_node e = e.node

abbrev pub own : ℕ → ℕ
own n = n

abbrev pub SourcesKnown : List (ℕ × Option Mark) → Card → Type 0
SourcesKnown rows c = AllKnown rows end_node c.ins × AllKnown rows own c.syncs_in

abbrev pub SourcesAmong : List ℕ → Card → Type 0
SourcesAmong all c = AllAmong all end_node c.ins × AllAmong all own c.syncs_in

-- ---- how much is read
-- how many of some nodes have no row
abbrev pub unknown : List (ℕ × Option Mark) → ℕ → ℕ
unknown rows n = if is_known rows n then 0 else 1

abbrev pub unknown_in : List (ℕ × Option Mark) → List ℕ → ℕ
unknown_in rows [] = 0
unknown_in rows (n ∷ ns) = unknown rows n + unknown_in rows ns

-- wherever what is asked for is among some nodes, there is one read for each of these that has a row since, and no more
abbrev pub SpendsAmong : (List ℕ → Type 0) → ℕ → List (ℕ × Option Mark) → ℕ → List (ℕ × Option Mark) → Type 0
SpendsAmong asked reads rows reads' rows' = (all : List ℕ) → asked all → reads' + unknown_in rows' all ≤ reads + unknown_in rows all

-- and in any case no more than these have no row
abbrev pub FewAmong : (List ℕ → Type 0) → ℕ → List (ℕ × Option Mark) → ℕ → Type 0
FewAmong asked reads rows reads' = (all : List ℕ) → asked all → reads' ≤ reads + unknown_in rows all
