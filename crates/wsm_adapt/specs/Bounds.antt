-- How many marks may be read for what touched nodes reach.
use Rattle.std.specs.Prelude.{ℕ, ◌+◌, Bool, List, [], ◌∷◌, Option, Some, None, if◌then◌else◌}
use Rattle.wsm_schema.specs.declared.cards.Card.{Card}
use Rattle.wsm_adapt.specs.Border.{end_node, own}

-- how many of these are not inside
abbrev pub other : (ℕ → Bool) → ℕ → ℕ
other inside n = if inside n then 0 else 1

abbrev pub others_in : {X : Type 0} → (ℕ → Bool) → (X → ℕ) → List X → ℕ
others_in inside node [] = 0
others_in inside node (x ∷ xs) = other inside (node x) + others_in inside node xs

-- the edges into a node from outside
abbrev pub other_sources : (ℕ → Bool) → Option Card → ℕ
other_sources inside None = 0
other_sources inside (Some c) = others_in inside end_node c.ins + others_in inside own c.syncs_in

-- one for each card of a node that is inside, and one for each edge into it from outside
abbrev pub region_reads : (ℕ → Bool) → List Card → ℕ
region_reads inside [] = 0
region_reads inside (c ∷ cs) = (if inside c.node then 1 + other_sources inside (Some c) else 0) + region_reads inside cs
