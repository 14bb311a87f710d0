-- Where the round of a loop begins in the trail, by the marks of its nodes.
use Rattle.std.specs.Prelude.{ℕ, List, [], ◌∷◌, Option, Some, None, nat_lt, if◌then◌else◌}
use Rattle.wsm_lists.specs.ByNumber.{item_at}
use Rattle.wsm_schema.specs.declared.marks.Mark.{Mark}
use Rattle.wsm_walk.specs.Kept.{mark_or}

abbrev pub lesser : Option ℕ → ℕ → ℕ
lesser None q = q
lesser (Some p) q = if nat_lt p q then p else q

-- the least of a position and of those at which a node with that mark was started and repeated
abbrev pub seen_before : Mark → ℕ → ℕ
seen_before m q = lesser m.again (lesser m.started q)

-- the least of a position and of those at which one of the nodes was started or repeated
abbrev pub first_seen : List (ℕ × Mark) → List ℕ → ℕ → ℕ
first_seen rows [] q = q
first_seen rows (n ∷ ns) q = first_seen rows ns (seen_before (mark_or (item_at n rows)) q)
