-- What a visit makes of a node's mark.
use Rattle.std.specs.Prelude.{◌≡◌, ℕ, List, Option, Some, None}
use Rattle.wsm_schema.specs.{declared.cards.Card.Card, declared.marks.Mark.Mark}
use Rattle.wsm_walk.specs.{Kept.timed_of, Walk.{time_by, with_time}}

-- none where the node has the time of its equation over the marks as they stand, else its mark with that time
abbrev pub IsRevised : List Card → (ℕ → Mark) → Card → Option Mark → Type 0
IsRevised cards now c None = timed_of (now c.node) ≡ time_by cards now c
IsRevised cards now c (Some m) = m ≡ with_time (time_by cards now c) (now c.node)
