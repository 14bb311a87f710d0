use Rattle.wsm_ops.proofs.Common.{ℕ, ◌||◌, ◌≡◌, drop, is_known, is_node, list_any, place_of}
use Rattle.wsm_ops.proofs.places.Places.note_all.Given as goal

-- of the nodes so far a place is known
abbrev pub invariant-loop-piece : goal.invariant-loop-piece
invariant-loop-piece l =
    (n : ℕ) → (list_any (is_node n) (drop l.piece-index l.pieces) || is_known (place_of l.self) n) ≡ (list_any (is_node n) l.pieces || is_known (place_of l.initial.self) n)
