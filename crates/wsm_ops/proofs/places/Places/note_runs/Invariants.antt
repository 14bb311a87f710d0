use Rattle.wsm_ops.proofs.Common.{ℕ, ◌||◌, ◌≡◌, drop, is_known, is_node, joined, list_any, place_of}
use Rattle.wsm_ops.proofs.places.Places.note_runs.Given as goal

-- of the nodes in the runs so far a place is known
abbrev pub invariant-loop-i : goal.invariant-loop-i
invariant-loop-i l =
    (n : ℕ) → (list_any (is_node n) (joined (drop l.i l.runs)) || is_known (place_of l.self) n) ≡ (list_any (is_node n) (joined l.runs) || is_known (place_of l.initial.self) n)
