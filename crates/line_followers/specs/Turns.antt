-- What actors still owe in one phase, as a queue for each actor.
use Rattle.std.specs.Prelude.{◌≡◌, ℕ, ◌+◌, ◌<◌, List, [], ◌∷◌, ◌++◌, length, slice_get, slice_set, Option, Some, None}
use Rattle.line_readers.specs.Owed.{lines_by}

abbrev pub front_of : {L : Type 0} → List L → Option L
front_of [] = None
front_of (l ∷ ls) = Some l

abbrev pub behind_front : {L : Type 0} → List L → List L
behind_front [] = []
behind_front (l ∷ ls) = ls

-- the queue of an actor; who has none owes nothing
abbrev pub queue_in : {L : Type 0} → Option (List L) → List L
queue_in None = []
queue_in (Some ls) = ls

abbrev pub queue_of : {L : Type 0} → List (List L) → ℕ → List L
queue_of queues a = queue_in (slice_get queues a)

-- the queues where the actor's first line is taken away
abbrev pub one_taken : {L : Type 0} → ℕ → List (List L) → List (List L)
one_taken a queues = slice_set queues a (behind_front (queue_of queues a))

-- the queues with a line at the end of the actor's
abbrev pub one_added : {L : Type 0} → ℕ → L → List (List L) → List (List L)
one_added a l queues = slice_set queues a (queue_of queues a ++ l ∷ [])

-- a queue for each of so many actors and for the program itself, with the actor's lines of the phase
abbrev pub AreTurns : {L : Type 0} → (L → ℕ) → ℕ → List (List L) → List L → Type 0
AreTurns actor_of actors queues phase = (length queues ≡ actors + 1) × ((a : ℕ) → a < actors + 1 → queue_of queues a ≡ lines_by actor_of a phase)
