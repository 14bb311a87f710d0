-- Turns: which items are worked, stored and answered together.
use Rattle.std.specs.{Prelude.{ℕ, ◌+◌, ◌-◌, ◌≤◌, ◌<◌, Bool, true, false, List, [], ◌∷◌, ◌++◌, length, take, nat_lt, if◌then◌else◌}, List.flat_map}
use Rattle.turn_loop.specs.{Talk.{Bytes, Rules, Begins, held_behind, split_from, still_first, worked}, declared.limits.TheConstants.{MAX_ANSWERS, MAX_READ}}

-- lists one behind another
abbrev pub joined : {A : Type 0} → List (List A) → List A
joined lists = flat_map (λ list. list) lists

-- a turn without items is none
abbrev pub as_turn : List Bytes → List (List Bytes)
as_turn [] = []
as_turn (item ∷ items) = (item ∷ items) ∷ []

-- Items as turns, behind those of a turn that has begun, whose answers have so many bytes. A turn ends in front of the next
-- item where its answers have more bytes than its limit.
abbrev pub turns_from : Rules → (first : Bool) → List Bytes → (turn : List Bytes) → (long : ℕ) → List Bytes → List (List Bytes)
turns_from rules first ps turn long [] = as_turn turn
turns_from rules first ps turn long (item ∷ items) =
    let next : ℕ = length (rules.answer first ps item) in
    if nat_lt MAX_ANSWERS long
    then turn ∷ turns_from rules false (held_behind rules ps item) (item ∷ []) next items
    else turns_from rules false (held_behind rules ps item) (turn ++ item ∷ []) (long + next) items

abbrev pub turns : Rules → (first : Bool) → List Bytes → List Bytes → List (List Bytes)
turns rules first ps items = turns_from rules first ps [] 0 items

-- the turns of what reads gave, behind the bytes with which an item has begun: no turn has items of two reads
abbrev pub turns_of : Rules → (first : Bool) → List Bytes → (begun : Bytes) → (reads : List Bytes) → List (List Bytes)
turns_of rules first ps begun [] = []
turns_of rules first ps begun (read ∷ reads) =
    let s = split_from rules.ends begun read in
    turns rules first ps s.items ++ turns_of rules (still_first first s.items) (worked rules ps s.items) s.rest reads

-- what one read gives
abbrev pub IsRead : Bytes → Type 0
IsRead read = (0 < length read) × (length read ≤ MAX_READ)

-- all but the last
abbrev pub but_last : List Bytes → List Bytes
but_last reads = take (length reads - 1) reads

-- While a read was made no item that was whole waited for its answer: all turns of the reads before the last are done.
abbrev pub NoneWaited : Rules → List Bytes → (reads : List Bytes) → (done : List (List Bytes)) → Type 0
NoneWaited rules ps reads done = Begins (turns_of rules true ps [] (but_last reads)) done
