-- The rule of a cell, and what each atomic step tells the seat that makes it.
-- Word 0 is the number of entries, word 1 is 1 while a pass has the turn, and slot 0 has the machine and the journal.
use Rattle.std.specs.Prelude.{◌≡◌, ◌≢◌, ℕ, ◌+◌, ◌*◌, ◌==◌, ◌<◌, ◌≤◌, ltb, Bool, true, false, List, [], ◌∷◌, ◌++◌, length, drop, Option, Some, None, if◌then◌else◌}
use mathlib.Core.Option.{some, none}
use mathlib.Core.List.{IsPrefix}
use lib.ListN.{get_elem?}
use Rattle.atomic_table.specs.Table.{State, Me, Step, rest}
use Rattle.turn_cell.specs.{declared.journal.Entry.Entry, declared.guarded.Guarded.Guarded, declared.seat_view.SeatView.SeatView, declared.seat_view.Phase.Phase, declared.limits.TheConstants.{MAX_ENTRIES, MAX_OPENING_AGE, MAX_WEIGHT}}
use Rattle.turn_cell.specs.History.{IsLegal, IsLegalFrom, IsStateAfter, state_after, calls_of}
use Rattle.turn_cell.specs.declared.seat_view.Phase.TheVariants.{Spent, Note, Idle, Entered, Inside}

-- not taken in by another
abbrev pub is_live : Phase → Bool
is_live Spent = false
is_live Note = true
is_live Idle = true
is_live Entered = true
is_live Inside = true

-- a pass, and no note
abbrev pub is_pass : Phase → Bool
is_pass Spent = false
is_pass Note = false
is_pass Idle = true
is_pass Entered = true
is_pass Inside = true

-- it has the turn
abbrev pub has_turn : Phase → Bool
has_turn Spent = false
has_turn Note = false
has_turn Idle = false
has_turn Entered = true
has_turn Inside = true

-- it has the machine and the journal in hand
abbrev pub has_slot : Phase → Bool
has_slot Spent = false
has_slot Note = false
has_slot Idle = false
has_slot Entered = false
has_slot Inside = true

abbrev pub one_if : Bool → ℕ
one_if true = 1
one_if false = 0

module _ {A : Type 0} where
  -- the sum of f over the views
  abbrev pub total : (A → ℕ) → List A → ℕ
  total f [] = 0
  total f (x ∷ xs) = f x + total f xs

  -- how often a number stands in a past
  abbrev pub times : ℕ → List (ℕ × A) → ℕ
  times n [] = 0
  times n (x ∷ xs) = one_if (x.0 == n) + times n xs

  -- the longer of two lists: of two of one length the second
  abbrev pub longer : List A → List A → List A
  longer xs ys = if ltb (length ys) (length xs) then xs else ys

  -- the other of the two
  abbrev pub shorter : List A → List A → List A
  shorter xs ys = if ltb (length ys) (length xs) then ys else xs

module _ {M E R W S : Type 0} where
  -- 1 for the seat with the turn, for the one with the slot, and for each pass
  abbrev pub turns : SeatView M E R W S → ℕ
  turns v = one_if (has_turn v.phase)

  abbrev pub slots : SeatView M E R W S → ℕ
  slots v = one_if (has_slot v.phase)

  abbrev pub passes : SeatView M E R W S → ℕ
  passes v = one_if (is_pass v.phase)

  -- how often a view has a number, as its own or in its past
  abbrev pub owns : ℕ → SeatView M E R W S → ℕ
  owns n v = if is_pass v.phase then one_if (v.number == n) + times n v.past else 0

  -- for each number its calls are these, in the journal and in the seen list
  abbrev pub AreCalls : List (Entry M E R W S) → List (Entry M E R W S) → List (ℕ × List (Entry M E R W S)) → Type 0
  AreCalls log seen [] = Unit {0}
  AreCalls log seen (x ∷ xs) = (calls_of x.0 log ≡ x.1) × (calls_of x.0 seen ≡ x.1) × AreCalls log seen xs

  -- what holds of each live seat: it has the cell's opening state and has seen a beginning of the journal, all of it with the slot in hand
  pub record Fits (opening : S) (log : List (Entry M E R W S)) (v : SeatView M E R W S) : Type 0 where
    pub same : v.opening ≡ Some opening
    pub seen : IsPrefix v.seen log
    pub told : IsPrefix v.told v.seen
    pub whole : v.phase ≡ Inside → v.seen ≡ log

  -- What holds of each pass besides: its own calls and those of its past are the entries of their numbers, and it has seen them all.
  -- The first pass counts the passes, and no number is as high as the next that it gives.
  pub record FitsPass (log : List (Entry M E R W S)) (views : List (SeatView M E R W S)) (v : SeatView M E R W S) : Type 0 where
    pub calls : AreCalls log v.seen ((v.number, v.own_calls) ∷ v.past)
    pub past : v.number ≢ 0 → (v.past ≡ []) × (v.taken ≡ 0)
    pub made : v.number ≡ 0 → v.made ≡ total passes views + v.taken
    pub below : v.number ≡ 0 → (n : ℕ) → v.made ≤ n → total (owns n) views ≡ 0

module _ {M E R W S : Type 0} (state : M → S) (after : S → E → S) (reply : S → E → R) (age : S → ℕ) where
  -- the slot has the journal, and the machine in the state after it
  abbrev pub IsHeld : S → List (Entry M E R W S) → Guarded M E R W S → Type 0
  IsHeld opening log h = (h.journal.items.items ≡ log) × (state h.machine.value ≡ state_after after opening log)

  -- the machine has aged by the events of the journal alone
  abbrev pub IsYoung : S → List (Entry M E R W S) → Type 0
  IsYoung opening log = age (state_after after opening log) ≤ MAX_OPENING_AGE + MAX_WEIGHT * length log

  -- What holds between any two steps: the journal is legal; one seat at most has the turn, and only it may have the slot;
  -- the slot at home has the journal and its state; the numbers of passes and pasts are distinct, and no other number has an entry.
  pub record IsKept (s : State (Option (Guarded M E R W S)) (SeatView M E R W S)) : Type 0 where
    pub opening : S
    pub log : List (Entry M E R W S)
    pub busy : ℕ
    pub words : s.words ≡ length log ∷ busy ∷ []
    pub legal : IsLegal after reply opening log
    pub young : IsYoung opening log
    pub short : length log ≤ MAX_ENTRIES
    pub live : (id : ℕ) (v : SeatView M E R W S) → get_elem? s.views id ≡ some v → is_live v.phase ≡ true → Fits opening log v
    pub pass : (id : ℕ) (v : SeatView M E R W S) → get_elem? s.views id ≡ some v → is_pass v.phase ≡ true → FitsPass log s.views v
    pub turn : total turns s.views ≡ busy
    pub one : busy ≤ 1
    pub at_home : total slots s.views ≡ 0 → (h : Guarded M E R W S) × (s.homes ≡ some (Some h) ∷ []) × IsHeld opening log h
    pub away : 0 < total slots s.views → s.homes ≡ none ∷ []
    pub apart : (n : ℕ) → total (owns n) s.views ≤ 1
    pub known : (n : ℕ) → total (owns n) s.views ≡ 0 → calls_of n log ≡ []

-- what a seat knows, with the slots that it has in hand
abbrev pub Seated : (M E R W S : Type 0) → Type 0
Seated M E R W S = Me (Option (Guarded M E R W S)) (SeatView M E R W S)

module _ {M E R W S : Type 0} where
  -- a new pass with that number, which has seen that list
  abbrev pub newcomer : Option S → ℕ → List (Entry M E R W S) → SeatView M E R W S
  newcomer s n seen = record { phase = Idle; opening = s; number = n; seen = seen; told = seen; own_calls = []; made = 0; taken = 0; past = []; met = 0 }

  -- the first pass of a cell with that opening state
  abbrev pub first : S → SeatView M E R W S
  first s = record (newcomer (Some s) 0 []) { made = 1 }

  -- a note of what v has seen
  abbrev pub note_of : SeatView M E R W S → SeatView M E R W S
  note_of v = record (newcomer v.opening 0 v.seen) { phase = Note }

  -- what is left of a seat that was taken in
  abbrev pub spent : SeatView M E R W S
  spent = record (newcomer None 0 []) { phase = Spent }

  -- v after it has made a pass, and that pass
  abbrev pub split_from : SeatView M E R W S → SeatView M E R W S
  split_from v = record v { made = v.made + 1 }

  abbrev pub split_off : SeatView M E R W S → SeatView M E R W S
  split_off v = newcomer v.opening v.made v.seen

  -- v after it has heard what w has seen, and after it has taken the pass w in
  abbrev pub heard : SeatView M E R W S → SeatView M E R W S → SeatView M E R W S
  heard v w = record v { seen = longer v.seen w.seen; told = shorter v.seen w.seen }

  abbrev pub joined : SeatView M E R W S → SeatView M E R W S → SeatView M E R W S
  joined v w = record (heard v w) { taken = v.taken + 1; past = v.past ++ (w.number, w.own_calls) ∷ [] }

  -- a pass without the turn asks for it: it was free, or another has it
  abbrev pub acquired : Step (Option (Guarded M E R W S)) → Seated M E R W S → ℕ → Seated M E R W S → Type 0
  acquired st m r m' = (m.0.phase ≡ Idle) × (r ≡ 0 → m' ≡ (record m.0 { phase = Entered }, m.1)) × (r ≢ 0 → m' ≡ (record m.0 { met = m.0.met + 1 }, m.1))

  -- the journal in a slot, and in the slot that a seat has in hand
  abbrev pub log_of : Option (Guarded M E R W S) → List (Entry M E R W S)
  log_of None = []
  log_of (Some h) = h.journal.items.items

  abbrev pub carried_log : List (ℕ × Option (Guarded M E R W S)) → List (Entry M E R W S)
  carried_log [] = []
  carried_log (x ∷ xs) = log_of x.1

  -- v after its own calls have made the journal that long
  abbrev pub with_log : List (Entry M E R W S) → SeatView M E R W S → SeatView M E R W S
  with_log log v = record v { seen = log; own_calls = v.own_calls ++ drop (length v.seen) log }

  -- the journal in hand is what was seen, and the entries that it has more are one's own
  abbrev pub committed : Step (Option (Guarded M E R W S)) → Seated M E R W S → ℕ → Seated M E R W S → Type 0
  committed st m r m' = m' ≡ (with_log (carried_log m.1) m.0, m.1)

  -- the turn ends, and the slot is put back
  abbrev pub released : Step (Option (Guarded M E R W S)) → Seated M E R W S → ℕ → Seated M E R W S → Type 0
  released st m r m' = m' ≡ (record m.0 { phase = Idle }, rest m.1)

  module _ (after : S → E → S) (reply : S → E → R) where
    -- what was seen is legal, begins with what another told, and has one's own calls under one's number
    pub record IsSeen (v : SeatView M E R W S) : Type 0 where
      pub legal : IsLegalFrom after reply v.opening v.seen
      pub told : IsPrefix v.told v.seen
      pub own : calls_of v.number v.seen ≡ v.own_calls

    -- a look changes nothing, and tells what holds of all that was seen
    abbrev pub observed : Step (Option (Guarded M E R W S)) → Seated M E R W S → ℕ → Seated M E R W S → Type 0
    observed st m r m' = (m' ≡ m) × IsSeen m.0

    -- the slot was taken out: it has the journal, which is legal and begins with what was seen, and the machine in the state after it
    pub record IsTaken (state : M → S) (age : S → ℕ) (m : Seated M E R W S) (r : ℕ) (m' : Seated M E R W S) : Type 0 where
      pub held : Guarded M E R W S
      pub seat : m' ≡ (record m.0 { phase = Inside; seen = held.journal.items.items }, (0, Some held) ∷ m.1)
      pub count : r ≡ length held.journal.items.items
      pub more : IsPrefix m.0.seen held.journal.items.items
      pub state_is : IsStateAfter after m.0.opening held.journal.items.items (state held.machine.value)
      pub legal : IsLegalFrom after reply m.0.opening held.journal.items.items
      pub own : calls_of m.0.number held.journal.items.items ≡ m.0.own_calls
      pub young : age (state held.machine.value) ≤ MAX_OPENING_AGE + MAX_WEIGHT * length held.journal.items.items
      pub short : length held.journal.items.items ≤ MAX_ENTRIES

    -- the step that takes the slot out
    abbrev pub took_out : (M → S) → (S → ℕ) → Step (Option (Guarded M E R W S)) → Seated M E R W S → ℕ → Seated M E R W S → Type 0
    took_out state age st m r m' = IsTaken state age m r m'

    -- the same of the value that the seat then has in hand
    pub record TakesOut (state : M → S) (age : S → ℕ) (m : Seated M E R W S) (g : Guarded M E R W S) (m' : Seated M E R W S) : Type 0 where
      pub view : m'.0 ≡ record m.0 { phase = Inside; seen = g.journal.items.items }
      pub slot : m'.1 ≡ (0, None) ∷ []
      pub more : IsPrefix m.0.seen g.journal.items.items
      pub state_is : IsStateAfter after m.0.opening g.journal.items.items (state g.machine.value)
      pub legal : IsLegalFrom after reply m.0.opening g.journal.items.items
      pub own : calls_of m.0.number g.journal.items.items ≡ m.0.own_calls
      pub young : age (state g.machine.value) ≤ MAX_OPENING_AGE + MAX_WEIGHT * length g.journal.items.items
      pub short : length g.journal.items.items ≤ MAX_ENTRIES
