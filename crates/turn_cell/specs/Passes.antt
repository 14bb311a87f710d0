-- What contracts see of a pass, and what calls do to it.
use Rattle.std.specs.Prelude.{◌≡◌, ℕ, ◌+◌, List, [], ◌∷◌, ◌++◌, Option, Some, None, Result, All, Any, ◌⊎◌}
use mathlib.Core.List.{IsPrefix}
use Rattle.atomic_table.specs.Seated.{TableId}
use Rattle.turn_cell.specs.{declared.faults.CallFault.CallFault, declared.journal.Entry.Entry, declared.seat_view.SeatView.SeatView, declared.pass.Pass.Pass, declared.cell.Cell.Cell, History.{IsLegalFrom, IsStateAfter, calls_of, entry}}
use Rattle.turn_cell.specs.Rule.{longer}

-- A pass: its cell and that cell's opening state, its number, the beginning of the journal that it has seen,
-- its own calls, how many passes were made and taken in, the number and calls of each that was taken in,
-- how often it found the turn taken, and the answer that it keeps.
pub record PassView (M E R W S : Type 0) : Type 0 where
  pub cell : TableId
  pub opening : Option S
  pub number : ℕ
  pub seen : List (Entry M E R W S)
  pub own_calls : List (Entry M E R W S)
  pub made : ℕ
  pub taken : ℕ
  pub past : List (ℕ × List (Entry M E R W S))
  pub met : ℕ
  pub kept : Option (Result R CallFault)

-- the view of a pass whose seat knows v
abbrev pub view_at : {M E R W S : Type 0} → TableId → Option (Result R CallFault) → SeatView M E R W S → PassView M E R W S
view_at id kept v = record {
  cell = id;
  opening = v.opening;
  number = v.number;
  seen = v.seen;
  own_calls = v.own_calls;
  made = v.made;
  taken = v.taken;
  past = v.past;
  met = v.met;
  kept = kept;
}

abbrev pub view_of : {M E R W S : Type 0} {g : _} → Pass M E R W S g → PassView M E R W S
view_of p = view_at p.seat.table_id p.kept p.seat.me.0

-- which cell it is
abbrev pub cell_id : {M E R W S : Type 0} → Cell M E R W S → TableId
cell_id c = c.table.shared.table_id

abbrev pub IsPassOf : {M E R W S : Type 0} {g : _} → Cell M E R W S → Pass M E R W S g → Type 0
IsPassOf c p = (view_of p).cell ≡ cell_id c

module _ {M E R W S : Type 0} where
  -- the first pass of a cell, which opens with the state s
  abbrev pub first_of : TableId → S → PassView M E R W S
  first_of id s = record { cell = id; opening = Some s; number = 0; seen = []; own_calls = []; made = 1; taken = 0; past = []; met = 0; kept = None }

  -- the pass that a split of v makes
  abbrev pub split_off : PassView M E R W S → PassView M E R W S
  split_off v = record { cell = v.cell; opening = v.opening; number = v.made; seen = v.seen; own_calls = []; made = 0; taken = 0; past = []; met = 0; kept = None }

  -- v after it has taken w in
  abbrev pub joined : PassView M E R W S → PassView M E R W S → PassView M E R W S
  joined v w = record v { seen = longer v.seen w.seen; taken = v.taken + 1; past = v.past ++ (w.number, w.own_calls) ∷ [] }

  -- what no call changes, whatever it answers
  pub record Stays (v w : PassView M E R W S) : Type 0 where
    pub cell : w.cell ≡ v.cell
    pub opening : w.opening ≡ v.opening
    pub number : w.number ≡ v.number
    pub made : w.made ≡ v.made
    pub taken : w.taken ≡ v.taken
    pub past : w.past ≡ v.past
    pub kept : w.kept ≡ v.kept

  module _ (after : S → E → S) (reply : S → E → R) where
    -- what was seen is legal from the opening state, and has one's own calls under one's number
    pub record IsLegalView (v : PassView M E R W S) : Type 0 where
      pub legal : IsLegalFrom after reply v.opening v.seen
      pub own : calls_of v.number v.seen ≡ v.own_calls

    -- as much was seen as before or more, and no call was made
    pub record Sees (v w : PassView M E R W S) : Type 0 where
      pub more : IsPrefix v.seen w.seen
      pub own_calls : w.own_calls ≡ v.own_calls
      pub legal : IsLegalFrom after reply w.opening w.seen
      pub own : calls_of w.number w.seen ≡ w.own_calls

    -- one call was made, and stands at the end of what is seen, after the calls of others
    pub record Calls (event : E) (v : PassView M E R W S) (answer : R) (w : PassView M E R W S) : Type 0 where
      pub others : List (Entry M E R W S)
      pub seen : w.seen ≡ (v.seen ++ others) ++ entry v.number event answer ∷ []
      pub own_calls : w.own_calls ≡ v.own_calls ++ entry v.number event answer ∷ []
      pub legal : IsLegalFrom after reply w.opening w.seen
      pub own : calls_of w.number w.seen ≡ w.own_calls

    -- A closed cell, of the last pass: its journal is what that pass has seen, and no entry stands behind it.
    pub record IsClosed (state : M → S) (v : PassView M E R W S) (machine : M) (journal : List (Entry M E R W S)) : Type 0 where
      pub whole : journal ≡ v.seen
      pub machine_is : IsStateAfter after v.opening journal (state machine)
      pub legal : IsLegalFrom after reply v.opening journal
      pub own : calls_of 0 journal ≡ v.own_calls
      pub past : All (λ p. calls_of p.0 journal ≡ p.1) v.past
      pub callers : All (λ e. (e.caller ≡ 0) ⊎ Any (λ p. p.0 ≡ e.caller) v.past) journal
