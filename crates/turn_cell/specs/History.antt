-- Histories of calls, and which are legal.
use Rattle.std.specs.Prelude.{◌≡◌, ℕ, ◌==◌, List, [], ◌∷◌, Option, Some, None, if◌then◌else◌}
use Rattle.turn_cell.specs.declared.journal.Entry.{Entry}

module _ {M E R W S : Type 0} where
  -- the entry of one call
  abbrev pub entry : ℕ → E → R → Entry M E R W S
  entry n e r = record { caller = n; event = e; reply = r }

  -- the state after these calls
  abbrev pub state_after : (S → E → S) → S → List (Entry M E R W S) → S
  state_after after s [] = s
  state_after after s (e ∷ es) = state_after after (after s e.event) es

  -- each reply is the one that the machine gives there
  abbrev pub IsLegal : (S → E → S) → (S → E → R) → S → List (Entry M E R W S) → Type 0
  IsLegal after reply s [] = Unit {0}
  IsLegal after reply s (e ∷ es) = (e.reply ≡ reply s e.event) × IsLegal after reply (after s e.event) es

  -- there is an opening state, and the calls are legal from it
  abbrev pub IsLegalFrom : (S → E → S) → (S → E → R) → Option S → List (Entry M E R W S) → Type 0
  IsLegalFrom after reply None es = ⊥
  IsLegalFrom after reply (Some s) es = IsLegal after reply s es

  -- there is an opening state, and t is the state after the calls
  abbrev pub IsStateAfter : (S → E → S) → Option S → List (Entry M E R W S) → S → Type 0
  IsStateAfter after None es t = ⊥
  IsStateAfter after (Some s) es t = t ≡ state_after after s es

  -- there is an opening state, and w is the view of the state after the calls
  abbrev pub IsViewAfter : (S → E → S) → (S → W) → Option S → List (Entry M E R W S) → W → Type 0
  IsViewAfter after shown None es w = ⊥
  IsViewAfter after shown (Some s) es w = w ≡ shown (state_after after s es)

  -- the calls of one caller, in order
  abbrev pub calls_of : ℕ → List (Entry M E R W S) → List (Entry M E R W S)
  calls_of n [] = []
  calls_of n (e ∷ es) = if e.caller == n then e ∷ calls_of n es else calls_of n es
