-- Positions that rise from 1 on, below the next one.
use Rattle.std.proofs.{Common.{◌≡◌, ℕ, suc, ◌+◌, ◌≤◌, true, List, [], ◌∷◌, arith}, lemmas.Bool.lt-ltb}
use Rattle.std.specs.Prelude.{nat_lt}
use Rattle.wsm_marks.specs.Fits.{RisesAfter, last_position}
use Rattle.wsm_schema.specs.declared.entries.Entry.{Entry}
use Rattle.wsm_trail.specs.TrailWithRoom.{Rises}

pub rises-after : (low next : ℕ) (es : List (ℕ × Entry)) → Rises (low + 1) next es → RisesAfter low es
rises-after low next [] h = tt
rises-after low next (e ∷ es) h = (lt-ltb low e.0 (omega (arith, h.0)), rises-after e.0 next es h.1)

pub last-below : (low next : ℕ) (es : List (ℕ × Entry)) → Rises (low + 1) next es → nat_lt (last_position low es) next ≡ true
last-below low next [] h = lt-ltb low next (omega (arith, h))
last-below low next (e ∷ es) h = last-below e.0 next es h.1
