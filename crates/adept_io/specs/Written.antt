-- What a sink was given by calls in a row.
use Rattle.std.specs.{Prelude.{◌≡◌, ℕ, Bool, true, false, ◌≤◌, List, ◌++◌, Option}, Io.KnownBytes.Appends}
use Rattle.adept_io.specs.Counts.{Rose}

-- known bytes grow by the first of these, up to some place
pub record AppendsPrefix (old new : Option (List ℕ)) (bytes : List ℕ) : Type 0 where
  pub sent : List ℕ
  pub rest : List ℕ
  pub whole : sent ++ rest ≡ bytes
  pub appends : Appends old new sent

-- A call that goes on only where all went well before, and tells whether all went well after: it writes the bytes, or
-- it fails behind the first of them, or it does nothing.
abbrev pub Gives : {S : Type 0} → (S → Option (List ℕ)) → (S → ℕ) → (before after : Bool) → (old new : S) → List ℕ → Type 0
Gives written faults true true old new bytes = Appends (written old) (written new) bytes × (faults old ≤ faults new)
Gives written faults true false old new bytes = AppendsPrefix (written old) (written new) bytes × Rose (faults old) (faults new)
Gives written faults false true old new bytes = ⊥
Gives written faults false false old new bytes = new ≡ old
