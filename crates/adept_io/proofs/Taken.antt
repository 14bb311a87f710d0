-- Several reads in a row.
use Rattle.std.proofs.{Common.{◌≡◌, ℕ, ◌+◌, ◌≤◌, List, ◌++◌, take, length, Option, Result, Ok, Err, length-append, arith}, lemmas.List.length-take, KnownBytes.Consumes-trans}
use Rattle.std.specs.{Prelude.OnErr, Io.KnownBytes.Consumes}
use Rattle.adept_io.specs.Read.{ConsumesMany, ConsumesUpTo}

-- bytes that were read before, and the next piece
pub ConsumesMany-then : (a b c : Option (List ℕ)) (front buffer : List ℕ) (n all : ℕ) →
    Consumes a b front → Consumes b c (take n buffer) → n ≤ length buffer → length front + n ≡ all → ConsumesMany a c all
ConsumesMany-then a b c front buffer n all first second within sum =
    (front ++ take n buffer, Consumes-trans a b c front (take n buffer) first second, omega (arith, length-append front (take n buffer), length-take n buffer))

-- the same, below a bound
pub ConsumesUpTo-then : (a b c : Option (List ℕ)) (front buffer : List ℕ) (n bound : ℕ) →
    Consumes a b front → Consumes b c (take n buffer) → n ≤ length buffer → length front + n ≤ bound → ConsumesUpTo a c bound
ConsumesUpTo-then a b c front buffer n bound first second within below =
    (front ++ take n buffer, Consumes-trans a b c front (take n buffer) first second, omega (arith, length-append front (take n buffer), length-take n buffer))

-- what holds anyway holds at an error
pub OnErr-from : {T E : Type 0} (P : Type 0) (r : Result T E) → P → OnErr r P
OnErr-from P (Ok x) p = tt
OnErr-from P (Err e) p = p
