-- What a sink in memory has taken, and how many of its calls failed.
use Rattle.std.specs.Prelude.{ℕ, List}

pub record Grown : Type 0 where
  pub bytes : List ℕ
  pub faults : ℕ
