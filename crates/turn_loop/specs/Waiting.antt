-- What was read and not yet worked, and what a read makes of it.
use Rattle.std.specs.{Prelude.{◌≡◌, ◌≢◌, ◌⊎◌, ℕ, ◌+◌, ◌≤◌, [], length, Option}, Io.KnownBytes.{Consumes, IsAtEnd}}
use Rattle.turn_loop.specs.{Talk.Bytes, declared.limits.TheConstants.{MAX_INPUT, MAX_READ}}

-- bytes that were read and not yet worked, and how many bytes were read so far
pub record Unworked : Type 0 where
  pub bytes : Bytes
  pub read : ℕ

-- no read was made, since bytes wait
pub record StillWaits (from to : Option Bytes) (before after : Unworked) : Type 0 where
  pub some : before.bytes ≢ []
  pub same : after ≡ before
  pub kept : Consumes from to []

-- nothing waited, and what a read gave waits; where that is nothing, there are no more bytes
pub record ReadAnew (from to : Option Bytes) (before after : Unworked) : Type 0 where
  pub none : before.bytes ≡ []
  pub allowed : before.read ≤ MAX_INPUT
  pub taken : Consumes from to after.bytes
  pub counted : after.read ≡ before.read + length after.bytes
  pub short : length after.bytes ≤ MAX_READ
  pub last : after.bytes ≡ [] → IsAtEnd to

abbrev pub Filled : (from to : Option Bytes) → (before after : Unworked) → Type 0
Filled from to before after = StillWaits from to before after ⊎ ReadAnew from to before after
