-- An answer while it is written.
use Rattle.std.specs.Prelude.{◌≡◌, ℕ, Bool, nat_le, nat_lt, [], length, Option, Some, None, if◌then◌else◌}
use Rattle.file_words.specs.Lines.{Bytes}
use Rattle.talk_state.specs.declared.limits.TheConstants.{MAX_ANSWER}

-- what was put, and how many calls lacked memory
pub record Answering : Type 0 where
  pub put : Bytes
  pub faults : ℕ

-- whether it has more bytes than the answer to a question may have
abbrev pub is_over : Bytes → Bool
is_over put = nat_lt MAX_ANSWER (length put)

abbrev pub if_fits : Bytes → Option Bytes
if_fits put = if nat_le (length put) MAX_ANSWER then Some put else None

-- all of it is kept, or nothing where it is too much
pub record IsKept (text put : Bytes) (over : Bool) : Type 0 where
  pub kept : text ≡ (if over then [] else put)
  pub told : over ≡ is_over put
