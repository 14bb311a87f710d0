-- The records behind the header's, worked one after another.
use Rattle.std.specs.Prelude.{◌≡◌, ℕ, List, [], ◌∷◌, ◌++◌}
use Rattle.file_words.specs.Lines.{Bytes}
use Rattle.store_disk.specs.{Image.{framed, frames_from}, Rest.EndsAt}
use Rattle.talk_rules.specs.Units.{UnitRules, header}
use Rattle.talk_server.specs.{Opening.{damaged_at, holds, opened_from}, declared.faults.ServeFault.ServeFault}
use Rattle.talk_server.specs.declared.faults.ServeFault.TheVariants as fault
use Rattle.turn_loop.specs.declared.faults.TalkFault.TheVariants as cut

-- they were taken, up to a gate
pub record IsHeld {H : Type 0} (rules : UnitRules) (keeps : H → List Bytes → Type 0) (records : List ℕ) (state : H) (gate : ℕ) : Type 0 where
  pub units : List Bytes
  pub kept : keeps state units
  pub told : opened_from rules [] (frames_from 13 0 records) ≡ holds units gate
  pub ends : EndsAt (framed header ++ records) (header ∷ units) gate

-- or they were not
abbrev pub TellsDamage : UnitRules → List ℕ → ServeFault → Type 0
TellsDamage rules records (fault.Damaged place) = opened_from rules [] (frames_from 13 0 records) ≡ damaged_at place
TellsDamage rules records e = e ≡ fault.Talk cut.NoMemory
