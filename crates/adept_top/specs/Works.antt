-- What a command makes of a file that was read.
use Rattle.std.specs.{Prelude.{ℕ, ◌≡◌, ◌≢◌, ◌⊎◌, List, Option, None}, Io.KnownBytes.Appends}
use Rattle.adept_io.specs.{Counts.Rose, Written.AppendsPrefix}
use Rattle.adept_top.specs.{Commands.{IsRunOf, output}, declared.outcomes.Outcome.Outcome, declared.words.Command.Command}
use Rattle.file_model.specs.declared.files.File.{File}

-- The command worked the file, and wrote its output to a sink; or a write failed, or there was not enough memory.
pub record Works {K : Type 0} (written : K → Option (List ℕ)) (faults : K → ℕ) (c : Command) (f : File) (old new : K) (o : Outcome) : Type 0 where
  pub statuses : (o.status ≡ 0) ⊎ (o.status ≡ 4) ⊎ (o.status ≡ 5)
  pub done : o.status ≡ 0 → IsRunOf c f o.run × Appends (written old) (written new) (output c f o.run)
  pub begun : o.status ≡ 4 → IsRunOf c f o.run × AppendsPrefix (written old) (written new) (output c f o.run)
  pub unwritten : o.status ≡ 4 → Rose (faults old) (faults new)
  pub untouched : o.status ≢ 0 → o.status ≢ 4 → new ≡ old
  pub no_run : o.status ≢ 0 → o.status ≢ 4 → o.run ≡ None
  pub no_place : o.place ≡ None
