-- The commands: their words, the run that each leaves of a file, and what it writes.
use Rattle.std.specs.Prelude.{ℕ, ◌≡◌, Bool, ◌&&◌, nat_lt, nat_le, List, [], ◌∷◌, Option, Some, None, option_map, if◌then◌else◌, codes, bytes_eq}
use Rattle.adept_load.specs.Load.{load_text}
use Rattle.adept_top.specs.declared.words.Command.{Command}
use Rattle.adept_top.specs.declared.words.Command.TheVariants as command
use Rattle.file_limits.specs.declared.TheConstants.{MAX_CASES}
use Rattle.file_words.specs.Numbers.{are_digits, value_from}
use Rattle.legal_run.specs.Legal.{Legal}
use Rattle.file_model.specs.declared.files.File.{File}
use Rattle.report_text.specs.{Check.check_text, Report.{text, summary}}
use Rattle.script_run.specs.{Serial.serial, Verdicts.verdicts, declared.runs.Run.Run}

abbrev pub command_word : List ℕ → Option Command
command_word w =
    if bytes_eq w (codes "run") then Some command.Run
    else (if bytes_eq w (codes "play") then Some command.Play
    else (if bytes_eq w (codes "check") then Some command.Check else None))

-- how many cases a word asks for: from 1, in at most four digits
abbrev pub is_case_count : List ℕ → Bool
is_case_count w = are_digits 4 w && nat_lt 0 (value_from 0 w) && nat_le (value_from 0 w) MAX_CASES

abbrev pub case_count : List ℕ → Option ℕ
case_count w = if is_case_count w then Some (value_from 0 w) else None

-- `load` and a number
abbrev pub load_words : List ℕ → List ℕ → Option Command
load_words w v = if bytes_eq w (codes "load") then option_map command.Load (case_count v) else None

-- a command is one word, and `load` is two
abbrev pub command_of : List (List ℕ) → Option Command
command_of [] = None
command_of (w ∷ []) = command_word w
command_of (w ∷ v ∷ []) = load_words w v
command_of (w ∷ v ∷ u ∷ us) = None

-- how many cases a command makes; all but `load` read their file
abbrev pub load_size : Command → Option ℕ
load_size (command.Load n) = Some n
load_size _ = None

-- the bytes of the file that is worked: those that are made, or what the source tells
abbrev pub input : Option ℕ → Option (List ℕ) → Option (List ℕ)
input None left = left
input (Some n) left = Some (load_text n)

-- the run that a command leaves of a file: of `run` and `load` any legal one, of `play` the serial one, which is legal
abbrev pub IsRunOf : Command → File → Option Run → Type 0
IsRunOf command.Run f None = ⊥
IsRunOf command.Run f (Some r) = Legal f r
IsRunOf command.Play f None = ⊥
IsRunOf command.Play f (Some r) = (r ≡ serial f) × Legal f r
IsRunOf command.Check f run = run ≡ None
IsRunOf (command.Load n) f None = ⊥
IsRunOf (command.Load n) f (Some r) = Legal f r

-- the report of a run, if there is one
abbrev pub report_of : File → Option Run → List ℕ
report_of f None = []
report_of f (Some r) = text f r

-- the last line of that report
abbrev pub summary_of : File → Option Run → List ℕ
summary_of f None = []
summary_of f (Some r) = summary f r

-- what a command writes that leaves this run
abbrev pub output : Command → File → Option Run → List ℕ
output command.Run f run = report_of f run
output command.Play f run = report_of f run
output command.Check f run = check_text f (verdicts f)
output (command.Load n) f run = summary_of f run
