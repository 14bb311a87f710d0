-- The text of a refusal.
use Rattle.std.specs.Prelude.{ℕ, List, ◌++◌, codes}
use Rattle.file_words.specs.Lines.{Bytes}
use Rattle.fault_words.specs.FaultWords.{fault_text}
use Rattle.file_model.specs.{declared.refusals.FileLimit.FileLimit, declared.refusals.Why.Why, declared.refusals.Refused.Refused}
use Rattle.file_model.specs.declared.refusals.FileLimit.TheVariants as limit
use Rattle.file_model.specs.declared.refusals.Why.TheVariants as why

abbrev pub limit_text : FileLimit → Bytes
limit_text limit.Name = codes "limit name"
limit_text limit.Text = codes "limit text"
limit_text limit.Types = codes "limit types"
limit_text limit.Actors = codes "limit actors"
limit_text limit.Cases = codes "limit cases"
limit_text limit.Phases = codes "limit phases"
limit_text limit.Lines = codes "limit lines"
limit_text limit.Installs = codes "limit installs"
limit_text limit.Ops = codes "limit ops"
limit_text limit.Migrations = codes "limit migrations"
limit_text limit.Roles = codes "limit roles"
limit_text limit.Depth = codes "limit depth"

abbrev pub text_of : List Bytes → List Bytes → Why → Bytes
text_of nodes elements why.Header = codes "header"
text_of nodes elements why.Unended = codes "unended"
text_of nodes elements why.NotText = codes "not-text"
text_of nodes elements why.Form = codes "form"
text_of nodes elements why.Unknown = codes "unknown"
text_of nodes elements why.Twice = codes "twice"
text_of nodes elements (why.Limit l) = limit_text l
text_of nodes elements (why.Unsound f) = codes "unsound" ++ fault_text nodes elements f

abbrev pub refusal : List Bytes → List Bytes → ℕ → Why → Refused
refusal nodes elements at w = record { line = at; why = w; text = text_of nodes elements w }
