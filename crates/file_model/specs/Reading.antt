-- What the bytes of a process file say: a file, or the first refusal.
use Rattle.std.specs.{Prelude.{ℕ, ◌+◌, length, ◌==◌, nat_le, Bool, true, false, not, List, [], ◌∷◌, Option, Some, None, Result, Ok, Err, if◌then◌else◌}, Option.is_some, Str.is_utf8}
use Rattle.file_limits.specs.declared.TheConstants.{NEWEST_FORMAT}
use Rattle.file_words.specs.{Lines.{Bytes, lines_of, without_return}, Words.{words_of, is_skipped}, Lengths.first_long, declared.lengths.TooLong.TooLong}
use Rattle.file_words.specs.declared.lengths.TooLong.TheVariants as long
use Rattle.file_forms.specs.{Forms.TypeLine, DeclarationForms.{begins_reserved, header, declaration_line}, TypeForms.type_line, ScriptForms.script_line, OperationForms.operation_line}
use Rattle.file_drafts.specs.{Drafts.around, declared.drafts.Draft.Draft}
use Rattle.file_model.specs.{RefusalTexts.refusal, Steps.{State, Step, all_phases, opening, outside, refuse}, Declaring.declared, Typing.{fits_in, typed}, Scripting.scripted, Operating.operated, declared.files.File.File}
use Rattle.file_model.specs.{declared.refusals.Refused.Refused, declared.refusals.Why.Why, declared.states.Contents.Contents, declared.states.Section.Section}
use Rattle.file_model.specs.declared.refusals.FileLimit.TheVariants as limit
use Rattle.file_model.specs.declared.refusals.Why.TheVariants as why
use Rattle.file_model.specs.declared.states.Section.TheVariants as section

-- a name or a text of the line is too long
abbrev pub why_long : TooLong → Why
why_long long.Name = why.Limit limit.Name
why_long long.Text = why.Limit limit.Text

abbrev pub unless_long : Option TooLong → Contents → Step → Step
unless_long None c s = s
unless_long (Some l) c s = refuse c (why_long l)

-- a line has a form first, then nothing too long, and then a meaning
abbrev pub formed : {F : Type 0} → Option F → List Bytes → (F → Step) → Contents → Step
formed None ws go c = refuse c why.Form
formed (Some f) ws go c = unless_long (first_long ws) c (go f)

-- a line of a type has a form only where it may stand
abbrev pub fitting : Draft → Option TypeLine → Option TypeLine
fitting d None = None
fitting d (Some l) = if fits_in (around d.frames) l then Some l else None

-- a format up to the newest one
abbrev pub in_format : ℕ → Option ℕ → Contents → Step
in_format newest None c = refuse c why.Header
in_format newest (Some n) c = if nat_le n newest then Ok (outside (record c { format = n })) else refuse c why.Header

abbrev pub headed : ℕ → List Bytes → Contents → Step
headed newest ws c = in_format newest (header ws) c

-- whether a line outside of types and groups is no script line: in format 3 its first word tells, and else no phase has begun
abbrev pub declares : List Bytes → Contents → Bool
declares ws c = if c.format == 3 then begins_reserved ws else not (is_some c.current)

abbrev pub step_outside : ℕ → List Bytes → Contents → Step
step_outside at ws c =
    if declares ws c then formed (declaration_line c.format ws) ws (λ d. declared d c) c
    else formed (script_line c.format ws) ws (λ l. scripted l at c) c

abbrev pub unless_not_text : Bool → Contents → Step → Step
unless_not_text true c s = s
unless_not_text false c s = refuse c why.NotText

-- a line that is not skipped, by where it stands
abbrev pub step_in : Section → ℕ → Bytes → List Bytes → Contents → Step
step_in (section.Head newest) at line ws c = headed newest ws c
step_in section.Outside at line ws c = unless_not_text (is_utf8 line) c (step_outside at ws c)
step_in (section.InType d) at line ws c =
    unless_not_text (is_utf8 line) c (formed (fitting d (type_line c.format ws)) ws (λ l. typed l d c) c)
step_in (section.InGroup g) at line ws c =
    unless_not_text (is_utf8 line) c (formed (operation_line c.format ws) ws (λ l. operated l g c) c)

abbrev pub step_words : State → ℕ → Bytes → List Bytes → Step
step_words s at line ws = if is_skipped ws then Ok s else step_in s.place at line ws s.contents

abbrev pub step : State → ℕ → Bytes → Step
step s at line = step_words s at line (words_of line)

abbrev pub file_of : Contents → File
file_of c = record {
  format = c.format;
  nodes = c.nodes;
  elements = c.elements;
  roles = c.roles;
  types = c.types.items;
  actors = c.actors.items;
  cases = c.cases.items;
  phases = all_phases c;
}

-- a file may end outside of types and groups
abbrev pub finished_in : Section → Contents → Result File (Why × Contents)
finished_in (section.Head newest) c = Err (why.Header, c)
finished_in section.Outside c = Ok (file_of c)
finished_in (section.InType d) c = Err (why.Unended, c)
finished_in (section.InGroup g) c = Err (why.Unended, c)

-- nothing stands behind the last line feed
abbrev pub finished : State → Bytes → Result File (Why × Contents)
finished s left = if length left == 0 then finished_in s.place s.contents else Err (why.Unended, s.contents)

abbrev pub refused : ℕ → Why → Contents → Refused
refused at w c = refusal c.nodes c.elements at w

abbrev pub at_line : {T : Type 0} → ℕ → Result T (Why × Contents) → Result T Refused
at_line at (Ok x) = Ok x
at_line at (Err p) = Err (refused at p.0 p.1)

-- lines one after another, from a line with this number on
abbrev pub read_from : Result State Refused → ℕ → Bytes → List Bytes → Result File Refused
read_from (Err r) at left ls = Err r
read_from (Ok s) at left [] = at_line at (finished s left)
read_from (Ok s) at left (l ∷ ls) = read_from (at_line at (step s at (without_return l))) (at + 1) left ls

-- the file that the bytes stand for, or the first refusal, where formats up to this one are taken
abbrev pub file_up_to : ℕ → Bytes → Result File Refused
file_up_to newest bytes = read_from (Ok (opening newest)) 1 (lines_of bytes).left (lines_of bytes).ended

-- the same, of every format
abbrev pub file : Bytes → Result File Refused
file bytes = file_up_to NEWEST_FORMAT bytes
