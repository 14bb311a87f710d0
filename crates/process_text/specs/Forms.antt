-- Whether a line has a form, whatever the line then means.
use Rattle.std.specs.{Prelude.{◌≡◌, ℕ, List, Option}, Str.is_utf8}
use Rattle.file_words.specs.Lines.{Bytes}
use Rattle.file_forms.specs.{DeclarationForms.declaration_line, ScriptForms.script_line}
use Rattle.file_model.specs.{Outcomes.Stops, Declaring.declared, Scripting.scripted, Reading.{formed, unless_not_text}, Steps.Step, declared.states.Contents.Contents, declared.states.Stop.Stop}

-- nothing speaks against the line before its meaning
abbrev pub HasForm : {F : Type 0} → Bytes → List Bytes → Option F → F → Type 0
HasForm {F} line ws found form = (go : F → Step) (c : Contents) → unless_not_text (is_utf8 line) c (formed found ws go c) ≡ go form

-- the line stops for this, or for want of memory
abbrev pub LacksForm : {F : Type 0} → Bytes → List Bytes → Option F → Stop → Type 0
LacksForm {F} line ws found stop = (go : F → Step) (c : Contents) → Stops (unless_not_text (is_utf8 line) c (formed found ws go c)) c stop

-- the same of a line that is known to be text
abbrev pub IsFormed : {F : Type 0} → List Bytes → Option F → F → Type 0
IsFormed {F} ws found form = (go : F → Step) (c : Contents) → formed found ws go c ≡ go form

abbrev pub IsNotFormed : {F : Type 0} → List Bytes → Option F → Stop → Type 0
IsNotFormed {F} ws found stop = (go : F → Step) (c : Contents) → Stops (formed found ws go c) c stop

-- what a line outside of types and groups makes of the contents, as a declaration and as a script line
abbrev pub declaration_step : List Bytes → Contents → Step
declaration_step ws c = formed (declaration_line c.format ws) ws (λ d. declared d c) c

abbrev pub script_step : ℕ → List Bytes → Contents → Step
script_step at ws c = formed (script_line c.format ws) ws (λ l. scripted l at c) c
