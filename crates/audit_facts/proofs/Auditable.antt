-- What holds of each file that is read.
use Rattle.audit_facts.proofs.Common.{[], ℕ, ◌+◌, ◌==◌, ◌∷◌, ◌≡◌, around, Bool, Bytes, Contents, declaration_line, declared, Draft, Err, false, fits_in, header, IfOk, IfSome, IsAuditable, length, lines_of, List, nat_le, None, Ok, opening}
use Rattle.audit_facts.proofs.{Common.{operated, operation_line, Option, refl, Result, script_line, scripted, Some, State, Step, subst, true, type_line, typed, TypeLine, Why, without_return}, Named.{Named, NamedState, NamedStep}}
use Rattle.audit_facts.proofs.{Named.phases-named, NamedByLines.{declared-named, operated-named, scripted-named, typed-named}, NamedForms.{NamedTypeLine, declaration-named, operation-named, script_line-named, type_line-named}}
use Rattle.std.specs.{Prelude.if◌then◌else◌, Str.is_utf8}
use Rattle.file_words.specs.{Words.{words_of, is_skipped}, Lengths.first_long, declared.lengths.TooLong.TooLong}
use Rattle.file_model.specs.{Reading.{in_format, unless_long, formed, fitting, unless_not_text, declares, step_outside, step_in, step_words, step, finished_in, finished, at_line, read_from, file}, declared.files.File.File}
use Rattle.file_model.specs.{declared.refusals.Refused.Refused, declared.states.Section.Section}
use Rattle.file_model.specs.declared.refusals.Why.TheVariants as why
use Rattle.file_model.specs.declared.states.Section.TheVariants as section

-- ---- a line
if-named : (test : Bool) (s o : Step) → NamedStep s → NamedStep o → NamedStep (if test then s else o)
if-named true s o h k = h
if-named false s o h k = k

long-named : (l : Option TooLong) (c : Contents) (s : Step) → NamedStep s → NamedStep (unless_long l c s)
long-named None c s h = h
long-named (Some l) c s h = tt

formed-named : {F : Type 0} (P : F → Type 0) (o : Option F) (ws : List Bytes) (go : F → Step) (c : Contents) → IfSome o P → ((f : F) → P f → NamedStep (go f)) → NamedStep (formed o ws go c)
formed-named P None ws go c is h = tt
formed-named P (Some f) ws go c is h = long-named (first_long ws) c (go f) (h f is)

text-named : (test : Bool) (c : Contents) (s : Step) → NamedStep s → NamedStep (unless_not_text test c s)
text-named true c s h = h
text-named false c s h = tt

fitting-named : (d : Draft) (o : Option TypeLine) → IfSome o NamedTypeLine → IfSome (fitting d o) NamedTypeLine
fitting-named d None h = tt
fitting-named d (Some l) h = by (fits_in (around d.frames) l)
  where
    by : (test : Bool) → IfSome (if test then Some l else None) NamedTypeLine
    by true = h
    by false = tt

format-named : (newest : ℕ) (o : Option ℕ) (c : Contents) → Named c → NamedStep (in_format newest o c)
format-named newest None c h = tt
format-named newest (Some n) c h = if-named (nat_le n newest) _ _ h tt

outside-named : (at : ℕ) (ws : List Bytes) (c : Contents) → Named c → NamedStep (step_outside at ws c)
outside-named at ws c h =
    if-named (declares ws c) _ _
    (formed-named _ (declaration_line c.format ws) ws (λ d. declared d c) c (declaration-named c.format ws) (λ d named. declared-named d c named h))
    (formed-named _ (script_line c.format ws) ws (λ l. scripted l at c) c (script_line-named c.format ws) (λ l named. scripted-named l at c named h))

step_in-named : (p : Section) (at : ℕ) (line : Bytes) (ws : List Bytes) (c : Contents) → Named c → NamedStep (step_in p at line ws c)
step_in-named (section.Head newest) at line ws c h = format-named newest (header ws) c h
step_in-named section.Outside at line ws c h = text-named (is_utf8 line) c _ (outside-named at ws c h)
step_in-named (section.InType d) at line ws c h =
    text-named (is_utf8 line) c _ (formed-named _ (fitting d (type_line c.format ws)) ws (λ l. typed l d c) c (fitting-named d (type_line c.format ws) (type_line-named c.format ws)) (λ l named. typed-named l d c named h))
step_in-named (section.InGroup g) at line ws c h =
    text-named (is_utf8 line) c _ (formed-named _ (operation_line c.format ws) ws (λ l. operated l g c) c (operation-named c.format ws) (λ l named. operated-named l g c named h))

step-named : (s : State) (at : ℕ) (line : Bytes) (ws : List Bytes) → NamedState s → NamedStep (step_words s at line ws)
step-named s at line ws h = if-named (is_skipped ws) (Ok s) (step_in s.place at line ws s.contents) h (step_in-named s.place at line ws s.contents h)

-- ---- the end of a file
finished_in-auditable : (p : Section) (c : Contents) → Named c → IfOk (finished_in p c) IsAuditable
finished_in-auditable (section.Head newest) c h = tt
finished_in-auditable section.Outside c h = record { nodes = h.nodes; elements = h.elements; roles = h.roles; actors = h.actors; apart = h.apart; writes = phases-named c h }
finished_in-auditable (section.InType d) c h = tt
finished_in-auditable (section.InGroup g) c h = tt

ended-auditable : (test : Bool) (s : State) → NamedState s → IfOk (if test then finished_in s.place s.contents else Err (why.Unended, s.contents)) IsAuditable
ended-auditable true s h = finished_in-auditable s.place s.contents h
ended-auditable false s h = tt

-- ---- all lines
at_line-named : {T : Type 0} (P : T → Type 0) (at : ℕ) (o : Result T (Why × Contents)) → IfOk o P → IfOk (at_line at o) P
at_line-named P at (Ok x) h = h
at_line-named P at (Err p) h = tt

read_from-auditable : (o : Result State Refused) (at : ℕ) (left : Bytes) (ls : List Bytes) → IfOk o NamedState → IfOk (read_from o at left ls) IsAuditable
read_from-auditable (Err r) at left ls h = tt
read_from-auditable (Ok s) at left [] h = at_line-named IsAuditable at (finished s left) (ended-auditable (length left == 0) s h)
read_from-auditable (Ok s) at left (l ∷ ls) h =
    let line = without_return l in
    read_from-auditable (at_line at (step s at line)) (at + 1) left ls (at_line-named NamedState at (step s at line) (step-named s at line (words_of line) h))

opening-named : NamedState (opening 3)
opening-named = record { nodes = (refl, (refl, tt)); elements = tt; roles = tt; actors = tt; names = refl; apart = λ i j d e at_i at_j same. absurd (cc (at_i)); writes = tt; written = tt }

-- reports of a file that is read can be judged
pub file-auditable : (bytes : Bytes) (f : File) → file bytes ≡ Ok f → IsAuditable f
file-auditable bytes f is =
    subst (λ (o : Result File Refused). IfOk o IsAuditable) is (read_from-auditable (Ok (opening 3)) 1 (lines_of bytes).left (lines_of bytes).ended opening-named)
