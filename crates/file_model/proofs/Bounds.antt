-- How large a file that is read can be.
use Rattle.file_model.proofs.Common.{[], ℕ, ◌+◌, ◌==◌, ◌∷◌, ◌≡◌, ap, arith, at_line, Bool, Bytes, Contents, declaration_line, declared, declares, Err, false, File, file_limits, file_of, file_up_to, finished, finished_in, first_long}
use Rattle.file_model.proofs.Common.{fitting, formed, header, IfOk, if◌then◌else◌, in_format, is_skipped, is_utf8, IsBounded, length, Limits, lines_of, List, nat_le, None, Ok, opening, operated, operation_line, Option, read_from, refl}
use Rattle.file_model.proofs.Common.{Refused, script_line, scripted, Section, Some, State, Step, step, step_in, step_outside, step_words, subst, TooLong, true, type_line, typed, unless_long, unless_not_text, Why, without_return, words_of}
use Rattle.file_model.proofs.{Kept.{CountsKept, KeptIn, KeptState, KeptStep, all_effort}, LimitsStay.step-with, KeptByLines.{declared-kept, typed-kept, scripted-kept, operated-kept}}
use Rattle.std.proofs.Common.{Result}
use Rattle.file_model.specs.declared.refusals.Why.TheVariants as why
use Rattle.file_model.specs.declared.states.Section.TheVariants as section

-- ---- a line
if-kept : (test : Bool) (s o : Step) → KeptStep s → KeptStep o → KeptStep (if test then s else o)
if-kept true s o h k = h
if-kept false s o h k = k

long-kept : (l : Option TooLong) (c : Contents) (s : Step) → KeptStep s → KeptStep (unless_long l c s)
long-kept None c s h = h
long-kept (Some l) c s h = tt

formed-kept : {F : Type 0} (o : Option F) (ws : List Bytes) (go : F → Step) (c : Contents) → ((f : F) → KeptStep (go f)) → KeptStep (formed o ws go c)
formed-kept None ws go c h = tt
formed-kept (Some f) ws go c h = long-kept (first_long ws) c (go f) (h f)

text-kept : (test : Bool) (c : Contents) (s : Step) → KeptStep s → KeptStep (unless_not_text test c s)
text-kept true c s h = h
text-kept false c s h = tt

format-kept : (newest : ℕ) (o : Option ℕ) (c : Contents) → CountsKept c 0 → KeptStep (in_format newest o c)
format-kept newest None c h = tt
format-kept newest (Some n) c h = if-kept (nat_le n newest) _ _ h tt

outside-kept : (at : ℕ) (ws : List Bytes) (c : Contents) → CountsKept c 0 → KeptStep (step_outside at ws c)
outside-kept at ws c h =
    if-kept (declares ws c) _ _ (formed-kept (declaration_line c.format ws) ws (λ d. declared d c) c (λ d. declared-kept d c h))
    (formed-kept (script_line c.format ws) ws (λ l. scripted l at c) c (λ l. scripted-kept l at c h))

step_in-kept : (p : Section) (at : ℕ) (line : Bytes) (ws : List Bytes) (c : Contents) → KeptIn p c → KeptStep (step_in p at line ws c)
step_in-kept (section.Head newest) at line ws c h = format-kept newest (header ws) c h
step_in-kept section.Outside at line ws c h = text-kept (is_utf8 line) c _ (outside-kept at ws c h)
step_in-kept (section.InType d) at line ws c h =
    text-kept (is_utf8 line) c _ (formed-kept (fitting d (type_line c.format ws)) ws (λ l. typed l d c) c (λ l. typed-kept l d c h))
step_in-kept (section.InGroup g) at line ws c h =
    text-kept (is_utf8 line) c _ (formed-kept (operation_line c.format ws) ws (λ l. operated l g c) c (λ l. operated-kept l g c h.0 h.1))

step-kept : (s : State) (at : ℕ) (line : Bytes) (ws : List Bytes) → KeptState s → KeptStep (step_words s at line ws)
step-kept s at line ws h = if-kept (is_skipped ws) (Ok s) (step_in s.place at line ws s.contents) h (step_in-kept s.place at line ws s.contents h)

-- ---- the end of a file
-- where no more may be declared than in a file
abbrev OfFile : State → Type 0
OfFile s = KeptState s × (s.contents.limits ≡ file_limits)

bounded : (c : Contents) → CountsKept c 0 → c.limits ≡ file_limits → IsBounded (file_of c)
bounded c h is =
    let most : c.limits.types ≡ 64 = ap (λ (l : Limits). l.types) is in
    record { types = omega (arith, h.few, most); small = h.small; effort = omega (arith, h.within, h.effort, all_effort c.current c.phases) }

finished_in-bounded : (p : Section) (c : Contents) → KeptIn p c → c.limits ≡ file_limits → IfOk (finished_in p c) IsBounded
finished_in-bounded (section.Head newest) c h is = tt
finished_in-bounded section.Outside c h is = bounded c h is
finished_in-bounded (section.InType d) c h is = tt
finished_in-bounded (section.InGroup g) c h is = tt

ended-bounded : (test : Bool) (s : State) → OfFile s → IfOk (if test then finished_in s.place s.contents else Err (why.Unended, s.contents)) IsBounded
ended-bounded true s h = finished_in-bounded s.place s.contents h.0 h.1
ended-bounded false s h = tt

-- ---- all lines
at_line-holds : {T : Type 0} (P : T → Type 0) (at : ℕ) (o : Result T (Why × Contents)) → IfOk o P → IfOk (at_line at o) P
at_line-holds P at (Ok x) h = h
at_line-holds P at (Err p) h = tt

read_from-bounded : (o : Result State Refused) (at : ℕ) (left : Bytes) (ls : List Bytes) → IfOk o OfFile → IfOk (read_from o at left ls) IsBounded
read_from-bounded (Err r) at left ls h = tt
read_from-bounded (Ok s) at left [] h = at_line-holds IsBounded at (finished s left) (ended-bounded (length left == 0) s h)
read_from-bounded (Ok s) at left (l ∷ ls) h =
    let line = without_return l in
    read_from-bounded (at_line at (step s at line)) (at + 1) left ls
    (at_line-holds OfFile at (step s at line) (step-with KeptState file_limits s at line (words_of line) (step-kept s at line (words_of line) h.0) h.1))

-- a file that is read is bounded
pub file-bounded : (newest : ℕ) (bytes : Bytes) (f : File) → file_up_to newest bytes ≡ Ok f → IsBounded f
file-bounded newest bytes f is =
    subst (λ (o : Result File Refused). IfOk o IsBounded) is
    (read_from-bounded (Ok (opening newest)) 1 (lines_of bytes).left (lines_of bytes).ended (record { few = omega arith; small = refl; within = omega arith; effort = omega arith }, refl))
