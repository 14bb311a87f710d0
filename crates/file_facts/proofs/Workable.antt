-- What holds of each file that is read.
use Rattle.file_facts.proofs.Common.{[], ℕ, ◌+◌, ◌==◌, ◌∷◌, ◌≡◌, ap, arith, at_line, Bool, Bytes, Contents, declaration_line, declared, declares, Err, false, File, file, file_limits, file_of, file_up_to, finished, finished_in, first_long}
use Rattle.file_facts.proofs.Common.{fitting, formed, header, IfOk, if◌then◌else◌, in_format, is_skipped, is_utf8, IsWorkable, length, Limits, lines_of, List, nat_le, None, Ok, opening, operated, operation_line, Option, read_from, refl}
use Rattle.file_facts.proofs.Common.{Refused, Result, script_line, scripted, Section, slice_get_within, Some, State, Step, step, step_in, step_outside, step_words, subst, TooLong, true, type_line, typed, unless_long, unless_not_text, Why}
use Rattle.file_facts.proofs.{Common.{without_return, words_of}, Held.{Script, HeldIn, HeldState, HeldStep}, HeldByDeclarations.{declared-held, phase-ended, typed-held}, HeldByScript.{scripted-held, operated-held}}
use Rattle.file_model.specs.Sizes.{IsBounded}
use Rattle.file_model.specs.declared.refusals.Why.TheVariants as why
use Rattle.file_model.specs.declared.states.Section.TheVariants as section
use Rattle.file_model.proofs.{Bounds.file-bounded, LimitsStay.step-with}

-- ---- a line
if-held : (test : Bool) (s o : Step) → HeldStep s → HeldStep o → HeldStep (if test then s else o)
if-held true s o h k = h
if-held false s o h k = k

long-held : (l : Option TooLong) (c : Contents) (s : Step) → HeldStep s → HeldStep (unless_long l c s)
long-held None c s h = h
long-held (Some l) c s h = tt

formed-held : {F : Type 0} (o : Option F) (ws : List Bytes) (go : F → Step) (c : Contents) → ((f : F) → HeldStep (go f)) → HeldStep (formed o ws go c)
formed-held None ws go c h = tt
formed-held (Some f) ws go c h = long-held (first_long ws) c (go f) (h f)

text-held : (test : Bool) (c : Contents) (s : Step) → HeldStep s → HeldStep (unless_not_text test c s)
text-held true c s h = h
text-held false c s h = tt

format-held : (newest : ℕ) (o : Option ℕ) (c : Contents) → Script c 0 → HeldStep (in_format newest o c)
format-held newest None c h = tt
format-held newest (Some n) c h = if-held (nat_le n newest) _ _ h tt

outside-held : (at : ℕ) (ws : List Bytes) (c : Contents) → Script c 0 → HeldStep (step_outside at ws c)
outside-held at ws c h =
    if-held (declares ws c) _ _ (formed-held (declaration_line c.format ws) ws (λ d. declared d c) c (λ d. declared-held d c h))
    (formed-held (script_line c.format ws) ws (λ l. scripted l at c) c (λ l. scripted-held l at c h))

step_in-held : (p : Section) (at : ℕ) (line : Bytes) (ws : List Bytes) (c : Contents) → HeldIn p c → HeldStep (step_in p at line ws c)
step_in-held (section.Head newest) at line ws c h = format-held newest (header ws) c h
step_in-held section.Outside at line ws c h = text-held (is_utf8 line) c _ (outside-held at ws c h)
step_in-held (section.InType d) at line ws c h =
    text-held (is_utf8 line) c _ (formed-held (fitting d (type_line c.format ws)) ws (λ l. typed l d c) c (λ l. typed-held l d c h))
step_in-held (section.InGroup g) at line ws c h =
    text-held (is_utf8 line) c _ (formed-held (operation_line c.format ws) ws (λ l. operated l g c) c (λ l. operated-held l g c h.0 h.1))

step-held : (s : State) (at : ℕ) (line : Bytes) (ws : List Bytes) → HeldState s → HeldStep (step_words s at line ws)
step-held s at line ws h = if-held (is_skipped ws) (Ok s) (step_in s.place at line ws s.contents) h (step_in-held s.place at line ws s.contents h)

-- ---- the end of a file
-- the sizes of the types come from another lemma
abbrev IsReady : File → Type 0
IsReady f = IsBounded f → IsWorkable f

-- where no more may be declared than in a file
abbrev OfFile : State → Type 0
OfFile s = HeldState s × (s.contents.limits ≡ file_limits)

all-ready : (c : Contents) → Script c 0 → c.limits ≡ file_limits → IsReady (file_of c)
all-ready c h is b =
    let all = phase-ended c.limits c.types c.actors c.cases c.phases c.counts.lines c.current h in
    let declared = h.declared in
    let types : c.limits.types ≡ 64 = ap (λ (l : Limits). l.types) is in
    let actors : c.limits.actors ≡ 32 = ap (λ (l : Limits). l.actors) is in
    let cases : c.limits.cases ≡ 4096 = ap (λ (l : Limits). l.cases) is in
    record {
      types = omega (arith, declared.few_types, types);
      actors = omega (arith, declared.few_actors, actors);
      cases = omega (arith, declared.few_cases, cases);
      lines = let counted = all.all_counted in omega (arith, counted, all.within);
      small = b.small;
      sound = declared.sound;
      typed = declared.typed;
      placed = declared.placed;
      known = all.known_phases;
    }

finished_in-ready : (p : Section) (c : Contents) → HeldIn p c → c.limits ≡ file_limits → IfOk (finished_in p c) IsReady
finished_in-ready (section.Head newest) c h is = tt
finished_in-ready section.Outside c h is = all-ready c h is
finished_in-ready (section.InType d) c h is = tt
finished_in-ready (section.InGroup g) c h is = tt

ended-ready : (test : Bool) (s : State) → OfFile s → IfOk (if test then finished_in s.place s.contents else Err (why.Unended, s.contents)) IsReady
ended-ready true s h = finished_in-ready s.place s.contents h.0 h.1
ended-ready false s h = tt

-- ---- all lines
at_line-holds : {T : Type 0} (P : T → Type 0) (at : ℕ) (o : Result T (Why × Contents)) → IfOk o P → IfOk (at_line at o) P
at_line-holds P at (Ok x) h = h
at_line-holds P at (Err p) h = tt

read_from-ready : (o : Result State Refused) (at : ℕ) (left : Bytes) (ls : List Bytes) → IfOk o OfFile → IfOk (read_from o at left ls) IsReady
read_from-ready (Err r) at left ls h = tt
read_from-ready (Ok s) at left [] h = at_line-holds IsReady at (finished s left) (ended-ready (length left == 0) s h)
read_from-ready (Ok s) at left (l ∷ ls) h =
    let line = without_return l in
    read_from-ready (at_line at (step s at line)) (at + 1) left ls
    (at_line-holds OfFile at (step s at line) (step-with HeldState file_limits s at line (words_of line) (step-held s at line (words_of line) h.0) h.1))

opening-held : (newest : ℕ) → HeldState (opening newest)
opening-held newest = record {
  declared = record {
    type_names = omega arith;
    actor_names = omega arith;
    few_types = omega arith;
    few_actors = omega arith;
    few_cases = omega arith;
    sound = tt;
    typed = tt;
    placed = λ k d at. absurd (omega (arith, slice_get_within [] k d at));
  };
  within = omega arith;
  all_counted = omega arith;
  known_phases = tt;
  known_lines = tt;
}

file-ready : (newest : ℕ) (bytes : Bytes) (f : File) → file_up_to newest bytes ≡ Ok f → IsReady f
file-ready newest bytes f is =
    subst (λ (o : Result File Refused). IfOk o IsReady) is (read_from-ready (Ok (opening newest)) 1 (lines_of bytes).left (lines_of bytes).ended (opening-held newest, refl))

-- the lines of a file that is read can be worked
pub file_up_to-workable : (newest : ℕ) (bytes : Bytes) (f : File) → file_up_to newest bytes ≡ Ok f → IsWorkable f
file_up_to-workable newest bytes f is = file-ready newest bytes f is (file-bounded newest bytes f is)

pub file-workable : (bytes : Bytes) (f : File) → file bytes ≡ Ok f → IsWorkable f
file-workable bytes f is = file_up_to-workable 3 bytes f is
