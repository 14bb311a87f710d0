-- What holds behind each form of a line holds behind each line.
use Rattle.file_units.proofs.Common.{ℕ, Bool, Bytes, Contents, Declaration, declaration_line, declared, declares, Draft, false, first_long, fitting, formed, Group, if_known, IfOk, if◌then◌else◌, is_utf8, List, None, operated}
use Rattle.file_units.proofs.Common.{operation_line, OperationLine, Option, script_line, scripted, ScriptLine, Some, State, Step, step_in, step_outside, TooLong, true, type_line, typed, TypeLine, unless, unless_long, unless_not_text, Why}
use Rattle.file_model.specs.declared.states.Section.TheVariants as section

-- ---- a state behind tests
pub unless-by : (P : State → Type 0) (o : Option Why) (c : Contents) (s : State) → P s → IfOk (unless o c s) P
unless-by P None c s h = h
unless-by P (Some w) c s h = tt

pub known-by : {A : Type 0} (P : State → Type 0) (o : Option A) (go : A → Step) (c : Contents) → ((x : A) → IfOk (go x) P) → IfOk (if_known o go c) P
known-by P None go c h = tt
known-by P (Some x) go c h = h x

pub if-by : (P : State → Type 0) (test : Bool) (s o : Step) → IfOk s P → IfOk o P → IfOk (if test then s else o) P
if-by P true s o h k = h
if-by P false s o h k = k

long-by : (P : State → Type 0) (l : Option TooLong) (c : Contents) (s : Step) → IfOk s P → IfOk (unless_long l c s) P
long-by P None c s h = h
long-by P (Some l) c s h = tt

formed-by : {F : Type 0} (P : State → Type 0) (o : Option F) (ws : List Bytes) (go : F → Step) (c : Contents) → ((f : F) → IfOk (go f) P) → IfOk (formed o ws go c) P
formed-by P None ws go c h = tt
formed-by P (Some f) ws go c h = long-by P (first_long ws) c (go f) (h f)

text-by : (P : State → Type 0) (test : Bool) (c : Contents) (s : Step) → IfOk s P → IfOk (unless_not_text test c s) P
text-by P true c s h = h
text-by P false c s h = tt

-- ---- a line, by where it stands
pub outside-by : (P : State → Type 0) (at : ℕ) (line : Bytes) (ws : List Bytes) (c : Contents) →
    ((d : Declaration) → IfOk (declared d c) P) → ((l : ScriptLine) → IfOk (scripted l at c) P) → IfOk (step_in section.Outside at line ws c) P
outside-by P at line ws c h k =
    text-by P (is_utf8 line) c (step_outside at ws c)
    (if-by P (declares ws c) _ _ (formed-by P (declaration_line c.format ws) ws (λ d. declared d c) c h) (formed-by P (script_line c.format ws) ws (λ l. scripted l at c) c k))

pub type-by : (P : State → Type 0) (d : Draft) (at : ℕ) (line : Bytes) (ws : List Bytes) (c : Contents) → ((l : TypeLine) → IfOk (typed l d c) P) → IfOk (step_in (section.InType d) at line ws c) P
type-by P d at line ws c h = text-by P (is_utf8 line) c _ (formed-by P (fitting d (type_line c.format ws)) ws (λ l. typed l d c) c h)

pub group-by : (P : State → Type 0) (g : Group) (at : ℕ) (line : Bytes) (ws : List Bytes) (c : Contents) → ((l : OperationLine) → IfOk (operated l g c) P) → IfOk (step_in (section.InGroup g) at line ws c) P
group-by P g at line ws c h = text-by P (is_utf8 line) c _ (formed-by P (operation_line c.format ws) ws (λ l. operated l g c) c h)
