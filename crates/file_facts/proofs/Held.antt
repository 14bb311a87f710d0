-- What holds behind each line that is read.
use Rattle.file_facts.proofs.Common.{ℕ, ◌+◌, ◌<◌, ◌≡◌, ◌≤◌, ActorDecl, AllRows, ArePlaced, Bool, CaseDecl, Contents, DeclaredList, false, HasType, if_known, IfOk, IsKnown, IsSound, length, Limits, Line, line_of_group, lines_in, List, None}
use Rattle.file_facts.proofs.Common.{open_lines, Option, option_or, over, refl, Section, Some, State, Step, true, TypeDecl, unless, Why}
use Rattle.file_model.specs.declared.refusals.FileLimit.{FileLimit}
use Rattle.file_model.specs.declared.states.Section.TheVariants as section

-- of declarations: nothing has more names than items, there are no more than may be, and what a file promises of them
pub record AreDeclared (limits : Limits) (types : DeclaredList TypeDecl) (actors : DeclaredList ActorDecl) (cases : DeclaredList CaseDecl) : Type 0 where
  pub type_names : length types.names ≤ length types.items
  pub actor_names : length actors.names ≤ length actors.items
  pub few_types : length types.items ≤ limits.types
  pub few_actors : length actors.items ≤ limits.actors
  pub few_cases : length cases.items ≤ limits.cases
  pub sound : AllRows IsSound types.items
  pub typed : AllRows (HasType (length types.items)) cases.items
  pub placed : ArePlaced cases.items

abbrev pub HasDeclared : Contents → Type 0
HasDeclared c = AreDeclared c.limits c.types c.actors c.cases

abbrev pub KnownIn : Contents → Line → Type 0
KnownIn c l = IsKnown (length c.types.items) (length c.actors.items) c.cases.items l

-- the lines of earlier phases, those of the open one and as many as were begun are counted, and all are known
pub record IsScript (limits : Limits) (types : DeclaredList TypeDecl) (actors : DeclaredList ActorDecl) (cases : DeclaredList CaseDecl) (phases : List (List Line)) (counted : ℕ) (lines : List Line) (begun : ℕ) : Type 0 where
  pub declared : AreDeclared limits types actors cases
  pub within : counted ≤ 60000
  pub all_counted : lines_in phases + length lines + begun ≤ counted
  pub known_phases : AllRows (AllRows (IsKnown (length types.items) (length actors.items) cases.items)) phases
  pub known_lines : AllRows (IsKnown (length types.items) (length actors.items) cases.items) lines

abbrev pub Script : Contents → ℕ → Type 0
Script c begun = IsScript c.limits c.types c.actors c.cases c.phases c.counts.lines (open_lines c.current) begun

-- a type that is open has room
abbrev pub Typing : Contents → Type 0
Typing c = Script c 0 × (length c.types.items < c.limits.types)

-- an open group would be a known line if it ended here
abbrev pub HeldIn : Section → Contents → Type 0
HeldIn (section.Head newest) c = Script c 0
HeldIn section.Outside c = Script c 0
HeldIn (section.InType d) c = Typing c
HeldIn (section.InGroup g) c = Script c 1 × KnownIn c (line_of_group g)

abbrev pub HeldState : State → Type 0
HeldState s = HeldIn s.place s.contents

abbrev pub HeldStep : Step → Type 0
HeldStep o = IfOk o HeldState

-- ---- a state behind tests
pub unless-held : (o : Option Why) (c : Contents) (s : State) → (o ≡ None → HeldState s) → HeldStep (unless o c s)
unless-held None c s h = h refl
unless-held (Some w) c s h = tt

pub same-held : (o : Option Why) (c : Contents) (s : State) → HeldState s → HeldStep (unless o c s)
same-held None c s h = h
same-held (Some w) c s h = tt

pub found-held : {A : Type 0} (o : Option A) (go : A → Step) (c : Contents) → ((x : A) → o ≡ Some x → HeldStep (go x)) → HeldStep (if_known o go c)
found-held None go c h = tt
found-held (Some x) go c h = h x refl

pub not_over : (test : Bool) (l : FileLimit) → over test l ≡ None → test ≡ false
not_over true l h = absurd (cc)
not_over false l h = refl

pub neither : {X : Type 0} (a b : Option X) → option_or a b ≡ None → (a ≡ None) × (b ≡ None)
neither None b h = (refl, h)
neither (Some x) b h = absurd (cc)
