-- What holds behind each line that is read: all types are small, and no more was asked for than the script lines so far may ask for.
use Rattle.file_model.proofs.Common.{[], ℕ, ◌*◌, ◌++◌, ◌+◌, ◌<◌, ◌∷◌, ◌≡◌, ◌≤◌, all_phases, arith, Bool, Bytes, Contents, counted, false, fault_of, if_known, IfOk, is_small, le-leb, leb-false, length, length-append, line_effort, List}
use Rattle.file_model.proofs.Common.{list_all, ltb-false, nat_le, nat_lt, None, open_lines, Option, option_or, over, phase_effort, phases_with, refl, SchemaModel, Section, Some, State, Step, sum_by, sum_by_push, true, unless, Why}
use Rattle.file_model.proofs.Common.{with_script_line, with_type}
use Rattle.std.proofs.lemmas.List.Folds.{list_all-append}
use Rattle.wsm_schema.specs.{Flat.cards_of, Sound.{when, block_fault}}
use Rattle.wsm_schema.specs.declared.faults.BlockFault.TheVariants.{Limit}
use Rattle.wsm_schema.specs.declared.faults.LimitKind.TheVariants.{Nodes}
use Rattle.wsm_sound.proofs.NoFaults.{is_sound}
use Rattle.file_model.specs.{declared.files.Line.Line, declared.files.TypeDecl.TypeDecl, declared.refusals.FileLimit.FileLimit}
use Rattle.file_model.specs.declared.states.Section.TheVariants as section

-- a line asks for 769 at most: one, and three for each of 256 operations
pub record IsKept (most : ℕ) (types : List TypeDecl) (phases : List (List Line)) (lines begun : ℕ) : Type 0 where
  pub few : length types ≤ most
  pub small : list_all is_small types ≡ true
  pub within : lines ≤ 60000
  pub effort : begun + sum_by phase_effort phases ≤ 769 * lines

-- the open phase asks for what its lines do, and for so much more
abbrev pub CountsKept : Contents → ℕ → Type 0
CountsKept c more = IsKept c.limits.types c.types.items c.phases c.counts.lines (phase_effort (open_lines c.current) + more)

-- an open group asks for as much as a group may
abbrev pub KeptIn : Section → Contents → Type 0
KeptIn (section.Head newest) c = CountsKept c 0
KeptIn section.Outside c = CountsKept c 0
KeptIn (section.InType d) c = CountsKept c 0 × (length c.types.items < c.limits.types)
KeptIn (section.InGroup g) c = CountsKept c 769 × (length g.ops ≤ 256)

abbrev pub KeptState : State → Type 0
KeptState s = KeptIn s.place s.contents

abbrev pub KeptStep : Step → Type 0
KeptStep o = IfOk o KeptState

-- ---- a state behind tests
pub unless-kept : (o : Option Why) (c : Contents) (s : State) → KeptState s → KeptStep (unless o c s)
unless-kept None c s h = h
unless-kept (Some w) c s h = tt

pub within-kept : (test : Bool) (l : FileLimit) (c : Contents) (s : State) → (test ≡ false → KeptState s) → KeptStep (unless (over test l) c s)
within-kept true l c s h = tt
within-kept false l c s h = h refl

pub within_both-kept : (test : Bool) (l : FileLimit) (o : Option Why) (c : Contents) (s : State) →
    (test ≡ false → KeptState s) → KeptStep (unless (option_or (over test l) o) c s)
within_both-kept true l o c s h = tt
within_both-kept false l o c s h = unless-kept o c s (h refl)

pub known-kept : {A : Type 0} (o : Option A) (go : A → Step) (c : Contents) → ((x : A) → KeptStep (go x)) → KeptStep (if_known o go c)
known-kept None go c h = tt
known-kept (Some x) go c h = h x

-- ---- a type without a fault is small
first_none : {X : Type 0} (a b : Option X) → option_or a b ≡ None → a ≡ None
first_none None b h = refl
first_none (Some x) b h = absurd (cc)

when_none : {X : Type 0} (test : Bool) (x : X) → when test x ≡ None → test ≡ false
when_none true x h = absurd (cc)
when_none false x h = refl

few_nodes : (s : SchemaModel) → block_fault s ≡ None → nat_lt 1024 (length (cards_of s)) ≡ false
few_nodes s h = when_none _ (Limit Nodes) (first_none _ _ (first_none _ _ h))

small_type : (n : Bytes) (s : SchemaModel) → fault_of s ≡ None → is_small (record { name = n; schema = s }) ≡ true
small_type n s h = le-leb (length (cards_of s)) 1024 (ltb-false 1024 (length (cards_of s)) (few_nodes s (is_sound s h).blocks))

all_small : (ts : List TypeDecl) (t : TypeDecl) → list_all is_small ts ≡ true → is_small t ≡ true → list_all is_small (ts ++ t ∷ []) ≡ true
all_small ts t all one = rw (list_all-append, all, one) refl

pub type-kept : (n : Bytes) (s : SchemaModel) (c : Contents) → fault_of s ≡ None → CountsKept c 0 → length c.types.items < c.limits.types → CountsKept (with_type n s c) 0
type-kept n s c none h below = record {
  few = omega (arith, below, length-append c.types.items (record { name = n; schema = s } ∷ []));
  small = all_small c.types.items (record { name = n; schema = s }) h.small (small_type n s none);
  within = h.within;
  effort = h.effort;
}

-- ---- the effort of one more phase, and of one more line
-- of all phases, with the open one
pub all_effort : (o : Option (List Line)) (phases : List (List Line)) → sum_by phase_effort (phases_with o phases) ≡ phase_effort (open_lines o) + sum_by phase_effort phases
all_effort None phases = omega arith
all_effort (Some lines) phases = omega (arith, sum_by_push phase_effort phases lines)

pub phase-kept : (c : Contents) → CountsKept c 0 → CountsKept (record c { phases = all_phases c; current = Some [] }) 0
phase-kept c h = record {
  few = h.few;
  small = h.small;
  within = h.within;
  effort = omega (arith, h.effort, all_effort c.current c.phases);
}

-- a line more is counted, while it asks for so much
pub counted-kept : (more : ℕ) (c : Contents) → more ≤ 769 → nat_le 60000 c.counts.lines ≡ false → CountsKept c 0 → CountsKept (counted c) more
counted-kept more c less below h = record {
  few = h.few;
  small = h.small;
  within = omega (arith, leb-false 60000 c.counts.lines below);
  effort = omega (arith, h.effort, less);
}

-- the line stands in the open phase
pub line-kept : (l : Line) (c : Contents) (more : ℕ) → line_effort l ≤ more → CountsKept c more → CountsKept (with_script_line l c) 0
line-kept l c more less h = record {
  few = h.few;
  small = h.small;
  within = h.within;
  effort = omega (arith, h.effort, less, sum_by_push line_effort (open_lines c.current) l);
}
