-- Which events have a payload.
use Rattle.std.specs.{Prelude.{ℕ, ◌<◌, ◌≤◌, ◌^◌, nat_lt, nat_le, Bool, true, ◌&&◌, List, length, Option, Some, None, FitsSigned}, Int.w64, List.AllByRecursion}
use Rattle.wsm_lists.specs.{Rows.Ascends, Keys.{both, first, first_two, HasRoles}, declared.values.Value.Value}
use Rattle.wsm_lists.specs.declared.values.Value.TheVariants as value
use Rattle.wsm_schema.specs.{SchemaModel.SchemaModel, Sound.parts_depth, Tree.{Part, Parts, Lanes, act, gate, loop, nothing, part, no_lane, lane}}
use Rattle.wsm_ops.specs.{declared.operations.Gap.Gap, declared.operations.Op.Op}
use Rattle.wsm_ops.specs.declared.operations.Gap.TheVariants as gap
use Rattle.wsm_ops.specs.declared.operations.Op.TheVariants as op
use Rattle.case_core.specs.declared.events.Event.{Event}
use Rattle.case_core.specs.declared.events.Event.TheVariants as event
use Rattle.wsm_sound.specs.declared.versions.CaseId.{CaseId}
use Rattle.store_form.specs.declared.stored.Stored.{Stored}
use Rattle.store_form.specs.declared.stored.Stored.TheVariants as stored

abbrev pub case_of : ℕ → ℕ → CaseId
case_of type_no place = record { type_no = type_no; place = place }

-- numbers of four bytes, codes of two
abbrev pub IsNumber : ℕ → Type 0
IsNumber n = n < 2 ^ 32

abbrev pub IsCode : ℕ → Type 0
IsCode n = n < 2 ^ 16

-- a list with so few items that their number has four bytes
abbrev pub FitsEach : {X : Type 0} → (X → Type 0) → List X → Type 0
FitsEach P xs = (length xs < 2 ^ 32) × AllByRecursion P xs

abbrev pub FitsValue : Value → Type 0
FitsValue (value.Int n) = FitsSigned w64 n
FitsValue (value.Text t) = (length t ≤ 256) × AllByRecursion (λ b. b < 256) t

abbrev pub FitsPair : ℕ × ℕ → Type 0
FitsPair p = IsNumber p.0 × IsNumber p.1

abbrev pub FitsGap : Gap → Type 0
FitsGap (gap.After n) = IsNumber n
FitsGap (gap.Head split code) = IsNumber split × IsCode code

abbrev pub FitsOp : Op → Type 0
FitsOp (op.InsertSerial node role g) = IsNumber node × IsNumber role × FitsGap g
FitsOp (op.InsertParallel node role split join first last) =
    IsNumber node × IsNumber role × IsNumber split × IsNumber join × IsNumber first × IsNumber last
FitsOp (op.InsertConditional node role split join g) = IsNumber node × IsNumber role × IsNumber split × IsNumber join × FitsGap g
FitsOp (op.DeleteActivity node) = IsNumber node
FitsOp (op.MoveActivity node g) = IsNumber node × FitsGap g
FitsOp (op.InsertSync source target) = IsNumber source × IsNumber target
FitsOp (op.DeleteSync source target) = IsNumber source × IsNumber target
FitsOp (op.AddElement element kind) = IsNumber element
FitsOp (op.AddRead node element mandatory) = IsNumber node × IsNumber element
FitsOp (op.RemoveRead node element) = IsNumber node × IsNumber element
FitsOp (op.AddWrite node element) = IsNumber node × IsNumber element
FitsOp (op.RemoveWrite node element) = IsNumber node × IsNumber element
FitsOp (op.SetRole node role) = IsNumber node × IsNumber role

-- how many parts stand in a row, and how many lanes beside one another
abbrev pub part_count : Parts → ℕ
part_count nothing = 0
part_count (part p ps) = ℕ.suc (part_count ps)

abbrev pub lane_count : Lanes → ℕ
lane_count no_lane = 0
lane_count (lane code ps ls) = ℕ.suc (lane_count ls)

abbrev mutual
  pub FitsPart : Part → Type 0
  FitsPart (act node) = IsNumber node
  FitsPart (gate kind split join ls) = IsNumber split × IsNumber join × (lane_count ls < 2 ^ 32) × FitsLanes ls
  FitsPart (loop start end body) = IsNumber start × IsNumber end × (part_count body < 2 ^ 32) × FitsParts body

  pub FitsParts : Parts → Type 0
  FitsParts nothing = Unit {0}
  FitsParts (part p ps) = FitsPart p × FitsParts ps

  pub FitsLanes : Lanes → Type 0
  FitsLanes no_lane = Unit {0}
  FitsLanes (lane code ps ls) = IsCode code × (part_count ps < 2 ^ 32) × FitsParts ps × FitsLanes ls

-- items, and branches, with so few in each row that their number has four bytes
abbrev pub FitsItems : Parts → Type 0
FitsItems ps = (part_count ps < 2 ^ 32) × FitsParts ps

abbrev pub FitsBranches : Lanes → Type 0
FitsBranches ls = (lane_count ls < 2 ^ 32) × FitsLanes ls

-- lists as a schema keeps them: rows ascend, and no role is 0
abbrev pub FitsEdges : SchemaModel → Type 0
FitsEdges s =
    (FitsEach (λ r. IsNumber r.0 × IsNumber r.1) s.reads × Ascends first_two s.reads)
    × (FitsEach FitsPair s.writes × Ascends both s.writes) × (FitsEach FitsPair s.roles × HasRoles s.roles)

abbrev pub FitsTables : SchemaModel → Type 0
FitsTables s = (FitsEach FitsPair s.syncs × Ascends both s.syncs) × (FitsEach (λ e. IsNumber e.0) s.elements × Ascends first s.elements) × FitsEdges s

pub record FitsSchema (s : SchemaModel) : Type 0 where
  pub ends : IsNumber s.start × IsNumber s.finish
  pub tree : FitsItems s.body
  pub deep : parts_depth s.body ≤ 64
  pub tables : FitsTables s

abbrev pub FitsOption : {X : Type 0} → (X → Type 0) → Option X → Type 0
FitsOption P None = Unit {0}
FitsOption P (Some x) = P x

-- an event of a case that is stored as it is: a version is none of its parts
abbrev pub FitsEvent : Event → Type 0
FitsEvent (event.Create version) = ⊥
FitsEvent (event.Migrate version) = ⊥
FitsEvent (event.Start node user roles) = IsNumber node × IsNumber user × FitsEach IsNumber roles
FitsEvent (event.End node user choice writes) =
    IsNumber node × IsNumber user × FitsEach (λ w. IsNumber w.0 × FitsValue w.1) writes × FitsOption IsCode choice
FitsEvent (event.Withdraw node user) = IsNumber node × IsNumber user
FitsEvent (event.Change ops) = FitsEach FitsOp ops

abbrev pub FitsId : CaseId → Type 0
FitsId c = IsNumber c.type_no × IsNumber c.place

abbrev pub Fits : Stored → Type 0
Fits (stored.Define t s) = IsNumber t × FitsSchema s
Fits (stored.Install t ops) = IsNumber t × FitsEach FitsOp ops
Fits (stored.Newest t) = IsNumber t
Fits (stored.Create c number) = FitsId c × IsNumber number
Fits (stored.Migrate c number) = FitsId c × IsNumber number
Fits (stored.Case c e) = FitsId c × FitsEvent e

-- whether a list has so few items that their number has four bytes, and whether each row of a tree has
abbrev pub is_short : {X : Type 0} → List X → Bool
is_short xs = nat_lt (length xs) (2 ^ 32)

abbrev mutual
  pub few_in_part : Part → Bool
  few_in_part (act node) = true
  few_in_part (gate kind split join ls) = nat_lt (lane_count ls) (2 ^ 32) && few_in_lanes ls
  few_in_part (loop start end body) = nat_lt (part_count body) (2 ^ 32) && few_in_parts body

  pub few_in_parts : Parts → Bool
  few_in_parts nothing = true
  few_in_parts (part p ps) = few_in_part p && few_in_parts ps

  pub few_in_lanes : Lanes → Bool
  few_in_lanes no_lane = true
  few_in_lanes (lane code ps ls) = (nat_lt (part_count ps) (2 ^ 32) && few_in_parts ps) && few_in_lanes ls

abbrev pub few_items : Parts → Bool
few_items ps = nat_lt (part_count ps) (2 ^ 32) && few_in_parts ps

abbrev pub few_branches : Lanes → Bool
few_branches ls = nat_lt (lane_count ls) (2 ^ 32) && few_in_lanes ls

abbrev pub few_in_edges : SchemaModel → Bool
few_in_edges s = is_short s.reads && (is_short s.writes && is_short s.roles)

abbrev pub few_in_tables : SchemaModel → Bool
few_in_tables s = is_short s.syncs && (is_short s.elements && few_in_edges s)

abbrev pub few_in_schema : SchemaModel → Bool
few_in_schema s = few_items s.body && few_in_tables s

abbrev pub few_in_event : Event → Bool
few_in_event (event.Start node user roles) = is_short roles
few_in_event (event.End node user choice writes) = is_short writes
few_in_event (event.Change ops) = is_short ops
few_in_event _ = true

-- whether each list of an event is so short
abbrev pub has_short_lists : Stored → Bool
has_short_lists (stored.Define t s) = few_in_schema s
has_short_lists (stored.Install t ops) = is_short ops
has_short_lists (stored.Case c e) = few_in_event e
has_short_lists _ = true

-- whether the blocks of a new type stand at most 64 deep one inside another
abbrev pub is_shallow : Stored → Bool
is_shallow (stored.Define t s) = nat_le (parts_depth s.body) 64
is_shallow _ = true

-- an event of a case that is none of a version's
abbrev pub IsPlain : Event → Type 0
IsPlain (event.Create version) = ⊥
IsPlain (event.Migrate version) = ⊥
IsPlain _ = Unit {0}

abbrev pub HasNoVersion : Stored → Type 0
HasNoVersion (stored.Case c e) = IsPlain e
HasNoVersion _ = Unit {0}
