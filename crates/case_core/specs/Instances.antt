-- A case as it is kept: its trail, what it is besides where it was created, and how many entries of the trail were read.
use Rattle.std.specs.{Prelude.{◌≡◌, ℕ, ◌+◌, length, Option, Some, None, Result, Ok, Err, option_map, refl}, Coded.{Coded, code_by, coded×, coded_ℕ}}
use Rattle.case_core.specs.{CaseModel.{CaseModel, LiveModel}, Codes.case_code, Kept.{Kept, marks_in}, KeptItems.TellsItems, declared.events.Event.Event, declared.live.Live.Live}
use Rattle.case_core.specs.declared.events.Event.TheVariants as event
use Rattle.wsm_schema.specs.{Flat.{cards_of, flat_of}, SchemaModel.SchemaModel, Trail.{TrailModel, no_trail}}
use Rattle.wsm_sound.specs.{Faults.changed_by, declared.faults.Fault.Fault}
use Rattle.wsm_touch.specs.TouchedNodes.{touched_nodes}

-- a created case, by its trail and by what it is besides
abbrev pub live_in : TrailModel → Live → LiveModel
live_in t l = record { base = l.base; own = l.own; schema = l.now.value; trail = t }

-- its marks and its work items are those of its trail
abbrev pub IsLive : TrailModel → Live → Type 0
IsLive t l = Kept (live_in t l) × ((l.marks.rows ≡ marks_in (live_in t l)) × TellsItems (cards_of l.now.value) t.entries l.marks.rows l.items.rows)

-- a case that is not created has an empty trail
abbrev pub IsKept : TrailModel → Option Live → Type 0
IsKept t None = t ≡ no_trail
IsKept t (Some l) = IsLive t l

abbrev pub case_in : ℕ → TrailModel → Option Live → CaseModel
case_in type_no t live = record { type_no = type_no; live = option_map (live_in t) live }

-- a case with the count of its trail's reads, which is no part of its state
pub record CountedCase : Type 0 where
  pub state : CaseModel
  pub reads : ℕ

-- one of whose trail no read was counted
abbrev pub uncounted : CaseModel → CountedCase
uncounted s = record { state = s; reads = 0 }

abbrev pub counted_code : Coded CountedCase
counted_code = code_by (CaseModel × ℕ) (coded× case_code coded_ℕ) (λ c. (c.state, c.reads)) (λ p. record { state = p.0; reads = p.1 }) (λ _. refl)

-- by how many entries of the trail may be read: one for each node in which a new schema differs, and the entry that a reply names
abbrev pub reads_onto : SchemaModel → SchemaModel → ℕ
reads_onto s new = 1 + length (touched_nodes (flat_of s) (flat_of new))

abbrev pub reads_where : SchemaModel → Result SchemaModel Fault → ℕ
reads_where s (Ok new) = reads_onto s new
reads_where s (Err fault) = 0

abbrev pub allowed_on : Option LiveModel → Event → ℕ
allowed_on (Some l) (event.Change ops) = reads_where l.schema (changed_by l.schema ops)
allowed_on (Some l) (event.Migrate version) = reads_where l.schema (changed_by version.schema l.own)
allowed_on _ _ = 0

abbrev pub allowed : CaseModel → Event → ℕ
allowed s e = allowed_on s.live e
