-- Lists of operations that change one schema: what speaks against all of them together, and the schema behind them.
use Rattle.std.specs.{Prelude.{ℕ, ◌+◌, List, [], ◌∷◌, Result, Ok, Err, Option, None, option_map}, Option.option_or, Result.result_err}
use Rattle.wsm_schema.specs.SchemaModel.{SchemaModel}
use Rattle.wsm_ops.specs.{Apply.applied, declared.operations.Op.Op, declared.faults.OpFault.OpFault}
use Rattle.wsm_foot.specs.Foot.{least_overlap}
use Rattle.wsm_commute.specs.{declared.refusals.MergeRefusal.MergeRefusal, declared.refusals.ManyRefusal.ManyRefusal}
use Rattle.wsm_commute.specs.declared.refusals.MergeRefusal.TheVariants as merge
use Rattle.wsm_commute.specs.declared.refusals.ManyRefusal.TheVariants as many

-- what follows where there is no fault
abbrev pub unless_fault : Result SchemaModel OpFault → (SchemaModel → Result SchemaModel OpFault) → Result SchemaModel OpFault
unless_fault (Ok s) next = next s
unless_fault (Err fault) next = Err fault

-- the schema behind all lists, each applied to what the lists before it made
abbrev pub in_order : SchemaModel → List (List Op) → Result SchemaModel OpFault
in_order s [] = Ok s
in_order s (ops ∷ lists) = unless_fault (applied s ops) (λ t. in_order t lists)

-- what speaks against two lists together: a fault of the left one, then one of the right one, then their least common name
abbrev pub merge_fault : SchemaModel → List Op → List Op → Option MergeRefusal
merge_fault s left right =
    option_or (option_map merge.Left (result_err (applied s left)))
    (option_or (option_map merge.Right (result_err (applied s right))) (option_map merge.Overlap (least_overlap left right)))

-- the first list that is refused, counted from `index`
abbrev pub first_refused : ℕ → SchemaModel → List (List Op) → Option ManyRefusal
first_refused index s [] = None
first_refused index s (ops ∷ lists) = option_or (option_map (many.List index) (result_err (applied s ops))) (first_refused (index + 1) s lists)

-- the first of some lists, counted from `other`, with which a list overlaps
abbrev pub overlap_with : ℕ → List Op → ℕ → List (List Op) → Option ManyRefusal
overlap_with index ops other [] = None
overlap_with index ops other (l ∷ lists) = option_or (option_map (many.Overlap index other) (least_overlap ops l)) (overlap_with index ops (other + 1) lists)

-- the first list that overlaps with a later one, and the first such
abbrev pub first_overlap : ℕ → List (List Op) → Option ManyRefusal
first_overlap index [] = None
first_overlap index (ops ∷ lists) = option_or (overlap_with index ops (index + 1) lists) (first_overlap (index + 1) lists)

-- what speaks against many lists together: the first that is refused, then the first two that overlap
abbrev pub many_fault : SchemaModel → List (List Op) → Option ManyRefusal
many_fault s lists = option_or (first_refused 1 s lists) (first_overlap 1 lists)

-- a refusal of two lists as one of many
abbrev pub in_many : MergeRefusal → ManyRefusal
in_many (merge.Left fault) = many.List 1 fault
in_many (merge.Right fault) = many.List 2 fault
in_many (merge.Overlap name) = many.Overlap 1 2 name
in_many merge.NoMemory = many.NoMemory
