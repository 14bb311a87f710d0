-- What operations change and use, and the least name that two lists of operations share.
use Rattle.std.specs.{Prelude.{Bool, List, [], ◌∷◌, ◌++◌, filter, flat_map, Option, Some, None, if◌then◌else◌}, List.list_any, Ordering.{eq_by_cmp, min_by_ordering}}
use Rattle.wsm_ops.specs.{declared.operations.Gap.Gap, declared.operations.Op.Op}
use Rattle.wsm_ops.specs.declared.operations.Gap.TheVariants as gap
use Rattle.wsm_ops.specs.declared.operations.Op.TheVariants as op
use Rattle.wsm_foot.specs.{Order.name_cmp, declared.names.Name.Name}
use Rattle.wsm_foot.specs.declared.names.Name.TheVariants.{Node, GapAfter, GapHead, Sync, Read, Write, Element, Role}

-- a gap, and the node whose gap it is
abbrev pub gap_name : Gap → Name
gap_name (gap.After node) = GapAfter node
gap_name (gap.Head split code) = GapHead split code

abbrev pub gap_owner : Gap → Name
gap_owner (gap.After node) = Node node
gap_owner (gap.Head split code) = Node split

-- what an operation changes
abbrev pub changes : Op → List Name
changes (op.InsertSerial node role gap) = Node node ∷ Role node ∷ gap_name gap ∷ []
changes (op.InsertParallel node role split join first last) = Node node ∷ Node split ∷ Node join ∷ Role node ∷ GapAfter last ∷ []
changes (op.InsertConditional node role split join gap) = Node node ∷ Node split ∷ Node join ∷ Role node ∷ Role split ∷ gap_name gap ∷ []
changes (op.DeleteActivity node) = Node node ∷ []
changes (op.MoveActivity node gap) = Node node ∷ gap_name gap ∷ []
changes (op.InsertSync source target) = Sync source target ∷ []
changes (op.DeleteSync source target) = Sync source target ∷ []
changes (op.AddElement element kind) = Element element ∷ []
changes (op.AddRead node element mandatory) = Read node element ∷ []
changes (op.RemoveRead node element) = Read node element ∷ []
changes (op.AddWrite node element) = Write node element ∷ []
changes (op.RemoveWrite node element) = Write node element ∷ []
changes (op.SetRole node role) = Role node ∷ []

-- what it uses beside that
abbrev pub uses : Op → List Name
uses (op.InsertSerial node role gap) = gap_owner gap ∷ []
uses (op.InsertParallel node role split join first last) = Node first ∷ Node last ∷ []
uses (op.InsertConditional node role split join gap) = gap_owner gap ∷ []
uses (op.DeleteActivity node) = []
uses (op.MoveActivity node gap) = gap_owner gap ∷ []
uses (op.InsertSync source target) = Node source ∷ Node target ∷ []
uses (op.DeleteSync source target) = Node source ∷ Node target ∷ []
uses (op.AddElement element kind) = []
uses (op.AddRead node element mandatory) = Node node ∷ Element element ∷ []
uses (op.RemoveRead node element) = Node node ∷ Element element ∷ []
uses (op.AddWrite node element) = Node node ∷ Element element ∷ []
uses (op.RemoveWrite node element) = Node node ∷ Element element ∷ []
uses (op.SetRole node role) = Node node ∷ []

-- what operations change, and all that they change or use
abbrev pub all_changes : List Op → List Name
all_changes ops = flat_map changes ops

abbrev pub footprint : List Op → List Name
footprint ops = all_changes ops ++ flat_map uses ops

-- whether a name is among others
abbrev pub is_among : List Name → Name → Bool
is_among names n = list_any (λ m. eq_by_cmp name_cmp n m) names

-- the lesser of two names
abbrev pub lesser : Option Name → Option Name → Option Name
lesser None b = b
lesser (Some a) None = Some a
lesser (Some a) (Some b) = Some (min_by_ordering (name_cmp a b) a b)

-- a name, where a test says so
abbrev pub if_shared : Bool → Name → Option Name
if_shared test n = if test then Some n else None

-- the least of some names
abbrev pub least : List Name → Option Name
least [] = None
least (n ∷ ns) = lesser (Some n) (least ns)

-- the least name that one list changes and the other changes or uses
abbrev pub least_overlap : List Op → List Op → Option Name
least_overlap left right =
    least (filter (is_among (footprint right)) (all_changes left) ++ filter (is_among (footprint left)) (all_changes right))
