-- Lists of which most have one item or none.
use Rattle.std.specs.Prelude.{List, []}
use Rattle.wsm_schema.specs.declared.few.Held.{Held}
use Rattle.wsm_schema.specs.declared.few.Held.TheVariants.{Empty, One, Many}

-- the items that are held
abbrev pub items_of : {T : Type 0} → Held T → List T
items_of Empty = []
items_of (One item) = item
items_of (Many items) = items.value.items
