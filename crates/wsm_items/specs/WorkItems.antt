-- Work items, and rows of them by node.
use Rattle.std.specs.Prelude.{◌≡◌, ℕ, Bool, false, List, map, ◌==◌, Option, Some, None}
use Rattle.wsm_items.specs.declared.work_items.Item.{Item}
use Rattle.wsm_items.specs.declared.work_items.Item.TheVariants.{Offered, Held}
use Rattle.wsm_lists.specs.Rows.{AllRows}

-- the node that waits
abbrev pub item_node : Item → ℕ
item_node (Offered node role) = node
item_node (Held node user) = node

-- whether it is offered to that role itself
abbrev pub is_offered_to : ℕ → Item → Bool
is_offered_to role (Offered node offered) = offered == role
is_offered_to role (Held node user) = false

-- whether that user holds it
abbrev pub is_held_by : ℕ → Item → Bool
is_held_by user (Offered node role) = false
is_held_by user (Held node holder) = holder == user

-- each item stands by its node
abbrev pub ByNode : List (ℕ × Item) → Type 0
ByNode rows = AllRows (λ r. r.0 ≡ item_node r.1) rows

-- and so does the item that a node is to get
abbrev pub IsOfNode : ℕ → Option Item → Type 0
IsOfNode n None = Unit {0}
IsOfNode n (Some i) = n ≡ item_node i

-- the items alone
abbrev pub items_in : List (ℕ × Item) → List Item
items_in rows = map (λ r. r.1) rows
