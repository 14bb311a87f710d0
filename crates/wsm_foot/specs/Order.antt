-- The order of names.
use Rattle.std.specs.{Prelude.ℕ, Ordering.{nat_cmp, then_cmp, on}, declared.cmp.Ordering.Ordering}
use Rattle.wsm_foot.specs.declared.names.Name.{Name}
use Rattle.wsm_foot.specs.declared.names.Name.TheVariants as name

-- the place of a name's kind
abbrev pub name_kind : Name → ℕ
name_kind (name.Node node) = 0
name_kind (name.GapAfter node) = 1
name_kind (name.GapHead split code) = 2
name_kind (name.Sync source target) = 3
name_kind (name.Read node element) = 4
name_kind (name.Write node element) = 5
name_kind (name.Element element) = 6
name_kind (name.Role node) = 7

-- its first and its second number
abbrev pub first_number : Name → ℕ
first_number (name.Node node) = node
first_number (name.GapAfter node) = node
first_number (name.GapHead split code) = split
first_number (name.Sync source target) = source
first_number (name.Read node element) = node
first_number (name.Write node element) = node
first_number (name.Element element) = element
first_number (name.Role node) = node

abbrev pub second_number : Name → ℕ
second_number (name.GapHead split code) = code
second_number (name.Sync source target) = target
second_number (name.Read node element) = element
second_number (name.Write node element) = element
second_number _ = 0

-- by kind, then by numbers
abbrev pub name_cmp : Name → Name → Ordering
name_cmp = then_cmp (on name_kind nat_cmp) (then_cmp (on first_number nat_cmp) (on second_number nat_cmp))
