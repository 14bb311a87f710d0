-- The keys of the rows, and the roles of nodes.
use Rattle.std.specs.Prelude.{ℕ, ◌<◌, List, Option, Some, None, ◌==◌, if◌then◌else◌}
use Rattle.wsm_lists.specs.Rows.{Ascends, AllRows, put_row, drop_row, row_at}

-- the whole row
abbrev pub both : ℕ × ℕ → ℕ × ℕ
both r = r

-- its first number
abbrev pub first : {A : Type 0} → ℕ × A → ℕ × ℕ
first r = (r.0, 0)

-- its first two numbers
abbrev pub first_two : {A : Type 0} → ℕ × ℕ × A → ℕ × ℕ
first_two r = (r.0, r.1)

-- the roles with that of a node; role 0 is never listed
abbrev pub put_role : ℕ → ℕ → List (ℕ × ℕ) → List (ℕ × ℕ)
put_role node role roles = if role == 0 then drop_row first (node, 0) roles else put_row first (node, role) roles

-- the role of a node, which is 0 where none is listed
abbrev pub listed_role : Option (ℕ × ℕ) → ℕ
listed_role None = 0
listed_role (Some row) = row.1

abbrev pub role_in : ℕ → List (ℕ × ℕ) → ℕ
role_in node roles = listed_role (row_at first (node, 0) roles)

-- ascending by node, and no role is 0
abbrev pub HasRoles : List (ℕ × ℕ) → Type 0
HasRoles roles = Ascends first roles × AllRows (λ (r : ℕ × ℕ). 0 < r.1) roles
