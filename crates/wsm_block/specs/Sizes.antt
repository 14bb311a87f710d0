-- Whether there is room for the nodes of a tree.
use Rattle.std.specs.Prelude.{ℕ, ◌-◌, nat_lt, Option, Some, None, if◌then◌else◌}

-- what is left of a room behind so many nodes, if it suffices for them
abbrev pub room_behind : ℕ → ℕ → Option ℕ
room_behind size room = if nat_lt room size then None else Some (room - size)
