-- The nodes of a loop that is repeated, with nothing left of them.
use Rattle.std.specs.Prelude.{ℕ, List, [], ◌∷◌, Option}
use Rattle.wsm_lists.specs.{Keys.first, Rows.put_row}
use Rattle.wsm_schema.specs.declared.marks.Mark.{Mark}
use Rattle.wsm_walk.specs.{Listed.said, Walk.freed}

-- each of the nodes is freed by the repeat of e at p
abbrev pub freed_rows : ℕ → ℕ → List ℕ → List (ℕ × Option Mark) → List (ℕ × Option Mark)
freed_rows e p [] rows = rows
freed_rows e p (n ∷ ns) rows = freed_rows e p ns (put_row first (n, said (freed e p n)) rows)
