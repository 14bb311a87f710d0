-- The entry at a position, and what entries wrote.
use Rattle.std.specs.Prelude.{ℕ, List, [], ◌∷◌, Option, Some, None}
use Rattle.wsm_lists.specs.{ByNumber.item_at, Values.value_in, declared.values.Value.Value}
use Rattle.wsm_schema.specs.{Trail.{later_or, written_by}, declared.entries.Entry.Entry}

abbrev pub entry_at : ℕ → List (ℕ × Entry) → Option Entry
entry_at position entries = item_at position entries

-- what an entry wrote to an element
abbrev pub written_to : ℕ → Option Entry → Option Value
written_to element None = None
written_to element (Some e) = value_in element (written_by e)

-- the entry at a position, where there is one
abbrev pub entry_of : List (ℕ × Entry) → Option ℕ → Option Entry
entry_of entries None = None
entry_of entries (Some position) = entry_at position entries

-- the value of an element, where `rows` tell the position of its last write
abbrev pub value_noted : List (ℕ × Entry) → List (ℕ × ℕ) → ℕ → Option Value
value_noted entries rows element = written_to element (entry_of entries (item_at element rows))

-- what entries wrote last to an element
abbrev pub last_written : ℕ → List (ℕ × Entry) → Option Value
last_written element [] = None
last_written element (e ∷ es) = later_or (last_written element es) (value_in element (written_by e.1))
