-- Whose name a text begins with.
use Rattle.std.specs.Prelude.{ℕ, ◌+◌, Bool, List, [], ◌∷◌, ◌++◌, Option, Some, None, codes, if◌then◌else◌}
use Rattle.audit_model.specs.{Common.{ActorDecl, Bytes}, Printed.begins}

-- a word with a space behind it
abbrev pub begins_with_word : Bytes → Bytes → Bool
begins_with_word word text = begins (word ++ codes " ") text

-- the actor, of those from a number on, whose name stands there
abbrev pub named_from : Bytes → ℕ → List ActorDecl → Option ℕ
named_from text a [] = None
named_from text a (d ∷ ds) = if begins_with_word d.name text then Some a else named_from text (a + 1) ds
