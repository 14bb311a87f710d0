-- Payloads as a server has them: the header line, and units of which each was taken behind those before it.
use Rattle.std.specs.Prelude.{◌≡◌, ◌&&◌, Bool, true, false, List, [], ◌∷◌, ◌++◌}
use Rattle.file_words.specs.Lines.{Bytes}
use Rattle.talk_items.specs.{Items.kind, declared.items.ItemKind.ItemKind}
use Rattle.talk_items.specs.declared.items.ItemKind.TheVariants as kinds
use Rattle.talk_rules.specs.Units.{UnitRules, header}
use Rattle.talk_server.specs.{Opening.is_next, Talks.units_in}

-- units, each of which is the next behind those before it
abbrev pub are_next : UnitRules → List Bytes → List Bytes → Bool
are_next rules held [] = true
are_next rules held (unit ∷ units) = is_next rules held unit && are_next rules (held ++ unit ∷ []) units

pub record IsServed (rules : UnitRules) (ps : List Bytes) : Type 0 where
  pub headed : ps ≡ header ∷ units_in ps
  pub taken : are_next rules [] (units_in ps) ≡ true

-- a header line, which is welcome as the first item of a talk alone
abbrev pub is_header : ItemKind → Bool
is_header kinds.Header = true
is_header kinds.Unit = false
is_header kinds.Question = false

abbrev pub begins_with_header : List Bytes → Bool
begins_with_header [] = false
begins_with_header (item ∷ items) = is_header (kind item)
