-- Units as a talk cuts them, told by words alone.
use Rattle.std.specs.Prelude.{◌≡◌, length, Some, Bool, List, [], ◌∷◌, true, false}
use Rattle.file_words.specs.Lines.{Bytes}
use Rattle.file_model.specs.declared.states.Section.{Section}
use Rattle.file_model.specs.declared.states.Section.TheVariants as section
use Rattle.talk_items.specs.{Items.{ends_line, item_end, place_behind, words}, declared.items.Place.Place}

-- bytes are one item, and no more
abbrev pub IsOneItem : Bytes → Type 0
IsOneItem unit = item_end [] unit ≡ Some (length unit)

-- no item ends with one of these lines, of which the first stands at a place
abbrev pub GoesOn : Place → List Bytes → Type 0
GoesOn place [] = Unit {0}
GoesOn place (line ∷ lines) = (ends_line place (words line) ≡ false) × GoesOn (place_behind place (words line)) lines

-- a type or a group is open
abbrev pub IsOpen : Section → Type 0
IsOpen (section.InType d) = Unit {0}
IsOpen (section.InGroup g) = Unit {0}
IsOpen _ = ⊥

-- a line leaves one open, or none
abbrev pub Lands : Bool → Section → Type 0
Lands true p = IsOpen p
Lands false p = p ≡ section.Outside
