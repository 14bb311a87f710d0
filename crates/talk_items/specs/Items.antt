-- Where the items of a conversation end, and what they are.
use Rattle.std.specs.{Prelude.{◌==◌, ◌&&◌, ℕ, suc, Bool, true, false, not, List, [], ◌∷◌, ◌++◌, length, take, map, Option, Some, None, option_map, if◌then◌else◌}, List.filter, Option.is_none}
use Rattle.file_words.specs.{Lines.{Bytes, lines_of, without_return}, Words.words_of}
use Rattle.talk_items.specs.{Keywords.keyword, declared.items.ItemKind.ItemKind, declared.items.Place.Place, declared.keywords.Keyword.Keyword, declared.limits.TheConstants.MAX_ITEM}
use Rattle.talk_items.specs.declared.items.ItemKind.TheVariants as kinds
use Rattle.talk_items.specs.declared.items.Place.TheVariants as places
use Rattle.talk_items.specs.declared.keywords.Keyword.TheVariants as keywords

-- ---- lines

-- the words of a line, as far as they tell what it is
abbrev pub words : Bytes → List Keyword
words line = map keyword (words_of (without_return line))

-- a line that says nothing: it has no words, or it is a comment
abbrev pub is_skipped : List Keyword → Bool
is_skipped [] = true
is_skipped (keywords.Comment ∷ ws) = true
is_skipped (w ∷ ws) = false

-- the only word is `end`
abbrev pub is_end : List Keyword → Bool
is_end (keywords.End ∷ []) = true
is_end ws = false

abbrev pub begins_with_change : List Keyword → Bool
begins_with_change (keywords.Change ∷ ws) = true
begins_with_change ws = false

-- whether the first line of a unit opens a group
abbrev pub unit_opens : List Keyword → Bool
unit_opens [] = false
unit_opens (keywords.Type ∷ ws) = true
unit_opens (keywords.Declaration ∷ ws) = false
unit_opens (w ∷ ws) = begins_with_change ws

-- whether the words behind `? if` do: they are a line of their own, and begin no comment
abbrev pub what_if_opens : List Keyword → Bool
what_if_opens (keywords.Question ∷ ws) = false
what_if_opens ws = unit_opens ws

-- whether the words behind `?` do
abbrev pub question_opens : List Keyword → Bool
question_opens (keywords.Move ∷ ws) = true
question_opens (keywords.If ∷ ws) = what_if_opens ws
question_opens ws = false

-- whether a line that is the first of an item opens a group
abbrev pub opens : List Keyword → Bool
opens (keywords.Comment ∷ ws) = false
opens (keywords.Question ∷ ws) = question_opens ws
opens ws = unit_opens ws

-- ---- items

-- whether an item ends with a line at a place
abbrev pub ends_line : Place → List Keyword → Bool
ends_line places.Front ws = not (is_skipped ws) && not (opens ws)
ends_line places.Group ws = is_end ws

-- where the line behind one at a place stands
abbrev pub place_behind : Place → List Keyword → Place
place_behind places.Front ws = if opens ws then places.Group else places.Front
place_behind places.Group ws = if is_end ws then places.Front else places.Group

abbrev pub place_of : Place → List Bytes → Place
place_of place [] = place
place_of place (line ∷ lines) = place_of (place_behind place (words line)) lines

-- an item that has begun with these bytes ends at this one
abbrev pub ends : Bytes → ℕ → Bool
ends begun b = b == 10 && (let lines = lines_of begun in ends_line (place_of places.Front lines.ended) (words lines.left))

-- with how many of these bytes an item ends that has begun with others
abbrev pub item_end : Bytes → Bytes → Option ℕ
item_end begun [] = None
item_end begun (b ∷ bytes) = if ends begun b then Some 1 else option_map suc (item_end (begun ++ b ∷ []) bytes)

-- the bytes of an item that are taken then
abbrev pub taken : Option ℕ → Bytes → Bytes
taken None bytes = bytes
taken (Some n) bytes = take n bytes

-- how many lines say something and end within as many bytes as an item may have
abbrev pub counted : Bytes → ℕ
counted item = length (filter (λ line. not (is_skipped (words line))) (lines_of (take MAX_ITEM item)).ended)

abbrev pub kind_of : List Keyword → ItemKind
kind_of (keywords.Question ∷ ws) = kinds.Question
kind_of (keywords.Adept ∷ keywords.Format ∷ []) = kinds.Header
kind_of ws = kinds.Unit

-- what an item is, by the first of its lines that says something
abbrev pub first_kind : List Bytes → Option ItemKind
first_kind [] = None
first_kind (line ∷ lines) = if is_skipped (words line) then first_kind lines else Some (kind_of (words line))

abbrev pub or_unit : Option ItemKind → ItemKind
or_unit None = kinds.Unit
or_unit (Some kind) = kind

abbrev pub kind : Bytes → ItemKind
kind item = or_unit (first_kind (lines_of item).ended)

-- bytes are lines that say nothing, and no more
abbrev pub is_blank : Bytes → Bool
is_blank bytes = let lines = lines_of bytes in is_none (first_kind lines.ended) && length lines.left == 0
