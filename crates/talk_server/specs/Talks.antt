-- What a server says to the items of a talk, over the payloads that are held: the header line, and units.
use Rattle.std.specs.Prelude.{◌+◌, ◌&&◌, not, Bool, true, false, nat_lt, List, [], ◌∷◌, length, drop, if◌then◌else◌, codes}
use Rattle.file_words.specs.Lines.{Bytes}
use Rattle.talk_items.specs.{Items.{counted, ends, is_blank, kind}, declared.items.ItemKind.ItemKind, declared.limits.TheConstants.MAX_ITEM}
use Rattle.talk_items.specs.declared.items.ItemKind.TheVariants as kinds
use Rattle.talk_rules.specs.Units.{UnitRules, fits}
use Rattle.turn_loop.specs.Talk.{Rules}

-- the units among payloads, of which the first is the header
abbrev pub units_in : List Bytes → List Bytes
units_in ps = drop 1 ps

abbrev pub is_too_long : Bytes → Bool
is_too_long item = nat_lt MAX_ITEM (length item)

abbrev pub is_unit : ItemKind → Bool
is_unit kinds.Unit = true
is_unit kinds.Header = false
is_unit kinds.Question = false

-- a unit is accepted where it is read behind those that are held, and its record finds room behind theirs
abbrev pub accepts : UnitRules → List Bytes → Bytes → Bool
accepts rules ps item = not (is_too_long item) && (is_unit (kind item) && (rules.reads (units_in ps) item && fits ps item))

-- the line behind those that were counted is refused
abbrev pub next_refused : UnitRules → Bytes → Bytes → Bytes
next_refused rules item why = rules.refusal (counted item + 1) why

-- a header line is welcome as the first item of a talk; as any other it has no form
abbrev pub answer_by : UnitRules → ItemKind → (first : Bool) → List Bytes → Bytes → Bytes
answer_by rules kinds.Question first units item = rules.asked units item
answer_by rules kinds.Header true units item = rules.well (length units)
answer_by rules kinds.Header false units item = rules.refusal 1 (codes "form")
answer_by rules kinds.Unit first units item = rules.answer units item

abbrev pub item_answer : UnitRules → (first : Bool) → List Bytes → Bytes → Bytes
item_answer rules first ps item =
    if is_too_long item then next_refused rules item (codes "limit bytes") else answer_by rules (kind item) first (units_in ps) item

-- what is said to a rest behind which there are no more bytes
abbrev pub rest_answer : UnitRules → Bytes → Bytes
rest_answer rules rest =
    if is_blank rest then []
    else (if is_too_long rest then next_refused rules rest (codes "limit bytes") else next_refused rules rest (codes "unended"))

abbrev pub server_rules : UnitRules → Rules
server_rules rules = record {
  ends = ends;
  accepts = accepts rules;
  answer = item_answer rules;
  ending = λ ps rest. rest_answer rules rest;
}
