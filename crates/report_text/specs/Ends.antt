-- How a case ended.
use Rattle.std.specs.Prelude.{ℕ, Bool, [], ◌++◌, flat_map, length, Option, Some, None, if◌then◌else◌, codes, decimal}
use Rattle.case_core.specs.{CaseModel.{LiveModel, state_of, value_now}, Shown.{is_finished, items_of}}
use Rattle.wsm_items.specs.declared.work_items.Item.{Item}
use Rattle.wsm_items.specs.declared.work_items.Item.TheVariants as item
use Rattle.file_words.specs.Lines.{Bytes}
use Rattle.file_model.specs.declared.files.File.{File}
use Rattle.report_words.specs.Words.{node_then, caller_text, assigned, letter, role_text}
use Rattle.wsm_lists.specs.{declared.values.ElementKind.ElementKind, declared.values.Value.Value}
use Rattle.wsm_schema.specs.{Flat.cards_of, declared.cards.Card.Card}

abbrev pub progress : Bool → Bytes
progress finished = if finished then codes " finished" else codes " running"

-- the version that the case stands on, whether it is finished, and how many operations of its own it has
abbrev pub state_line : LiveModel → Bytes
state_line l = codes "state " ++ (decimal l.base.number ++ (progress (is_finished l) ++ (codes " own=" ++ (decimal (length l.own) ++ codes "\n"))))

-- the state of each node, in document order
abbrev pub mark_text : File → LiveModel → Card → Bytes
mark_text f l c = node_then f c.node (codes "=") ++ letter (state_of l c.node)

abbrev pub marking_line : File → LiveModel → Bytes
marking_line f l = codes "marking" ++ (flat_map (mark_text f l) (cards_of l.schema) ++ codes "\n")

-- the value of each element that has one, ascending by element
abbrev pub assigned_now : File → ℕ → Option Value → Bytes
assigned_now f d None = []
assigned_now f d (Some v) = assigned f (d, v)

abbrev pub value_now_text : File → LiveModel → ℕ × ElementKind → Bytes
value_now_text f l e = assigned_now f e.0 (value_now l e.0)

abbrev pub values_line : File → LiveModel → Bytes
values_line f l = codes "values" ++ (flat_map (value_now_text f l) l.schema.elements ++ codes "\n")

-- the work items, ascending by node
abbrev pub item_text : File → Item → Bytes
item_text f (item.Offered node role) = node_then f node (codes "@") ++ role_text f role
item_text f (item.Held node user) = node_then f node (codes ":") ++ caller_text f user

abbrev pub items_line : File → LiveModel → Bytes
items_line f l = codes "items" ++ (flat_map (item_text f) (items_of l) ++ codes "\n")

abbrev pub live_text : File → LiveModel → Bytes
live_text f l = state_line l ++ (marking_line f l ++ (values_line f l ++ items_line f l))

abbrev pub end_text : File → Option LiveModel → Bytes
end_text f None = codes "state none\n"
end_text f (Some l) = live_text f l
