-- Items, computed from the definitions alone.
use Rattle.talk_items.proofs.Common.{counted, item_end, kind, None, refl, Some}
use Rattle.std.specs.Prelude.{◌≡◌, [], codes}
use Rattle.talk_items.specs.declared.items.ItemKind.TheVariants as kinds

one_line : item_end [] (codes "actor ann\nactor bob\n") ≡ Some 10
one_line = refl

without_a_feed : item_end [] (codes "actor ann") ≡ None
without_a_feed = refl

-- the lines in front that say nothing are the item's
lines_in_front : item_end [] (codes "# the first\n\nactor ann\n") ≡ Some 23
lines_in_front = refl

lines_alone : item_end [] (codes "# the last\n \t\n") ≡ None
lines_alone = refl

-- a group goes on to the first line whose only word is `end`, whatever its lines are
where_a_group_ends : item_end [] (codes "ann change c\nend of it\n? count\n#end\n\"end\"\n  end\t\nend\n") ≡ Some 49
where_a_group_ends = refl

malformed_group : item_end [] (codes "ann install\nphase\nend\n") ≡ Some 22
malformed_group = refl

type_of_any_words : item_end [] (codes "type type\nend\r\n") ≡ Some 15
type_of_any_words = refl

returns_at_its_end : item_end [] (codes "type t\nend\r\r\nend\n") ≡ Some 17
returns_at_its_end = refl

-- a declaration is one line, whatever its second word is
actor_of_that_name : item_end [] (codes "actor change\nend\n") ≡ Some 13
actor_of_that_name = refl

quoted_first_word : item_end [] (codes "\"a b\" change c\nend\n") ≡ Some 19
quoted_first_word = refl

open_quote : item_end [] (codes "\"a\\\" change\" install c\nend\n") ≡ Some 27
open_quote = refl

changes_one_word : item_end [] (codes "\"a b change c\nend\n") ≡ Some 14
changes_one_word = refl

question : item_end [] (codes "? change c\nend\n") ≡ Some 11
question = refl

what_if_of_a_group : item_end [] (codes "? if ann change c\nend\n") ≡ Some 22
what_if_of_a_group = refl

what_if_of_a_question : item_end [] (codes "? if ? move ann t\nend\n") ≡ Some 18
what_if_of_a_question = refl

what_if_of_a_comment : item_end [] (codes "? if # change c\nend\n") ≡ Some 20
what_if_of_a_comment = refl

what_if_of_a_declaration : item_end [] (codes "? if case change c\nend\n") ≡ Some 19
what_if_of_a_declaration = refl

move_is_a_group : item_end [] (codes "? move\nend\n") ≡ Some 11
move_is_a_group = refl

question_behind_a_comment : kind (codes "# who\n ? items ann\n") ≡ kinds.Question
question_behind_a_comment = refl

header : kind (codes "\n adept\t2 \r\n") ≡ kinds.Header
header = refl

header_and_a_word : kind (codes "adept 3 3\n") ≡ kinds.Unit
header_and_a_word = refl

later_format : kind (codes "adept 4\n") ≡ kinds.Unit
later_format = refl

lines_that_count : counted (codes "# a\n\nann change c\n# b\ninsert B after A\nen") ≡ 2
lines_that_count = refl
