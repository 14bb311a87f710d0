-- Questions, computed from the definitions alone.
use Rattle.std.specs.Prelude.{◌≡◌, Option, Some, None, refl, codes}
use Rattle.file_words.specs.{Lines.{Bytes, without_return}, Words.words_of}
use Rattle.talk_questions.specs.Questions.{Asked, cases, cases_of, items_of, question}

-- what a line that is UTF-8 asks for
abbrev asks : Bytes → Option Asked
asks line = question (words_of (without_return line))

all_cases : asks (codes "\t ?  cases\r") ≡ Some cases
all_cases = refl

cases_of_a_type : asks (codes "? cases claim") ≡ Some (cases_of (codes "claim"))
cases_of_a_type = refl

items_of_an_actor : asks (codes "? items ann") ≡ Some (items_of (codes "ann"))
items_of_an_actor = refl

no_number : asks (codes "? cases 9") ≡ None
no_number = refl

one_word_more : asks (codes "? items ann ann") ≡ None
one_word_more = refl

count_has_no_name : asks (codes "? count c") ≡ None
count_has_no_name = refl

type_has_one : asks (codes "? type") ≡ None
type_has_one = refl

mark_is_a_word : asks (codes "?count") ≡ None
mark_is_a_word = refl

name_of_64 : asks (codes "? cases n123456789_123456789_123456789_123456789_123456789_123456789_123") ≡ Some (cases_of (codes "n123456789_123456789_123456789_123456789_123456789_123456789_123"))
name_of_64 = refl

name_of_65 : asks (codes "? cases n123456789_123456789_123456789_123456789_123456789_123456789_1234") ≡ None
name_of_65 = refl
