-- Lines and words, computed from the definitions alone.
use Rattle.std.specs.Prelude.{◌≡◌, pos, neg_ℤ, ◌++◌, true, false, [], ◌∷◌, Some, None, refl, codes}
use Rattle.wsm_lists.specs.declared.values.Value.TheVariants as value
use Rattle.file_words.specs.{Lines.{Bytes, lines_of, without_return}, Words.{words_of, is_skipped}, Names.name, Numbers.{role, code, integer}, Texts.text, Pairs.pair, Lengths.first_long}
use Rattle.file_words.specs.declared.lengths.TooLong.TheVariants.{Name}

abbrev name_of_64 : Bytes
name_of_64 = codes "n123456789_123456789_123456789_123456789_123456789_123456789_123"

two_lines : lines_of (codes "a\n\nb") ≡ record { ended = codes "a" ∷ [] ∷ []; left = codes "b" }
two_lines = refl

one_return : without_return (codes "a" ++ 13 ∷ 13 ∷ []) ≡ codes "a" ++ 13 ∷ []
one_return = refl

no_return : without_return [] ≡ []
no_return = refl

words : words_of (codes "  act A\t\"x y\"z ") ≡ codes "act" ∷ codes "A" ∷ codes "\"x y\"z" ∷ []
words = refl

escaped_mark : words_of (codes "e=\"a\\\" b\" c") ≡ codes "e=\"a\\\" b\"" ∷ codes "c" ∷ []
escaped_mark = refl

open_text : words_of (codes "a \"b c") ≡ codes "a" ∷ codes "\"b c" ∷ []
open_text = refl

blank_line : is_skipped (words_of (codes " \t ")) ≡ true
blank_line = refl

comment : is_skipped (words_of (codes "\t# act A")) ≡ true
comment = refl

no_comment : is_skipped (words_of (codes "act #")) ≡ false
no_comment = refl

long_names_are_names : name (name_of_64 ++ codes "4") ≡ Some (name_of_64 ++ codes "4")
long_names_are_names = refl

digit_first : name (codes "1a") ≡ None
digit_first = refl

role_with_zeros : role (codes "0000000012") ≡ Some 12
role_with_zeros = refl

largest_role : role (codes "4294967295") ≡ Some 4294967295
largest_role = refl

larger_role : role (codes "4294967296") ≡ None
larger_role = refl

largest_code : code (codes "65535") ≡ Some 65535
largest_code = refl

larger_code : code (codes "65536") ≡ None
larger_code = refl

long_code : code (codes "000001") ≡ None
long_code = refl

least_integer : integer (codes "-9223372036854775808") ≡ Some (neg_ℤ (pos 9223372036854775808))
least_integer = refl

largest_integer : integer (codes "9223372036854775807") ≡ Some (pos 9223372036854775807)
largest_integer = refl

larger_integer : integer (codes "9223372036854775808") ≡ None
larger_integer = refl

minus_nothing : integer (codes "-") ≡ None
minus_nothing = refl

minus_zero : integer (codes "-0") ≡ Some (pos 0)
minus_zero = refl

escapes : text (codes "\"a\\\"b\\\\\"") ≡ Some (codes "a\"b\\")
escapes = refl

other_escape : text (codes "\"a\\n\"") ≡ None
other_escape = refl

mark_inside : text (codes "\"a\"b\"") ≡ None
mark_inside = refl

escaped_end : text (codes "\"a\\\"") ≡ None
escaped_end = refl

a_control : text (codes "\"a" ++ 31 ∷ codes "\"") ≡ None
a_control = refl

equals_in_text : pair (codes "e=\"a=b\"") ≡ Some (codes "e", value.Text (codes "a=b"))
equals_in_text = refl

no_value : pair (codes "e=") ≡ None
no_value = refl

short_words : first_long (codes "act" ∷ name_of_64 ∷ []) ≡ None
short_words = refl

long_name_before_text : first_long (codes "e=\"\"" ∷ (name_of_64 ++ codes "4=5") ∷ []) ≡ Some Name
long_name_before_text = refl
