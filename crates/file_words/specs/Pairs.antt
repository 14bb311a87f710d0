-- Words that are pairs: the name of an element, =, and a value.
use Rattle.std.specs.{Prelude.{Option, Some, None, option_map, [], ◌∷◌, ◌==◌, if◌then◌else◌}, Option.option_or}
use Rattle.wsm_lists.specs.declared.values.Value.{Value}
use Rattle.wsm_lists.specs.declared.values.Value.TheVariants as value
use Rattle.file_words.specs.{Lines.Bytes, Names.is_name, Numbers.integer, Texts.text}

-- the value of a word that is an integer or a text
abbrev pub word_value : Bytes → Option Value
word_value w = option_or (option_map value.Int (integer w)) (option_map value.Text (text w))

-- what stands before and behind the first =
abbrev pub parts_at_equals : Bytes → Option (Bytes × Bytes)
parts_at_equals [] = None
parts_at_equals (b ∷ bs) = if b == 61 then Some ([], bs) else option_map (λ p. (b ∷ p.0, p.1)) (parts_at_equals bs)

abbrev pub pair_of : Option (Bytes × Bytes) → Option (Bytes × Value)
pair_of None = None
pair_of (Some p) = if is_name p.0 then option_map (λ v. (p.0, v)) (word_value p.1) else None

abbrev pub pair : Bytes → Option (Bytes × Value)
pair w = pair_of (parts_at_equals w)
