-- A line whose words are not too long has a form whose names and texts are not.
use Rattle.file_model.proofs.Common.{[], ℕ, ◌==◌, ◌∷◌, ◌≡◌, and_parts, Bool, Bytes, cases_Bool, eqb-true, false, first_long, has_long_text, IfSome, if◌then◌else◌, inl, inr, is_longer, le-leb, length, List, list_all, long, long_part}
use Rattle.file_model.proofs.Common.{ltb-false, nat_le, nat_lt, None, Option, option_map, option_or, refl, Some, TooLong, true}
use Rattle.wsm_lists.specs.Rows.{AllRows}
use Rattle.wsm_lists.specs.declared.values.Value.TheVariants as value
use Rattle.file_words.specs.{Names.{in_name, is_name, name}, Numbers.integer, Pairs.{pair, pair_of, parts_at_equals, word_value}, Texts.text}
use Rattle.file_words.specs.declared.lengths.TooLong.TheVariants as too_long
use Rattle.file_forms.proofs.{NamesInForms.WordHas, Options.{some-mapped, some-or, some-any}}
use Rattle.file_model.specs.ShortForms.{IsShort, IsShortValue, IsShortWrite}

-- ---- a name has no =
equals-apart : (b : ℕ) → in_name b ≡ true → (b == 61) ≡ false
equals-apart b is = elim (cases_Bool (b == 61)) [
  | inl same ↦ let at = eqb-true b 61 same in let wrong : in_name 61 ≡ true = rw at at is in absurd (cc (wrong))
  | inr other ↦ other
]

no-equals : (w : Bytes) → list_all in_name w ≡ true → parts_at_equals w ≡ None
no-equals [] all = refl
no-equals (b ∷ bs) all =
    let parts = and_parts _ _ all in
    rw (equals-apart b parts.0, no-equals bs parts.1) refl

name-whole : (w : Bytes) → is_name w ≡ true → parts_at_equals w ≡ None
name-whole w is = no-equals w (and_parts _ _ is).1

-- ---- what is not too long is short
not-longer : (test : Bool) (l : TooLong) → is_longer test l ≡ None → test ≡ false
not-longer true l h = absurd (cc (h))
not-longer false l h = refl

neither : {A : Type 0} (a b : Option A) → option_or a b ≡ None → (a ≡ None) × (b ≡ None)
neither None b h = (refl, h)
neither (Some x) b h = absurd (cc (h))

within : (n m : ℕ) → nat_lt n m ≡ false → nat_le m n ≡ true
within n m h = le-leb m n (ltb-false n m h)

short-name : (w : Bytes) → is_name w ≡ true → nat_lt 64 (length w) ≡ false → IsShort w
short-name w is below = rw (is, within 64 (length w) below) refl

name-short : (w : Bytes) → long w ≡ None → IfSome (name w) IsShort
name-short w h = by (is_name w) refl
  where
    by : (test : Bool) → is_name w ≡ test → IfSome (if test then Some w else None) IsShort
    by true is = let whole : long_part w None ≡ None = rw (name-whole w is) at h in short-name w is (not-longer (nat_lt 64 (length w)) too_long.Name whole)
    by false is = tt

text-short : (o : Option Bytes) → has_long_text o ≡ false → IfSome (option_map value.Text o) IsShortValue
text-short None h = tt
text-short (Some t) h = ltb-false 256 (length t) h

value-short : (w : Bytes) → has_long_text (text w) ≡ false → IfSome (word_value w) IsShortValue
value-short w h =
    some-or IsShortValue (option_map value.Int (integer w)) (option_map value.Text (text w))
    (some-mapped (λ n. Unit {0}) IsShortValue value.Int (integer w) (some-any (λ n. Unit {0}) (integer w) (λ n. tt)) (λ n any. tt)) (text-short (text w) h)

pair-short : (w : Bytes) → long w ≡ None → IfSome (pair w) IsShortWrite
pair-short w h = of_parts (parts_at_equals w) h
  where
    of_parts : (o : Option (Bytes × Bytes)) → long_part w o ≡ None → IfSome (pair_of o) IsShortWrite
    of_parts None none = tt
    of_parts (Some p) none = by (is_name p.0) refl
      where
        both : (is_longer (nat_lt 64 (length p.0)) too_long.Name ≡ None) × (is_longer (has_long_text (text p.1)) too_long.Text ≡ None)
        both = neither _ _ none

        by : (test : Bool) → is_name p.0 ≡ test → IfSome (if test then option_map (λ v. (p.0, v)) (word_value p.1) else None) IsShortWrite
        by true is =
            some-mapped IsShortValue IsShortWrite (λ v. (p.0, v)) (word_value p.1) (value-short p.1 (not-longer (has_long_text (text p.1)) too_long.Text both.1))
            (λ v short. (short-name p.0 is (not-longer (nat_lt 64 (length p.0)) too_long.Name both.0), short))
        by false is = tt

-- the words of a line where none is too long
pub words-short : (ws : List Bytes) → first_long ws ≡ None → AllRows (WordHas IsShort IsShortWrite) ws
words-short [] h = tt
words-short (w ∷ ws) h =
    let both = neither (long w) (first_long ws) h in
    ((name-short w both.0, pair-short w both.0), words-short ws both.1)
