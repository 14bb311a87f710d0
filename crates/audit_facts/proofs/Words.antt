-- Words that are names, and values in words.
use Rattle.audit_facts.proofs.Common.{[], ℕ, ◌&&◌, ◌==◌, ◌||◌, ◌∷◌, ◌≡◌, and_parts, arith, Bool, Bytes, eqb-true, false, IfSome, if◌then◌else◌, inl, inr, IsName, IsOneLineValue, leb-true, length, ne_eqb, None, not, Option, option_map}
use Rattle.audit_facts.proofs.Common.{or_cases, refl, Some, true, Value}
use Rattle.wsm_lists.specs.declared.values.Value.TheVariants as value
use Rattle.file_words.specs.{Names.{is_name, name}, Numbers.integer, Pairs.{pair, pair_of, parts_at_equals, word_value}, Texts.{is_plain, stepped, text, text_step, unquoted}, declared.texts.TextStep.TextStep}
use Rattle.file_words.specs.declared.texts.TextStep.TheVariants.{Stands, Escapes, Ends, Wrong}
use Rattle.line_readers.specs.Readers.{IsOneLine}
use Rattle.file_forms.proofs.Options.{some-any, some-mapped, some-or}

pub name-is : (w : Bytes) → IfSome (name w) IsName
name-is w = by (is_name w) refl
  where
    by : (test : Bool) → is_name w ≡ test → IfSome (if test then Some w else None) IsName
    by true is = is
    by false is = tt

-- ---- no byte of a text is a line feed
abbrev IsNoFeed : ℕ → Type 0
IsNoFeed b = (b == 10) ≡ false

plain-stays : (b : ℕ) → is_plain b ≡ true → IsNoFeed b
plain-stays b is = let low = leb-true 32 b (and_parts _ _ (and_parts _ _ (and_parts _ _ is).0).0).0 in ne_eqb b 10 (λ same. omega (arith, low, same))

mark-stays : (b : ℕ) → (b == 34 || b == 92) ≡ true → IsNoFeed b
mark-stays b is = elim (or_cases (b == 34) (b == 92) is) [
  | inl quote ↦ let at = eqb-true b 34 quote in ne_eqb b 10 (λ same. omega (arith, at, same))
  | inr slash ↦ let at = eqb-true b 92 slash in ne_eqb b 10 (λ same. omega (arith, at, same))
]

-- a byte that stands in a text
stands : (is_escaped : Bool) (b : ℕ) (is_last : Bool) → text_step is_escaped b is_last ≡ Stands → IsNoFeed b
stands true b last is = by (b == 34 || b == 92) refl is
  where
    by : (test : Bool) → (b == 34 || b == 92) ≡ test → (if test then Stands else Wrong) ≡ Stands → IsNoFeed b
    by true at k = mark-stays b at
    by false at k = absurd (cc (k))
stands false b true is = by (b == 34) is
  where
    by : (test : Bool) → (if test then Ends else Wrong) ≡ Stands → IsNoFeed b
    by true k = absurd (cc (k))
    by false k = absurd (cc (k))
stands false b false is = by (b == 92) (is_plain b) refl is
  where
    by : (test plain : Bool) → is_plain b ≡ plain → (if test then Escapes else (if plain then Stands else Wrong)) ≡ Stands → IsNoFeed b
    by true plain at k = absurd (cc (k))
    by false true at k = plain-stays b at
    by false false at k = absurd (cc (k))

stepped-one : (s : TextStep) (b : ℕ) (rest : Option Bytes) → (s ≡ Stands → IsNoFeed b) → IfSome rest IsOneLine → IfSome (stepped s b rest) IsOneLine
stepped-one Stands b rest h k = some-mapped IsOneLine IsOneLine (λ t. b ∷ t) rest k (λ t one. (h refl, one))
stepped-one Escapes b rest h k = k
stepped-one Ends b rest h k = tt
stepped-one Wrong b rest h k = tt

unquoted-one : (is_escaped : Bool) (bs : Bytes) → IfSome (unquoted is_escaped bs) IsOneLine
unquoted-one is_escaped [] = tt
unquoted-one is_escaped (b ∷ bs) =
    stepped-one (text_step is_escaped b (length bs == 0)) b (unquoted (not is_escaped && b == 92) bs) (stands is_escaped b (length bs == 0)) (unquoted-one (not is_escaped && b == 92) bs)

text-one : (w : Bytes) → IfSome (text w) IsOneLine
text-one [] = tt
text-one (b ∷ bs) = by (b == 34)
  where
    by : (test : Bool) → IfSome (if test then unquoted false bs else None) IsOneLine
    by true = unquoted-one false bs
    by false = tt

value-one : (w : Bytes) → IfSome (word_value w) IsOneLineValue
value-one w =
    some-or IsOneLineValue (option_map value.Int (integer w)) (option_map value.Text (text w))
    (some-mapped (λ n. Unit {0}) IsOneLineValue value.Int (integer w) (some-any (λ n. Unit {0}) (integer w) (λ n. tt)) (λ n any. tt))
    (some-mapped IsOneLine IsOneLineValue value.Text (text w) (text-one w) (λ t one. one))

-- a name and a value in one line
abbrev pub IsWrite : Bytes × Value → Type 0
IsWrite p = IsName p.0 × IsOneLineValue p.1

pub pair-is : (w : Bytes) → IfSome (pair w) IsWrite
pair-is w = of_parts (parts_at_equals w)
  where
    of_parts : (o : Option (Bytes × Bytes)) → IfSome (pair_of o) IsWrite
    of_parts None = tt
    of_parts (Some p) = by (is_name p.0) refl
      where
        by : (test : Bool) → is_name p.0 ≡ test → IfSome (if test then option_map (λ v. (p.0, v)) (word_value p.1) else None) IsWrite
        by true is = some-mapped IsOneLineValue IsWrite (λ v. (p.0, v)) (word_value p.1) (value-one p.1) (λ v one. (is, one))
        by false is = tt
