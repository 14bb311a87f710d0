-- A word that is no longer than a name may be has nothing that is too long.
use Rattle.std.proofs.{Common.{◌≡◌, ℕ, suc, Bool, ◌≤◌, false, [], ◌∷◌, length, Option, Some, None, refl, inl, inr, arith, rules, nat_lt, IfSome, option_map, ◌==◌}, lemmas.Bool.cases_Bool}
use Rattle.file_limits.specs.declared.TheConstants.{MAX_NAME, MAX_TEXT}
use Rattle.file_words.specs.{Lines.Bytes, Texts.{text, unquoted, stepped}, Pairs.parts_at_equals, Lengths.{long, long_part, has_long_text}, declared.texts.TextStep.TextStep}
use Rattle.file_words.specs.declared.texts.TextStep.TheVariants.{Stands, Escapes, Ends, Wrong}

-- one more byte makes a text's value at most one longer
pub stepped_within : (s : TextStep) (b : ℕ) (rest : Option Bytes) (n : ℕ) → IfSome rest (λ t. length t ≤ n) → IfSome (stepped s b rest) (λ t. length t ≤ suc n)
stepped_within Stands b None n is = is
stepped_within Stands b (Some t) n is = omega (arith, is)
stepped_within Escapes b None n is = is
stepped_within Escapes b (Some t) n is = omega (arith, is)
stepped_within Ends b rest n is = omega arith
stepped_within Wrong b rest n is = search rules

-- the value of a text is no longer than the text's word
pub unquoted_within : (bs : Bytes) (is_escaped : Bool) → IfSome (unquoted is_escaped bs) (λ t. length t ≤ length bs)
unquoted_within [] is_escaped = search rules
unquoted_within (b ∷ bs) is_escaped = stepped_within _ b _ (length bs) (unquoted_within bs _)

pub text_within : (bs : Bytes) → IfSome (text bs) (λ t. length t ≤ length bs)
text_within [] = search rules
text_within (b ∷ bs) =
    elim (cases_Bool (b == 34)) [
      | inl is_quote ↦ rw is_quote (stepped_within Escapes b (unquoted false bs) (length bs) (unquoted_within bs false))
      | inr other ↦ rw other (search rules)
    ]

-- the parts of a pair are no longer than it
abbrev pub Within : ℕ → Option (Bytes × Bytes) → Type 0
Within n p = IfSome p (λ p. (length p.0 ≤ n) × (length p.1 ≤ n))

pub onto_within : (b n : ℕ) (p : Option (Bytes × Bytes)) → Within n p → Within (suc n) (option_map (λ p. (b ∷ p.0, p.1)) p)
onto_within b n None is = is
onto_within b n (Some p) is = (omega (arith, is.0), omega (arith, is.1))

pub parts_within : (w : Bytes) → Within (length w) (parts_at_equals w)
parts_within [] = search rules
parts_within (b ∷ bs) =
    elim (cases_Bool (b == 61)) [
      | inl is_equals ↦ rw is_equals (omega arith, omega arith)
      | inr other ↦ rw other (onto_within b (length bs) (parts_at_equals bs) (parts_within bs))
    ]

-- so both are right in a short word
pub not_longer : (n m : ℕ) → n ≤ m → nat_lt m n ≡ false
not_longer n m is = grind arith

pub no_long_text : (t : Option Bytes) (n : ℕ) → n ≤ MAX_TEXT → IfSome t (λ t. length t ≤ n) → has_long_text t ≡ false
no_long_text None n short is = refl
no_long_text (Some t) n short is = not_longer (length t) MAX_TEXT (omega (arith, is))

pub no_long_part : (w : Bytes) (p : Option (Bytes × Bytes)) → length w ≤ MAX_NAME → Within (length w) p → long_part w p ≡ None
no_long_part w None short is = rw (not_longer (length w) MAX_NAME short) refl
no_long_part w (Some p) short is =
    let name : nat_lt MAX_NAME (length p.0) ≡ false = not_longer (length p.0) MAX_NAME (omega (arith, is.0)) in
    let value : has_long_text (text p.1) ≡ false = no_long_text (text p.1) (length p.1) (omega (arith, is.1)) (text_within p.1) in
    rw (name, value) refl

pub short_is_right : (w : Bytes) → length w ≤ MAX_NAME → long w ≡ None
short_is_right w short = no_long_part w (parts_at_equals w) short (parts_within w)
