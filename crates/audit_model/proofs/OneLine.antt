-- Texts without a line feed.
use Rattle.std.proofs.Common.{◌≡◌, ℕ, zero, suc, ◌+◌, ◌≤◌, ◌==◌, ne_eqb, Bool, true, false, not, List, [], ◌∷◌, ◌++◌, flat_map, Option, Some, None, refl, arith, lit≤, decimal, ℤ, pos, negsuc, ◌/◌, ◌%◌, nat_lt, slice_get}
use Rattle.std.specs.Fmt.{digits}
use Rattle.std.proofs.lemmas.Bool.Decides.{nat_tests}
use Rattle.audit_model.proofs.Common.{if-either, AllRows, and_parts, Bytes, CutLines, digit_glyph, digits_onto, ended, escaped, is_escaped, IsName, IsOneLine, IsOneLineValue, lines_of, list_all, name_or, named, onto_lines, put_first, row-at, rows-append, signed_decimal, Value, value_text}
use Rattle.file_words.specs.Names.{in_name}
use Rattle.wsm_lists.specs.declared.values.Value.TheVariants as value

-- a byte that is no line feed
abbrev pub Stays : ℕ → Type 0
Stays b = (b == 10) ≡ false

abbrev pub stays : ℕ → Bool
stays b = not (b == 10)

not-not : (test : Bool) → not test ≡ true → test ≡ false
not-not true is = absurd (cc (is))
not-not false is = refl

-- a given text, by counting its bytes
pub is-one : (bs : Bytes) → list_all stays bs ≡ true → IsOneLine bs
is-one [] is = tt
is-one (b ∷ bs) is = let (here, more) = and_parts (stays b) (list_all stays bs) is in (not-not (b == 10) here, is-one bs more)

pub one-append : (xs ys : Bytes) → IsOneLine xs → IsOneLine ys → IsOneLine (xs ++ ys)
one-append xs ys one two = rows-append Stays xs ys one two

pub one-all : {X : Type 0} (g : X → Bytes) (xs : List X) → ((x : X) → IsOneLine (g x)) → IsOneLine (flat_map g xs)
one-all g [] h = tt
one-all g (x ∷ xs) h = one-append (g x) (flat_map g xs) (h x) (one-all g xs h)

-- ---- the lines of a text
line-first : (b : ℕ) (cut : CutLines) → AllRows IsOneLine cut.ended → (test : Bool) → (b == 10) ≡ test → AllRows IsOneLine (onto_lines b cut).ended
line-first b cut all true is = rw is (tt, all)
line-first b cut all false is = rw is (onto cut.ended cut.left all)
  where
    onto : (ls : List Bytes) (left : Bytes) → AllRows IsOneLine ls → AllRows IsOneLine (put_first b ls left).ended
    onto [] left all = tt
    onto (l ∷ ls) left (one, all) = ((is, one), all)

pub ended-one : (bs : Bytes) → AllRows IsOneLine (ended bs)
ended-one [] = tt
ended-one (b ∷ bs) = line-first b (lines_of bs) (ended-one bs) (b == 10) refl

-- ---- numbers
glyph-stays : (d : ℕ) → Stays (digit_glyph false d)
glyph-stays d = if-either Stays (nat_lt d 10) (48 + d) (87 + d) (λ low. ne_eqb (48 + d) 10 (λ same. omega (arith, same))) (λ high. ne_eqb (87 + d) 10 (λ same. omega (arith, same)))

onto-one : (k n : ℕ) (acc : Bytes) → IsOneLine acc → IsOneLine (digits_onto k 10 false n acc)
onto-one zero n acc one = one
onto-one (suc k) n acc one =
    let more = digit_glyph false (n % 10) ∷ acc in
    let kept : IsOneLine more = (glyph-stays (n % 10), one) in
    if-either IsOneLine (n / 10 == 0) more (digits_onto k 10 false (n / 10) more) (λ last. kept) (λ not. onto-one k (n / 10) more kept)

pub decimal-one : (n : ℕ) → IsOneLine (decimal n)
unfolding digits
decimal-one n = onto-one 64 n [] tt

signed-one : (n : ℤ) → IsOneLine (signed_decimal n)
signed-one (pos n) = decimal-one n
signed-one (negsuc n) = (refl, decimal-one (suc n))

-- ---- names
-- each byte of a name is past the space and the line feed
name-low : (b : ℕ) → in_name b ≡ true → 45 ≤ b
name-low b is = grind (arith, nat_tests)

-- no byte of a name is one below 45
pub name-without : (x : ℕ) → x ≤ 44 → (n : Bytes) → IsName n → AllRows (λ b. (b == x) ≡ false) n
name-without x small n named = each n (and_parts _ _ named).1
  where
    each : (bs : Bytes) → list_all in_name bs ≡ true → AllRows (λ b. (b == x) ≡ false) bs
    each [] is = tt
    each (b ∷ bs) is = let (here, more) = and_parts (in_name b) (list_all in_name bs) is in let low = name-low b here in (ne_eqb b x (λ same. omega (arith, small, low, same)), each bs more)

pub name-one : (n : Bytes) → IsName n → IsOneLine n
name-one n named = name-without 10 (lit≤ tt) n named

-- a name, or a number
pub named-one : (names : List Bytes) → AllRows IsName names → (n : ℕ) → IsOneLine (named names n)
named-one names all n = by (slice_get names n) refl
  where
    by : (o : Option Bytes) → slice_get names n ≡ o → IsOneLine (name_or n o)
    by None at = decimal-one n
    by (Some m) at = name-one m (row-at IsName names n m all at)

-- ---- values
escaped-one : (b : ℕ) → Stays b → IsOneLine (escaped b)
escaped-one b one = if-either IsOneLine (is_escaped b) (92 ∷ b ∷ []) (b ∷ []) (λ is. (refl, (one, tt))) (λ not. (one, tt))

escapes-one : (t : Bytes) → IsOneLine t → IsOneLine (flat_map escaped t)
escapes-one [] one = tt
escapes-one (b ∷ bs) one = one-append (escaped b) (flat_map escaped bs) (escaped-one b one.0) (escapes-one bs one.1)

pub value-one : (v : Value) → IsOneLineValue v → IsOneLine (value_text v)
value-one (value.Int n) one = signed-one n
value-one (value.Text t) one = (refl, one-append (flat_map escaped t) (34 ∷ []) (escapes-one t one) (refl, tt))
