-- Line feeds in bytes.
use Rattle.memchr.specs.Find.{IsFirstByte, is_byte}
use Rattle.std.specs.Prelude.{cond}
use Rattle.talk_items.proofs.Common.{[], ℕ, ◌++◌, ◌<◌, ◌==◌, ◌∙◌, ◌∷◌, ◌≡◌, ◌≤◌, ap, arith, Bool, Bytes, drop, eqb-true, false, get_or, HasNoFeed, length, nat_lt, None, not, Option, position, position_or_len, prefix_len_passes, refl}
use Rattle.talk_items.proofs.Common.{Some, suc, sym, take, take_all, true, zero}
use Rattle.std.proofs.{lemmas.Bool.{le-ltb, lt-ltb}, lemmas.List.Sums.position_or_len_is, lemmas.Bool.Decides.nat_tests, lemmas.List.Quantifiers.position-Some}

-- the first line feed of bytes stands there
pub record IsFirstFeed (n : ℕ) (bytes : Bytes) : Type 0 where
  pub within : n < length bytes
  pub none : HasNoFeed (take n bytes)
  pub front : take (suc n) bytes ≡ take n bytes ++ 10 ∷ []
  pub whole : bytes ≡ take n bytes ++ 10 ∷ drop (suc n) bytes

none-before : (bytes : Bytes) (n : ℕ) → ((k : ℕ) → k < n → (get_or bytes k 0 == 10) ≡ false) → HasNoFeed (take n bytes)
none-before [] zero none = tt
none-before [] (suc n) none = tt
none-before (b ∷ bytes) zero none = tt
none-before (b ∷ bytes) (suc n) none = (none 0 (omega arith), none-before bytes n (λ k below. none (suc k) (omega (arith, below))))

split : (bytes : Bytes) (n : ℕ) → n < length bytes → (get_or bytes n 0 == 10) ≡ true → (take (suc n) bytes ≡ take n bytes ++ 10 ∷ []) × (bytes ≡ take n bytes ++ 10 ∷ drop (suc n) bytes)
split [] n less is = absurd (omega (arith, less))
split (b ∷ bytes) zero less is = let feed = eqb-true b 10 is in (ap (λ c. c ∷ []) feed, ap (λ c. c ∷ bytes) feed)
split (b ∷ bytes) (suc n) less is = let rest = split bytes n (omega (arith, less)) is in (ap (λ l. b ∷ l) rest.0, ap (λ l. b ∷ l) rest.1)

pub first-feed : (bytes : Bytes) (n : ℕ) → position (λ byte. byte == 10) bytes ≡ Some n → IsFirstFeed n bytes
first-feed bytes n found =
    let at = position-Some (λ byte. byte == 10) bytes n 0 found in
    let parts = split bytes n at.0 at.1 in
    record { within = at.0; none = none-before bytes n at.2; front = parts.0; whole = parts.1 }

false-from_not : (b : Bool) → not b ≡ true → b ≡ false
false-from_not true is = absurd cc
false-from_not false is = refl

pub no-feeds : (bytes : Bytes) → position (λ byte. byte == 10) bytes ≡ None → HasNoFeed bytes
no-feeds bytes none =
    let past : length bytes ≤ position_or_len (λ byte. byte == 10) bytes = grind (arith, nat_tests) in
    let front = none-before bytes (length bytes) (λ k h. false-from_not (get_or bytes k 0 == 10) (prefix_len_passes (λ b. not (b == 10)) bytes k 0 (omega (arith, h, past)))) in
    rw (take_all (length bytes) bytes (omega arith)) at front

not-true : (b : Bool) → (b ≡ true → ⊥) → b ≡ false
not-true true other = absurd (other refl)
not-true false other = refl

-- what a search finds is the first one
pub feed_found : (bytes : Bytes) (found : Option ℕ) → IsFirstByte (is_byte 10) bytes found → found ≡ position (λ byte. byte == 10) bytes
feed_found bytes None none =
    let at = position_or_len_is (λ byte. byte == 10) bytes (length bytes) 0 (omega arith) (λ k less. not-true (get_or bytes k 0 == 10) (none k (omega arith) less)) (λ less. absurd (omega (arith, less))) in
    sym (ap (λ n. cond (nat_lt n (length bytes)) (Some n) None) at ∙ ap (λ b. cond b (Some (length bytes)) None) (le-ltb (length bytes) (length bytes) (omega arith)))
feed_found bytes (Some n) is =
    let at = position_or_len_is (λ byte. byte == 10) bytes n 0 (omega (arith, is.0.high)) (λ k less. not-true (get_or bytes k 0 == 10) (is.0.before k (omega arith) less)) (λ less. is.1) in
    sym (ap (λ m. cond (nat_lt m (length bytes)) (Some m) None) at ∙ ap (λ b. cond b (Some n) None) (lt-ltb n (length bytes) is.0.high))
