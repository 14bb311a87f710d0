-- Where a line ends.
use Rattle.turn_loop.proofs.Common.{[], ℕ, ◌++◌, ◌+◌, ◌<◌, ◌==◌, ◌∙◌, ◌∷◌, ◌≡◌, ◌≤◌, ap, append-nil, append_assoc, arith, behind, Bool, Bytes, cases_lt, cond, false, if◌then◌else◌, inl, inr, length, line_ends, lt-ltb, ltb-true, nat_lt, not}
use Rattle.turn_loop.proofs.Common.{position, prefix_len, refl, split_from, subst, suc, sym, take, Takes, true}
use Rattle.std.specs.Prelude.{Some, None}
use Rattle.std.proofs.lemmas.List.Sums.{prefix_len-le-length}

-- how many bytes are there before a line feed
abbrev pub before_feed : Bytes → ℕ
before_feed xs = prefix_len (λ x. not (x == 10)) xs

found-some : (n m index : ℕ) (b : Bool) → nat_lt n m ≡ b → cond b (Some n) None ≡ Some index → (index ≡ n) × (n < m)
found-some n m index true is found = (cc, ltb-true n m is)
found-some n m index false is found = absurd cc

found-none : (n m : ℕ) (b : Bool) → nat_lt n m ≡ b → n ≤ m → cond b (Some n) None ≡ None → n ≡ m
found-none n m true is le found = absurd cc
found-none n m false is le found = elim (cases_lt n m) [
  | inl lt ↦ let no = lt-ltb n m lt in absurd cc
  | inr ge ↦ omega (arith, le, ge)
]

-- no line feed
no-feed : (begun xs : Bytes) → before_feed xs ≡ length xs → split_from line_ends begun xs ≡ record { items = []; rest = begun ++ xs }
no-feed begun [] all = ap (λ b. record { items = []; rest = b }) (sym (append-nil begun))
no-feed begun (x ∷ xs) all = chosen (x == 10) all (no-feed (begun ++ x ∷ []) xs)
  where
    chosen : (b : Bool) → cond (not b) (1 + before_feed xs) 0 ≡ suc (length xs)
        → (before_feed xs ≡ length xs → split_from line_ends (begun ++ x ∷ []) xs ≡ record { items = []; rest = (begun ++ x ∷ []) ++ xs })
        → (if b then behind ((begun ++ x ∷ []) ∷ []) (split_from line_ends [] xs) else split_from line_ends (begun ++ x ∷ []) xs) ≡ record { items = []; rest = begun ++ x ∷ xs }
    chosen true all next = absurd (omega (arith, all))
    chosen false all next = next (omega (arith, all)) ∙ ap (λ b. record { items = []; rest = b }) (append_assoc begun (x ∷ []) xs)

-- up to the first line feed
feed : (begun xs : Bytes) → before_feed xs < length xs → split_from line_ends begun (take (suc (before_feed xs)) xs) ≡ record { items = (begun ++ take (suc (before_feed xs)) xs) ∷ []; rest = [] }
feed begun [] less = absurd (omega (arith, less))
feed begun (x ∷ xs) less = chosen (x == 10) refl less (feed (begun ++ x ∷ []) xs)
  where
    chosen : (b : Bool) → x == 10 ≡ b → cond (not b) (1 + before_feed xs) 0 < suc (length xs)
        → (before_feed xs < length xs → split_from line_ends (begun ++ x ∷ []) (take (suc (before_feed xs)) xs) ≡ record { items = ((begun ++ x ∷ []) ++ take (suc (before_feed xs)) xs) ∷ []; rest = [] })
        → (if b then behind ((begun ++ x ∷ []) ∷ []) (split_from line_ends [] (take (cond (not b) (1 + before_feed xs) 0) xs)) else split_from line_ends (begun ++ x ∷ []) (take (cond (not b) (1 + before_feed xs) 0) xs))
        ≡ record { items = (begun ++ x ∷ take (cond (not b) (1 + before_feed xs) 0) xs) ∷ []; rest = [] }
    chosen true is less next = refl
    chosen false is less next =
        let one : suc (before_feed xs) ≡ 1 + before_feed xs = omega arith in
        subst (λ n. split_from line_ends (begun ++ x ∷ []) (take n xs) ≡ record { items = (begun ++ x ∷ take n xs) ∷ []; rest = [] }) one
        (next (omega (arith, less)) ∙ ap (λ b. record { items = b ∷ []; rest = [] }) (append_assoc begun (x ∷ []) (take (suc (before_feed xs)) xs)))

pub none-there : (begun bytes : Bytes) → None ≡ position (λ byte. byte == 10) bytes → Takes line_ends begun bytes None
none-there begun bytes found =
    no-feed begun bytes (found-none (before_feed bytes) (length bytes) (nat_lt (before_feed bytes) (length bytes)) refl (prefix_len-le-length (λ x. not (x == 10)) bytes) (sym found))

pub one-there : (begun bytes : Bytes) (index : ℕ) → Some index ≡ position (λ byte. byte == 10) bytes → Takes line_ends begun bytes (Some (index + 1))
one-there begun bytes index found =
    let n : ℕ = before_feed bytes in
    let here : (index ≡ n) × (n < length bytes) = found-some n (length bytes) index (nat_lt n (length bytes)) refl (sym found) in
    let is : index ≡ n = here.0 in
    let same : suc n ≡ index + 1 = omega (arith, is) in
    subst (λ m. Takes line_ends begun bytes (Some m)) same (feed begun bytes here.1)

pub within : (bytes : Bytes) (index : ℕ) → Some index ≡ position (λ byte. byte == 10) bytes → index + 1 ≤ length bytes
within bytes index found =
    let n : ℕ = before_feed bytes in
    let here : (index ≡ n) × (n < length bytes) = found-some n (length bytes) index (nat_lt n (length bytes)) refl (sym found) in
    omega (arith, here.0, here.1)
