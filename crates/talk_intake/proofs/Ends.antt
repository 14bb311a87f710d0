-- Where an item ends, as a talk is cut there.
use Rattle.std.proofs.{Common.{◌≡◌, ◌≤◌, ◌<◌, ℕ, zero, ◌+◌, suc, Bool, true, false, List, [], ◌∷◌, ◌++◌, length, take, refl, ap, sym, ◌∙◌, arith, append_assoc, if◌then◌else◌, Option, Some, None}, lemmas.List.append-nil}
use Rattle.std.specs.Prelude.{IfSome, option_map}
use Rattle.talk_items.specs.Items.{ends, item_end, taken}
use Rattle.turn_loop.specs.Talk.{Bytes, Takes, behind, split_from, taken_of}

chosen : {A : Type 0} (t : Bool) (x y : A) → t ≡ true → (if t then x else y) ≡ x
chosen t x y e = ap (λ s. if s then x else y) e

other : {A : Type 0} (t : Bool) (x y : A) → t ≡ false → (if t then x else y) ≡ y
other t x y e = ap (λ s. if s then x else y) e

-- an item that goes on behind a byte
goes-on : (begun : Bytes) (b : ℕ) (bytes : Bytes) (o : Option ℕ) → ends begun b ≡ false → Takes ends (begun ++ b ∷ []) bytes o → Takes ends begun (b ∷ bytes) (option_map suc o)
goes-on begun b bytes None e takes =
    other (ends begun b) _ _ e ∙ takes ∙ ap (λ r. record { items = []; rest = r }) (append_assoc begun (b ∷ []) bytes)
goes-on begun b bytes (Some n) e takes =
    other (ends begun b) _ _ e ∙ takes ∙ ap (λ r. record { items = r ∷ []; rest = [] }) (append_assoc begun (b ∷ []) (take n bytes))

by-end : (begun : Bytes) (b : ℕ) (bytes : Bytes) (t : Bool) → ends begun b ≡ t → Takes ends (begun ++ b ∷ []) bytes (item_end (begun ++ b ∷ []) bytes)
    → Takes ends begun (b ∷ bytes) (if t then Some 1 else option_map suc (item_end (begun ++ b ∷ []) bytes))
by-end begun b bytes true e takes = chosen (ends begun b) _ _ e
by-end begun b bytes false e takes = goes-on begun b bytes (item_end (begun ++ b ∷ []) bytes) e takes

pub item_takes : (begun bytes : Bytes) → Takes ends begun bytes (item_end begun bytes)
item_takes begun [] = ap (λ r. record { items = []; rest = r }) (sym (append-nil begun))
item_takes begun (b ∷ bytes) = by-end begun b bytes (ends begun b) refl (item_takes (begun ++ b ∷ []) bytes)

-- it ends behind some bytes, and within them
one-more : (b : ℕ) (bytes : Bytes) (o : Option ℕ) → IfSome o (λ n. n ≤ length bytes) → IfSome (option_map suc o) (λ n. n ≤ length (b ∷ bytes))
one-more b bytes None h = tt
one-more b bytes (Some n) h = omega (arith, h)

within-by : (b : ℕ) (bytes : Bytes) (t : Bool) (o : Option ℕ) → IfSome o (λ n. n ≤ length bytes) → IfSome (if t then Some 1 else option_map suc o) (λ n. n ≤ length (b ∷ bytes))
within-by b bytes true o h = omega arith
within-by b bytes false o h = one-more b bytes o h

pub item_within : (begun bytes : Bytes) → IfSome (item_end begun bytes) (λ n. n ≤ length bytes)
item_within begun [] = tt
item_within begun (b ∷ bytes) = within-by b bytes (ends begun b) (item_end (begun ++ b ∷ []) bytes) (item_within (begun ++ b ∷ []) bytes)

some-more : (o : Option ℕ) → IfSome (option_map suc o) (λ n. 0 < n)
some-more None = tt
some-more (Some n) = omega arith

some-by : (t : Bool) (o : Option ℕ) → IfSome (if t then Some 1 else option_map suc o) (λ n. 0 < n)
some-by true o = omega arith
some-by false o = some-more o

pub item_some : (begun bytes : Bytes) → IfSome (item_end begun bytes) (λ n. 0 < n)
item_some begun [] = tt
item_some begun (b ∷ bytes) = some-by (ends begun b) (item_end (begun ++ b ∷ []) bytes)

-- the bytes that are taken then
pub same_taken : (o : Option ℕ) (bytes : Bytes) → taken o bytes ≡ taken_of o bytes
same_taken None bytes = refl
same_taken (Some n) bytes = refl

-- so many of bytes, of which so many were kept before
pub take_taken : (n : ℕ) (xs ys : List ℕ) → take n (take n xs ++ ys) ≡ take n (xs ++ ys)
take_taken zero xs ys = refl
take_taken (suc n) [] ys = refl
take_taken (suc n) (x ∷ xs) ys = ap (λ l. x ∷ l) (take_taken n xs ys)
