-- The first place at which a test holds.
use Rattle.std.proofs.{Common.{◌≡◌, ℕ, suc, ◌+◌, ◌<◌, Bool, true, false, cond, not, List, [], ◌∷◌, length, drop, get_or, Option, Some, None, refl, ap, ◌∙◌, arith}, lemmas.Bool.lt-ltb, lemmas.Bool.Decides.nat_tests, lemmas.List.drop_more}
use Rattle.std.specs.{Prelude.{nat_lt, position}, List.{position_from, position_or_len}}

abbrev found : ℕ → ℕ → ℕ → Option ℕ
found start at count = cond (nat_lt at count) (Some (start + at)) None

lt-suc : (a b : ℕ) → nat_lt (1 + a) (suc b) ≡ nat_lt a b
lt-suc a b = grind (arith, nat_tests)

one_on : (start at count : ℕ) → found (start + 1) at count ≡ found start (1 + at) (suc count)
one_on start at count = rw (lt-suc at count) (go (nat_lt at count))
  where
    go : (b : Bool) → cond b (Some (start + 1 + at)) None ≡ cond b (Some (start + (1 + at))) None
    go true = ap Some (omega arith)
    go false = refl

first_or-later : (b : Bool) (start at count : ℕ) (later : Option ℕ) → later ≡ found (start + 1) at count → cond b (Some start) later ≡ found start (cond (not b) (1 + at) 0) (suc count)
first_or-later true start at count later is = rw (lt-ltb 0 (suc count) (omega arith)) (ap Some (omega arith))
first_or-later false start at count later is = is ∙ one_on start at count

from-position : {X : Type 0} (p : X → Bool) (start : ℕ) (xs : List X) → position_from p start xs ≡ found start (position_or_len p xs) (length xs)
from-position p start [] = refl
from-position p start (x ∷ xs) = first_or-later (p x) start (position_or_len p xs) (length xs) (position_from p (start + 1) xs) (from-position p (start + 1) xs)

pub position-from_0 : {X : Type 0} (p : X → Bool) (xs : List X) → position_from p 0 xs ≡ position p xs
position-from_0 p xs = from-position p 0 xs ∙ go (nat_lt (position_or_len p xs) (length xs))
  where
    go : (b : Bool) → cond b (Some (0 + position_or_len p xs)) None ≡ cond b (Some (position_or_len p xs)) None
    go true = ap Some (omega arith)
    go false = refl

pub position_from-step : {X : Type 0} (p : X → Bool) (xs : List X) (i : ℕ) (d : X) → i < length xs →
    position_from p i (drop i xs) ≡ cond (p (get_or xs i d)) (Some i) (position_from p (i + 1) (drop (i + 1) xs))
position_from-step p xs i d within = ap (position_from p i) (drop_more xs i d within)
