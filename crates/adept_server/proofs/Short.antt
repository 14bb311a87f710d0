-- Rows short enough for places of 32 bits.
use Rattle.adept_server.proofs.Common.{[], ℕ, ◌<◌, ◌^◌, ◌∷◌, ◌≡◌, ◌≤◌, ap, AreShort, arith, CallEach, CallFault, length, length-map, List, map, PassView, refl, Result, set, slice_get, Some, suc, sum, sum_by-cons, zero, zip_with}

-- a row in another's place that is as long
pub short_set : {X : Type 0} (rows : List (List X)) (t : ℕ) (row new : List X) → slice_get rows t ≡ Some row → length new ≡ length row → AreShort rows → AreShort (set rows t new)
short_set [] t row new there even k = tt
short_set (r ∷ rows) zero row new there even k = let same : r ≡ row = cc (there) in (omega (arith, even, ap length same, k.0), k.1)
short_set (r ∷ rows) (suc t) row new there even k = (k.0, short_set rows t row new there even k.1)

-- a row is as short as all are
pub short_at : {X : Type 0} (rows : List (List X)) (t : ℕ) (row : List X) → slice_get rows t ≡ Some row → AreShort rows → length row < 2 ^ 32
short_at [] t row there k = absurd (cc (there))
short_at (r ∷ rows) zero row there k = let same : r ≡ row = cc (there) in omega (arith, ap length same, k.0)
short_at (r ∷ rows) (suc t) row there k = short_at rows t row there k.1

pub short_map : {X Y : Type 0} (f : X → Y) (rows : List (List X)) → AreShort rows → AreShort (map (map f) rows)
short_map f [] k = tt
short_map f (row ∷ rows) k = (omega (arith, length-map row f, k.0), short_map f rows k.1)

zip-short : {X Y Z : Type 0} (f : X → Y → Z) (xs : List X) (ys : List Y) → length (zip_with f xs ys) ≤ length xs
zip-short f [] ys = omega arith
zip-short f (x ∷ xs) [] = omega arith
zip-short f (x ∷ xs) (y ∷ ys) = let rest = zip-short f xs ys in omega (arith, rest)

pub short_zip : {X Y Z : Type 0} (f : X → Y → Z) (xs : List (List X)) (ys : List (List Y)) → AreShort xs → AreShort (zip_with (zip_with f) xs ys)
short_zip f [] ys k = tt
short_zip f (x ∷ xs) [] k = tt
short_zip f (x ∷ xs) (y ∷ ys) k = (omega (arith, zip-short f x y, k.0), short_zip f xs ys k.1)

-- rows that are together as long as 32 bits can tell
pub short_counts : {X : Type 0} (counts : List ℕ) (rows : List (List X)) → map length rows ≡ counts → sum counts < 2 ^ 32 → AreShort rows
short_counts counts [] is small = tt
short_counts [] (row ∷ rows) is small = absurd (cc (is))
short_counts (n ∷ counts) (row ∷ rows) is small =
    let same : length row ≡ n = cc (is) in
    let rest : map length rows ≡ counts = cc (is) in
    let all = sum_by-cons (λ x. x) n counts in
    (omega (arith, same, small, all), short_counts counts rows rest (omega (arith, small, all)))

-- a batch of calls leaves as many passes
pub each-even : {M E R W S : Type 0} (after : S → E → S) (reply : S → E → R) (event : E) (ps : List (PassView M E R W S)) (answers : List (Result R CallFault)) (qs : List (PassView M E R W S)) → CallEach after reply event ps answers qs → length qs ≡ length ps
each-even after reply event [] [] [] k = refl
each-even after reply event [] [] (q ∷ qs) k = absurd k
each-even after reply event [] (a ∷ answers) qs k = absurd k
each-even after reply event (p ∷ ps) [] qs k = absurd k
each-even after reply event (p ∷ ps) (a ∷ answers) [] k = absurd k
each-even after reply event (p ∷ ps) (a ∷ answers) (q ∷ qs) k = ap suc (each-even after reply event ps answers qs k.2)
