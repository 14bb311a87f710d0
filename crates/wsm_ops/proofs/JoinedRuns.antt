-- Edits of one run are edits of all pieces.
use Rattle.wsm_ops.proofs.Common.{[], ℕ, ◌++◌, ◌+◌, ◌<◌, ◌∙◌, ◌∷◌, ◌≡◌, ◌≤◌, ap, append-nil, append_assoc, arith, Bool, both_ways, drop, get_or, items_at, joined, length, List, None, passes, Piece, place_at, refl, remove, slice_get}
use Rattle.wsm_ops.proofs.{Common.{slice_set, Some, suc, sym, take, true, Vec, zero}, OnePlace.place-within}
use Rattle.std.proofs.lemmas.Option.{same_Some}

-- ---- lists behind others
none-more : (n : ℕ) → 0 + n ≡ n
none-more n = omega arith

one-more : (m n : ℕ) → suc m + n ≡ suc (m + n)
one-more m n = omega arith

take-over : (xs ys : List Piece) (n : ℕ) → take (length xs + n) (xs ++ ys) ≡ xs ++ take n ys
take-over [] ys n = ap (λ k. take k ys) (none-more n)
take-over (x ∷ xs) ys n = ap (λ k. take k (x ∷ (xs ++ ys))) (one-more (length xs) n) ∙ ap (λ zs. x ∷ zs) (take-over xs ys n)

drop-over : (xs ys : List Piece) (n : ℕ) → drop (length xs + n) (xs ++ ys) ≡ drop n ys
drop-over [] ys n = ap (λ k. drop k ys) (none-more n)
drop-over (x ∷ xs) ys n = ap (λ k. drop k (x ∷ (xs ++ ys))) (one-more (length xs) n) ∙ drop-over xs ys n

remove-over : (xs ys : List Piece) (n : ℕ) → remove (xs ++ ys) (length xs + n) ≡ xs ++ remove ys n
remove-over [] ys n = ap (λ k. remove ys k) (none-more n)
remove-over (x ∷ xs) ys n = ap (λ k. remove (x ∷ (xs ++ ys)) k) (one-more (length xs) n) ∙ ap (λ zs. x ∷ zs) (remove-over xs ys n)

take-within : (xs ys : List Piece) (n : ℕ) → n ≤ length xs → take n (xs ++ ys) ≡ take n xs
take-within xs ys zero le = refl
take-within [] ys (suc n) le = absurd (omega (arith, le))
take-within (x ∷ xs) ys (suc n) le = ap (λ zs. x ∷ zs) (take-within xs ys n (omega (arith, le)))

drop-within : (xs ys : List Piece) (n : ℕ) → n ≤ length xs → drop n (xs ++ ys) ≡ drop n xs ++ ys
drop-within xs ys zero le = refl
drop-within [] ys (suc n) le = absurd (omega (arith, le))
drop-within (x ∷ xs) ys (suc n) le = drop-within xs ys n (omega (arith, le))

remove-within : (xs ys : List Piece) (n : ℕ) → n < length xs → remove (xs ++ ys) n ≡ remove xs n ++ ys
remove-within [] ys n le = absurd (omega (arith, le))
remove-within (x ∷ xs) ys zero le = refl
remove-within (x ∷ xs) ys (suc n) le = ap (λ zs. x ∷ zs) (remove-within xs ys n (omega (arith, le)))

get-over : (xs ys : List Piece) (n : ℕ) → slice_get (xs ++ ys) (length xs + n) ≡ slice_get ys n
get-over [] ys n = ap (λ k. slice_get ys k) (none-more n)
get-over (x ∷ xs) ys n = ap (λ k. slice_get (x ∷ (xs ++ ys)) k) (one-more (length xs) n) ∙ get-over xs ys n

get-within : (xs ys : List Piece) (i : ℕ) → i < length xs → slice_get (xs ++ ys) i ≡ slice_get xs i
get-within [] ys i low = absurd (omega (arith, low))
get-within (x ∷ xs) ys zero low = refl
get-within (x ∷ xs) ys (suc i) low = get-within xs ys i (omega (arith, low))

module _ {A : Type 0} (t : Piece → Bool) where
  -- a spot is a place among all pieces
  pub spot-get : (runs : List (Vec Piece A)) (run at : ℕ) → passes t (slice_get (items_at runs run) at) ≡ true → slice_get (joined runs) (place_at runs run at) ≡ slice_get (items_at runs run) at
  spot-get [] run at is = absurd (both_ways _ refl is)
  spot-get (r ∷ rs) zero at is = get-within r.items (joined rs) at (place-within t r.items at is)
  spot-get (r ∷ rs) (suc run) at is = get-over r.items (joined rs) (place_at rs run at) ∙ spot-get rs run at is

  pub spot-place : (runs : List (Vec Piece A)) (run at : ℕ) → passes t (slice_get (items_at runs run) at) ≡ true → passes t (slice_get (joined runs) (place_at runs run at)) ≡ true
  spot-place runs run at is = ap (passes t) (spot-get runs run at is) ∙ is

  pub spot-run : (runs : List (Vec Piece A)) (run at : ℕ) → passes t (slice_get (items_at runs run) at) ≡ true → run < length runs
  spot-run [] run at is = absurd (both_ways _ refl is)
  spot-run (r ∷ rs) zero at is = omega arith
  spot-run (r ∷ rs) (suc run) at is = let later = spot-run rs run at is in omega (arith, later)

  pub spot-within : (runs : List (Vec Piece A)) (run at : ℕ) → passes t (slice_get (items_at runs run) at) ≡ true → at < length (items_at runs run)
  spot-within runs run at is = place-within t (items_at runs run) at is

module _ {A : Type 0} where
  -- new pieces at a place of a run
  pub put-joined : (runs : List (Vec Piece A)) (run at : ℕ) (r : Vec Piece A) (new : List Piece) → run < length runs → at ≤ length (items_at runs run) →
      r.items ≡ take at (items_at runs run) ++ (new ++ drop at (items_at runs run)) →
      joined (slice_set runs run r) ≡ take (place_at runs run at) (joined runs) ++ (new ++ drop (place_at runs run at) (joined runs))
  put-joined [] run at r new low le is = absurd (omega (arith, low))
  put-joined (q ∷ qs) zero at r new low le is =
      let rest = joined qs in
      ap (λ ps. ps ++ rest) is
      ∙ append_assoc (take at q.items) (new ++ drop at q.items) rest
      ∙ ap (λ ps. take at q.items ++ ps) (append_assoc new (drop at q.items) rest)
      ∙ ap (λ ps. ps ++ (new ++ (drop at q.items ++ rest))) (sym (take-within q.items rest at le))
      ∙ ap (λ ps. take at (q.items ++ rest) ++ (new ++ ps)) (sym (drop-within q.items rest at le))
  put-joined (q ∷ qs) (suc run) at r new low le is =
      let rest = joined qs in
      let p = place_at qs run at in
      ap (λ ps. q.items ++ ps) (put-joined qs run at r new (omega (arith, low)) le is)
      ∙ sym (append_assoc q.items (take p rest) (new ++ drop p rest))
      ∙ ap (λ ps. ps ++ (new ++ drop p rest)) (sym (take-over q.items rest p))
      ∙ ap (λ ps. take (length q.items + p) (q.items ++ rest) ++ (new ++ ps)) (sym (drop-over q.items rest p))

  pub place-next : (runs : List (Vec Piece A)) (run at : ℕ) → place_at runs run (at + 1) ≡ place_at runs run at + 1
  place-next [] run at = refl
  place-next (r ∷ rs) zero at = refl
  place-next (r ∷ rs) (suc run) at = ap (λ n. length r.items + n) (place-next rs run at) ∙ omega arith

  -- a run without a piece
  pub take-joined : (runs : List (Vec Piece A)) (run at : ℕ) (r : Vec Piece A) → run < length runs → at < length (items_at runs run) →
      r.items ≡ remove (items_at runs run) at → joined (slice_set runs run r) ≡ remove (joined runs) (place_at runs run at)
  take-joined [] run at r low le is = absurd (omega (arith, low))
  take-joined (q ∷ qs) zero at r low le is = ap (λ ps. ps ++ joined qs) is ∙ sym (remove-within q.items (joined qs) at le)
  take-joined (q ∷ qs) (suc run) at r low le is =
      ap (λ ps. q.items ++ ps) (take-joined qs run at r (omega (arith, low)) le is) ∙ sym (remove-over q.items (joined qs) (place_at qs run at))

  -- one more run
  pub joined-push : (xs : List (Vec Piece A)) (x : Vec Piece A) (ys : List Piece) → joined (xs ++ x ∷ []) ++ ys ≡ joined xs ++ (x.items ++ ys)
  joined-push [] x ys = ap (λ ps. ps ++ ys) (append-nil x.items)
  joined-push (r ∷ rs) x ys =
      append_assoc r.items (joined (rs ++ x ∷ [])) ys ∙ ap (λ ps. r.items ++ ps) (joined-push rs x ys) ∙ sym (append_assoc r.items (joined rs) (x.items ++ ys))

  -- the runs from one on
  from-run : (runs : List (Vec Piece A)) (k : ℕ) → k < length runs → joined (drop k runs) ≡ items_at runs k ++ joined (drop (suc k) runs)
  from-run [] k low = absurd (omega (arith, low))
  from-run (r ∷ rs) zero low = refl
  from-run (r ∷ rs) (suc k) low = from-run rs k (omega (arith, low))

  pub drop-joined : (runs : List (Vec Piece A)) (k : ℕ) → k < length runs → joined (drop k runs) ≡ items_at runs k ++ joined (drop (k + 1) runs)
  drop-joined runs k low = let next : suc k ≡ k + 1 = omega arith in from-run runs k low ∙ ap (λ n. items_at runs k ++ joined (drop n runs)) next

  -- a run by its number
  pub none-items : (runs : List (Vec Piece A)) (k : ℕ) → slice_get runs k ≡ None → items_at runs k ≡ []
  none-items [] k none = refl
  none-items (r ∷ rs) zero none = absurd (cc)
  none-items (r ∷ rs) (suc k) none = none-items rs k none

  pub some-items : (runs : List (Vec Piece A)) (k : ℕ) (r : Vec Piece A) → slice_get runs k ≡ Some r → items_at runs k ≡ r.items
  some-items [] k r some = absurd (cc)
  some-items (q ∷ qs) zero r some = ap (λ (v : Vec Piece A). v.items) (same_Some q r some)
  some-items (q ∷ qs) (suc k) r some = some-items qs k r some

  pub got-items : (runs : List (Vec Piece A)) (k : ℕ) (r : Vec Piece A) → k < length runs → r ≡ get_or runs k r → items_at runs k ≡ r.items
  got-items [] k r low is = absurd (omega (arith, low))
  got-items (q ∷ qs) zero r low is = ap (λ (v : Vec Piece A). v.items) (sym is)
  got-items (q ∷ qs) (suc k) r low is = got-items qs k r (omega (arith, low)) is
