-- Edits of pieces at the one place that passes a test.
use Rattle.wsm_ops.proofs.Common.{[], ℕ, ◌++◌, ◌+◌, ◌<◌, ◌==◌, ◌∙◌, ◌∷◌, ◌≡◌, ◌≤◌, all_rows, ap, append_assoc, arith, at_gap, before, behind, Bool, both_ways, cases_Bool, drop, false, filter, get_or, if◌then◌else◌, inl, inr, is_node}
use Rattle.wsm_ops.proofs.Common.{IsOnce, IsPlace, length, List, list_any, ltb-false, nat_lt, None, not, Option, or_parts, passes, Piece, position, prefix_len, refl, remove, seat_at, seat_there, slice_get, Some, subst, suc, sym, take, true}
use Rattle.wsm_ops.proofs.{Common.{with_before, without_node, zero}, PieceSeats.{same-flat_map, same-filter}}
use Rattle.std.proofs.lemmas.List.Quantifiers.{position-Some}
use Rattle.wsm_ops.specs.declared.operations.Gap.TheVariants as gap
use Rattle.wsm_ops.specs.declared.pieces.Piece.TheVariants.{Node, Head}

module _ (t : Piece → Bool) where
  -- ---- where none passes
  pub behind-none : (new ps : List Piece) → list_any t ps ≡ false → behind t new ps ≡ ps
  behind-none new [] h = refl
  behind-none new (p ∷ ps) h = let parts = or_parts (t p) (list_any t ps) h in rw parts.0 (ap (λ qs. p ∷ qs) (behind-none new ps parts.1))

  pub before-none : (new ps : List Piece) → list_any t ps ≡ false → before t new ps ≡ ps
  before-none new [] h = refl
  before-none new (p ∷ ps) h = let parts = or_parts (t p) (list_any t ps) h in rw parts.0 (ap (λ qs. p ∷ qs) (before-none new ps parts.1))

  pub without-none : (ps : List Piece) → list_any t ps ≡ false → filter (λ p. not (t p)) ps ≡ ps
  without-none [] h = refl
  without-none (p ∷ ps) h = let parts = or_parts (t p) (list_any t ps) h in rw parts.0 (ap (λ qs. p ∷ qs) (without-none ps parts.1))

  few-none : (ps : List Piece) → length (filter t ps) ≤ 0 → list_any t ps ≡ false
  few-none [] h = refl
  few-none (p ∷ ps) h =
      elim (cases_Bool (t p)) [
        | inl is ↦ absurd (let bad : length (p ∷ filter t ps) ≤ 0 = rw is at h in omega (arith, bad))
        | inr other ↦ rw other (few-none ps (rw other at h))
      ]

  -- ---- the first place
  none-first : (ps : List Piece) → length ps ≤ prefix_len (λ p. not (t p)) ps → list_any t ps ≡ false
  none-first [] h = refl
  none-first (p ∷ ps) h =
      elim (cases_Bool (t p)) [
        | inl is ↦ absurd (let bad : length (p ∷ ps) ≤ 0 = rw is at h in omega (arith, bad))
        | inr other ↦ rw other (none-first ps (let rest : length (p ∷ ps) ≤ 1 + prefix_len (λ q. not (t q)) ps = rw other at h in omega (arith, rest)))
      ]

  none-passes : (ps : List Piece) → position t ps ≡ None → list_any t ps ≡ false
  none-passes ps h =
      elim (cases_Bool (nat_lt (prefix_len (λ p. not (t p)) ps) (length ps))) [
        | inl less ↦ absurd (let bad : Some (prefix_len (λ p. not (t p)) ps) ≡ None = rw less at h in cc)
        | inr more ↦ none-first ps (ltb-false _ _ more)
      ]

  got : (ps : List Piece) (i : ℕ) (d : Piece) → i < length ps → t (get_or ps i d) ≡ true → passes t (slice_get ps i) ≡ true
  got [] i d le is = absurd (omega (arith, le))
  got (p ∷ ps) zero d le is = is
  got (p ∷ ps) (suc i) d le is = got ps i d (omega (arith, le)) is

  pub first-is : (ps : List Piece) (place : Option ℕ) → place ≡ position t ps → IsPlace t ps place
  first-is ps None h = none-passes ps (sym h)
  first-is ps (Some i) h = let there = position-Some t ps i (Head 0 0 false) (sym h) in got ps i (Head 0 0 false) there.0 there.1

  -- ---- a place
  pub place-within : (ps : List Piece) (i : ℕ) → passes t (slice_get ps i) ≡ true → i < length ps
  place-within [] i is = absurd (both_ways _ refl is)
  place-within (p ∷ ps) zero is = omega arith
  place-within (p ∷ ps) (suc i) is = let later = place-within ps i is in omega (arith, later)

  counted : (ps : List Piece) (i : ℕ) → passes t (slice_get ps i) ≡ true → 1 ≤ length (filter t ps)
  counted [] i is = absurd (both_ways _ refl is)
  counted (p ∷ ps) zero is = rw is (omega arith)
  counted (p ∷ ps) (suc i) is =
      let later = counted ps i is in
      elim (cases_Bool (t p)) [
        | inl here ↦ rw here (omega arith)
        | inr other ↦ rw other later
      ]

  -- the first one passes no more than a later one
  not_first : (p : Piece) (ps : List Piece) (i : ℕ) → IsOnce t (p ∷ ps) → passes t (slice_get ps i) ≡ true → t p ≡ false
  not_first p ps i few is =
      elim (cases_Bool (t p)) [
        | inl here ↦ absurd (let more : length (p ∷ filter t ps) ≤ 1 = rw here at few in let one = counted ps i is in omega (arith, more, one))
        | inr other ↦ other
      ]

  rest-none : (p : Piece) (ps : List Piece) → IsOnce t (p ∷ ps) → t p ≡ true → list_any t ps ≡ false
  rest-none p ps few is = few-none ps (let one : length (p ∷ filter t ps) ≤ 1 = rw is at few in omega (arith, one))

  behind-at : (new ps : List Piece) (i : ℕ) → IsOnce t ps → passes t (slice_get ps i) ≡ true → behind t new ps ≡ take (suc i) ps ++ (new ++ drop (suc i) ps)
  behind-at new [] i few is = absurd (both_ways _ refl is)
  behind-at new (p ∷ ps) zero few is = let none = behind-none new ps (rest-none p ps few is) in rw is (ap (λ qs. p ∷ (new ++ qs)) none)
  behind-at new (p ∷ ps) (suc i) few is =
      let other = not_first p ps i few is in
      let later = behind-at new ps i (rw other at few) is in
      rw other (ap (λ qs. p ∷ qs) later)

  before-at : (new ps : List Piece) (i : ℕ) → IsOnce t ps → passes t (slice_get ps i) ≡ true → before t new ps ≡ take i ps ++ (new ++ drop i ps)
  before-at new [] i few is = absurd (both_ways _ refl is)
  before-at new (p ∷ ps) zero few is =
      let none = before-none new ps (rest-none p ps few is) in
      rw is (append_assoc new (p ∷ []) (before t new ps) ∙ ap (λ qs. new ++ (p ∷ qs)) none)
  before-at new (p ∷ ps) (suc i) few is =
      let other = not_first p ps i few is in
      let later = before-at new ps i (rw other at few) is in
      rw other (ap (λ qs. p ∷ qs) later)

  without-at : (ps : List Piece) (i : ℕ) → IsOnce t ps → passes t (slice_get ps i) ≡ true → filter (λ p. not (t p)) ps ≡ remove ps i
  without-at [] i few is = absurd (both_ways _ refl is)
  without-at (p ∷ ps) zero few is = let none = without-none ps (rest-none p ps few is) in rw is none
  without-at (p ∷ ps) (suc i) few is =
      let other = not_first p ps i few is in
      let later = without-at ps i (rw other at few) is in
      rw other (ap (λ qs. p ∷ qs) later)

-- ---- a gap behind a node is behind its piece
pub node-gap : (n : ℕ) (p : Piece) → at_gap (gap.After n) p ≡ is_node n p
node-gap n (Node node kind partner) = refl
node-gap n (Head split code is_first) = refl

before-node : (n : ℕ) (new ps : List Piece) → before (at_gap (gap.After n)) new ps ≡ before (is_node n) new ps
before-node n new ps =
    same-flat_map (with_before (at_gap (gap.After n)) new) (with_before (is_node n) new) ps
    (all_rows (λ p. with_before (at_gap (gap.After n)) new p ≡ with_before (is_node n) new p) (λ p. ap (λ b. (if b then new else []) ++ p ∷ []) (node-gap n p)) ps)

without-gap : (n : ℕ) (ps : List Piece) → filter (λ p. not (at_gap (gap.After n) p)) ps ≡ without_node n ps
without-gap n ps =
    same-filter (λ p. not (at_gap (gap.After n) p)) (λ p. not (is_node n p)) ps
    (all_rows (λ p. not (at_gap (gap.After n) p) ≡ not (is_node n p)) (λ p. ap not (node-gap n p)) ps)

-- ---- at a place that was found
pub behind-found : (t : Piece → Bool) (new ps : List Piece) (i : ℕ) → IsOnce t ps → passes t (slice_get ps i) ≡ true → behind t new ps ≡ take (i + 1) ps ++ (new ++ drop (i + 1) ps)
behind-found t new ps i once found =
    let next : suc i ≡ i + 1 = omega arith in
    subst (λ k. behind t new ps ≡ take k ps ++ (new ++ drop k ps)) next (behind-at t new ps i once found)

module _ (n : ℕ) (ps : List Piece) where
  abbrev t : Piece → Bool
  t = at_gap (gap.After n)

  pub before-absent : (new : List Piece) → list_any (at_gap (gap.After n)) ps ≡ false → before (is_node n) new ps ≡ ps
  before-absent new none = sym (before-node n new ps) ∙ before-none t new ps none

  pub without-absent : list_any (at_gap (gap.After n)) ps ≡ false → without_node n ps ≡ ps
  without-absent none = sym (without-gap n ps) ∙ without-none t ps none

  pub before-found : (new : List Piece) (i : ℕ) → IsOnce (at_gap (gap.After n)) ps → passes (at_gap (gap.After n)) (slice_get ps i) ≡ true → before (is_node n) new ps ≡ take i ps ++ (new ++ drop i ps)
  before-found new i once found = sym (before-node n new ps) ∙ before-at t new ps i once found

  pub without-found : (i : ℕ) → IsOnce (at_gap (gap.After n)) ps → passes (at_gap (gap.After n)) (slice_get ps i) ≡ true → without_node n ps ≡ remove ps i
  without-found i once found = sym (without-gap n ps) ∙ without-at t ps i once found

-- ---- what a node's place says of it
pub seat-absent : (n : ℕ) (ps : List Piece) → list_any (at_gap (gap.After n)) ps ≡ false → seat_at n ps ≡ None
seat-absent n [] h = refl
seat-absent n (Head split code is_first ∷ ps) h = seat-absent n ps h
seat-absent n (Node node kind partner ∷ ps) h = let parts = or_parts (node == n) (list_any (at_gap (gap.After n)) ps) h in rw parts.0 (seat-absent n ps parts.1)

pub seat-found : (n : ℕ) (ps : List Piece) (i : ℕ) → IsOnce (at_gap (gap.After n)) ps → passes (at_gap (gap.After n)) (slice_get ps i) ≡ true → seat_at n ps ≡ seat_there n (slice_get ps i)
seat-found n [] i few is = absurd (both_ways _ refl is)
seat-found n (Head split code is_first ∷ ps) zero few is = absurd (both_ways _ refl is)
seat-found n (Node node kind partner ∷ ps) zero few is = rw is refl
seat-found n (Head split code is_first ∷ ps) (suc i) few is = seat-found n ps i few is
seat-found n (Node node kind partner ∷ ps) (suc i) few is =
    let other = not_first (at_gap (gap.After n)) (Node node kind partner) ps i few is in
    rw other (seat-found n ps i (rw other at few) is)
