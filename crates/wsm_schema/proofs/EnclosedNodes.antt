-- What the blocks round two nodes tell of them, where no node stands in two items or two branches.
use Rattle.wsm_schema.proofs.Common.{[], ℕ, ◌&&◌, ◌+◌, ◌<◌, ◌||◌, ◌∙◌, ◌∷◌, ◌≡◌, ◌≤◌, act, and_from, and_gate, and_left, and_parts, and_right, ap, arith, Bool, both_ways, cases_Bool, drop, Enclosure, enclosure, eq-eqb, eqb, eqb-true, false}
use Rattle.wsm_schema.proofs.Common.{Gate, gate, if◌then◌else◌, inl, innermost_loop, inr, is_and, is_and_split, is_loop_start, lane, Lanes, lanes_apart, lanes_have, lanes_loop, lanes_round, length, List, loop, min, ne_eqb, no_lane}
use Rattle.wsm_schema.proofs.Common.{NodeKind, nothing, Option, or_left, or_right, Part, part, part_apart, part_has, part_loop, part_round, part_ways, Parts, parts_apart, parts_have, parts_loop, parts_round, refl, Some, split_kind, suc}
use Rattle.wsm_schema.proofs.{Common.{sym, true, xor_gate, zero}, TreeNodes.{PartOnce, PartsOnce, LanesOnce}}

-- ---- kinds of blocks
and-kind : (kind : Gate) → is_and kind ≡ is_and_split (split_kind kind)
and-kind and_gate = refl
and-kind xor_gate = refl

no_loop-kind : (kind : Gate) → is_loop_start (split_kind kind) ≡ false
no_loop-kind and_gate = refl
no_loop-kind xor_gate = refl

-- ---- the innermost loop
mutual
  part-loop : (p : Part) (n : ℕ) (around : Option ℕ) → part_loop p n around ≡ innermost_loop (part_round p n) around
  part-loop (act node) n around = refl
  part-loop (gate kind split join ls) n around = lanes-loop split (split_kind kind) (no_loop-kind kind) 0 ls n around
  part-loop (loop start end body) n around = parts-loop body n (Some start)

  pub parts-loop : (ps : Parts) (n : ℕ) (around : Option ℕ) → parts_loop ps n around ≡ innermost_loop (parts_round ps n) around
  parts-loop nothing n around = refl
  parts-loop (part p ps) n around =
      elim (cases_Bool (part_has p n)) [
        | inl here ↦ rw here (part-loop p n around)
        | inr away ↦ rw away (parts-loop ps n around)
      ]

  lanes-loop : (split : ℕ) (kind : NodeKind) → is_loop_start kind ≡ false → (i : ℕ) (ls : Lanes) (n : ℕ) (around : Option ℕ) →
      lanes_loop ls n around ≡ innermost_loop (lanes_round split kind i ls n) around
  lanes-loop split kind no_loop i no_lane n around = refl
  lanes-loop split kind no_loop i (lane code ps ls) n around =
      elim (cases_Bool (parts_have ps n)) [
        | inl here ↦ rw here (parts-loop ps n around ∙ ap (λ t. innermost_loop (parts_round ps n) (if t then Some split else around)) (sym no_loop))
        | inr away ↦ rw away (lanes-loop split kind no_loop (i + 1) ls n around)
      ]

-- ---- the first of the blocks is one of the tree's
abbrev pub HeadIn : (ℕ → Bool) → List Enclosure → Type 0
HeadIn has [] = Unit {0}
HeadIn has (x ∷ xs) = has x.first ≡ true

head-more : (has more : ℕ → Bool) (xs : List Enclosure) → ((n : ℕ) → has n ≡ true → more n ≡ true) → HeadIn has xs → HeadIn more xs
head-more has more [] f h = tt
head-more has more (x ∷ xs) f h = f x.first h

mutual
  pub part-head : (p : Part) (n : ℕ) → HeadIn (part_has p) (part_round p n)
  part-head (act node) n = tt
  part-head (gate kind split join ls) n =
      lanes-head (part_has (gate kind split join ls)) split (split_kind kind) 0 ls n
      (or_left (eqb split split || eqb join split) (lanes_have ls split) (or_left (eqb split split) (eqb join split) (eq-eqb split split refl)))
  part-head (loop start end body) n =
      or_left (eqb start start || eqb end start) (parts_have body start) (or_left (eqb start start) (eqb end start) (eq-eqb start start refl))

  pub parts-head : (ps : Parts) (n : ℕ) → HeadIn (parts_have ps) (parts_round ps n)
  parts-head nothing n = tt
  parts-head (part p ps) n =
      elim (cases_Bool (part_has p n)) [
        | inl here ↦ rw here (head-more (part_has p) (parts_have (part p ps)) (part_round p n) (λ m one. or_left (part_has p m) _ one) (part-head p n))
        | inr away ↦ rw away (head-more (parts_have ps) (parts_have (part p ps)) (parts_round ps n) (λ m one. or_right (part_has p m) _ one) (parts-head ps n))
      ]

  lanes-head : (has : ℕ → Bool) (split : ℕ) (kind : NodeKind) (i : ℕ) (ls : Lanes) (n : ℕ) → has split ≡ true → HeadIn has (lanes_round split kind i ls n)
  lanes-head has split kind i no_lane n h = tt
  lanes-head has split kind i (lane code ps ls) n h =
      elim (cases_Bool (parts_have ps n)) [
        | inl here ↦ rw here h
        | inr away ↦ rw away (lanes-head has split kind (i + 1) ls n h)
      ]

-- blocks of two trees have no block in common
heads-part : (one other : ℕ → Bool) (xs ys : List Enclosure) → ((n : ℕ) → one n ≡ true → other n ≡ false) → HeadIn one xs → HeadIn other ys → part_ways xs ys ≡ false
heads-part one other [] ys apart h k = refl
heads-part one other (x ∷ xs) [] apart h k = refl
heads-part one other (x ∷ xs) (y ∷ ys) apart h k =
    elim (cases_Bool (eqb x.first y.first)) [
      | inl same ↦ absurd (both_ways _ (apart x.first h) (ap other (eqb-true x.first y.first same) ∙ k))
      | inr differ ↦ rw differ refl
    ]

pub turned : (one other : ℕ → Bool) → ((n : ℕ) → one n ≡ true → other n ≡ false) → (n : ℕ) → other n ≡ true → one n ≡ false
turned one other apart n there =
    elim (cases_Bool (one n)) [
      | inl here ↦ absurd (both_ways _ (apart n here) there)
      | inr away ↦ away
    ]

-- ---- two nodes of which one is not there
neither : (a x b y : Bool) → ((a || x) && (b || y)) ≡ false → ((a && b) ≡ false) × ((x && y) ≡ false)
neither a x b y h = (
  elim (cases_Bool (a && b)) [
    | inl both ↦ let parts = and_parts a b both in absurd (both_ways _ h (and_from _ _ (or_left a x parts.0) (or_left b y parts.1)))
    | inr not_both ↦ not_both
  ],
  elim (cases_Bool (x && y)) [
    | inl both ↦ let parts = and_parts x y both in absurd (both_ways _ h (and_from _ _ (or_right a x parts.0) (or_right b y parts.1)))
    | inr not_both ↦ not_both
  ],
)

parts-nowhere : (ps : Parts) (a b : ℕ) → (parts_have ps a && parts_have ps b) ≡ false → parts_apart ps a b ≡ false
parts-nowhere nothing a b h = refl
parts-nowhere (part p ps) a b h =
    let r = neither (part_has p a) (parts_have ps a) (part_has p b) (parts_have ps b) h in rw r.0 (parts-nowhere ps a b r.1)

lanes-nowhere : (ls : Lanes) (a b : ℕ) (none_has_both : Bool) → (lanes_have ls a && lanes_have ls b) ≡ false → lanes_apart ls a b none_has_both ≡ none_has_both
lanes-nowhere no_lane a b none_has_both h = refl
lanes-nowhere (lane code ps ls) a b none_has_both h =
    let r = neither (parts_have ps a) (lanes_have ls a) (parts_have ps b) (lanes_have ls b) h in rw r.0 (lanes-nowhere ls a b none_has_both r.1)

-- ---- nodes in two branches of one block
and_none : (a : Bool) → (a && false) ≡ false
and_none true = refl
and_none false = refl

and_true : (a : Bool) → (a && true) ≡ a
and_true true = refl
and_true false = refl

other-lane : (split : ℕ) (kind : NodeKind) (k i : ℕ) (ls : Lanes) (n : ℕ) (xs : List Enclosure) → k < i →
    part_ways (enclosure split kind k ∷ xs) (lanes_round split kind i ls n) ≡ (is_and_split kind && lanes_have ls n)
other-lane split kind k i no_lane n xs lt = sym (and_none (is_and_split kind))
other-lane split kind k i (lane code ps ls) n xs lt =
    elim (cases_Bool (parts_have ps n)) [
      | inl here ↦ rw (here, eq-eqb split split refl, ne_eqb k i (omega (arith, lt))) (sym (and_true (is_and_split kind)))
      | inr away ↦ rw away (other-lane split kind k (i + 1) ls n xs (omega (arith, lt)))
    ]

lane-other : (split : ℕ) (kind : NodeKind) (k i : ℕ) (ls : Lanes) (n : ℕ) (ys : List Enclosure) → k < i →
    part_ways (lanes_round split kind i ls n) (enclosure split kind k ∷ ys) ≡ (is_and_split kind && lanes_have ls n)
lane-other split kind k i no_lane n ys lt = sym (and_none (is_and_split kind))
lane-other split kind k i (lane code ps ls) n ys lt =
    elim (cases_Bool (parts_have ps n)) [
      | inl here ↦ rw (here, eq-eqb split split refl, ne_eqb i k (omega (arith, lt))) (sym (and_true (is_and_split kind)))
      | inr away ↦ rw away (lane-other split kind k (i + 1) ls n ys (omega (arith, lt)))
    ]

-- ---- whether nodes stand apart
mutual
  part-ways : (p : Part) → PartOnce p → (a b : ℕ) → part_apart p a b ≡ part_ways (part_round p a) (part_round p b)
  part-ways (act node) once a b = refl
  part-ways (gate kind split join ls) once a b =
      ap (λ t. lanes_apart ls a b (t && lanes_have ls a && lanes_have ls b)) (and-kind kind) ∙ lanes-ways split (split_kind kind) 0 ls once.2 a b
  part-ways (loop start end body) once a b = rw (eq-eqb start start refl) (parts-ways body once.2 a b)

  pub parts-ways : (ps : Parts) → PartsOnce ps → (a b : ℕ) → parts_apart ps a b ≡ part_ways (parts_round ps a) (parts_round ps b)
  parts-ways nothing once a b = refl
  parts-ways (part p ps) once a b =
      elim (cases_Bool (part_has p a)) [
        | inl a_here ↦ elim (cases_Bool (part_has p b)) [
          | inl b_here ↦ rw (a_here, b_here) (part-ways p once.1 a b)
          | inr b_away ↦
              rw (a_here, b_away) (parts-nowhere ps a b (and_left _ _ (once.0 a a_here))
              ∙ sym (heads-part (part_has p) (parts_have ps) (part_round p a) (parts_round ps b) once.0 (part-head p a) (parts-head ps b)))
        ]
        | inr a_away ↦ elim (cases_Bool (part_has p b)) [
          | inl b_here ↦
              rw (a_away, b_here) (parts-nowhere ps a b (and_right _ _ (once.0 b b_here))
              ∙ sym (heads-part (parts_have ps) (part_has p) (parts_round ps a) (part_round p b) (turned (part_has p) (parts_have ps) once.0) (parts-head ps a) (part-head p b)))
          | inr b_away ↦ rw (a_away, b_away) (parts-ways ps once.2 a b)
        ]
      ]

  lanes-ways : (split : ℕ) (kind : NodeKind) (i : ℕ) (ls : Lanes) → LanesOnce ls → (a b : ℕ) →
      lanes_apart ls a b (is_and_split kind && lanes_have ls a && lanes_have ls b) ≡ part_ways (lanes_round split kind i ls a) (lanes_round split kind i ls b)
  lanes-ways split kind i no_lane once a b = and_none (is_and_split kind && false)
  lanes-ways split kind i (lane code ps ls) once a b =
      elim (cases_Bool (parts_have ps a)) [
        | inl a_here ↦ elim (cases_Bool (parts_have ps b)) [
          | inl b_here ↦ rw (a_here, b_here, eq-eqb split split refl, eq-eqb i i refl) (parts-ways ps once.1 a b)
          | inr b_away ↦
              rw (a_here, b_away, and_true (is_and_split kind)) (lanes-nowhere ls a b (is_and_split kind && lanes_have ls b) (and_left _ _ (once.0 a a_here))
              ∙ sym (other-lane split kind i (i + 1) ls b (parts_round ps a) (omega arith)))
        ]
        | inr a_away ↦ elim (cases_Bool (parts_have ps b)) [
          | inl b_here ↦
              rw (a_away, b_here, and_true (is_and_split kind && lanes_have ls a)) (lanes-nowhere ls a b (is_and_split kind && lanes_have ls a) (and_right _ _ (once.0 b b_here))
              ∙ sym (lane-other split kind i (i + 1) ls a (parts_round ps b) (omega arith)))
          | inr b_away ↦ rw (a_away, b_away) (lanes-ways split kind (i + 1) ls once.2 a b)
        ]
      ]

-- ---- where one list ends
ended : (xs : List Enclosure) → part_ways xs [] ≡ false
ended [] = refl
ended (x ∷ xs) = refl

pub past-end : (i : ℕ) (xs ys : List Enclosure) → min (length xs) (length ys) ≤ i → part_ways (drop i xs) (drop i ys) ≡ false
past-end zero [] ys le = refl
past-end zero (x ∷ xs) [] le = refl
past-end zero (x ∷ xs) (y ∷ ys) le = absurd (omega (arith, le))
past-end (suc i) [] ys le = refl
past-end (suc i) (x ∷ xs) [] le = ended (drop i xs)
past-end (suc i) (x ∷ xs) (y ∷ ys) le = past-end i xs ys (omega (arith, le))
