-- What the blocks round two nodes tell of whether one is bound to the other, where no node stands in two items or two branches.
use Rattle.wsm_schema.proofs.Common.{[], ℕ, ◌&&◌, ◌+◌, ◌<◌, ◌||◌, ◌∙◌, ◌∷◌, ◌≡◌, ◌≤◌, act, and_gate, ap, are_bound, are_free, arith, Bool, both_ways, cards_of, cases_Bool, drop, Enclosure, enclosure, eq-eqb, eqb, eqb-true, false, Gate}
use Rattle.wsm_schema.proofs.Common.{gate, if◌then◌else◌, inl, inr, is_and, is_xor_split, lane, Lanes, lanes_bound, lanes_have, lanes_round, length, List, loop, min, ne_eqb, no_lane, NodeKind, nodes_of, not, nothing, or_parts, Part, part}
use Rattle.wsm_schema.proofs.{Common.{part_bound, part_has, part_round, Parts, parts_bound, parts_have, parts_round, refl, SchemaModel, split_kind, suc, sym, true, twice, xor_gate, zero}, TreeNodes.{PartOnce, PartsOnce, LanesOnce}}
use Rattle.wsm_schema.proofs.EnclosedNodes.{HeadIn, part-head, parts-head, turned}

-- ---- tests
free-kind : (kind : Gate) → is_and kind ≡ not (is_xor_split (split_kind kind))
free-kind and_gate = refl
free-kind xor_gate = refl

any_true : (a : Bool) → (a || true) ≡ true
any_true true = refl
any_true false = refl

and_true : (a : Bool) → (a && true) ≡ a
and_true true = refl
and_true false = refl

or_false : (a : Bool) → (a || false) ≡ a
or_false true = refl
or_false false = refl

-- ---- a node that is not there is bound to any
mutual
  part-none : (p : Part) (a b : ℕ) → part_has p a ≡ false → part_bound p a b ≡ true
  part-none (act node) a b h = refl
  part-none (gate kind split join ls) a b h = lanes-none kind ls a b (or_parts (eqb split a || eqb join a) _ h).1
  part-none (loop start end body) a b h = parts-none body a b (or_parts (eqb start a || eqb end a) _ h).1

  parts-none : (ps : Parts) (a b : ℕ) → parts_have ps a ≡ false → parts_bound ps a b ≡ true
  parts-none nothing a b h = refl
  parts-none (part p ps) a b h = let r = or_parts (part_has p a) _ h in rw (part-none p a b r.0) (parts-none ps a b r.1)

  lanes-none : (kind : Gate) (ls : Lanes) (a b : ℕ) → lanes_have ls a ≡ false → lanes_bound kind ls a b ≡ true
  lanes-none kind no_lane a b h = refl
  lanes-none kind (lane code ps ls) a b h =
      let r = or_parts (parts_have ps a) _ h in rw (r.0, any_true (is_and kind), parts-none ps a b r.0) (lanes-none kind ls a b r.1)

-- ---- a node is bound to one that is not there where no choice is round it
mutual
  part-free : (p : Part) → PartOnce p → (a b : ℕ) → part_has p b ≡ false → part_bound p a b ≡ are_free (part_round p a)
  part-free (act node) once a b h = refl
  part-free (gate kind split join ls) once a b h = lanes-free kind split 0 ls once.2 a b (or_parts (eqb split b || eqb join b) _ h).1
  part-free (loop start end body) once a b h = parts-free body once.2 a b (or_parts (eqb start b || eqb end b) _ h).1

  parts-free : (ps : Parts) → PartsOnce ps → (a b : ℕ) → parts_have ps b ≡ false → parts_bound ps a b ≡ are_free (parts_round ps a)
  parts-free nothing once a b h = refl
  parts-free (part p ps) once a b h =
      let r = or_parts (part_has p b) _ h in
      elim (cases_Bool (part_has p a)) [
        | inl here ↦ rw (here, parts-none ps a b (once.0 a here)) (and_true (part_bound p a b) ∙ part-free p once.1 a b r.0)
        | inr away ↦ rw (away, part-none p a b away) (parts-free ps once.2 a b r.1)
      ]

  lanes-free : (kind : Gate) (split i : ℕ) (ls : Lanes) → LanesOnce ls → (a b : ℕ) → lanes_have ls b ≡ false → lanes_bound kind ls a b ≡ are_free (lanes_round split (split_kind kind) i ls a)
  lanes-free kind split i no_lane once a b h = refl
  lanes-free kind split i (lane code ps ls) once a b h =
      let r = or_parts (parts_have ps b) _ h in
      elim (cases_Bool (parts_have ps a)) [
        | inl here ↦
            rw (here, r.0, or_false (is_and kind), lanes-none kind ls a b (once.0 a here), and_true (parts_bound ps a b))
            (ap (λ t. t && parts_bound ps a b) (free-kind kind) ∙ ap (λ t. not (is_xor_split (split_kind kind)) && t) (parts-free ps once.1 a b r.0))
        | inr away ↦ rw (away, any_true (is_and kind), parts-none ps a b away) (lanes-free kind split (i + 1) ls once.2 a b r.1)
      ]

-- ---- blocks that have no block in common
heads-free : (one other : ℕ → Bool) (xs ys : List Enclosure) → ((n : ℕ) → one n ≡ true → other n ≡ false) → HeadIn one xs → HeadIn other ys → are_bound xs ys ≡ are_free xs
heads-free one other [] ys apart h k = refl
heads-free one other (x ∷ xs) [] apart h k = refl
heads-free one other (x ∷ xs) (y ∷ ys) apart h k =
    elim (cases_Bool (eqb x.first y.first)) [
      | inl same ↦ absurd (both_ways _ (apart x.first h) (ap other (eqb-true x.first y.first same) ∙ k))
      | inr differ ↦ rw differ refl
    ]

other-lane : (split : ℕ) (kind : NodeKind) (k i : ℕ) (ls : Lanes) (n : ℕ) (xs : List Enclosure) → k < i →
    are_bound (enclosure split kind k ∷ xs) (lanes_round split kind i ls n) ≡ are_free (enclosure split kind k ∷ xs)
other-lane split kind k i no_lane n xs lt = refl
other-lane split kind k i (lane code ps ls) n xs lt =
    elim (cases_Bool (parts_have ps n)) [
      | inl here ↦ rw (here, eq-eqb split split refl, ne_eqb k i (omega (arith, lt))) refl
      | inr away ↦ rw away (other-lane split kind k (i + 1) ls n xs (omega (arith, lt)))
    ]

lane-other : (split : ℕ) (kind : NodeKind) (k i : ℕ) (ls : Lanes) (n : ℕ) (ys : List Enclosure) → k < i →
    are_bound (lanes_round split kind i ls n) (enclosure split kind k ∷ ys) ≡ are_free (lanes_round split kind i ls n)
lane-other split kind k i no_lane n ys lt = refl
lane-other split kind k i (lane code ps ls) n ys lt =
    elim (cases_Bool (parts_have ps n)) [
      | inl here ↦ rw (here, eq-eqb split split refl, ne_eqb i k (omega (arith, lt))) refl
      | inr away ↦ rw away (lane-other split kind k (i + 1) ls n ys (omega (arith, lt)))
    ]

-- ---- whether a node is bound to another
mutual
  part-bound : (p : Part) → PartOnce p → (a b : ℕ) → part_bound p a b ≡ are_bound (part_round p a) (part_round p b)
  part-bound (act node) once a b = refl
  part-bound (gate kind split join ls) once a b = lanes-bound kind split 0 ls once.2 a b
  part-bound (loop start end body) once a b = rw (eq-eqb start start refl) (parts-bound body once.2 a b)

  pub parts-bound : (ps : Parts) → PartsOnce ps → (a b : ℕ) → parts_bound ps a b ≡ are_bound (parts_round ps a) (parts_round ps b)
  parts-bound nothing once a b = refl
  parts-bound (part p ps) once a b =
      elim (cases_Bool (part_has p a)) [
        | inl a_here ↦ elim (cases_Bool (part_has p b)) [
          | inl b_here ↦ rw (a_here, b_here, parts-none ps a b (once.0 a a_here)) (and_true (part_bound p a b) ∙ part-bound p once.1 a b)
          | inr b_away ↦
              rw (a_here, b_away, parts-none ps a b (once.0 a a_here))
              (and_true (part_bound p a b) ∙ part-free p once.1 a b b_away
              ∙ sym (heads-free (part_has p) (parts_have ps) (part_round p a) (parts_round ps b) once.0 (part-head p a) (parts-head ps b)))
        ]
        | inr a_away ↦ elim (cases_Bool (part_has p b)) [
          | inl b_here ↦
              rw (a_away, b_here, part-none p a b a_away)
              (parts-free ps once.2 a b (once.0 b b_here)
              ∙ sym (heads-free (parts_have ps) (part_has p) (parts_round ps a) (part_round p b) (turned (part_has p) (parts_have ps) once.0) (parts-head ps a) (part-head p b)))
          | inr b_away ↦ rw (a_away, b_away, part-none p a b a_away) (parts-bound ps once.2 a b)
        ]
      ]

  lanes-bound : (kind : Gate) (split i : ℕ) (ls : Lanes) → LanesOnce ls → (a b : ℕ) →
      lanes_bound kind ls a b ≡ are_bound (lanes_round split (split_kind kind) i ls a) (lanes_round split (split_kind kind) i ls b)
  lanes-bound kind split i no_lane once a b = refl
  lanes-bound kind split i (lane code ps ls) once a b =
      elim (cases_Bool (parts_have ps a)) [
        | inl a_here ↦ elim (cases_Bool (parts_have ps b)) [
          | inl b_here ↦
              rw (a_here, b_here, any_true (is_and kind), lanes-none kind ls a b (once.0 a a_here), eq-eqb split split refl, eq-eqb i i refl)
              (and_true (parts_bound ps a b) ∙ parts-bound ps once.1 a b)
          | inr b_away ↦
              rw (a_here, b_away, or_false (is_and kind), lanes-none kind ls a b (once.0 a a_here), and_true (parts_bound ps a b))
              (ap (λ t. t && parts_bound ps a b) (free-kind kind) ∙ ap (λ t. not (is_xor_split (split_kind kind)) && t) (parts-free ps once.1 a b b_away)
              ∙ sym (other-lane split (split_kind kind) i (i + 1) ls b (parts_round ps a) (omega arith)))
        ]
        | inr a_away ↦ elim (cases_Bool (parts_have ps b)) [
          | inl b_here ↦
              rw (a_away, b_here, any_true (is_and kind), parts-none ps a b a_away)
              (lanes-free kind split (i + 1) ls once.2 a b (once.0 b b_here)
              ∙ sym (lane-other split (split_kind kind) i (i + 1) ls a (parts_round ps b) (omega arith)))
          | inr b_away ↦ rw (a_away, b_away, any_true (is_and kind), parts-none ps a b a_away) (lanes-bound kind split (i + 1) ls once.2 a b)
        ]
      ]

-- ---- where one list ends
pub rest-free : (i : ℕ) (xs ys : List Enclosure) → min (length xs) (length ys) ≤ i → are_bound (drop i xs) (drop i ys) ≡ are_free (drop i xs)
rest-free zero [] ys le = refl
rest-free zero (x ∷ xs) [] le = refl
rest-free zero (x ∷ xs) (y ∷ ys) le = absurd (omega (arith, le))
rest-free (suc i) [] ys le = refl
rest-free (suc i) (x ∷ xs) [] le = ended (drop i xs)
  where
    ended : (xs : List Enclosure) → are_bound xs [] ≡ are_free xs
    ended [] = refl
    ended (x ∷ xs) = refl
rest-free (suc i) (x ∷ xs) (y ∷ ys) le = rest-free i xs ys (omega (arith, le))
