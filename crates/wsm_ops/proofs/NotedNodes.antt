-- A place is known of each node.
use Rattle.wsm_ops.proofs.Common.{[], ℕ, ◌++◌, ◌+◌, ◌<◌, ◌||◌, ◌∙◌, ◌∷◌, ◌≡◌, ◌≤◌, ap, arith, at_gap, Bool, both_ways, cases_Bool, drop, drop-cons, drop_of_length-le, false, get_or, if◌then◌else◌, inl, inr, is_known, is_node, is_some}
use Rattle.wsm_ops.proofs.{Common.{IsNoted, length, List, list_any, list_any-append, None, Noted, Option, or_left, or_right, Piece, refl, remove, Some, subst, suc, sym, take, take-append-drop, true, zero}, OnePlace.node-gap}
use Rattle.wsm_ops.specs.declared.operations.Gap.TheVariants as gap

any-same : (f g : Piece → Bool) → ((p : Piece) → f p ≡ g p) → (ps : List Piece) → list_any f ps ≡ list_any g ps
any-same f g h [] = refl
any-same f g h (p ∷ ps) = ap (λ b. b || list_any f ps) (h p) ∙ ap (λ b. g p || b) (any-same f g h ps)

-- a node of which no place is known is not there
pub unknown-absent : (place : ℕ → Option ℕ) (ps : List Piece) (n : ℕ) → IsNoted place ps → place n ≡ None → list_any (at_gap (gap.After n)) ps ≡ false
unknown-absent place ps n noted none =
    any-same (at_gap (gap.After n)) (is_node n) (node-gap n) ps
    ∙ elim (cases_Bool (list_any (is_node n) ps)) [
      | inl there ↦ absurd (both_ways _ (ap is_some none) (noted n there))
      | inr away ↦ away
    ]

-- one more piece
one-noted : (old new : ℕ → Option ℕ) (p : Piece) (at : ℕ) (rest : List Piece) (n : ℕ) → new n ≡ (if is_node n p then Some at else old n) →
    (list_any (is_node n) rest || is_known new n) ≡ (list_any (is_node n) (p ∷ rest) || is_known old n)
one-noted old new p at rest n is =
    elim (cases_Bool (is_node n p)) [
      | inl here ↦
          let found : new n ≡ Some at = rw here at is in
          rw (found, here) (or_right _ _ refl)
      | inr other ↦
          let same : new n ≡ old n = rw other at is in
          rw (same, other) refl
    ]

pub next-noted : (first old new : ℕ → Option ℕ) (ps : List Piece) (i : ℕ) (d : Piece) (at : ℕ) → i < length ps → ((n : ℕ) → new n ≡ (if is_node n (get_or ps i d) then Some at else old n)) →
    ((n : ℕ) → (list_any (is_node n) (drop i ps) || is_known old n) ≡ (list_any (is_node n) ps || is_known first n)) →
    (n : ℕ) → (list_any (is_node n) (drop (i + 1) ps) || is_known new n) ≡ (list_any (is_node n) ps || is_known first n)
next-noted first old new ps i d at lt is so_far n =
    let next : suc i ≡ i + 1 = omega arith in
    let split : drop i ps ≡ get_or ps i d ∷ drop (i + 1) ps = subst (λ k. drop i ps ≡ get_or ps i d ∷ drop k ps) next (drop-cons ps i d lt) in
    one-noted old new (get_or ps i d) at (drop (i + 1) ps) n (is n) ∙ ap (λ qs. list_any (is_node n) qs || is_known old n) (sym split) ∙ so_far n

-- all of some pieces, one after another
pub noted-end : (old new : ℕ → Option ℕ) (k : ℕ) (ps : List Piece) → length ps ≤ k → ((n : ℕ) → (list_any (is_node n) (drop k ps) || is_known new n) ≡ (list_any (is_node n) ps || is_known old n)) → Noted old ps new
noted-end old new k ps le so_far n = ap (λ qs. list_any (is_node n) qs || is_known new n) (sym (drop_of_length-le ps le)) ∙ so_far n

pub noted-all : (old new : ℕ → Option ℕ) (ps : List Piece) → Noted old ps new → IsNoted new ps
noted-all old new ps noted n there = noted n ∙ or_left _ _ there

-- pieces with others at a place
pub put-noted : (old new : ℕ → Option ℕ) (i : ℕ) (more ps : List Piece) → IsNoted old ps → Noted old more new → IsNoted new (take i ps ++ (more ++ drop i ps))
put-noted old new i more ps known noted n there =
    let t = is_node n in
    let parts : list_any t (take i ps) || (list_any t more || list_any t (drop i ps)) ≡ true =
    ap (λ b. list_any t (take i ps) || b) (sym (list_any-append t more (drop i ps))) ∙ sym (list_any-append t (take i ps) (more ++ drop i ps)) ∙ there in
    elim (cases_Bool (list_any t more)) [
      | inl fresh ↦ noted n ∙ or_left _ _ fresh
      | inr old_one ↦
          let two : list_any t (take i ps) || list_any t (drop i ps) ≡ true = rw old_one at parts in
          noted n ∙ or_right _ _ (known n (ap (list_any t) (sym (take-append-drop i ps)) ∙ list_any-append t (take i ps) (drop i ps) ∙ two))
    ]

-- pieces without one
any-removed : (t : Piece → Bool) (i : ℕ) (ps : List Piece) → list_any t (remove ps i) ≡ true → list_any t ps ≡ true
any-removed t zero [] h = h
any-removed t (suc i) [] h = h
any-removed t zero (p ∷ ps) h = or_right _ _ h
any-removed t (suc i) (p ∷ ps) h =
    elim (cases_Bool (t p)) [
      | inl here ↦ or_left _ _ here
      | inr other ↦ or_right _ _ (any-removed t i ps (rw other at h))
    ]

pub removed-noted : (place : ℕ → Option ℕ) (i : ℕ) (ps : List Piece) → IsNoted place ps → IsNoted place (remove ps i)
removed-noted place i ps known n there = known n (any-removed (is_node n) i ps there)
