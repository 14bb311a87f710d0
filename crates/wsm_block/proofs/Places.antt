-- Where numbers stand first, among numbers with their places.
use Rattle.wsm_block.proofs.Common.{[], ℕ, ◌+◌, ◌<◌, ◌∙◌, ◌∷◌, ◌≡◌, ◌≤◌, ◌⊎◌, ap, arith, Bool, Card, cases_Bool, cond, eqb, eqb-true, false, height_in, inl, inr, is_one_of, is_some, le-ltb, length, length-map, List, lt-ltb, ltb, ltb-false}
use Rattle.wsm_block.proofs.Common.{ltb-true, nodes_of, None, Option, placed, position_from, refl, slice_get, Some, suc, sym, take, zero}
use Rattle.wsm_schema.specs.Groups.{rows_with}

-- the first row of a number has its height
placed-first : (n start : ℕ) (ns : List ℕ) →
    ((rows_with n (placed start ns) ≡ []) × (height_in ns n ≡ length ns))
    ⊎ ((rest : List (ℕ × ℕ)) × (rows_with n (placed start ns) ≡ (n, start + height_in ns n) ∷ rest))
placed-first n start [] = inl (refl, refl)
placed-first n start (x ∷ xs) =
    elim (cases_Bool (eqb x n)) [
      | inl here ↦
          let node : x ≡ n = eqb-true x n here in
          let place : start ≡ start + 0 = omega arith in
          inr (rows_with n (placed (start + 1) xs), rw (here) (ap (λ m. (m, start) ∷ rows_with n (placed (start + 1) xs)) node ∙ ap (λ p. (n, p) ∷ rows_with n (placed (start + 1) xs)) place))
      | inr other ↦
          elim (placed-first n (start + 1) xs) [
            | inl none ↦ inl (rw other none.0, rw other (ap suc none.1))
            | inr found ↦
                let place : (start + 1) + height_in xs n ≡ start + suc (height_in xs n) = omega arith in
                inr (found.0, rw other (found.1 ∙ ap (λ p. (n, p) ∷ found.0) place))
          ]
    ]

pub none-placed : (n : ℕ) (ns : List ℕ) → slice_get (rows_with n (placed 0 ns)) 0 ≡ None → length ns ≡ height_in ns n
none-placed n ns none =
    elim (placed-first n 0 ns) [
      | inl absent ↦ sym absent.1
      | inr found ↦ let row : ℕ × ℕ = (n, 0 + height_in ns n) in let bad : Some row ≡ None = ap (λ rows. slice_get rows 0) (sym found.1) ∙ none in absurd (cc)
    ]

pub first-placed : (n : ℕ) (ns : List ℕ) (row : ℕ × ℕ) → slice_get (rows_with n (placed 0 ns)) 0 ≡ Some row → row.1 ≡ height_in ns n
first-placed n ns row some =
    elim (placed-first n 0 ns) [
      | inl absent ↦ let bad : None ≡ Some row = rw absent.0 at some in absurd (cc)
      | inr found ↦
          let same : Some (n, 0 + height_in ns n) ≡ Some row = rw found.1 at some in
          let first : (n, 0 + height_in ns n) ≡ row = cc in
          let place : 0 + height_in ns n ≡ height_in ns n = omega arith in
          ap (λ (r : ℕ × ℕ). r.1) (sym first) ∙ place
    ]

both-later : (a b : ℕ) → ltb (suc a) (suc b) ≡ ltb a b
both-later a b =
    elim (cases_Bool (ltb a b)) [
      | inl less ↦ (let h : a < b = ltb-true a b less in lt-ltb (suc a) (suc b) (omega (arith, h))) ∙ sym less
      | inr more ↦ (let h : b ≤ a = ltb-false a b more in le-ltb (suc a) (suc b) (omega (arith, h))) ∙ sym more
    ]

-- a number is among the first so many where its height is below that
pub among : (n k : ℕ) (ns : List ℕ) → k ≤ length ns → ltb (height_in ns n) k ≡ is_one_of n (take k ns)
among n zero ns le = le-ltb _ _ (omega arith)
among n (suc k) [] le = absurd (omega (arith, le))
among n (suc k) (x ∷ xs) le =
    elim (cases_Bool (eqb x n)) [
      | inl here ↦ rw here (lt-ltb 0 (suc k) (omega arith))
      | inr other ↦ rw other (both-later (height_in xs n) k ∙ among n k xs (omega (arith, le)))
    ]

pub there : (n : ℕ) (ns : List ℕ) → ltb (height_in ns n) (length ns) ≡ is_one_of n ns
there n [] = le-ltb 0 0 (omega arith)
there n (x ∷ xs) =
    elim (cases_Bool (eqb x n)) [
      | inl here ↦ rw here (lt-ltb 0 (suc (length xs)) (omega arith))
      | inr other ↦ rw other (both-later (height_in xs n) (length xs) ∙ there n xs)
    ]

-- ---- nodes among cards
-- the place of a node is its height
place-height : (n start : ℕ) (cards : List Card) →
    position_from (λ c. eqb c.node n) start cards ≡ cond (is_one_of n (nodes_of cards)) (Some (start + height_in (nodes_of cards) n)) None
place-height n start [] = refl
place-height n start (c ∷ cs) =
    elim (cases_Bool (eqb c.node n)) [
      | inl here ↦ let place : start ≡ start + 0 = omega arith in rw here (ap Some place)
      | inr other ↦
          let place : (start + 1) + height_in (nodes_of cs) n ≡ start + suc (height_in (nodes_of cs) n) = omega arith in
          rw other (place-height n (start + 1) cs ∙ ap (λ p. cond (is_one_of n (nodes_of cs)) (Some p) None) place)
    ]

pub place-there : (n : ℕ) (cards : List Card) → is_some (position_from (λ c. eqb c.node n) 0 cards) ≡ is_one_of n (nodes_of cards)
place-there n cards =
    elim (cases_Bool (is_one_of n (nodes_of cards))) [
      | inl one ↦ ap is_some (place-height n 0 cards) ∙ rw one refl
      | inr none ↦ ap is_some (place-height n 0 cards) ∙ rw none refl
    ]

-- whether a place is one of the first so many
abbrev pub is_below : ℕ → Option ℕ → Bool
is_below k None = false
is_below k (Some place) = ltb place k

pub place-among : (n k : ℕ) (cards : List Card) → k ≤ length cards → is_below k (position_from (λ c. eqb c.node n) 0 cards) ≡ is_one_of n (take k (nodes_of cards))
place-among n k cards le =
    let ns : List ℕ = nodes_of cards in
    let height : ℕ = height_in ns n in
    let size : length ns ≡ length cards = length-map cards (λ c. c.node) in
    let among_nodes : ltb height k ≡ is_one_of n (take k ns) = among n k ns (omega (arith, le, size)) in
    elim (cases_Bool (is_one_of n ns)) [
      | inl one ↦ let same : 0 + height ≡ height = omega arith in ap (is_below k) (place-height n 0 cards) ∙ rw one (ap (λ h. ltb h k) same ∙ among_nodes)
      | inr none ↦
          let behind : length ns ≤ height = ltb-false height (length ns) (there n ns ∙ none) in
          ap (is_below k) (place-height n 0 cards) ∙ rw none (sym (le-ltb height k (omega (arith, behind, le, size))) ∙ among_nodes)
    ]
