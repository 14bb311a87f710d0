-- The steps of a walk that takes the least pending place at a time.
use Rattle.wsm_walk.proofs.Common.{[], ℕ, ◌++◌, ◌+◌, ◌-◌, ◌<◌, ◌∙◌, ◌∷◌, ◌≡◌, ◌≤◌, all-rows-map, AllBehind, AllRows, ap, append_assoc, arith, both_ways, Card, card_at, cases_Bool, eq-eqb, eqb, eqb-true, false, get_or, in_rank, inl, inr}
use Rattle.wsm_walk.proofs.Common.{is_one_of, is_pending, IsRank, length, length-append, List, member-splits, NoEdgeFrom, rank_place, refl, Some, subst, suc, sym, true, zero}
use Rattle.std.proofs.lemmas.List.{get_or_at}

-- a node that does not stand in front stands behind all of that
pub place-behind : (front rest : List ℕ) (n : ℕ) → is_one_of n front ≡ false → rank_place n (front ++ (n ∷ rest)) ≡ length front
place-behind [] rest n fresh = rw (eq-eqb n n refl) refl
place-behind (k ∷ ks) rest n fresh =
    elim (cases_Bool (eqb k n)) [
      | inl same ↦ absurd (both_ways _ (rw same at fresh) refl)
      | inr other ↦ rw other (ap suc (place-behind ks rest n (rw other at fresh)))
    ]

-- and in any case not before its end
pub place-from : (front rest : List ℕ) (n : ℕ) → is_one_of n front ≡ false → length front ≤ rank_place n (front ++ rest)
place-from [] rest n fresh = omega arith
place-from (k ∷ ks) rest n fresh =
    elim (cases_Bool (eqb k n)) [
      | inl same ↦ absurd (both_ways _ (rw same at fresh) refl)
      | inr other ↦ rw other (omega (arith, place-from ks rest n (rw other at fresh)))
    ]

-- a node of the rank has a place in it
pub place-within : (n : ℕ) (rank : List ℕ) → is_one_of n rank ≡ true → rank_place n rank < length rank
place-within n [] h = absurd (both_ways _ refl h)
place-within n (k ∷ ks) h =
    elim (cases_Bool (eqb k n)) [
      | inl same ↦ rw same (omega arith)
      | inr other ↦ rw other (omega (arith, place-within n ks (rw other at h)))
    ]

-- a node of the front has a place there
pub place-front : (n : ℕ) (front rest : List ℕ) → is_one_of n front ≡ true → rank_place n (front ++ rest) < length front
place-front n [] rest h = absurd (both_ways _ refl h)
place-front n (k ∷ ks) rest h =
    elim (cases_Bool (eqb k n)) [
      | inl same ↦ rw same (omega arith)
      | inr other ↦ rw other (omega (arith, place-front n ks rest (rw other at h)))
    ]

-- two nodes of the rank at one place are one
pub place-one : (rank : List ℕ) (m k : ℕ) → is_one_of m rank ≡ true → is_one_of k rank ≡ true → rank_place m rank ≡ rank_place k rank → m ≡ k
place-one [] m k in_m in_k same = absurd (both_ways _ refl in_m)
place-one (x ∷ xs) m k in_m in_k same =
    elim (cases_Bool (eqb x m)) [
      | inl is_m ↦ elim (cases_Bool (eqb x k)) [
        | inl is_k ↦ sym (eqb-true x m is_m) ∙ eqb-true x k is_k
        | inr not_k ↦ let e : 0 ≡ suc (rank_place k xs) = rw (is_m, not_k) at same in absurd (omega (arith, e))
      ]
      | inr not_m ↦ elim (cases_Bool (eqb x k)) [
        | inl is_k ↦ let e : suc (rank_place m xs) ≡ 0 = rw (not_m, is_k) at same in absurd (omega (arith, e))
        | inr not_k ↦ let e : suc (rank_place m xs) ≡ suc (rank_place k xs) = rw (not_m, not_k) at same in place-one xs m k (rw not_m at in_m) (rw not_k at in_k) (omega (arith, e))
      ]
    ]

apart-eqb : (a b : ℕ) → (a ≡ b → ⊥) → eqb a b ≡ false
apart-eqb a b apart = elim (cases_Bool (eqb a b)) [ inl same ↦ absurd (apart (eqb-true a b same)) | inr other ↦ other ]

-- another node has another place
pub place-other : (front rest : List ℕ) (n k : ℕ) → eqb n k ≡ false → eqb (length front) (rank_place k (front ++ (n ∷ rest))) ≡ false
place-other [] rest n k apart = rw apart (apart-eqb 0 (suc (rank_place k rest)) (λ e. omega (arith, e)))
place-other (m ∷ ms) rest n k apart =
    elim (cases_Bool (eqb m k)) [
      | inl same ↦ rw same (apart-eqb (suc (length ms)) 0 (λ e. omega (arith, e)))
      | inr other ↦ rw other (elim (cases_Bool (eqb (suc (length ms)) (suc (rank_place k (ms ++ (n ∷ rest)))))) [
        | inr fine ↦ fine
        | inl equal ↦
            let e : suc (length ms) ≡ suc (rank_place k (ms ++ (n ∷ rest))) = eqb-true _ _ equal in
            absurd (both_ways _ (place-other ms rest n k apart) (eq-eqb _ _ (omega (arith, e))))
      ])
    ]

-- a list at a place
split-at : (rest : List ℕ) (k : ℕ) → k < length rest → (skipped : List ℕ) × (n : ℕ) × (more : List ℕ) × (rest ≡ skipped ++ (n ∷ more)) × (length skipped ≡ k)
split-at [] k lt = absurd (omega (arith, lt))
split-at (x ∷ xs) zero lt = ([], x, xs, refl, refl)
split-at (x ∷ xs) (suc k) lt = let s = split-at xs k (omega (arith, lt)) in (x ∷ s.0, s.1, s.2, ap (λ l. x ∷ l) s.3, ap suc s.4)

-- the node at the next place, and the nodes that are passed up to it
pub passed-to : (rank front rest : List ℕ) (p n d : ℕ) → rank ≡ front ++ rest → length front ≤ p → p < length rank → get_or rank p d ≡ n →
    (skipped : List ℕ) × (more : List ℕ) × (rank ≡ front ++ (skipped ++ (n ∷ more))) × (rank ≡ (front ++ skipped) ++ (n ∷ more)) × (length (front ++ skipped) ≡ p)
passed-to rank front rest p n d at le lt here =
    let c = split-at rest (p - length front) (omega (arith, le, lt, ap length at, length-append front rest)) in
    let all : rank ≡ (front ++ c.0) ++ (c.1 ∷ c.2) = at ∙ ap (λ l. front ++ l) c.3 ∙ sym (append_assoc front c.0 (c.1 ∷ c.2)) in
    let size : length (front ++ c.0) ≡ p = length-append front c.0 ∙ omega (arith, c.4, le) in
    let is_node : c.1 ≡ n = sym (get_or_at (front ++ c.0) c.1 c.2 d p size) ∙ ap (λ l. get_or l p d) (sym all) ∙ here in (
      c.0,
      c.2,
      subst (λ x. rank ≡ front ++ (c.0 ++ (x ∷ c.2))) is_node (at ∙ ap (λ l. front ++ l) c.3),
      subst (λ x. rank ≡ (front ++ c.0) ++ (x ∷ c.2)) is_node all,
      size,
    )

-- a place that no pending one is below is not pending
none-below : (a : ℕ) (places : List ℕ) → AllBehind a places → is_one_of a places ≡ false
none-below a places behind = elim (cases_Bool (is_one_of a places)) [ inl there ↦ let less = behind a there in absurd (omega (arith, less)) | inr other ↦ other ]

module _ (cards : List Card) (rank : List ℕ) (is : IsRank cards rank) where
  -- the nodes between where the walk stands and the least pending place are not pending
  pub idle-between : (front skipped rest : List ℕ) (places : List ℕ) → rank ≡ front ++ (skipped ++ rest) → ((q : ℕ) → is_one_of q places ≡ true → length front + length skipped ≤ q) → AllRows (λ n. is_pending rank places n ≡ false) skipped
  idle-between front [] rest places at high = tt
  idle-between front (n ∷ ns) rest places at high = (
    (let here : rank_place n rank ≡ length front = ap (rank_place n) at ∙ place-behind front (ns ++ rest) n (is.once front (ns ++ rest) n at) in
        ap (λ x. is_one_of x places) here ∙ none-below (length front) places (λ q there. let h = high q there in omega (arith, h))),
    idle-between (front ++ n ∷ []) ns rest places (at ∙ sym (append_assoc front (n ∷ []) (ns ++ rest)))
        (λ q there. let h = high q there in omega (arith, h, length-append front (n ∷ []))),
  )

  -- what is not pending any more, but for n, was not
  pub fewer-places : (front rest : List ℕ) (n p : ℕ) (places places' : List ℕ) → rank ≡ front ++ (n ∷ rest) → length front ≡ p → ((q : ℕ) → is_one_of q places ≡ true → is_one_of q places' ≡ true) →
      (k : ℕ) → eqb n k ≡ false → is_pending rank places' k ≡ false → is_pending rank (p ∷ places) k ≡ false
  fewer-places front rest n p places places' at size stay k other idle =
      let away : eqb p (rank_place k rank) ≡ false = ap (λ x. eqb x (rank_place k rank)) (sym size) ∙ ap (λ l. eqb (length front) (rank_place k l)) at ∙ place-other front rest n k other in
      rw away (elim (cases_Bool (is_one_of (rank_place k rank) places)) [ inl there ↦ absurd (both_ways _ idle (stay (rank_place k rank) there)) | inr none ↦ none ])

  -- no edge leads to a node that stands before its own in the rank
  pub no-edge_back : (n k : ℕ) (d : Card) → card_at k cards ≡ Some d → rank_place k rank ≤ rank_place n rank → NoEdgeFrom n d
  no-edge_back n k d at_k back =
      let s = member-splits k rank (in_rank cards rank is k d at_k) in
      let order = is.behind s.0 s.1 k d s.2 at_k in
      let here : rank_place k rank ≡ length s.0 = ap (rank_place k) s.2 ∙ place-behind s.0 s.1 k (is.once s.0 s.1 k s.2) in
      let apart : (x : ℕ) → is_one_of x s.0 ≡ true → eqb n x ≡ false =
      λ x in_front. elim (cases_Bool (eqb n x)) [
        | inr other ↦ other
        | inl same ↦
            let e : x ≡ n = sym (eqb-true n x same) in
            let less : rank_place n rank < length s.0 = subst (λ l. rank_place n l < length s.0) (sym s.2) (place-front n s.0 (k ∷ s.1) (subst (λ y. is_one_of y s.0 ≡ true) e in_front)) in
            absurd (omega (arith, less, here, back))
      ] in (
        all-rows-map _ _ (λ x in_x. apart x.node in_x) d.ins order.0,
        all-rows-map _ _ (λ x in_x. apart x in_x) d.syncs_in order.1,
      )
