-- The equations of a net have one solution.
use Rattle.wsm_marks.proofs.Common.{[], ℕ, ◌++◌, ◌∙◌, ◌∷◌, ◌≡◌, all-rows-map, AllRows, ap, append-nil, append_assoc, both_ways, Card, card_at, cases_Bool, End, eq-eqb, eq_at, eq_of, eqb, eqb-true, Facts, false, inl, inr, is_one_of, IsRank}
use Rattle.wsm_marks.proofs.{Common.{List, map, map-same, Marking, member-splits, None, Option, put_eq, refl, sig_at, sig_by, solution, solve, Solves, Some, subst, sym, Timed, true}, Lists.{one_of-front, one_of-last}, RankInduction.Known}
use Rattle.wsm_marks.proofs.RankInduction.{in_rank, rank_induction}

-- an equation goes by the signals alone
pub eq_of-same : (c : Card) (g h : End → Timed) (k l : ℕ → Timed) → AllRows (λ e. g e ≡ h e) c.ins → AllRows (λ n. k n ≡ l n) c.syncs_in →
    eq_of c.kind (map g c.ins) (map k c.syncs_in) ≡ eq_of c.kind (map h c.ins) (map l c.syncs_in)
eq_of-same c g h k l ins syncs =
    ap (λ xs. eq_of c.kind xs (map k c.syncs_in)) (map-same g h c.ins ins) ∙ ap (eq_of c.kind (map h c.ins)) (map-same k l c.syncs_in syncs)

-- what an edge signals goes by its source's mark
pub sig_at-same : (cards : List Card) (f : Facts) (m m' : Marking) (label : Option ℕ) (n : ℕ) → Known cards (λ k. m k ≡ m' k) n → sig_at cards f m label n ≡ sig_at cards f m' label n
sig_at-same cards f m m' label n h = go (card_at n cards) h
  where
    go : (o : Option Card) → ((c : Card) → o ≡ Some c → m n ≡ m' n) → sig_by o (m n) (f.ended n) (f.choice n) label ≡ sig_by o (m' n) (f.ended n) (f.choice n) label
    go None h = refl
    go (Some c) h = ap (λ x. sig_by (Some c) x (f.ended n) (f.choice n) label) (h c refl)

-- a node's equation goes by the marks of its sources
pub eq_at-same : (cards : List Card) (f : Facts) (m m' : Marking) (c : Card) → AllRows (λ e. Known cards (λ k. m k ≡ m' k) e.node) c.ins → AllRows (Known cards (λ k. m k ≡ m' k)) c.syncs_in →
    eq_at cards f m c ≡ eq_at cards f m' c
eq_at-same cards f m m' c ins syncs =
    eq_of-same c _ _ _ _
    (all-rows-map _ _ (λ e. sig_at-same cards f m m' e.label e.node) c.ins ins)
    (all-rows-map _ _ (λ n. sig_at-same cards f m m' None n) c.syncs_in syncs)

-- two solutions of one net and its facts are one
pub unique : (cards : List Card) (rank : List ℕ) → IsRank cards rank → (f : Facts) (m m' : Marking) → Solves cards f m → Solves cards f m' → (n : ℕ) (c : Card) → card_at n cards ≡ Some c → m n ≡ m' n
unique cards rank is f m m' s s' =
    rank_induction cards rank is (λ n. m n ≡ m' n) (λ n c e ins syncs. s.meets n c e ∙ eq_at-same cards f m m' c ins syncs ∙ sym (s'.meets n c e))

-- ---- one pass in the order of a rank
pub put-other : (cards : List Card) (f : Facts) (n k : ℕ) (o : Option Card) (m : Marking) → eqb n k ≡ false → put_eq cards f n o m k ≡ m k
put-other cards f n k None m h = refl
put-other cards f n k (Some c) m h = rw h refl

module _ (cards : List Card) (rank : List ℕ) (is : IsRank cards rank) (f : Facts) where
  -- the nodes of a list meet their equations
  abbrev Solved : List ℕ → Marking → Type 0
  Solved front m = (k : ℕ) → is_one_of k front ≡ true → (c : Card) → card_at k cards ≡ Some c → m k ≡ eq_at cards f m c

  solved-next : (front rest : List ℕ) (n : ℕ) (m : Marking) → rank ≡ front ++ (n ∷ rest) → Solved front m → Solved (front ++ n ∷ []) (put_eq cards f n (card_at n cards) m)
  solved-next front rest n m at solved k in_k c e =
      let m' : Marking = put_eq cards f n (card_at n cards) m in
      let fresh : is_one_of n front ≡ false = is.once front rest n at in
      let kept : (s : ℕ) → is_one_of s front ≡ true → m s ≡ m' s =
      λ s in_front. elim (cases_Bool (eqb n s)) [
        | inl same ↦ absurd (both_ways _ fresh (subst (λ x. is_one_of x front ≡ true) (sym (eqb-true n s same)) in_front))
        | inr other ↦ sym (put-other cards f n s (card_at n cards) m other)
      ] in
      elim (one_of-last k front n in_k) [
        | inl there ↦
            let s = member-splits k front there in
            let at_k : rank ≡ s.0 ++ (k ∷ (s.1 ++ (n ∷ rest))) = at ∙ ap (λ x. x ++ (n ∷ rest)) s.2 ∙ append_assoc s.0 (k ∷ s.1) (n ∷ rest) in
            let order = is.behind s.0 (s.1 ++ (n ∷ rest)) k c at_k e in
            let known : (x : ℕ) → is_one_of x s.0 ≡ true → Known cards (λ y. m y ≡ m' y) x =
            λ x in_x d found. kept x (subst (λ l. is_one_of x l ≡ true) (sym s.2) (one_of-front x s.0 (k ∷ s.1) in_x)) in
            sym (kept k there) ∙ solved k there c e
            ∙ eq_at-same cards f m m' c (all-rows-map _ _ (λ x. known x.node) c.ins order.0) (all-rows-map _ _ (λ x. known x) c.syncs_in order.1)
        | inr last ↦
            let e_n : card_at n cards ≡ Some c = ap (λ x. card_at x cards) last ∙ e in
            let order = is.behind front rest n c at e_n in
            let known : (x : ℕ) → is_one_of x front ≡ true → Known cards (λ y. m y ≡ m' y) x = λ x in_x d found. kept x in_x in
            let new : m' n ≡ eq_at cards f m c = rw (e_n, eq-eqb n n refl) refl in
            sym (ap m' last) ∙ new
            ∙ eq_at-same cards f m m' c (all-rows-map _ _ (λ x. known x.node) c.ins order.0) (all-rows-map _ _ (λ x. known x) c.syncs_in order.1)
      ]

  solved-all : (front rest : List ℕ) (m : Marking) → rank ≡ front ++ rest → Solved front m → Solved rank (solve cards f rest m)
  solved-all front [] m at solved = subst (λ l. Solved l m) (sym (at ∙ append-nil front)) solved
  solved-all front (n ∷ ns) m at solved = solved-all (front ++ n ∷ []) ns _ (at ∙ sym (append_assoc front (n ∷ []) ns)) (solved-next front ns n m at solved)

  -- the pass meets all of them
  pub solution-solves : Solves cards f (solution cards rank f)
  solution-solves = record { meets = λ n c e. solved-all [] rank (λ _. None) refl (λ k h. absurd (both_ways _ refl h)) n (in_rank cards rank is n c e) c e }
