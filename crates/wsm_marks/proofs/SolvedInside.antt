-- Where the solution is known outside a region, a pass over the nodes of the region alone gives it.
use Rattle.wsm_marks.proofs.Common.{[], ℕ, ◌++◌, ◌∙◌, ◌∷◌, ◌≡◌, ◌⊎◌, all-rows-map, ap, append-nil, append_assoc, Bool, both_ways, Card, card_at, cases_Bool, eq-eqb, eq_at, eqb, eqb-true, Facts, false, if◌then◌else◌, inl, inr, is_one_of}
use Rattle.wsm_marks.proofs.{Common.{IsRank, List, Marking, put_eq, refl, solve_inside, Solves, Some, subst, sym, true}, Lists.one_of-last, RankInduction.{Known, in_rank}, Solutions.{eq_at-same, put-other}}

module _ (cards : List Card) (rank : List ℕ) (is : IsRank cards rank) (f : Facts) (new : Marking) (solves : Solves cards f new) (inside : ℕ → Bool) where
  -- right outside the region, and among the first nodes of the rank
  abbrev Right : List ℕ → Marking → Type 0
  Right front m = (k : ℕ) (c : Card) → card_at k cards ≡ Some c → (inside k ≡ false) ⊎ (is_one_of k front ≡ true) → m k ≡ new k

  put-here : (front rest : List ℕ) (n : ℕ) (m : Marking) → rank ≡ front ++ (n ∷ rest) → Right front m → (k : ℕ) (c : Card) → card_at k cards ≡ Some c → n ≡ k → put_eq cards f n (card_at n cards) m k ≡ new k
  put-here front rest n m at right k c e same =
      let e_n : card_at n cards ≡ Some c = ap (λ x. card_at x cards) same ∙ e in
      let order = is.behind front rest n c at e_n in
      let known : (x : ℕ) → is_one_of x front ≡ true → Known cards (λ y. m y ≡ new y) x = λ x in_x d found. right x d found (inr in_x) in
      let here : put_eq cards f n (card_at n cards) m n ≡ eq_at cards f m c = rw (e_n, eq-eqb n n refl) refl in
      ap (put_eq cards f n (card_at n cards) m) (sym same) ∙ here
      ∙ eq_at-same cards f m new c (all-rows-map _ _ (λ x. known x.node) c.ins order.0) (all-rows-map _ _ (λ x. known x) c.syncs_in order.1)
      ∙ sym (solves.meets n c e_n) ∙ ap new same

  put-right : (front rest : List ℕ) (n : ℕ) (m : Marking) → rank ≡ front ++ (n ∷ rest) → Right front m → (k : ℕ) (c : Card) → card_at k cards ≡ Some c → (n ≡ k) ⊎ ((inside k ≡ false) ⊎ (is_one_of k front ≡ true)) →
      put_eq cards f n (card_at n cards) m k ≡ new k
  put-right front rest n m at right k c e (inl same) = put-here front rest n m at right k c e same
  put-right front rest n m at right k c e (inr known) =
      elim (cases_Bool (eqb n k)) [
        | inl same ↦ put-here front rest n m at right k c e (eqb-true n k same)
        | inr other ↦ put-other cards f n k (card_at n cards) m other ∙ right k c e known
      ]

  right-next : (front rest : List ℕ) (n : ℕ) (m : Marking) → rank ≡ front ++ (n ∷ rest) → Right front m → Right (front ++ n ∷ []) (if inside n then put_eq cards f n (card_at n cards) m else m)
  right-next front rest n m at right k c e known =
      let which : (n ≡ k) ⊎ ((inside k ≡ false) ⊎ (is_one_of k front ≡ true)) =
      elim known [
        | inl out ↦ inr (inl out)
        | inr in_k ↦ elim (one_of-last k front n in_k) [ inl there ↦ inr (inr there) | inr last ↦ inl last ]
      ] in
      elim (cases_Bool (inside n)) [
        | inl it ↦ rw it (put-right front rest n m at right k c e which)
        | inr out_n ↦ rw out_n (elim which [
          | inl same ↦ right k c e (inl (ap inside (sym same) ∙ out_n))
          | inr so ↦ right k c e so
        ])
      ]

  inside-right : (front rest : List ℕ) (m : Marking) → rank ≡ front ++ rest → Right front m → (k : ℕ) (c : Card) → card_at k cards ≡ Some c → is_one_of k rank ≡ true → solve_inside cards f inside rest m k ≡ new k
  inside-right front [] m at right k c e in_k = right k c e (inr (subst (λ l. is_one_of k l ≡ true) (at ∙ append-nil front) in_k))
  inside-right front (n ∷ ns) m at right k c e in_k = inside-right (front ++ n ∷ []) ns _ (at ∙ sym (append_assoc front (n ∷ []) ns)) (right-next front ns n m at right) k c e in_k

  -- the pass over a region gives the solution, where outside of it the marks were those of the solution
  pub solve_inside-is : (old : Marking) → ((k : ℕ) (c : Card) → card_at k cards ≡ Some c → inside k ≡ false → old k ≡ new k) → (k : ℕ) (c : Card) → card_at k cards ≡ Some c → solve_inside cards f inside rank old k ≡ new k
  solve_inside-is old outside k c e =
      inside-right [] rank old refl (λ j d found known. elim known [ inl out ↦ outside j d found out | inr h ↦ absurd (both_ways _ refl h) ]) k c e (in_rank cards rank is k c e)
