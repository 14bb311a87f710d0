-- The nodes that some nodes reach: closed along edges, and no more than what is reached.
use Rattle.wsm_walk.proofs.Common.{[], ℕ, ◌++◌, ◌||◌, ◌∙◌, ◌∷◌, ◌≡◌, ◌⊎◌, AllRows, ap, append_assoc, arith, Bool, both_rows, both_ways, Card, card_at, cases_Bool, Contains, eq-eqb, eqb, eqb-true, false, if◌then◌else◌, in_rank, inl, inr}
use Rattle.wsm_walk.proofs.Common.{is_entered, is_one_of, IsRank, List, list_any, member-splits, None, one_of-front, Option, reached_from, refl, Some, subst, suc, sym, true, zero}
use Rattle.wsm_schema.specs.Touched.{Reaches, here, by_control, by_sync}

-- what is inside stays inside
pub reached-keeps : (cards : List Card) (ns inside : List ℕ) (n : ℕ) → is_one_of n inside ≡ true → is_one_of n (reached_from cards ns inside) ≡ true
reached-keeps cards [] inside n h = h
reached-keeps cards (m ∷ ns) inside n h =
    elim (cases_Bool (is_entered inside (card_at m cards))) [
      | inl it ↦ rw it (reached-keeps cards ns (m ∷ inside) n (elim (cases_Bool (eqb m n)) [ inl same ↦ rw same refl | inr other ↦ rw other h ]))
      | inr other ↦ rw other (reached-keeps cards ns inside n h)
    ]

-- only nodes of the list come in
pub reached-new : (cards : List Card) (ns inside : List ℕ) (n : ℕ) → is_one_of n (reached_from cards ns inside) ≡ true → (is_one_of n inside ≡ true) ⊎ (is_one_of n ns ≡ true)
reached-new cards [] inside n h = inl h
reached-new cards (m ∷ ns) inside n h =
    elim (cases_Bool (is_entered inside (card_at m cards))) [
      | inl it ↦ elim (reached-new cards ns (m ∷ inside) n (rw it at h)) [
        | inl among ↦ elim (cases_Bool (eqb m n)) [ inl same ↦ inr (rw same refl) | inr other ↦ inl (rw other at among) ]
        | inr later ↦ elim (cases_Bool (eqb m n)) [ inl same ↦ inr (rw same refl) | inr other ↦ inr (rw other later) ]
      ]
      | inr none ↦ elim (reached-new cards ns inside n (rw none at h)) [
        | inl among ↦ inl among
        | inr later ↦ elim (cases_Bool (eqb m n)) [ inl same ↦ inr (rw same refl) | inr other ↦ inr (rw other later) ]
      ]
    ]

-- one list after another
pub reached-append : (cards : List Card) (ns ms inside : List ℕ) → reached_from cards (ns ++ ms) inside ≡ reached_from cards ms (reached_from cards ns inside)
reached-append cards [] ms inside = refl
reached-append cards (n ∷ ns) ms inside = reached-append cards ns ms (if is_entered inside (card_at n cards) then n ∷ inside else inside)

-- none of a list where no row passes
pub none-any : {X : Type 0} (test : X → Bool) (xs : List X) → list_any test xs ≡ false → AllRows (λ x. test x ≡ false) xs
none-any test [] h = tt
none-any test (x ∷ xs) h = elim (cases_Bool (test x)) [ inl it ↦ absurd (both_ways _ (rw it at h) refl) | inr other ↦ (other, none-any test xs (rw other at h)) ]

-- what holds of each row holds of a member
pub rows-member : {X : Type 0} (P : X → Type 0) (xs : List X) (x : X) → AllRows P xs → Contains xs x → P x
rows-member P [] x rows (k, lt, same) = absurd (omega (arith, lt))
rows-member P (y ∷ ys) x rows (zero, lt, same) = subst P same rows.0
rows-member P (y ∷ ys) x rows (suc k, lt, same) = rows-member P ys x rows.1 (k, omega (arith, lt), same)

-- some member passes
pub any-member : {X : Type 0} (test : X → Bool) (xs : List X) → list_any test xs ≡ true → (x : X) × Contains xs x × (test x ≡ true)
any-member test [] h = absurd (both_ways _ refl h)
any-member test (x ∷ xs) h =
    elim (cases_Bool (test x)) [
      | inl it ↦ (x, (zero, omega arith, refl), it)
      | inr other ↦ let m = any-member test xs (rw other at h) in (m.0, (suc m.1.0, omega (arith, m.1.1), m.1.2), m.2)
    ]

-- one of two tests
pub or-true : (a b : Bool) → (a || b) ≡ true → (a ≡ true) ⊎ (b ≡ true)
or-true true b h = inl refl
or-true false b h = inr h

-- a seed reaches the node
abbrev pub ReachedFrom : List Card → List ℕ → ℕ → Type 0
ReachedFrom cards seeds n = (m : ℕ) × (is_one_of m seeds ≡ true) × Reaches cards m n

-- what comes in is reached
pub reached-least : (cards : List Card) (seeds ns inside : List ℕ) → ((n : ℕ) → is_one_of n inside ≡ true → ReachedFrom cards seeds n) → (n : ℕ) → is_one_of n (reached_from cards ns inside) ≡ true → ReachedFrom cards seeds n
reached-least cards seeds [] inside known n h = known n h
reached-least cards seeds (m ∷ ns) inside known n h = go (card_at m cards) refl (λ more known_more. reached-least cards seeds ns more known_more n)
  where
    go : (o : Option Card) → card_at m cards ≡ o →
        ((more : List ℕ) → ((k : ℕ) → is_one_of k more ≡ true → ReachedFrom cards seeds k) → is_one_of n (reached_from cards ns more) ≡ true → ReachedFrom cards seeds n) → ReachedFrom cards seeds n
    go None e next = next inside known (rw e at h)
    go (Some c) e next =
        elim (cases_Bool (is_entered inside (Some c))) [
          | inr other ↦ next inside known (rw (e, other) at h)
          | inl it ↦ next (m ∷ inside) (λ k among. elim (cases_Bool (eqb m k)) [
            | inr other ↦ known k (rw other at among)
            | inl same ↦ subst (ReachedFrom cards seeds) (eqb-true m k same) (elim (or-true (list_any (λ x. is_one_of x.node inside) c.ins) (list_any (λ x. is_one_of x inside) c.syncs_in) it) [
              | inl control ↦
                  let x = any-member (λ x. is_one_of x.node inside) c.ins control in
                  let r = known x.0.node x.2 in (r.0, r.1, by_control x.0.node m c x.0.label e x.1 r.0 r.2)
              | inr sync ↦
                  let x = any-member (λ x. is_one_of x inside) c.syncs_in sync in
                  let r = known x.0 x.2 in (r.0, r.1, by_sync x.0 m c e x.1 r.0 r.2)
            ])
          ]) (rw (e, it) at h)
        ]

module _ (cards : List Card) (rank : List ℕ) (is : IsRank cards rank) (seeds : List ℕ) where
  abbrev Inside : ℕ → Bool
  Inside n = is_one_of n (reached_from cards rank seeds)

  -- a node in front of another is not behind it too
  not-both : (front rest : List ℕ) (x : ℕ) → rank ≡ front ++ rest → is_one_of x front ≡ true → is_one_of x rest ≡ true → ⊥
  not-both front rest x at in_front in_rest =
      let s = member-splits x rest in_rest in
      both_ways _ (is.once (front ++ s.0) s.1 x (at ∙ ap (λ l. front ++ l) s.2 ∙ sym (append_assoc front s.0 (x ∷ s.1)))) (one_of-front x front s.0 in_front)

  -- no edge leads out of the nodes that are reached
  pub reached-closed : (n : ℕ) (c : Card) → card_at n cards ≡ Some c → Inside n ≡ false → AllRows (λ e. Inside e.node ≡ false) c.ins × AllRows (λ m. Inside m ≡ false) c.syncs_in
  reached-closed n c e out =
      let s = member-splits n rank (in_rank cards rank is n c e) in
      let early : List ℕ = reached_from cards s.0 seeds in
      let all : reached_from cards rank seeds ≡ reached_from cards (n ∷ s.1) early = ap (λ l. reached_from cards l seeds) s.2 ∙ reached-append cards s.0 (n ∷ s.1) seeds in
      let apart : is_entered early (Some c) ≡ false =
      elim (cases_Bool (is_entered early (Some c))) [
        | inl it ↦ absurd (both_ways _ out (ap (is_one_of n) all ∙ comes early s.1 n c e it))
        | inr other ↦ other
      ] in
      let order = is.behind s.0 s.1 n c s.2 e in
      let parts = none-both _ _ apart in
      let outside : (x : ℕ) → is_one_of x s.0 ≡ true → is_one_of x early ≡ false → Inside x ≡ false =
      λ x in_front not_early. elim (cases_Bool (Inside x)) [
        | inl it ↦ elim (reached-new cards (n ∷ s.1) early x (ap (is_one_of x) (sym all) ∙ it)) [
          | inl among ↦ absurd (both_ways _ not_early among)
          | inr later ↦ absurd (not-both s.0 (n ∷ s.1) x s.2 in_front later)
        ]
        | inr other ↦ other
      ] in (
        both_rows _ _ _ (λ x front not_early. outside x.node front not_early) c.ins order.0 (none-any (λ x. is_one_of x.node early) c.ins parts.0),
        both_rows _ _ _ (λ x front not_early. outside x front not_early) c.syncs_in order.1 (none-any (λ m. is_one_of m early) c.syncs_in parts.1),
      )
    where
      none-both : (a b : Bool) → (a || b) ≡ false → (a ≡ false) × (b ≡ false)
      none-both true b h = absurd (both_ways _ h refl)
      none-both false b h = (refl, h)

      comes : (early rest : List ℕ) (n : ℕ) (c : Card) → card_at n cards ≡ Some c → is_entered early (Some c) ≡ true → is_one_of n (reached_from cards (n ∷ rest) early) ≡ true
      comes early rest n c e it = rw (e, it) (reached-keeps cards rest (n ∷ early) n (rw (eq-eqb n n refl) refl))

  -- what a seed reaches is inside
  pub reached-all : (m n : ℕ) → Reaches cards m n → is_one_of m seeds ≡ true → Inside n ≡ true
  reached-all _ _ (here n) seed = reached-keeps cards rank seeds n seed
  reached-all _ _ (by_control x n c label e among a reach) seed =
      let source : Inside x ≡ true = reached-all a x reach seed in
      elim (cases_Bool (Inside n)) [
        | inl it ↦ it
        | inr out ↦ absurd (both_ways _ (rows-member (λ y. Inside y.node ≡ false) c.ins (record { node = x; label = label }) (reached-closed n c e out).0 among) source)
      ]
  reached-all _ _ (by_sync x n c e among a reach) seed =
      let source : Inside x ≡ true = reached-all a x reach seed in
      elim (cases_Bool (Inside n)) [
        | inl it ↦ it
        | inr out ↦ absurd (both_ways _ (rows-member (λ y. Inside y ≡ false) c.syncs_in x (reached-closed n c e out).1 among) source)
      ]
