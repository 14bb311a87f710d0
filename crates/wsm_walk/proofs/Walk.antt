-- A walk in rank order that stops where nothing changes ends with the marks that meet all equations.
use Rattle.wsm_walk.proofs.Common.{[], ℕ, ◌++◌, ◌∙◌, ◌∷◌, ◌≡◌, Aim, all-rows-map, AllRows, ap, append-nil, append_assoc, Bool, both_ways, Card, card_at, cases_Bool, eq-eqb, eq_of-same, eqb, eqb-true, facts_by, false, in_rank, inl, inr}
use Rattle.wsm_walk.proofs.Common.{is_one_of, Known, List, Mark, NoEdgeFrom, None, one_of-front, one_of-last, one_of-middle, Option, refl, sig_at, sig_by, Some, subst, sym, time_by, timed_of, times_by, true, untimed, Walked, with_time}

-- what an edge signals goes by its source's mark
pub signal-same : (cards : List Card) (a b : ℕ → Mark) (label : Option ℕ) (n : ℕ) → ((c : Card) → card_at n cards ≡ Some c → a n ≡ b n) →
    sig_at cards (facts_by a) (times_by a) label n ≡ sig_at cards (facts_by b) (times_by b) label n
signal-same cards a b label n same = go (card_at n cards) same
  where
    go : (o : Option Card) → ((c : Card) → o ≡ Some c → a n ≡ b n) → sig_by o (timed_of (a n)) (a n).ended (a n).choice label ≡ sig_by o (timed_of (b n)) (b n).ended (b n).choice label
    go None h = refl
    go (Some c) h = ap (λ (m : Mark). sig_by (Some c) (timed_of m) m.ended m.choice label) (h c refl)

-- so a node's equation goes by the marks of its sources
pub equation-same : (cards : List Card) (a b : ℕ → Mark) (c : Card) → AllRows (λ e. Known cards (λ k. a k ≡ b k) e.node) c.ins → AllRows (Known cards (λ k. a k ≡ b k)) c.syncs_in →
    time_by cards a c ≡ time_by cards b c
equation-same cards a b c ins syncs =
    eq_of-same c _ _ _ _
    (all-rows-map _ _ (λ e. signal-same cards a b e.label e.node) c.ins ins)
    (all-rows-map _ _ (λ n. signal-same cards a b None n) c.syncs_in syncs)

-- a list with n behind it has neither n nor a node of the list where it has none
pub fresh-last : (front : List ℕ) (n k : ℕ) → is_one_of k (front ++ n ∷ []) ≡ false → (is_one_of k front ≡ false) × (eqb n k ≡ false)
fresh-last front n k out = (
  elim (cases_Bool (is_one_of k front)) [ inl there ↦ absurd (both_ways _ out (one_of-front k front (n ∷ []) there)) | inr other ↦ other ],
  elim (cases_Bool (eqb n k)) [ inl same ↦ absurd (both_ways _ out (subst (λ x. is_one_of x (front ++ n ∷ []) ≡ true) (eqb-true n k same) (one_of-middle n front []))) | inr other ↦ other ],
)

module _ (cards : List Card) (rank : List ℕ) (goal : ℕ → Mark) (aim : Aim cards rank goal) where
  abbrev At : List ℕ → (ℕ → Bool) → (ℕ → Mark) → Type 0
  At = Walked cards goal

  -- the next node's equation over the marks as they stand gives it its time
  next-time : (front rest : List ℕ) (n : ℕ) (pending : ℕ → Bool) (now : ℕ → Mark) → rank ≡ front ++ (n ∷ rest) → At front pending now → (c : Card) → card_at n cards ≡ Some c → time_by cards now c ≡ timed_of (goal n)
  next-time front rest n pending now at w c found =
      let order = aim.ranked.behind front rest n c at found in
      let known : (x : ℕ) → is_one_of x front ≡ true → Known cards (λ y. now y ≡ goal y) x = λ x in_x d at_x. w.done x d at_x in_x in
      equation-same cards now goal c (all-rows-map _ _ (λ x. known x.node) c.ins order.0) (all-rows-map _ _ (λ x. known x) c.syncs_in order.1)
      ∙ sym (aim.solves.meets n c found)

  -- and with that time its mark is found
  pub next-mark : (front rest : List ℕ) (n : ℕ) (pending : ℕ → Bool) (now : ℕ → Mark) → rank ≡ front ++ (n ∷ rest) → At front pending now → (c : Card) → card_at n cards ≡ Some c → with_time (time_by cards now c) (now n) ≡ goal n
  next-mark front rest n pending now at w c found =
      ap (λ x. with_time x (now n)) (next-time front rest n pending now at w c found)
      ∙ ap (λ m. with_time (timed_of (goal n)) m) (w.facts n c found)
      ∙ sym (aim.times n)

  -- a node that has the time of its equation has its mark
  pub same-mark : (front rest : List ℕ) (n : ℕ) (pending : ℕ → Bool) (now : ℕ → Mark) → rank ≡ front ++ (n ∷ rest) → At front pending now → (c : Card) → card_at n cards ≡ Some c → timed_of (now n) ≡ time_by cards now c → now n ≡ goal n
  same-mark front rest n pending now at w c found same =
      w.times n c found ∙ ap (λ x. with_time x (now n)) same ∙ next-mark front rest n pending now at w c found

  -- one more node is behind the walk, and no mark changes
  pub walk-on : (front rest : List ℕ) (n : ℕ) (pending pending' : ℕ → Bool) (now : ℕ → Mark) → rank ≡ front ++ (n ∷ rest) → At front pending now →
      ((c : Card) → card_at n cards ≡ Some c → now n ≡ goal n) → ((k : ℕ) → eqb n k ≡ false → pending' k ≡ false → pending k ≡ false) → At (front ++ n ∷ []) pending' now
  walk-on front rest n pending pending' now at w right fewer = record {
    done = λ k c found in_k. elim (one_of-last k front n in_k) [ inl there ↦ w.done k c found there | inr last ↦ ap now (sym last) ∙ right c (ap (λ x. card_at x cards) last ∙ found) ∙ ap goal last ];
    facts = w.facts;
    times = w.times;
    meets = λ k c found out idle. let f = fresh-last front n k out in w.meets k c found f.0 (fewer k f.1 idle);
  }

  -- a run of nodes that are not pending is passed with no look at them
  pub walk-over : (front skipped rest : List ℕ) (pending : ℕ → Bool) (now : ℕ → Mark) → rank ≡ front ++ (skipped ++ rest) → At front pending now → AllRows (λ n. pending n ≡ false) skipped → At (front ++ skipped) pending now
  walk-over front [] rest pending now at w idle = subst (λ l. At l pending now) (sym (append-nil front)) w
  walk-over front (n ∷ ns) rest pending now at w idle =
      subst (λ l. At l pending now) (append_assoc front (n ∷ []) ns)
      (walk-over (front ++ n ∷ []) ns rest pending now (at ∙ sym (append_assoc front (n ∷ []) (ns ++ rest)))
      (walk-on front (ns ++ rest) n pending pending now at w
      (λ c found. same-mark front (ns ++ rest) n pending now at w c found (w.meets n c found (aim.ranked.once front (ns ++ rest) n at) idle.0))
      (λ k other h. h)) idle.1)

  -- one more node is behind the walk, with the time of its equation; where that is another one, no edge leads from it to a node that is not pending
  pub walk-visit : (front rest : List ℕ) (n : ℕ) (pending pending' : ℕ → Bool) (now now' : ℕ → Mark) → rank ≡ front ++ (n ∷ rest) → At front pending now → (c : Card) → card_at n cards ≡ Some c →
      ((k : ℕ) → eqb n k ≡ false → now k ≡ now' k) → now' n ≡ with_time (time_by cards now c) (now n) → ((k : ℕ) → eqb n k ≡ false → pending' k ≡ false → pending k ≡ false) →
      ((k : ℕ) (d : Card) → card_at k cards ≡ Some d → is_one_of k (front ++ n ∷ []) ≡ false → pending' k ≡ false → NoEdgeFrom n d) → At (front ++ n ∷ []) pending' now'
  walk-visit front rest n pending pending' now now' at w c found others own fewer behind = record {
    done = λ k d at_k in_k. elim (cases_Bool (eqb n k)) [
      | inl same ↦ subst (λ x. now' x ≡ goal x) (eqb-true n k same) right
      | inr other ↦ sym (others k other) ∙ elim (one_of-last k front n in_k) [ inl there ↦ w.done k d at_k there | inr last ↦ absurd (both_ways _ other (eq-eqb n k last)) ]
    ];
    facts = λ k d at_k. elim (cases_Bool (eqb n k)) [
      | inl same ↦ subst (λ x. untimed (now' x) ≡ untimed (goal x)) (eqb-true n k same) (ap untimed right)
      | inr other ↦ ap untimed (sym (others k other)) ∙ w.facts k d at_k
    ];
    times = λ k d at_k. elim (cases_Bool (eqb n k)) [
      | inl same ↦ subst (λ x. now' x ≡ with_time (timed_of (now' x)) (now' x)) (eqb-true n k same) (subst (λ m. m ≡ with_time (timed_of m) m) (sym right) (aim.times n))
      | inr other ↦ subst (λ m. m ≡ with_time (timed_of m) m) (others k other) (w.times k d at_k)
    ];
    meets = λ k d at_k out idle.
        let f = fresh-last front n k out in
        let none = behind k d at_k out idle in
        ap timed_of (sym (others k f.1))
        ∙ w.meets k d at_k f.0 (fewer k f.1 idle)
        ∙ equation-same cards now now' d
        (all-rows-map _ _ (λ x o e at_x. others x.node o) d.ins none.0)
        (all-rows-map _ _ (λ x o e at_x. others x o) d.syncs_in none.1);
  }
    where
      right : now' n ≡ goal n
      right = own ∙ next-mark front rest n pending now at w c found

  -- where all nodes of the rank are behind the walk, each has its mark
  pub walk-ends : (pending : ℕ → Bool) (now : ℕ → Mark) → At rank pending now → (n : ℕ) (c : Card) → card_at n cards ≡ Some c → now n ≡ goal n
  walk-ends pending now w n c found = w.done n c found (in_rank cards rank aim.ranked n c found)
