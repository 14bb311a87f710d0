-- A walk over kept marks: it goes on, visits a node, and ends with the new marks.
use Rattle.wsm_walk.proofs.Common.{[], ℕ, ◌++◌, ◌+◌, ◌<◌, ◌∙◌, ◌∷◌, ◌≡◌, ◌≤◌, Aim, all_rows, AllBehind, ap, append-nil, append_assoc, arith, Ascends, ascends_put, both_ways, Card, card_at, cases_Bool, eq-eqb, eqb, eqb-true, false, first}
use Rattle.wsm_walk.proofs.Common.{get_or, Handed, in_rank, inl, inr, is_one_of, is_pending, item_after, item_at, item_at-put, leads_to, length, length-append, List, listed, Mark, mark_or, None, Option, put_row, rank_place, refl, said}
use Rattle.wsm_walk.proofs.{Common.{SaysOf, seen, Some, Stands, subst, sym, time_by, timed_of, true, Walked, with_time}, Listed.said-mark, Walk.{same-mark, walk-ends, walk-on, walk-over, walk-visit}, WalkSteps.{fewer-places, idle-between}}
use Rattle.wsm_walk.proofs.WalkSteps.{passed-to, place-from}

-- what is there is one
pub some-one : {X : Type 0} (a b : X) → Some a ≡ Some b → a ≡ b
some-one a b e = ap (or_that a) e
  where
    or_that : {Y : Type 0} → Y → Option Y → Y
    or_that y None = y
    or_that y (Some x) = x

-- one row between two lists
pub append_one : (xs : List ℕ) (n : ℕ) (ys : List ℕ) → (xs ++ n ∷ []) ++ ys ≡ xs ++ (n ∷ ys)
append_one xs n ys = append_assoc xs (n ∷ []) ys

module _ (cards : List Card) (rank : List ℕ) (goal : ℕ → Mark) (aim : Aim cards rank goal) (kept : List (ℕ × Mark)) where
  abbrev At : List ℕ → List (ℕ × Option Mark) → Type 0
  At = Stands cards rank goal kept

  -- a walk that is at the next pending place
  record Arrived (p n : ℕ) (keys : List ℕ) (changes : List (ℕ × Option Mark)) : Type 0 where
    pub front : List ℕ
    pub more : List ℕ
    pub at : rank ≡ front ++ (n ∷ more)
    pub size : length front ≡ p
    pub walked : Walked cards goal front (is_pending rank (p ∷ keys)) (seen kept changes)
    pub ascends : Ascends first changes
    pub says : SaysOf cards changes

  -- all pending places are the first one or behind it
  first-least : (p : ℕ) (keys : List ℕ) → AllBehind p keys → (q : ℕ) → is_one_of q (p ∷ keys) ≡ true → p ≤ q
  first-least p keys behind q there =
      elim (cases_Bool (eqb p q)) [
        | inl same ↦ let e : p ≡ q = eqb-true p q same in omega (arith, e)
        | inr other ↦ let less = behind q (rw other at there) in omega (arith, less)
      ]

  arrive : (p n d : ℕ) (keys : List ℕ) (changes : List (ℕ × Option Mark)) → p < length rank → get_or rank p d ≡ n → AllBehind p keys → At (p ∷ keys) changes → Arrived p n keys changes
  arrive p n d keys changes lt here behind st =
      let low : length st.front ≤ p = st.low p (rw (eq-eqb p p refl) refl) in
      let s = passed-to rank st.front st.rest p n d st.split low lt here in
      let idle = idle-between cards rank aim.ranked st.front s.0 (n ∷ s.1) (p ∷ keys) s.2 (λ q there. let h = first-least p keys behind q there in omega (arith, h, s.4, length-append st.front s.0)) in
      record {
        front = st.front ++ s.0;
        more = s.1;
        at = s.3;
        size = s.4;
        walked = walk-over cards rank goal aim st.front s.0 (n ∷ s.1) (is_pending rank (p ∷ keys)) (seen kept changes) s.2 st.walked idle;
        ascends = st.ascends;
        says = st.says;
      }

  module _ (p n d : ℕ) (keys : List ℕ) (changes : List (ℕ × Option Mark)) (lt : p < length rank) (here : get_or rank p d ≡ n) (behind : AllBehind p keys) (st : At (p ∷ keys) changes) where
    there : Arrived p n keys changes
    there = arrive p n d keys changes lt here behind st

    longer : length (there.front ++ n ∷ []) ≡ p + 1
    longer = length-append there.front (n ∷ []) ∙ ap (λ x. x + 1) there.size

    -- the node has its mark as it is
    stay-on : ((c : Card) → card_at n cards ≡ Some c → seen kept changes n ≡ goal n) → At keys changes
    stay-on right = record {
      front = there.front ++ n ∷ [];
      rest = there.more;
      split = there.at ∙ sym (append_one there.front n there.more);
      low = λ q in_q. let less = behind q in_q in omega (arith, less, longer);
      walked =
          walk-on cards rank goal aim there.front there.more n (is_pending rank (p ∷ keys)) (is_pending rank keys) (seen kept changes) there.at there.walked right
          (fewer-places cards rank aim.ranked there.front there.more n p keys keys there.at there.size (λ q in_q. in_q));
      ascends = there.ascends;
      says = there.says;
    }

    -- a node of the rank that is none of the net's is passed
    pub stands-none : card_at n cards ≡ None → At keys changes
    stands-none none = stay-on (λ c found. let q : None ≡ Some c = sym none ∙ found in absurd (cc))

    module _ (c : Card) (found : card_at n cards ≡ Some c) where
      -- a node that has the time of its equation hands nothing on
      pub stands-same : timed_of (seen kept changes n) ≡ time_by cards (seen kept changes) c → At keys changes
      stands-same same = stay-on (λ e found_e. same-mark cards rank goal aim there.front there.more n (is_pending rank (p ∷ keys)) (seen kept changes) there.at there.walked e found_e (same ∙ ap (λ x. time_by cards (seen kept changes) x) (some-one c e (sym found ∙ found_e))))

      abbrev mark : Mark
      mark = with_time (time_by cards (seen kept changes) c) (seen kept changes n)

      abbrev put : List (ℕ × Option Mark)
      put = put_row first (n, said mark) changes

      -- a node with another time makes the nodes behind it pending
      pub stands-new : (places' : List ℕ) → Handed rank (leads_to c) (p + 1) keys places' →
          At places' (put_row first (n, said (with_time (time_by cards (seen kept changes) c) (seen kept changes n))) changes)
      stands-new places' handed = record {
        front = there.front ++ n ∷ [];
        rest = there.more;
        split = there.at ∙ sym (append_one there.front n there.more);
        low = λ q in_q. elim (handed.only q in_q) [ inl old ↦ let less = behind q old in omega (arith, less, longer) | inr new ↦ omega (arith, new.4, longer) ];
        walked =
            walk-visit cards rank goal aim there.front there.more n (is_pending rank (p ∷ keys)) (is_pending rank places') (seen kept changes) (seen kept put) there.at there.walked c found
            (λ k other. ap (λ o. mark_or (item_after o (item_at k kept))) (sym (put-other k other))) own
            (fewer-places cards rank aim.ranked there.front there.more n p keys places' there.at there.size handed.stay)
            (λ k e at_k out idle. aim.behind n c found k e at_k (not-led k e at_k out idle));
        ascends = ascends_put first (n, said mark) changes there.ascends;
        says = λ k o is. elim (cases_Bool (eqb n k)) [
          | inr other ↦ there.says k o (sym (put-other k other) ∙ is)
          | inl same ↦
              let q : n ≡ k = eqb-true n k same in
              let one : said mark ≡ o = some-one _ _ (sym (put-own k same) ∙ is) in
              (subst (λ x. x ≡ said (mark_or x)) one (ap said (sym (said-mark mark))), (c, ap (λ x. card_at x cards) (sym q) ∙ found))
        ];
      }
        where
          put-other : (k : ℕ) → eqb n k ≡ false → item_at k put ≡ item_at k changes
          put-other k other = item_at-put k (n, said mark) changes ∙ rw other refl

          put-own : (k : ℕ) → eqb n k ≡ true → item_at k put ≡ Some (said mark)
          put-own k same = item_at-put k (n, said mark) changes ∙ rw same refl

          own : seen kept put n ≡ mark
          own = ap (λ o. mark_or (item_after o (item_at n kept))) (put-own n (eq-eqb n n refl)) ∙ said-mark mark

          not-led : (k : ℕ) (e : Card) → card_at k cards ≡ Some e → is_one_of k (there.front ++ n ∷ []) ≡ false → is_pending rank places' k ≡ false → leads_to c k ≡ false
          not-led k e at_k out idle =
              elim (cases_Bool (leads_to c k)) [
                | inr none ↦ none
                | inl leads ↦
                    let far : length (there.front ++ n ∷ []) ≤ rank_place k rank =
                    subst (λ l. length (there.front ++ n ∷ []) ≤ rank_place k l) (append_one there.front n there.more ∙ sym there.at) (place-from (there.front ++ n ∷ []) there.more k out) in
                    absurd (both_ways _ idle (handed.come k leads (in_rank cards rank aim.ranked k e at_k) (omega (arith, far, longer))))
              ]

  -- where nothing is pending, each node is seen with its new mark
  pub stands-end : (changes : List (ℕ × Option Mark)) → At [] changes → (n : ℕ) (c : Card) → card_at n cards ≡ Some c → seen kept changes n ≡ goal n
  stands-end changes st n c found =
      let at : rank ≡ st.front ++ (st.rest ++ []) = st.split ∙ ap (λ l. st.front ++ l) (sym (append-nil st.rest)) in
      let all = walk-over cards rank goal aim st.front st.rest [] (is_pending rank []) (seen kept changes) at st.walked (all_rows (λ k. is_pending rank [] k ≡ false) (λ k. refl) st.rest) in
      walk-ends cards rank goal aim (is_pending rank []) (seen kept changes) (subst (λ l. Walked cards goal l (is_pending rank []) (seen kept changes)) (sym st.split) all) n c found

  -- so what is changed says of each node what its mark becomes
  pub stands-say : (old : ℕ → Mark) (changes : List (ℕ × Option Mark)) → ((n : ℕ) → item_at n kept ≡ listed (card_at n cards) (old n)) → At [] changes →
      (n : ℕ) → item_after (item_at n changes) (listed (card_at n cards) (old n)) ≡ listed (card_at n cards) (goal n)
  stands-say old changes tells st n = go (item_at n changes) refl (card_at n cards) refl
    where
      go : (o : Option (Option Mark)) → item_at n changes ≡ o → (k : Option Card) → card_at n cards ≡ k → item_after o (listed k (old n)) ≡ listed k (goal n)
      go None is None at = refl
      go None is (Some c) at =
          ap said (sym (said-mark (old n)) ∙ ap mark_or (sym (tells n ∙ ap (λ k. listed k (old n)) at)) ∙ ap (λ o. mark_or (item_after o (item_at n kept))) (sym is) ∙ stands-end changes st n c at)
      go (Some o) is None at = let r = st.says n o is in let q : None ≡ Some r.1.0 = sym at ∙ r.1.1 in absurd (cc)
      go (Some o) is (Some c) at = let r = st.says n o is in r.0 ∙ ap said (ap (λ x. mark_or (item_after x (item_at n kept))) (sym is) ∙ stands-end changes st n c at)
