-- Where a node is running, the trail without its Start replays whole, and its marks are the same but for that Start.
use Rattle.wsm_walk.proofs.Common.{[], ℕ, ◌<◌, ◌∙◌, ◌∷◌, ◌≡◌, AllRows, ap, arith, before, Bool, both_ways, Card, card_at, cases_Bool, choice_of, early, Ends, Entries, Entry, eq-eqb, eqb, eqb-true, Facts, facts_of, false, find, first_misfit}
use Rattle.wsm_walk.proofs.Common.{fits, FlatModel, if◌then◌else◌, inl, InOrder, inr, is_again_of, is_end_of, is_loop_end, is_start_of, IsRank, last_position, later_or, List, lt-ltb, ltb-true, Marking, nat_lt, None, not, on_card-same}
use Rattle.wsm_walk.proofs.Common.{Option, option_map, Orderly, partner_done, position_of, refl, replay_of, RisesAfter, solution, solved_net, Some, Spots, starts-change_none, subst, suc, sym, TimedNet, trail-ends, true, Value, value_below}
use Rattle.wsm_walk.proofs.Common.{value_in, whole, whole-fits, whole-orderly, without_start, written_by}
use Rattle.wsm_schema.specs.declared.entries.Entry.TheVariants as entry
use Rattle.wsm_marks.proofs.FirstFailure.{fits-rows, rows-fit}
use Rattle.wsm_trail.proofs.Withdrawing.{start-writes_none}

-- a Start is neither an End nor an Again
start-no_end : (n k : ℕ) (x : Entry) → is_start_of n x ≡ true → is_end_of k x ≡ false
start-no_end n k (entry.Start node user reads) h = refl
start-no_end n k (entry.End node writes choice) h = absurd (both_ways _ refl h)
start-no_end n k (entry.Again node writes) h = absurd (both_ways _ refl h)
start-no_end n k (entry.Wrote writes) h = absurd (both_ways _ refl h)

start-no_again : (n k : ℕ) (x : Entry) → is_start_of n x ≡ true → is_again_of k x ≡ false
start-no_again n k (entry.Start node user reads) h = refl
start-no_again n k (entry.End node writes choice) h = absurd (both_ways _ refl h)
start-no_again n k (entry.Again node writes) h = absurd (both_ways _ refl h)
start-no_again n k (entry.Wrote writes) h = absurd (both_ways _ refl h)

-- nor is it a Start of another node
start-no_other : (n k : ℕ) (x : Entry) → eqb n k ≡ false → is_start_of n x ≡ true → is_start_of k x ≡ false
start-no_other n k (entry.Start node user reads) away h = ap (λ j. eqb j k) (eqb-true node n h) ∙ away
start-no_other n k (entry.End node writes choice) away h = refl
start-no_other n k (entry.Again node writes) away h = refl
start-no_other n k (entry.Wrote writes) away h = refl

later-none : (x : Option Value) → later_or x None ≡ x
later-none None = refl
later-none (Some v) = refl

module _ (n : ℕ) where
  -- what is found among entries of which no Start of the node is one
  pub find-without : (test : Entry → Bool) → ((x : Entry) → is_start_of n x ≡ true → test x ≡ false) → (es : Entries) → find (λ e. test e.1) (without_start n es) ≡ find (λ e. test e.1) es
  find-without test none [] = refl
  find-without test none (e ∷ es) =
      elim (cases_Bool (is_start_of n e.1)) [
        | inl it ↦ rw (it, none e.1 it) (find-without test none es)
        | inr other ↦ rw other (ap (λ o. if test e.1 then Some e else o) (find-without test none es))
      ]

  -- no Start of the node is left
  pub start-gone : (es : Entries) → find (λ e. is_start_of n e.1) (without_start n es) ≡ None
  start-gone [] = refl
  start-gone (e ∷ es) =
      elim (cases_Bool (is_start_of n e.1)) [
        | inl it ↦ rw it (start-gone es)
        | inr other ↦ rw (other, other) (start-gone es)
      ]

  -- no value changes
  pub value-without : (d p : ℕ) (es : Entries) → value_below d p (without_start n es) ≡ value_below d p es
  value-without d p [] = refl
  value-without d p (e ∷ es) =
      elim (cases_Bool (is_start_of n e.1)) [
        | inl it ↦
            rw (it, start-writes_none n e.1 it)
            (value-without d p es
            ∙ sym (elim (cases_Bool (nat_lt e.0 p)) [ inl less ↦ rw less (later-none (value_below d p es)) | inr more ↦ rw more (later-none (value_below d p es)) ]))
        | inr other ↦ rw other (ap (λ v. later_or v (if nat_lt e.0 p then value_in d (written_by e.1) else None)) (value-without d p es))
      ]

  -- positions rise as before
  rises-lower : (a b : ℕ) → a < b → (es : Entries) → RisesAfter b es → RisesAfter a es
  rises-lower a b lt [] h = tt
  rises-lower a b lt (e ∷ es) h = (lt-ltb a e.0 (omega (arith, ltb-true b e.0 h.0)), h.1)

  pub rises-without : (last : ℕ) (es : Entries) → RisesAfter last es → RisesAfter last (without_start n es)
  rises-without last [] h = tt
  rises-without last (e ∷ es) h =
      elim (cases_Bool (is_start_of n e.1)) [
        | inl it ↦ rw it (rises-lower last e.0 (ltb-true last e.0 h.0) (without_start n es) (rises-without e.0 es h.1))
        | inr other ↦ rw other (h.0, rises-without e.0 es h.1)
      ]

  -- what holds of the entries that are left
  rows-without : (P Q : ℕ × Entry → Type 0) → ((e : ℕ × Entry) → is_start_of n e.1 ≡ false → P e → Q e) → (es : Entries) → AllRows P es → AllRows Q (without_start n es)
  rows-without P Q step [] h = tt
  rows-without P Q step (e ∷ es) h =
      elim (cases_Bool (is_start_of n e.1)) [
        | inl it ↦ rw it (rows-without P Q step es h.1)
        | inr other ↦ rw other (step e other h.0, rows-without P Q step es h.1)
      ]

  module _ (es : Entries) where
    abbrev es' : Entries
    es' = without_start n es

    -- ---- facts
    pub ended-same : (k : ℕ) → (facts_of es').ended k ≡ (facts_of es).ended k
    ended-same k = ap (option_map (λ e. e.0)) (find-without (is_end_of k) (start-no_end n k) es)

    pub choice-same : (k : ℕ) → (facts_of es').choice k ≡ (facts_of es).choice k
    choice-same k = ap choice_of (find-without (is_end_of k) (start-no_end n k) es)

    pub started-same : (k : ℕ) → eqb n k ≡ false → (facts_of es').started k ≡ (facts_of es).started k
    started-same k away = ap (option_map (λ e. e.0)) (find-without (is_start_of k) (λ x it. start-no_other n k x away it) es)

    pub started-none : (facts_of es').started n ≡ None
    started-none = ap (option_map (λ e. e.0)) (start-gone es)

    pub again-same : (k : ℕ) → position_of (is_again_of k) es' ≡ position_of (is_again_of k) es
    again-same k = ap (option_map (λ e. e.0)) (find-without (is_again_of k) (start-no_again n k) es)

    -- ---- order
    module _ (running : (facts_of es).ended n ≡ None) where
      order-same : (e : ℕ × Entry) → is_start_of n e.1 ≡ false → InOrder (facts_of es) e.0 e.1 → InOrder (facts_of es') e.0 e.1
      order-same (q, entry.Start node user reads) other h =
          started-same node (elim (cases_Bool (eqb n node)) [ inl same ↦ absurd (both_ways _ other (eq-eqb node n (sym (eqb-true n node same)))) | inr away ↦ away ]) ∙ h
      order-same (q, entry.End node writes choice) other h = (ended-same node ∙ h.0, choice-same node ∙ h.1, ap (early q) (started-same node (away_from node q h.0)) ∙ h.2)
        where
          away_from : (node q : ℕ) → (facts_of es).ended node ≡ Some q → eqb n node ≡ false
          away_from node q at =
              elim (cases_Bool (eqb n node)) [
                | inl same ↦ let p : None ≡ Some q = sym running ∙ ap (facts_of es).ended (eqb-true n node same) ∙ at in absurd (cc)
                | inr away ↦ away
              ]
      order-same (q, entry.Again node writes) other h = tt
      order-same (q, entry.Wrote writes) other h = tt

      pub orderly-without : Orderly es → Orderly es'
      orderly-without orderly = record {
        rises = rises-without 0 es orderly.rises;
        order = rows-without (λ d. InOrder (facts_of es) d.0 d.1) (λ d. InOrder (facts_of es') d.0 d.1) order-same es orderly.order;
      }

    -- ---- entries that fit
    module _ (g : FlatModel) (m m' : Marking) (same : (k : ℕ) (c : Card) → card_at k g.cards ≡ Some c → m k ≡ m' k) where
      partner-same : (q : ℕ) (o : Option ℕ) → partner_done g.cards (facts_of es) m q o ≡ partner_done g.cards (facts_of es') m' q o
      partner-same q None = refl
      partner-same q (Some k) = on_card-same (card_at k g.cards) _ _ (λ d at. rw (ended-same k, same k d at) refl)

      fits-same : (value : ℕ → Option Value) (d : ℕ × Entry) → fits g (facts_of es) m value d.0 d.1 ≡ fits g (facts_of es') m' value d.0 d.1
      fits-same value (q, entry.Start node user reads) = on_card-same (card_at node g.cards) _ _ (λ c at. rw (same node c at) refl)
      fits-same value (q, entry.End node writes choice) = refl
      fits-same value (q, entry.Again node writes) =
          on_card-same (card_at node g.cards) _ _ (λ c at. elim (cases_Bool (is_loop_end c.kind)) [
            | inl ends ↦ rw ends (partner-same q c.partner)
            | inr other ↦ rw other refl
          ])
      fits-same value (q, entry.Wrote writes) = refl

      fits-without : first_misfit g (facts_of es) m (λ d q. value_below d q es) es ≡ None → first_misfit g (facts_of es') m' (λ d q. value_below d q es') es' ≡ None
      fits-without fit =
          rows-fit g (facts_of es') m' (λ d q. value_below d q es') es'
          (rows-without (λ x. fits g (facts_of es) m (λ d. value_below d x.0 es) x.0 x.1 ≡ true) (λ x. fits g (facts_of es') m' (λ d. value_below d x.0 es') x.0 x.1 ≡ true)
          (λ x other h. ap (λ v. fits g (facts_of es') m' v x.0 x.1) (λ i d. value-without d x.0 es i) ∙ sym (fits-same (λ d. value_below d x.0 es) x) ∙ h)
          es (fits-rows g (facts_of es) m (λ d q. value_below d q es) es fit))

-- the solution of the trail without the Start
pub solution-without : (g : FlatModel) (rank : List ℕ) → IsRank g.cards rank → (n : ℕ) (es : Entries) (k : ℕ) (c : Card) → card_at k g.cards ≡ Some c →
    solution g.cards rank (facts_of es) k ≡ solution g.cards rank (facts_of (without_start n es)) k
solution-without g rank is n es =
    starts-change_none g.cards rank is (facts_of es) (facts_of (without_start n es)) _ _ (solved_net g.cards rank is (facts_of es)).solves (solved_net g.cards rank is (facts_of (without_start n es))).solves
    (λ k. sym (ended-same n es k)) (λ k. sym (choice-same n es k))

-- where a node has no End, the trail without its Start replays whole
pub withdrawn-whole : (g : FlatModel) (rank : List ℕ) → IsRank g.cards rank → (es : Entries) (t : Spots) → RisesAfter 0 es → replay_of g es ≡ whole t → (n : ℕ) → (facts_of es).ended n ≡ None →
    (t' : Spots) × (replay_of g (without_start n es) ≡ whole t')
withdrawn-whole g rank is es t rises is_whole n running =
    let es' = without_start n es in
    let m = solution g.cards rank (facts_of es) in
    let m' = solution g.cards rank (facts_of es') in
    let orderly : Orderly es = whole-orderly g es t rises is_whole in
    let net' = solved_net g.cards rank is (facts_of es') in
    let fit = whole-fits g rank es m (solved_net g.cards rank is (facts_of es)) orderly t is_whole in
    finish m' (fits-without n es g m m' (solution-without g rank is n es) fit) (trail-ends g rank es' m' net' (orderly-without n es running orderly))
  where
    finish : (m' : Marking) → first_misfit g (facts_of (without_start n es)) m' (λ x q. value_below x q (without_start n es)) (without_start n es) ≡ None →
        Ends g.cards (facts_of (without_start n es)) m' (suc (last_position 0 (without_start n es))) (first_misfit g (facts_of (without_start n es)) m' (λ x q. value_below x q (without_start n es)) (without_start n es)) (replay_of g (without_start n es)) →
        (t' : Spots) × (replay_of g (without_start n es) ≡ whole t')
    finish m' fit h = let r = subst (λ o. Ends g.cards (facts_of (without_start n es)) m' (suc (last_position 0 (without_start n es))) o (replay_of g (without_start n es))) fit h in (r.0, r.1)
