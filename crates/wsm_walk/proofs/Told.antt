-- What entries tell, one after another, is what the trail tells; and a walk over all nodes from there on ends with its marks.
use Rattle.wsm_walk.proofs.Common.{[], ℕ, ◌||◌, ◌∙◌, ◌∷◌, ◌≡◌, AllRows, ap, arith, Ascends, ascends_put, Bool, both_ways, Card, card_at, cards_of, cases_Bool, changed, choice_of, Entries, Entry, eqb, eqb-true, Facts, facts_of, false, find}
use Rattle.wsm_walk.proofs.Common.{first, fits, flat_of, FlatModel, HasCard, if◌then◌else◌, in_rank, inl, inr, is_again_of, is_end_of, is_one_of, is_some, is_start_of, IsRank, item_after, item_at, item_at-put, List, list_marks, listed}
use Rattle.wsm_walk.proofs.Common.{Mark, mark_now, mark_or, Marking, marks_of, no_mark, None, on_card-true, Option, or_left, or_right, position_of, rank_place, refl, Regular, replay_of, RisesAfter, says_something, SaysOf, SchemaModel, seen}
use Rattle.wsm_walk.proofs.{Common.{solution, Some, Spots, Stands, subst, sym, true, Value, value_below, whole, whole-marks, whole-trail, WholeTrail}, Goals.trail-aim, Listed.changes-list, Stands.{some-one, stands-say}}
use Rattle.std.specs.Option.{option_or}
use Rattle.wsm_schema.specs.declared.entries.Entry.TheVariants as entry
use Rattle.wsm_walk.specs.Told.{node_of, tell, tell_row, told, told_rows}

-- ---- what a mark has is not told anew
abbrev chosen : Option ℕ → Option ℕ → Option (ℕ × Entry) → Option ℕ
chosen None choice None = choice
chosen None choice (Some e) = choice_of (Some e)
chosen (Some p) choice found = choice

abbrev merged : Mark → ℕ → Entries → Mark
merged m n es = record {
  ready_at = m.ready_at;
  skipped_at = m.skipped_at;
  started = option_or m.started (position_of (is_start_of n) es);
  ended = option_or m.ended (position_of (is_end_of n) es);
  choice = chosen m.ended m.choice (find (λ e. is_end_of n e.1) es);
  again = option_or m.again (position_of (is_again_of n) es);
}

abbrev tell_at : ℕ → ℕ × Entry → Option ℕ → Mark → Mark
tell_at n e None m = m
tell_at n e (Some k) m = if eqb k n then tell e.0 e.1 m else m

or-or : (a : Option ℕ) (p : ℕ) (o : Option ℕ) → option_or (option_or a (Some p)) o ≡ option_or a (Some p)
or-or None p o = refl
or-or (Some q) p o = refl

or-none : (a : Option ℕ) → option_or a None ≡ a
or-none None = refl
or-none (Some q) = refl

-- one more entry in front
step : (n p : ℕ) (e : Entry) (es : Entries) (m : Mark) → merged (tell_at n (p, e) (node_of e) m) n es ≡ merged m n ((p, e) ∷ es)
step n p (entry.Start node user reads) es m =
    elim (cases_Bool (eqb node n)) [
      | inr other ↦ rw other refl
      | inl same ↦ rw same (ap (λ x. record {
        ready_at = m.ready_at;
        skipped_at = m.skipped_at;
        started = x;
        ended = option_or m.ended (position_of (is_end_of n) es);
        choice = chosen m.ended m.choice (find (λ e. is_end_of n e.1) es);
        again = option_or m.again (position_of (is_again_of n) es);
      }) (or-or m.started p (position_of (is_start_of n) es)))
    ]
step n p (entry.End node writes choice) es m =
    elim (cases_Bool (eqb node n)) [
      | inr other ↦ rw other refl
      | inl same ↦ rw same (go m.ended refl)
    ]
  where
    go : (o : Option ℕ) → m.ended ≡ o →
        merged (if is_some m.ended then m else record m { ended = Some p; choice = choice }) n es
        ≡ record {
          ready_at = m.ready_at;
          skipped_at = m.skipped_at;
          started = option_or m.started (position_of (is_start_of n) es);
          ended = option_or m.ended (Some p);
          choice = chosen m.ended m.choice (Some (p, entry.End node writes choice));
          again = option_or m.again (position_of (is_again_of n) es);
        }
    go None h = rw h refl
    go (Some q) h = rw h refl
step n p (entry.Again node writes) es m =
    elim (cases_Bool (eqb node n)) [
      | inr other ↦ rw other refl
      | inl same ↦ rw same (ap (λ x. record {
        ready_at = m.ready_at;
        skipped_at = m.skipped_at;
        started = option_or m.started (position_of (is_start_of n) es);
        ended = option_or m.ended (position_of (is_end_of n) es);
        choice = chosen m.ended m.choice (find (λ e. is_end_of n e.1) es);
        again = x;
      }) (or-or m.again p (position_of (is_again_of n) es)))
    ]
step n p (entry.Wrote writes) es m = refl

-- the node's row alone changes
seen-row : (n : ℕ) (e : ℕ × Entry) (o : Option ℕ) (rows : List (ℕ × Option Mark)) → seen [] (tell_row e o rows) n ≡ tell_at n e o (seen [] rows n)
seen-row n e None rows = refl
seen-row n e (Some k) rows =
    ap (λ x. mark_or (item_after x None)) (item_at-put n (k, Some (tell e.0 e.1 (seen [] rows k))) rows)
    ∙ elim (cases_Bool (eqb k n)) [ inl same ↦ rw same (ap (λ x. tell e.0 e.1 (seen [] rows x)) (eqb-true k n same)) | inr other ↦ rw other refl ]

none-chosen : (a : Option ℕ) (choice : Option ℕ) → chosen a choice None ≡ choice
none-chosen None choice = refl
none-chosen (Some p) choice = refl

nothing-merged : (m : Mark) (n : ℕ) → m ≡ merged m n []
nothing-merged m n =
    let st = sym (or-none m.started) in
    let en = sym (or-none m.ended) in
    let ch = sym (none-chosen m.ended m.choice) in
    let ag = sym (or-none m.again) in
    λ i. record { ready_at = m.ready_at; skipped_at = m.skipped_at; started = st i; ended = en i; choice = ch i; again = ag i }

seen-rows : (n : ℕ) (es : Entries) (rows : List (ℕ × Option Mark)) → seen [] (told_rows es rows) n ≡ merged (seen [] rows n) n es
seen-rows n [] rows = nothing-merged (seen [] rows n) n
seen-rows n (e ∷ es) rows =
    seen-rows n es (tell_row e (node_of e.1) rows)
    ∙ ap (λ m. merged m n es) (seen-row n e (node_of e.1) rows)
    ∙ step n e.0 e.1 es (seen [] rows n)

-- what entries tell, one after another, is what the trail tells
pub told-seen : (es : Entries) (n : ℕ) → seen [] (told_rows es []) n ≡ told es n
told-seen es n =
    seen-rows n es []
    ∙ ap (λ x. record {
      ready_at = None;
      skipped_at = None;
      started = position_of (is_start_of n) es;
      ended = position_of (is_end_of n) es;
      choice = x;
      again = position_of (is_again_of n) es;
    }) (first-chosen (find (λ e. is_end_of n e.1) es))
  where
    first-chosen : (o : Option (ℕ × Entry)) → chosen None None o ≡ choice_of o
    first-chosen None = refl
    first-chosen (Some e) = refl

-- ---- the rows ascend, and each says something
ascends-row : (e : ℕ × Entry) (o : Option ℕ) (rows : List (ℕ × Option Mark)) → Ascends first rows → Ascends first (tell_row e o rows)
ascends-row e None rows h = h
ascends-row e (Some n) rows h = ascends_put first (n, Some (tell e.0 e.1 (seen [] rows n))) rows h

ascends-rows : (es : Entries) (rows : List (ℕ × Option Mark)) → Ascends first rows → Ascends first (told_rows es rows)
ascends-rows [] rows h = h
ascends-rows (e ∷ es) rows h = ascends-rows es (tell_row e (node_of e.1) rows) (ascends-row e (node_of e.1) rows h)

abbrev says : Option Mark → Bool
says None = false
says (Some m) = says_something m

abbrev AllSay : List (ℕ × Option Mark) → Type 0
AllSay rows = (n : ℕ) (o : Option Mark) → item_at n rows ≡ Some o → says o ≡ true

says-started : (m : Mark) → is_some m.started ≡ true → says_something m ≡ true
says-started m h = or_left _ _ (or_left _ _ (or_left _ _ (or_right (is_some m.ready_at || is_some m.skipped_at) _ h)))

says-ended : (m : Mark) → is_some m.ended ≡ true → says_something m ≡ true
says-ended m h = or_left _ _ (or_left _ _ (or_right (is_some m.ready_at || is_some m.skipped_at || is_some m.started) _ h))

says-again : (m : Mark) → is_some m.again ≡ true → says_something m ≡ true
says-again m h = or_right (is_some m.ready_at || is_some m.skipped_at || is_some m.started || is_some m.ended || is_some m.choice) _ h

or-some : (a : Option ℕ) (p : ℕ) → is_some (option_or a (Some p)) ≡ true
or-some None p = refl
or-some (Some q) p = refl

-- a mark of which an entry tells says something
says-told : (p k : ℕ) (e : Entry) (m : Mark) → node_of e ≡ Some k → says_something (tell p e m) ≡ true
says-told p k (entry.Start node user reads) m is = says-started (tell p (entry.Start node user reads) m) (or-some m.started p)
says-told p k (entry.End node writes choice) m is =
    says-ended (tell p (entry.End node writes choice) m) (elim (cases_Bool (is_some m.ended)) [ inl over ↦ rw over over | inr open_yet ↦ rw open_yet refl ])
says-told p k (entry.Again node writes) m is = says-again (tell p (entry.Again node writes) m) (or-some m.again p)
says-told p k (entry.Wrote writes) m is = let q : None ≡ Some k = is in absurd (cc)

say-row : (e : ℕ × Entry) (o : Option ℕ) → node_of e.1 ≡ o → (rows : List (ℕ × Option Mark)) → AllSay rows → AllSay (tell_row e o rows)
say-row e None is rows h = h
say-row e (Some k) is rows h = λ n o there.
    elim (cases_Bool (eqb k n)) [
      | inl same ↦
          let one : Some (tell e.0 e.1 (seen [] rows k)) ≡ o = some-one _ _ (sym (item_at-put n (k, Some (tell e.0 e.1 (seen [] rows k))) rows ∙ rw same refl) ∙ there) in
          subst (λ x. says x ≡ true) one (says-told e.0 k e.1 (seen [] rows k) is)
      | inr other ↦ h n o (sym (item_at-put n (k, Some (tell e.0 e.1 (seen [] rows k))) rows ∙ rw other refl) ∙ there)
    ]

say-rows : (es : Entries) (rows : List (ℕ × Option Mark)) → AllSay rows → AllSay (told_rows es rows)
say-rows [] rows h = h
say-rows (e ∷ es) rows h = say-rows es (tell_row e (node_of e.1) rows) (say-row e (node_of e.1) refl rows h)

-- ---- of a node that is none of the net's a trail that fits tells nothing
starts-node : (n : ℕ) (e : Entry) → is_start_of n e ≡ true → node_of e ≡ Some n
starts-node n (entry.Start node user reads) it = ap Some (eqb-true node n it)
starts-node n (entry.End node writes choice) it = absurd (both_ways _ refl it)
starts-node n (entry.Again node writes) it = absurd (both_ways _ refl it)
starts-node n (entry.Wrote writes) it = absurd (both_ways _ refl it)

ends-node : (n : ℕ) (e : Entry) → is_end_of n e ≡ true → node_of e ≡ Some n
ends-node n (entry.End node writes choice) it = ap Some (eqb-true node n it)
ends-node n (entry.Start node user reads) it = absurd (both_ways _ refl it)
ends-node n (entry.Again node writes) it = absurd (both_ways _ refl it)
ends-node n (entry.Wrote writes) it = absurd (both_ways _ refl it)

agains-node : (n : ℕ) (e : Entry) → is_again_of n e ≡ true → node_of e ≡ Some n
agains-node n (entry.Again node writes) it = ap Some (eqb-true node n it)
agains-node n (entry.Start node user reads) it = absurd (both_ways _ refl it)
agains-node n (entry.End node writes choice) it = absurd (both_ways _ refl it)
agains-node n (entry.Wrote writes) it = absurd (both_ways _ refl it)

-- an entry that fits has its node in the net
fits-card : (g : FlatModel) (f : Facts) (m : Marking) (value : ℕ → Option Value) (p k : ℕ) (e : Entry) → fits g f m value p e ≡ true → node_of e ≡ Some k → HasCard g.cards k
fits-card g f m value p k (entry.Start node user reads) fit is = let r = on_card-true (card_at node g.cards) _ fit in (r.0, ap (λ x. card_at x g.cards) (sym (some-one node k is)) ∙ r.1)
fits-card g f m value p k (entry.End node writes choice) fit is = let r = on_card-true (card_at node g.cards) _ fit in (r.0, ap (λ x. card_at x g.cards) (sym (some-one node k is)) ∙ r.1)
fits-card g f m value p k (entry.Again node writes) fit is = let r = on_card-true (card_at node g.cards) _ fit in (r.0, ap (λ x. card_at x g.cards) (sym (some-one node k is)) ∙ r.1)
fits-card g f m value p k (entry.Wrote writes) fit is = let q : None ≡ Some k = is in absurd (cc)

module _ (g : FlatModel) (f : Facts) (m : Marking) (value : ℕ → ℕ → Option Value) (n : ℕ) (none : card_at n g.cards ≡ None) where
  not-found : (test : Entry → Bool) → ((e : Entry) → test e ≡ true → node_of e ≡ Some n) → (es : Entries) → AllRows (λ e. fits g f m (λ d. value d e.0) e.0 e.1 ≡ true) es → find (λ e. test e.1) es ≡ None
  not-found test of_node [] fit = refl
  not-found test of_node (e ∷ es) fit =
      elim (cases_Bool (test e.1)) [
        | inr other ↦ rw other (not-found test of_node es fit.1)
        | inl it ↦ let r = fits-card g f m (λ d. value d e.0) e.0 n e.1 fit.0 (of_node e.1 it) in let q : None ≡ Some r.0 = sym none ∙ r.1 in absurd (cc)
      ]

  none-told : (es : Entries) → AllRows (λ e. fits g f m (λ d. value d e.0) e.0 e.1 ≡ true) es → told es n ≡ no_mark
  none-told es fit =
      let st = not-found (is_start_of n) (starts-node n) es fit in
      let en = not-found (is_end_of n) (ends-node n) es fit in
      let ag = not-found (is_again_of n) (agains-node n) es fit in
      rw (st, en, ag) refl

module _ (s : SchemaModel) (rank : List ℕ) (is : IsRank (cards_of s) rank) (es : Entries) (t : Spots) (rises : RisesAfter 0 es) (is_whole : replay_of (flat_of s) es ≡ whole t) where
  trail : WholeTrail s rank es t
  trail = whole-trail s rank es t is rises is_whole

  -- of a node that is none of the net's nothing is told
  pub untold : (n : ℕ) → card_at n (cards_of s) ≡ None → told es n ≡ no_mark
  untold n none = none-told (flat_of s) (facts_of es) (solution (cards_of s) rank (facts_of es)) (λ d p. value_below d p es) n none es trail.fit

  says-of : SaysOf (cards_of s) (told_rows es [])
  says-of n None there = absurd (both_ways _ refl (say-rows es [] (λ k o none. let q : None ≡ Some o = none in absurd (cc)) n None there))
  says-of n (Some m) there =
      let says_so : says_something m ≡ true = say-rows es [] (λ k o none. let q : None ≡ Some o = none in absurd (cc)) n (Some m) there in
      let is_told : m ≡ told es n = sym (ap (λ x. mark_or (item_after x None)) there) ∙ told-seen es n in
      (rw says_so refl, go (card_at n (cards_of s)) refl says_so is_told)
    where
      go : (o : Option Card) → card_at n (cards_of s) ≡ o → says_something m ≡ true → m ≡ told es n → HasCard (cards_of s) n
      go (Some c) at says_so is_told = (c, at)
      go None at says_so is_told = absurd (both_ways _ (ap says_something (is_told ∙ untold n at)) says_so)

  module _ (regular : Regular s) (places : List ℕ) (all : (k : ℕ) → is_one_of k rank ≡ true → is_one_of (rank_place k rank) places ≡ true) where
    -- a walk begins with what the trail tells, where all nodes are pending
    pub told-stands : Stands (cards_of s) rank (mark_now s rank es) [] places (told_rows es [])
    told-stands = record {
      front = [];
      rest = rank;
      split = refl;
      low = λ q there. omega arith;
      walked = record {
        done = λ n c at none. absurd (both_ways _ refl none);
        facts = λ n c at. ap (λ (x : Mark). record x { ready_at = None; skipped_at = None }) (told-seen es n);
        times = λ n c at. rw (told-seen es n) refl;
        meets = λ n c at out idle. absurd (both_ways _ idle (all n (in_rank (cards_of s) rank is n c at)));
      };
      ascends = ascends-rows es [] tt;
      says = says-of;
    }

    silent : (cards : List Card) → [] ≡ list_marks (λ k. no_mark) cards
    silent [] = refl
    silent (c ∷ cs) = silent cs

    -- and ends with its marks
    pub told-changes : (changes : List (ℕ × Option Mark)) → Stands (cards_of s) rank (mark_now s rank es) [] [] changes → changed changes [] ≡ marks_of (flat_of s) es
    told-changes changes st =
        changes-list (λ k. no_mark) (mark_now s rank es) (cards_of s) [] changes (silent (cards_of s)) st.ascends
        (stands-say (cards_of s) rank (mark_now s rank es) (trail-aim s regular rank is es) [] (λ k. no_mark) changes (λ n. nothing (card_at n (cards_of s))) st)
        ∙ sym (whole-marks (flat_of s) rank is es t rises is_whole)
      where
        nothing : (o : Option Card) → None ≡ listed o no_mark
        nothing None = refl
        nothing (Some c) = refl
