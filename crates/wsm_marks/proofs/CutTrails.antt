-- A trail cut by a loop whose end is running, with the Again of that end, replays whole.
use Rattle.wsm_marks.proofs.Common.{[], ℕ, ◌++◌, ◌<◌, ◌∙◌, ◌∷◌, ◌≡◌, ◌⊎◌, AllRows, ap, arith, before, Bool, both_rows, both_ways, Card, card_at, cases_Bool, choice_of, Cleared, cons_option, cut_entries, cut_entry, early, Ends, Entries}
use Rattle.wsm_marks.proofs.Common.{Entry, eqb, eqb-true, Facts, facts_of, false, find, first_misfit, fits, FlatModel, flow, if◌then◌else◌, inl, InOrder, inr, InTime, is_end_of, is_inside, is_loop_end, is_no, is_one_of, is_start_of}
use Rattle.wsm_marks.proofs.Common.{last_position, later_or, le-ltb, List, LoopOf, lt-ltb, ltb-true, Marking, nat_lt, None, Option, option_map, Orderly, partner_done, refl, replay_of, RisesAfter, Some, Spots, subst, suc, sym, true, Value}
use Rattle.wsm_marks.proofs.{Common.{value_below, value_in, whole, Written, written_by}, Cards.on_card-same, Causality.TimedNet, CutOutside.{cut_outside, ready-back}, EntrySteps.in_time-later, FirstFailure.{fits-rows, rows-fit}}
use Rattle.wsm_marks.proofs.{Lists.rows-last, MarksOfTrails.whole-fits, Signals.is_ready_mark, Telling.{AllBelow, find-last, orderly-told, told-end, trail-ends}}
use Rattle.wsm_schema.specs.declared.entries.Entry.TheVariants as entry
use Rattle.wsm_schema.specs.declared.states.Flow.TheVariants.{Yes}

-- what a cut makes of an entry: it stays, it goes, or its writes stay
data Cut (body : List ℕ) (p : ℕ) (x : Entry) : Option (ℕ × Entry) → Type 0 where
  stays : is_inside body x ≡ false → Cut body p x (Some (p, x))
  goes : is_inside body x ≡ true → written_by x ≡ [] → Cut body p x None
  leaves : is_inside body x ≡ true → Cut body p x (Some (p, entry.Wrote (written_by x)))

cut_view : (body : List ℕ) (p : ℕ) (x : Entry) → Cut body p x (cut_entry body p x)
cut_view body p (entry.Start node user reads) =
    elim (cases_Bool (is_one_of node body)) [ inl it ↦ rw it (goes it refl) | inr other ↦ rw other (stays other) ]
cut_view body p (entry.End node [] choice) =
    elim (cases_Bool (is_one_of node body)) [ inl it ↦ rw it (goes it refl) | inr other ↦ rw other (stays other) ]
cut_view body p (entry.End node (w ∷ ws) choice) =
    elim (cases_Bool (is_one_of node body)) [ inl it ↦ rw it (leaves it) | inr other ↦ rw other (stays other) ]
cut_view body p (entry.Again node []) =
    elim (cases_Bool (is_one_of node body)) [ inl it ↦ rw it (goes it refl) | inr other ↦ rw other (stays other) ]
cut_view body p (entry.Again node (w ∷ ws)) =
    elim (cases_Bool (is_one_of node body)) [ inl it ↦ rw it (leaves it) | inr other ↦ rw other (stays other) ]
cut_view body p (entry.Wrote writes) = stays refl

module _ (body : List ℕ) where
  -- ---- facts
  find-cut_out : (test : Entry → Bool) → ((x : Entry) → is_inside body x ≡ true → test x ≡ false) → ((w : Written) → test (entry.Wrote w) ≡ false) → (es : Entries) →
      find (λ e. test e.1) (cut_entries body es) ≡ find (λ e. test e.1) es
  find-cut_out test no_in no_wrote [] = refl
  find-cut_out test no_in no_wrote (e ∷ es) = go (cut_entry body e.0 e.1) (cut_view body e.0 e.1) (find-cut_out test no_in no_wrote es)
    where
      go : (o : Option (ℕ × Entry)) → Cut body e.0 e.1 o → find (λ d. test d.1) (cut_entries body es) ≡ find (λ d. test d.1) es →
          find (λ d. test d.1) (cons_option o (cut_entries body es)) ≡ find (λ d. test d.1) (e ∷ es)
      go _ (stays out) ih = ap (λ r. if test e.1 then Some e else r) ih
      go _ (goes inside none) ih = rw (no_in e.1 inside) ih
      go _ (leaves inside) ih = rw (no_in e.1 inside, no_wrote (written_by e.1)) ih

  find-cut_in : (test : Entry → Bool) → ((x : Entry) → is_inside body x ≡ false → test x ≡ false) → (es : Entries) → find (λ e. test e.1) (cut_entries body es) ≡ None
  find-cut_in test no_out [] = refl
  find-cut_in test no_out (e ∷ es) = go (cut_entry body e.0 e.1) (cut_view body e.0 e.1) (find-cut_in test no_out es)
    where
      go : (o : Option (ℕ × Entry)) → Cut body e.0 e.1 o → find (λ d. test d.1) (cut_entries body es) ≡ None → find (λ d. test d.1) (cons_option o (cut_entries body es)) ≡ None
      go _ (stays out) ih = rw (no_out e.1 out) ih
      go _ (goes inside none) ih = ih
      go _ (leaves inside) ih = rw (no_out (entry.Wrote (written_by e.1)) refl) ih

  -- tests on a node outside, or inside
  other_node : (n k : ℕ) (b c : Bool) → is_one_of k body ≡ b → is_one_of n body ≡ c → (b ≡ c → ⊥) → eqb k n ≡ false
  other_node n k b c at_k at_n apart =
      elim (cases_Bool (eqb k n)) [
        | inl same ↦ absurd (apart (sym at_k ∙ ap (λ j. is_one_of j body) (eqb-true k n same) ∙ at_n))
        | inr other ↦ other
      ]

  start-apart : (n : ℕ) (b c : Bool) → is_one_of n body ≡ c → (b ≡ c → ⊥) → (x : Entry) → is_inside body x ≡ b → is_start_of n x ≡ false
  start-apart n b c at_n apart (entry.Start node user reads) h = other_node n node b c h at_n apart
  start-apart n b c at_n apart (entry.End node writes choice) h = refl
  start-apart n b c at_n apart (entry.Again node writes) h = refl
  start-apart n b c at_n apart (entry.Wrote writes) h = refl

  end-apart : (n : ℕ) (b c : Bool) → is_one_of n body ≡ c → (b ≡ c → ⊥) → (x : Entry) → is_inside body x ≡ b → is_end_of n x ≡ false
  end-apart n b c at_n apart (entry.End node writes choice) h = other_node n node b c h at_n apart
  end-apart n b c at_n apart (entry.Start node user reads) h = refl
  end-apart n b c at_n apart (entry.Again node writes) h = refl
  end-apart n b c at_n apart (entry.Wrote writes) h = refl

  true_false : true ≡ false → ⊥
  true_false h = both_ways true h refl

  false_true : false ≡ true → ⊥
  false_true h = both_ways true (sym h) refl

  -- the trail after a repeat
  module _ (es : Entries) (p e : ℕ) (w : Written) where
    -- the trail that a cut leaves, with the repeat behind it
    abbrev pub repeated : Entries
    repeated = cut_entries body es ++ (p, entry.Again e w) ∷ []

    -- a cut clears the loop's facts and leaves the others
    pub cleared : Cleared body (facts_of es) (facts_of repeated)
    cleared = record {
      started = λ n out. ap (option_map (λ d. d.0)) (find-last (is_start_of n) (cut_entries body es) (p, entry.Again e w) refl ∙ find-cut_out (is_start_of n) (start-apart n true false out true_false) (λ v. refl) es);
      ended = λ n out. ap (option_map (λ d. d.0)) (find-last (is_end_of n) (cut_entries body es) (p, entry.Again e w) refl ∙ find-cut_out (is_end_of n) (end-apart n true false out true_false) (λ v. refl) es);
      choice = λ n out. ap choice_of (find-last (is_end_of n) (cut_entries body es) (p, entry.Again e w) refl ∙ find-cut_out (is_end_of n) (end-apart n true false out true_false) (λ v. refl) es);
      no_start = λ n inside. ap (option_map (λ d. d.0)) (find-last (is_start_of n) (cut_entries body es) (p, entry.Again e w) refl ∙ find-cut_in (is_start_of n) (start-apart n false true inside false_true) es);
      no_end = λ n inside. ap (option_map (λ d. d.0)) (find-last (is_end_of n) (cut_entries body es) (p, entry.Again e w) refl ∙ find-cut_in (is_end_of n) (end-apart n false true inside false_true) es);
    }

  -- ---- values
  later_or-none : (v : Option Value) → later_or v None ≡ v
  later_or-none None = refl
  later_or-none (Some v) = refl

  value-cut : (d q : ℕ) (es : Entries) → value_below d q (cut_entries body es) ≡ value_below d q es
  value-cut d q [] = refl
  value-cut d q (e ∷ es) = go (cut_entry body e.0 e.1) (cut_view body e.0 e.1) (value-cut d q es)
    where
      go : (o : Option (ℕ × Entry)) → Cut body e.0 e.1 o → value_below d q (cut_entries body es) ≡ value_below d q es → value_below d q (cons_option o (cut_entries body es)) ≡ value_below d q (e ∷ es)
      go _ (stays out) ih = ap (λ v. later_or v (if nat_lt e.0 q then value_in d (written_by e.1) else None)) ih
      go _ (leaves inside) ih = ap (λ v. later_or v (if nat_lt e.0 q then value_in d (written_by e.1) else None)) ih
      go _ (goes inside none) ih =
          elim (cases_Bool (nat_lt e.0 q)) [
            | inl soon ↦ rw (soon, none) (ih ∙ sym (later_or-none (value_below d q es)))
            | inr late ↦ rw late (ih ∙ sym (later_or-none (value_below d q es)))
          ]

  value-last : (d q : ℕ) (es : Entries) (e : ℕ × Entry) → nat_lt e.0 q ≡ false → value_below d q (es ++ e ∷ []) ≡ value_below d q es
  value-last d q [] e late = rw late refl
  value-last d q (x ∷ xs) e late = ap (λ v. later_or v (if nat_lt x.0 q then value_in d (written_by x.1) else None)) (value-last d q xs e late)

  -- ---- rows
  rows-cut : (P Q : ℕ × Entry → Type 0) → ((e : ℕ × Entry) → is_inside body e.1 ≡ false → P e → Q e) → ((e : ℕ × Entry) → P e → Q (e.0, entry.Wrote (written_by e.1))) → (es : Entries) → AllRows P es → AllRows Q (cut_entries body es)
  rows-cut P Q keep wrote_it [] h = tt
  rows-cut P Q keep wrote_it (e ∷ es) h = go (cut_entry body e.0 e.1) (cut_view body e.0 e.1) (rows-cut P Q keep wrote_it es h.1)
    where
      go : (o : Option (ℕ × Entry)) → Cut body e.0 e.1 o → AllRows Q (cut_entries body es) → AllRows Q (cons_option o (cut_entries body es))
      go _ (stays out) ih = (keep e out h.0, ih)
      go _ (goes inside none) ih = ih
      go _ (leaves inside) ih = (wrote_it e h.0, ih)

  rises-lower : (a b : ℕ) → a < b → (es : Entries) → RisesAfter b es → RisesAfter a es
  rises-lower a b lt [] h = tt
  rises-lower a b lt (e ∷ es) h = (lt-ltb a e.0 (omega (arith, ltb-true b e.0 h.0)), h.1)

  rises-cut : (last : ℕ) (es : Entries) → RisesAfter last es → RisesAfter last (cut_entries body es)
  rises-cut last [] h = tt
  rises-cut last (e ∷ es) h = go (cut_entry body e.0 e.1) (cut_view body e.0 e.1) (rises-cut e.0 es h.1)
    where
      go : (o : Option (ℕ × Entry)) → Cut body e.0 e.1 o → RisesAfter e.0 (cut_entries body es) → RisesAfter last (cons_option o (cut_entries body es))
      go _ (stays out) ih = (h.0, ih)
      go _ (goes inside none) ih = rises-lower last e.0 (ltb-true last e.0 h.0) (cut_entries body es) ih
      go _ (leaves inside) ih = (h.0, ih)

rises-last : (last p : ℕ) (x : Entry) (es : Entries) → nat_lt last p ≡ true → RisesAfter last es → AllBelow p es → RisesAfter last (es ++ (p, x) ∷ [])
rises-last last p x [] lt h b = (lt, tt)
rises-last last p x (e ∷ es) lt h b = (h.0, rises-last e.0 p x es b.0 h.1 b.1)

rises-below : (last q : ℕ) (es : Entries) → RisesAfter last es → nat_lt (last_position last es) q ≡ true → AllBelow q es × (nat_lt last q ≡ true)
rises-below last q [] h lt = (tt, lt)
rises-below last q (e ∷ es) h lt =
    let r = rises-below e.0 q es h.1 lt in
    ((r.1, r.0), lt-ltb last q (omega (arith, ltb-true last e.0 h.0, ltb-true e.0 q r.1)))

module _ (g : FlatModel) (rank : List ℕ) (body : List ℕ) (l e : ℕ) (loop : LoopOf g.cards body l e) (es : Entries) (p : ℕ) (w : Written) (m m' : Marking)
    (net : TimedNet g.cards rank (facts_of es) m) (net' : TimedNet g.cards rank (facts_of (repeated body es p e w)) m') (orderly : Orderly es) (next : nat_lt (last_position 0 es) p ≡ true) where
  -- the facts before the repeat
  abbrev f : Facts
  f = facts_of es

  -- the trail after it
  abbrev es' : Entries
  es' = repeated body es p e w

  -- the facts after it
  abbrev f' : Facts
  f' = facts_of es'

  all_below : AllBelow p es
  all_below = (rises-below 0 p es orderly.rises next).0

  cleared_so : Cleared body f f'
  cleared_so = cleared body es p e w

  order-same : (d : ℕ × Entry) → is_inside body d.1 ≡ false → InOrder f d.0 d.1 → InOrder f' d.0 d.1
  order-same (q, entry.Start node user reads) out h = cleared_so.started node out ∙ h
  order-same (q, entry.End node writes choice) out h = (cleared_so.ended node out ∙ h.0, cleared_so.choice node out ∙ h.1, ap (early q) (cleared_so.started node out) ∙ h.2)
  order-same (q, entry.Again node writes) out h = tt
  order-same (q, entry.Wrote writes) out h = tt

  -- the trail after a repeat is orderly
  pub orderly-cut : Orderly es'
  orderly-cut = record {
    rises = rises-last 0 p (entry.Again e w) (cut_entries body es) (rises-below 0 p es orderly.rises next).1 (rises-cut body 0 es orderly.rises)
        (rows-cut body (λ d. nat_lt d.0 p ≡ true) (λ d. nat_lt d.0 p ≡ true) (λ d out h. h) (λ d h. h) es all_below);
    order = rows-last (λ d. InOrder f' d.0 d.1) (cut_entries body es) (p, entry.Again e w)
        (rows-cut body (λ d. InOrder f d.0 d.1) (λ d. InOrder f' d.0 d.1) order-same (λ d h. tt) es orderly.order) tt;
  }

  value-same : (q : ℕ) → nat_lt q p ≡ true → (d : ℕ) → value_below d q es' ≡ value_below d q es
  value-same q lt d = value-last body d q (cut_entries body es) (p, entry.Again e w) (le-ltb p q (omega (arith, ltb-true q p lt))) ∙ value-cut body d q es

  module _ (same : (n : ℕ) (c : Card) → card_at n g.cards ≡ Some c → (is_one_of n body ≡ false) ⊎ (n ≡ l) → m n ≡ m' n) where
    partner-same : (q n : ℕ) (c : Card) → card_at n g.cards ≡ Some c → is_one_of n body ≡ false → is_loop_end c.kind ≡ true → partner_done g.cards f m q c.partner ≡ partner_done g.cards f' m' q c.partner
    partner-same q n c at out ends = go c.partner refl
      where
        go : (o : Option ℕ) → c.partner ≡ o → partner_done g.cards f m q o ≡ partner_done g.cards f' m' q o
        go None h = refl
        go (Some k) h =
            let out_k = loop.partners n k c at out ends h in
            on_card-same (card_at k g.cards) _ _ (λ d at_k. rw (cleared_so.ended k out_k, same k d at_k (inl out_k)) refl)

    fits-same : (value : ℕ → Option Value) (d : ℕ × Entry) → is_inside body d.1 ≡ false → fits g f m value d.0 d.1 ≡ fits g f' m' value d.0 d.1
    fits-same value (q, entry.Start node user reads) out = on_card-same (card_at node g.cards) _ _ (λ c at. rw (same node c at (inl out)) refl)
    fits-same value (q, entry.End node writes choice) out = refl
    fits-same value (q, entry.Again node writes) out =
        on_card-same (card_at node g.cards) _ _ (λ c at. elim (cases_Bool (is_loop_end c.kind)) [
          | inl ends ↦ rw ends (partner-same q node c at out ends)
          | inr other ↦ rw other refl
        ])
    fits-same value (q, entry.Wrote writes) out = refl

    -- what fitted fits, and so does the Again
    fits-cut : first_misfit g f m (λ d q. value_below d q es) es ≡ None → fits g f' m' (λ d. value_below d p es') p (entry.Again e w) ≡ true → first_misfit g f' m' (λ d q. value_below d q es') es' ≡ None
    fits-cut fit again =
        rows-fit g f' m' (λ d q. value_below d q es') es'
        (rows-last _ (cut_entries body es) (p, entry.Again e w)
        (rows-cut body (λ x. (fits g f m (λ d. value_below d x.0 es) x.0 x.1 ≡ true) × (nat_lt x.0 p ≡ true)) (λ x. fits g f' m' (λ d. value_below d x.0 es') x.0 x.1 ≡ true)
        (λ x out h. ap (λ v. fits g f' m' v x.0 x.1) (λ i d. value-same x.0 h.1 d i) ∙ sym (fits-same (λ d. value_below d x.0 es) x out) ∙ h.0)
        (λ x h. refl) es (both_rows _ (λ x. nat_lt x.0 p ≡ true) _ (λ x a b. (a, b)) es (fits-rows g f m (λ d q. value_below d q es) es fit) all_below))
        again)

  -- the repeat of a loop whose end is running
  pub cut-whole : (t : Spots) → replay_of g es ≡ whole t → (c d : Card) → card_at e g.cards ≡ Some c → is_loop_end c.kind ≡ true → c.partner ≡ Some l → card_at l g.cards ≡ Some d →
      early p (f.started e) ≡ true → f.ended e ≡ None → (t' : Spots) × (replay_of g es' ≡ whole t')
  cut-whole t is_whole c d at_e ends partner at_l begun open_end =
      let fit : first_misfit g f m (λ x q. value_below x q es) es ≡ None = whole-fits g rank es m net orderly t is_whole in
      let pos : nat_lt 0 p ≡ true = (rises-below 0 p es orderly.rises next).1 in
      let at_end : InTime g.cards (suc (last_position 0 es)) f m = in_time_end fit (trail-ends g rank es m net orderly) in
      let in_time : InTime g.cards p f m =
      in_time-later g.cards f m (suc (last_position 0 es)) p (omega (arith, ltb-true (last_position 0 es) p next)) (told-end f 0 es (orderly-told es orderly) p next) at_end in
      let ready_e : before p (m e) ≡ Some Yes = (in_time.start e begun).3 in
      let ready_l : before p (m l) ≡ Some Yes = ready-back g.cards rank f m net p pos in_time body l e loop e c at_e loop.has_end ready_e in
      let mark_e = is_ready_mark p (m e) ready_e in
      let mark_l = is_ready_mark p (m l) ready_l in
      let same = cut_outside g.cards rank net.ranked f f' m m' net.solves net'.solves body l e loop cleared_so open_end (ap (λ x. is_no (flow x)) mark_e.1) (ap (λ x. is_no (flow x)) mark_l.1) in
      let ready_l' : before p (m' l) ≡ Some Yes = ap (before p) (sym (same l d at_l (inr refl))) ∙ ready_l in
      let again : fits g f' m' (λ x. value_below x p es') p (entry.Again e w) ≡ true = rw (at_e, ends, partner, at_l, loop.silent d at_l, ready_l') refl in
      finish (fits-cut same fit again) (trail-ends g rank es' m' net' orderly-cut)
    where
      in_time_end : first_misfit g f m (λ x q. value_below x q es) es ≡ None → Ends g.cards f m (suc (last_position 0 es)) (first_misfit g f m (λ x q. value_below x q es) es) (replay_of g es) → InTime g.cards (suc (last_position 0 es)) f m
      in_time_end fit h = (subst (λ o. Ends g.cards f m (suc (last_position 0 es)) o (replay_of g es)) fit h).3

      finish : first_misfit g f' m' (λ x q. value_below x q es') es' ≡ None → Ends g.cards f' m' (suc (last_position 0 es')) (first_misfit g f' m' (λ x q. value_below x q es') es') (replay_of g es') → (t' : Spots) × (replay_of g es' ≡ whole t')
      finish fit h = let r = subst (λ o. Ends g.cards f' m' (suc (last_position 0 es')) o (replay_of g es')) fit h in (r.0, r.1)
