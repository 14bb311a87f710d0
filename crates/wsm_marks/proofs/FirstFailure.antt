-- A replay fails at the first entry that does not fit, else it ends with the marking behind the last position.
use Rattle.wsm_marks.proofs.Common.{[], ℕ, ◌<◌, ◌∷◌, ◌≡◌, ◌≤◌, after, AllRows, arith, both_ways, cases_Bool, Ends, Entries, Facts, first_misfit, fits, FlatModel, Fresh, inl, inr, InTime, IsBelow, last_position, List, lt-ltb, ltb-true}
use Rattle.wsm_marks.proofs.{Common.{Marking, nat_lt, None, Option, refl, replay_from, replay_of, settle, Some, Spots, suc, Tells, Told, true, Value, value_below}, Causality.{TimedNet, causality}, EntrySteps.{applicable-fits, below-after}}
use Rattle.wsm_marks.proofs.EntrySteps.{in_time-after, in_time-later, slide}

-- every entry fits exactly where there is no first misfit
pub fits-rows : (g : FlatModel) (f : Facts) (m : Marking) (value : ℕ → ℕ → Option Value) (es : Entries) → first_misfit g f m value es ≡ None → AllRows (λ e. fits g f m (λ d. value d e.0) e.0 e.1 ≡ true) es
fits-rows g f m value [] h = tt
fits-rows g f m value (e ∷ es) h =
    elim (cases_Bool (fits g f m (λ d. value d e.0) e.0 e.1)) [
      | inl fit ↦ (fit, fits-rows g f m value es (rw fit at h))
      | inr misfit ↦ let p : Some e.0 ≡ None = rw misfit at h in absurd (cc)
    ]

-- and where each entry fits, none misfits
pub rows-fit : (g : FlatModel) (f : Facts) (m : Marking) (value : ℕ → ℕ → Option Value) (es : Entries) → AllRows (λ e. fits g f m (λ d. value d e.0) e.0 e.1 ≡ true) es → first_misfit g f m value es ≡ None
rows-fit g f m value [] h = refl
rows-fit g f m value (e ∷ es) h = rw h.0 (rows-fit g f m value es h.1)

module _ (g : FlatModel) (rank : List ℕ) (f : Facts) (m : Marking) (net : TimedNet g.cards rank f m) where
  module _ (value : ℕ → ℕ → Option Value) where
    -- the same from any place of the trail on
    pub first-failure : (last : ℕ) (es : Entries) → Told f last es → (t : Spots) → IsBelow g.cards (suc last) f m t → InTime g.cards (suc last) f m →
        Ends g.cards f m (suc (last_position last es)) (first_misfit g f m value es) (replay_from g value es t)
    first-failure last [] told t is_below in_time = (t, refl, is_below, in_time)
    first-failure last (e ∷ es) told t is_below in_time =
        let tells : Tells f last e.0 e.1 = told.0 in
        let later : last < e.0 = ltb-true last e.0 tells.later in
        let le : suc last ≤ e.0 = omega arith in
        let here : IsBelow g.cards e.0 f m t = slide g rank f m net (suc last) e.0 (lt-ltb 0 (suc last) (omega arith)) le tells.quiet in_time t is_below in
        let timely : InTime g.cards e.0 f m = in_time-later g.cards f m (suc last) e.0 le tells.quiet in_time in
        let pos : nat_lt 0 e.0 ≡ true = lt-ltb 0 e.0 (omega arith) in
        let same = applicable-fits g rank f m net e.0 pos t here timely (λ d. value d e.0) e.1 tells.order in
        elim (cases_Bool (fits g f m (λ d. value d e.0) e.0 e.1)) [
          | inl fit ↦
              rw (same, fit) (first-failure e.0 es told.1 (after g.cards e.1 t)
              (below-after g rank f m net e.0 pos t here timely (λ d. value d e.0) last e.1 tells fit)
              (in_time-after g rank f m net e.0 pos t here timely (λ d. value d e.0) last e.1 tells fit))
          | inr misfit ↦ rw (same, misfit) refl
        ]

  -- before the first position nothing was done
  pub in_time-first : Fresh f → InTime g.cards 1 f m
  in_time-first fresh = record { start = λ n h. absurd (both_ways _ (fresh.starts n) h); end = λ n h. absurd (both_ways _ (fresh.ends n) h) }

  -- the net in which nothing was done is the marking before position 1
  pub below-first : Fresh f → IsBelow g.cards 1 f m (settle g.cards [])
  below-first fresh = causality g.cards rank f m net 1 refl (in_time-first fresh) [] (record { is = λ n c e s. rw (fresh.ends n, fresh.starts n) refl })

  -- first failure: a replay fails at the first entry that does not fit, else it ends with the marking behind the last position
  pub replay-ends : (es : Entries) → Told f 0 es → Fresh f → Ends g.cards f m (suc (last_position 0 es)) (first_misfit g f m (λ d p. value_below d p es) es) (replay_of g es)
  replay-ends es told fresh = first-failure (λ d p. value_below d p es) 0 es told (settle g.cards []) (below-first fresh) (in_time-first fresh)
