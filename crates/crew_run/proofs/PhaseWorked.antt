-- What the crew's work in a phase comes to, once all have met.
use Rattle.crew_run.proofs.Common.{[], ℕ, ◌<◌, ◌∙◌, ◌≡◌, AllRows, any_passes_from_place, ap, AreBegun, AreCallsOfLines, AreLevelDesks, AreMet, arith, Call, CallFault, CallFlags, CaseId, Desk, desk_view, DeskHasDone, DeskHeard}
use Rattle.crew_run.proofs.Common.{DeskView, false, File, get_or, get_or_from_slice_get, HasDoneAndHeard, HasWorked, inl, inr, is_full_fault, is_some, IsActor, IsCalmCase, IsCalmKind, IsCrew, IsDeskOf, IsTrace}
use Rattle.crew_run.proofs.Common.{IsUnnamedCase, IsUnnamedKind, Leaves, length, Line, lines_of, List, list_any, None, Option, PhaseWorked, refl, roles_of, seen_of, SeesMany, Server, slice_get, slice_get_within, Some, subst}
use Rattle.crew_run.proofs.{Common.{suc, sym, there-as, there_at, Trace, Tries, true, Worker, zero}, CrewAlong.crew-of, DesksMeet.same-level, FullSeen.full-among, SideBySide.{all-of, chosen}}

-- where none met a fault, one did not
pub no-fault : (new : List Worker) → list_any (λ (w : Worker). is_some w.fault) new ≡ false → (i : ℕ) (x : Worker) → slice_get new i ≡ Some x → x.fault ≡ None
no-fault new none i x at = by x.fault refl
  where
    by : (o : Option CallFault) → x.fault ≡ o → x.fault ≡ None
    by None is = is
    by (Some f) is = absurd (cc (none, any_passes_from_place (λ (w : Worker). is_some w.fault) new i x at (ap is_some is)))

module _ (s : Server) (f : File) (lines : List Line) (first : Desk) (old mid : List Worker) (k : IsCrew s f first old) (many : length mid ≡ length old) (works : (i : ℕ) (d : Worker) → i < length old → HasWorked s f lines (get_or old i d) (get_or mid i d)) where
  worked : (i : ℕ) (w x : Worker) → slice_get old i ≡ Some w → slice_get mid i ≡ Some x → HasWorked s f lines w x
  worked i w x at_w at_x =
      subst (λ y. HasWorked s f lines y x) (get_or_from_slice_get old i w w at_w)
      (subst (HasWorked s f lines (get_or old i w)) (get_or_from_slice_get mid i x w at_x) (works i w (slice_get_within old i w at_w)))

  worker : (i : ℕ) (x : Worker) → slice_get mid i ≡ Some x → (w : Worker) × (slice_get old i ≡ Some w)
  worker i x at = there-as mid old i x (sym many) at

  pub worked-desks : AllRows (λ w. IsDeskOf s w.desk) mid
  worked-desks = all-of (λ w. IsDeskOf s w.desk) mid (λ i x at. let (w, at_w) = worker i x at in (worked i w x at_w at).0)

  -- where no line names a cell, all are level
  pub worked-level : (called : CallFlags) → ((t : ℕ) → IsCalmKind called t → IsUnnamedKind lines t) → ((c : CaseId) → IsCalmCase called c → IsUnnamedCase lines c) → AllRows (λ w. AreLevelDesks called (desk_view first) (desk_view w.desk)) mid
  worked-level called kinds cases = all-of (λ w. AreLevelDesks called (desk_view first) (desk_view w.desk)) mid
      (λ i x at.
      let (w, at_w) = worker i x at in
      let left = (worked i w x at_w at).1.1 in
      let level = same-level called (desk_view first) (desk_view w.desk) (k.each i w at_w).same in
      record { kinds = λ t calm. level.kinds t calm ∙ ap seen_of (sym (left.kinds t (kinds t calm))); cases = λ c calm. level.cases c calm ∙ ap seen_of (sym (left.cases c (cases c calm))) })

  numbered : (i : ℕ) (x : Worker) → slice_get mid i ≡ Some x → (desk_view x.desk).number ≡ suc i
  numbered i x at = let (w, at_w) = worker i x at in by w x.fault (worked i w x at_w at).1.0 ∙ (k.each i w at_w).number
    where
      by : (w : Worker) (o : Option CallFault) → Leaves (AreCallsOfLines (roles_of f (desk_view w.desk).number) (desk_view w.desk).number (lines_of (desk_view w.desk).number lines)) (AreBegun (roles_of f (desk_view w.desk).number) (desk_view w.desk).number (lines_of (desk_view w.desk).number lines)) o (desk_view w.desk) (desk_view x.desk) → (desk_view x.desk).number ≡ (desk_view w.desk).number
      by w None (calls, fit, done) = done.number
      by w (Some e) ((calls, fit, done), full) = done.number

  module _ (then : Desk) (new : List Worker) (many_too : length new ≡ length mid) (desk : IsDeskOf s then) (heard : DeskHeard (desk_view first) (desk_view then)) (met : AreMet s (desk_view then) mid new) where
    pub crew-behind : IsCrew s f then new
    crew-behind = crew-of s f (desk_view first) then mid new desk heard met many_too (many ∙ k.actors) k.shape k.number (let e = k.made in omega (arith, many, e)) k.taken numbered

    pub full-behind : list_any (λ (w : Worker). is_full_fault w.fault) new ≡ true → SeesMany (desk_view then)
    full-behind any = full-among s f lines (desk_view then) old mid new many many_too any worked met

    -- these are the calls that an actor has made, who has then heard of others'
    record Made (i : ℕ) (calls : List Call) (w x : Worker) : Type 0 where
      tries : Tries f lines (suc i) calls
      whole : x.fault ≡ None → AreCallsOfLines (roles_of f (suc i)) (suc i) (lines_of (suc i) lines) calls
      did : HasDoneAndHeard calls (desk_view w.desk) (desk_view x.desk)

    made : (i : ℕ) (w x : Worker) → slice_get old i ≡ Some w → slice_get new i ≡ Some x → (calls : List Call) × Made i calls w x
    made i w x at_w at_x =
        let (y, at_y) = there-as old mid i w many at_w in
        let m = met i y x at_y at_x in
        by (desk_view y.desk) y.fault m.fault (subst (λ n. Leaves (AreCallsOfLines (roles_of f n) n (lines_of n lines)) (AreBegun (roles_of f n) n (lines_of n lines)) y.fault (desk_view w.desk) (desk_view y.desk)) ((k.each i w at_w).number) (worked i w y at_w at_y).1.0) (λ calls d. record { between = desk_view y.desk; done = d; heard = m.heard })
      where
        by : (u : DeskView) (o : Option CallFault) → x.fault ≡ o → Leaves (AreCallsOfLines (roles_of f (suc i)) (suc i) (lines_of (suc i) lines)) (AreBegun (roles_of f (suc i)) (suc i) (lines_of (suc i) lines)) o (desk_view w.desk) u
            → ((calls : List Call) → DeskHasDone calls (desk_view w.desk) u → HasDoneAndHeard calls (desk_view w.desk) (desk_view x.desk)) → (calls : List Call) × Made i calls w x
        by u None is (calls, fit, done) heard = (calls, record { tries = inl fit; whole = λ none. fit; did = heard calls done })
        by u (Some e) is ((calls, fit, done), full) heard = (calls, record { tries = inr fit; whole = λ none. absurd (cc (none, is)); did = heard calls done })

    abbrev by_actor : (ℕ → List Call) → Trace
    by_actor g zero = []
    by_actor g (suc i) = g i

    pub phase-worked : (trace : Trace) × PhaseWorked f lines trace old new × (((i : ℕ) (x : Worker) → slice_get new i ≡ Some x → x.fault ≡ None) → IsTrace f lines trace)
    phase-worked =
        let (g, each) = chosen [] Made old new (many_too ∙ many) made in (
          by_actor g,
          record { tries = actor g (Tries f lines) (λ i w x at_w at_x. (each i w x at_w at_x).tries); many = many_too ∙ many; each = λ i w x at_w at_x. (each i w x at_w at_x).did },
          λ well. actor g (λ a. AreCallsOfLines (roles_of f a) a (lines_of a lines)) (λ i w x at_w at_x. (each i w x at_w at_x).whole (well i x at_x)),
        )
      where
        actor : (g : ℕ → List Call) (P : ℕ → List Call → Type 0) → ((i : ℕ) (w x : Worker) → slice_get old i ≡ Some w → slice_get new i ≡ Some x → P (suc i) (g i)) → (a : ℕ) → IsActor f a → P a (by_actor g a)
        actor g P each zero (low, high) = absurd (omega (arith, low))
        actor g P each (suc i) (low, high) = let (w, at_w) = there_at old i (omega (arith, high, k.actors)) in let (x, at_x) = there-as old new i w (many_too ∙ many) at_w in each i w x at_w at_x
