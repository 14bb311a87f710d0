-- One cell while a crew works: what its journal has of each actor, phase by phase.
use Rattle.crew_run.proofs.Common.{[], ℕ, ◌++◌, ◌+◌, ◌∙◌, ◌∷◌, ◌≡◌, ◌≤◌, ◌⊎◌, All, All-push, all_joined, AllByRecursion, Any, ap, append-nil, arith, Call, calls_of, cases_lt, desk_view, DeskHasDone, DeskHeard, DeskSame}
use Rattle.crew_run.proofs.Common.{DeskView, done_by, Entry, File, flat_map-append, get_or, HasCalls, HasDone, HasDoneAndHeard, Heard, inl, inr, IsByPhases, IsClosed, IsDesk, IsIdlePass, IsKept, IsLegal, IsLegalFrom, IsLegalView}
use Rattle.crew_run.proofs.Common.{IsOneOf, IsStateAfter, joined, joined_desk, length, length-append, List, longer-same, Option, PassView, prefix_self, prefix_trans, recursion_from_All, refl, SeenSame, slice_get, slice_get_within, Some}
use Rattle.crew_run.proofs.Common.{some_one, state_after, subst, suc, sym, take-append-le, take_all, there-as, there_at, Trace, Worker, zero}
use mathlib.Core.List.{IsPrefix}

-- one phase more of what an actor did
pub done-more : (a : ℕ) (traces : List Trace) (t : Trace) → done_by a (traces ++ t ∷ []) ≡ done_by a traces ++ t a
done-more a traces t = flat_map-append (λ (trace : Trace). trace a) traces (t ∷ []) ∙ ap (λ xs. done_by a traces ++ xs) (append-nil (t a))

module _ {M E R W S : Type 0} (f : File) (on : List Call → List (Entry M E R W S)) where
  by_phases-none : (seen : List (Entry M E R W S)) → HasCalls f on [] seen → IsByPhases f on [] seen
  by_phases-none seen none = record { whole = none; behind = λ k le. (seen, prefix_self seen, subst (λ ts. HasCalls f on ts seen) (sym (take_all k [] (omega arith))) none) }

  by_phases-more : (traces : List Trace) (t : Trace) (seen more : List (Entry M E R W S)) → IsByPhases f on traces seen → IsPrefix seen more → HasCalls f on (traces ++ t ∷ []) more → IsByPhases f on (traces ++ t ∷ []) more
  by_phases-more traces t seen more k prefix whole = record {
    whole = whole;
    behind = λ n le. elim (cases_lt (length traces) n) [
      | inl past ↦ (more, prefix_self more, subst (λ ts. HasCalls f on ts more) (sym (take_all n (traces ++ t ∷ []) (omega (arith, past, length-append traces (t ∷ []))))) whole)
      | inr low ↦ let b = k.behind n le in (b.0, prefix_trans b.0 seen more b.1 prefix, subst (λ ts. HasCalls f on ts b.0) (sym (take-append-le n traces (t ∷ []) low)) b.2)
    ];
  }

-- A cell of desks: `at` finds its pass, and `on` are the calls of it.
pub record IsCell {M E R W S : Type 0} (at : DeskView → Option (PassView M E R W S)) (on : List Call → List (Entry M E R W S)) (after : S → E → S) (reply : S → E → R) : Type 0 where
  pub on-none : on [] ≡ []
  pub on-append : (xs ys : List Call) → on (xs ++ ys) ≡ on xs ++ on ys
  pub there : (v : DeskView) (p : PassView M E R W S) → IsDesk v → at v ≡ Some p → (p.number ≡ v.number) × IsLegalView after reply p
  pub heard : (v w : DeskView) (p : PassView M E R W S) → DeskHeard v w → at v ≡ Some p → (q : PassView M E R W S) × (at w ≡ Some q) × Heard p q
  pub before : (v w : DeskView) (q : PassView M E R W S) → DeskHeard v w → at w ≡ Some q → (p : PassView M E R W S) × (at v ≡ Some p) × Heard p q
  pub same : (v w : DeskView) (p : PassView M E R W S) → DeskSame v w → at v ≡ Some p → (q : PassView M E R W S) × (at w ≡ Some q) × SeenSame p q
  pub done : (calls : List Call) (v w : DeskView) (p : PassView M E R W S) → DeskHasDone calls v w → at v ≡ Some p → (q : PassView M E R W S) × (at w ≡ Some q) × HasDone (on calls) p q
  pub joins : (v w : DeskView) (p q : PassView M E R W S) → at v ≡ Some p → at w ≡ Some q → at (joined_desk v w) ≡ Some (joined p q)

-- who was taken in has the number of an actor
abbrev pub AreActors : {X : Type 0} → ℕ → List (ℕ × X) → Type 0
AreActors n past = All (λ x. (1 ≤ x.0) × (x.0 ≤ n)) past

module _ {M E R W S : Type 0} (at : DeskView → Option (PassView M E R W S)) (joins : (v w : DeskView) (p q : PassView M E R W S) → at v ≡ Some p → at w ≡ Some q → at (joined_desk v w) ≡ Some (joined p q)) where
  -- the first desk has a pass of the cell still, once it has taken in desks that have seen the same
  take-in : (n : ℕ) (seen : List (Entry M E R W S)) (ws : List Worker) (v : DeskView) (p : PassView M E R W S) → at v ≡ Some p → p.seen ≡ seen → AreActors n p.past
      → ((i : ℕ) (w : Worker) → slice_get ws i ≡ Some w → (q : PassView M E R W S) × (at (desk_view w.desk) ≡ Some q) × (q.seen ≡ seen) × (1 ≤ q.number) × (q.number ≤ n))
      → (r : PassView M E R W S) × (at (all_joined v ws) ≡ Some r) × (r.seen ≡ seen) × (r.own_calls ≡ p.own_calls) × (r.opening ≡ p.opening) × AreActors n r.past
  take-in n seen [] v p there sees past all = (p, there, sees, refl, refl, past)
  take-in n seen (w ∷ ws) v p there sees past all =
      let (q, at_q, same, low, high) = all zero w refl in
      take-in n seen ws (joined_desk v (desk_view w.desk)) (joined p q) (joins v (desk_view w.desk) p q there at_q) (longer-same p.seen q.seen (sees ∙ sym same) ∙ sees) (let more : ℕ × List (Entry M E R W S) = (q.number, q.own_calls) in All-push (λ x. (1 ≤ x.0) × (x.0 ≤ n)) p.past more past (low, high)) (λ i. all (suc i))

-- a desk's pass of a cell once it has taken so many in, where it was p before
pub record IsTaken {M E R W S : Type 0} (at : DeskView → Option (PassView M E R W S)) (n : ℕ) (p : PassView M E R W S) (last : DeskView) : Type 0 where
  pub pass : PassView M E R W S
  pub there : at last ≡ Some pass
  pub seen : pass.seen ≡ p.seen
  pub own_calls : pass.own_calls ≡ p.own_calls
  pub opening : pass.opening ≡ p.opening
  pub past : AreActors n pass.past

module _ {M E R W S : Type 0} (at : DeskView → Option (PassView M E R W S)) (on : List Call → List (Entry M E R W S)) (after : S → E → S) (reply : S → E → R) (cell : IsCell at on after reply)
    (f : File) (first : DeskView) (crew : List Worker) (actors : length crew ≡ length f.actors) (all : (i : ℕ) (w : Worker) → slice_get crew i ≡ Some w → IsOneOf (suc i) first (desk_view w.desk)) where
  -- each has made the calls of these traces, and no others
  abbrev HaveMade : List Trace → Type 0
  HaveMade traces = (i : ℕ) (w : Worker) → slice_get crew i ≡ Some w → (q : PassView M E R W S) × (at (desk_view w.desk) ≡ Some q) × (q.own_calls ≡ on (done_by (suc i) traces)) × (q.past ≡ [])

  -- what each has done is in what the first desk has seen
  has-calls : (traces : List Trace) (p : PassView M E R W S) → at first ≡ Some p → HaveMade traces → HasCalls f on traces p.seen
  has-calls traces p there made zero (low, high) = absurd (omega (arith, low))
  has-calls traces p there made (suc i) (low, high) =
      let (w, at_w) = there_at crew i (omega (arith, high, actors)) in
      let v = desk_view w.desk in
      let k = all i w at_w in
      let (q, at_q, own, past) = made i w at_w in
      let (r, at_r, same) = cell.same first v p k.same there in
      let sees : p.seen ≡ q.seen = same ∙ ap (λ (x : PassView M E R W S). x.seen) (some_one at_r at_q) in
      let (number, legal) = cell.there v q k.desk at_q in
      ap (calls_of (suc i)) sees ∙ (ap (λ n. calls_of n q.seen) (sym (number ∙ k.number)) ∙ (legal.own ∙ own))

  -- before the first phase, where they have heard of others' calls alone since they were idle
  pub kept-first : (p : PassView M E R W S) → at first ≡ Some p → IsDesk first → first.number ≡ 0
      → ((i : ℕ) (w : Worker) → slice_get crew i ≡ Some w → (u : DeskView) × DeskHeard u (desk_view w.desk) × ((q : PassView M E R W S) → at u ≡ Some q → IsIdlePass q)) → IsKept f at on [] crew p
  kept-first p there desk number idle = record {
    start = p.seen;
    begins = prefix_self p.seen;
    first = let (same, legal) = cell.there first p desk there in ap (λ n. calls_of n p.seen) (sym (same ∙ number)) ∙ legal.own;
    none = λ a is. has-calls [] p there made a is ∙ cell.on-none;
    calls = by_phases-none f on p.seen (has-calls [] p there made);
    each = made;
  }
    where
      made : HaveMade []
      made i w at_w =
          let v = desk_view w.desk in
          let (q, at_q, same) = cell.same first v p (all i w at_w).same there in
          let (u, heard, none) = idle i w at_w in
          let (r, at_r, h) = cell.before u v q heard at_q in
          let (own, past) = none r at_r in
          (q, at_q, ap (λ (x : PassView M E R W S). x.own_calls) h.same ∙ (own ∙ sym cell.on-none), ap (λ (x : PassView M E R W S). x.past) h.same ∙ past)

  -- behind one phase more
  pub kept-more : (traces : List Trace) (t : Trace) (old : List Worker) (p q : PassView M E R W S) → length crew ≡ length old → Heard p q → at first ≡ Some q → IsKept f at on traces old p
      → ((i : ℕ) (w x : Worker) → slice_get old i ≡ Some w → slice_get crew i ≡ Some x → HasDoneAndHeard (t (suc i)) (desk_view w.desk) (desk_view x.desk)) → IsKept f at on (traces ++ t ∷ []) crew q
  kept-more traces t old p q many h at_q k done = record {
    start = k.start;
    begins = prefix_trans k.start p.seen q.seen k.begins h.more;
    first = k.first ∙ sym (ap (λ (x : PassView M E R W S). x.own_calls) h.same);
    none = k.none;
    calls = by_phases-more f on traces t p.seen q.seen k.calls h.more (has-calls (traces ++ t ∷ []) q at_q made);
    each = made;
  }
    where
      made : HaveMade (traces ++ t ∷ [])
      made i x at_x =
          let (w, at_w) = there-as crew old i x (sym many) at_x in
          let (p, at_p, own, past) = k.each i w at_w in
          let d = done i w x at_w at_x in
          let (b, at_b, did) = cell.done (t (suc i)) (desk_view w.desk) d.between p d.done at_p in
          let (r, at_r, h) = cell.heard d.between (desk_view x.desk) b d.heard at_b in
          let calls = sym (ap on (done-more (suc i) traces t) ∙ cell.on-append (done_by (suc i) traces) (t (suc i))) in (
            r,
            at_r,
            ap (λ (y : PassView M E R W S). y.own_calls) h.same ∙ (did.own_calls ∙ (ap (λ xs. xs ++ on (t (suc i))) own ∙ calls)),
            ap (λ (y : PassView M E R W S). y.past) h.same ∙ (did.past ∙ past),
          )

  -- what the first desk has of the cell once it has taken the crew in
  pub taken-in : (p : PassView M E R W S) → at first ≡ Some p → p.past ≡ [] → IsTaken at (length f.actors) p (all_joined first crew)
  taken-in p there none =
      let (r, at_r, sees, own, opening, past) =
      take-in at cell.joins (length f.actors) p.seen crew first p there refl (rw none (λ i x low. absurd (omega (arith, low))))
      (λ i w at_w.
      let v = desk_view w.desk in
      let k = all i w at_w in
      let (q, at_q, same) = cell.same first v p k.same there in
      let number = (cell.there v q k.desk at_q).0 ∙ k.number in
      let low = slice_get_within crew i w at_w in
      (q, at_q, sym same, omega (arith, number), omega (arith, number, low, actors))) in
      record { pass = r; there = at_r; seen = sees; own_calls = own; opening = opening; past = past }

module _ {M E R W S : Type 0} (after : S → E → S) (reply : S → E → R) where
  -- How a cell of an opening state has ended, of which a first desk had the pass p before it took in so many.
  pub record HasEnded (n : ℕ) (s : S) (p : PassView M E R W S) (t : S) (journal : List (Entry M E R W S)) : Type 0 where
    pub whole : journal ≡ p.seen
    pub legal : IsLegal after reply s journal
    pub machine : t ≡ state_after after s journal
    pub own : calls_of 0 journal ≡ p.own_calls
    pub callers : AllByRecursion (λ e. e.caller ≤ n) journal

  pub has-ended : (state : M → S) (at : DeskView → Option (PassView M E R W S)) (n : ℕ) (s : S) (p : PassView M E R W S) (last : DeskView) (machine : M) (journal : List (Entry M E R W S)) (k : IsTaken at n p last)
      → p.opening ≡ Some s → IsClosed after reply state k.pass machine journal → HasEnded n s p (state machine) journal
  has-ended state at n s p last machine journal k opens c = record {
    whole = c.whole ∙ k.seen;
    legal = subst (λ o. IsLegalFrom after reply o journal) (k.opening ∙ opens) c.legal;
    machine = subst (λ o. IsStateAfter after o journal (state machine)) (k.opening ∙ opens) c.machine_is;
    own = c.own ∙ k.own_calls;
    callers = recursion_from_All (λ e. e.caller ≤ n) journal (λ i d low. by (get_or journal i d).caller (c.callers i d low));
  }
    where
      by : (c : ℕ) → (c ≡ 0) ⊎ Any (λ x. x.0 ≡ c) k.pass.past → c ≤ n
      by c (inl none) = omega arith
      by c (inr (i, x, low, at_x, is)) = let few = k.past i x low in let number = ap (λ (y : ℕ × List (Entry M E R W S)). y.0) at_x in omega (arith, few.1, number, is)
