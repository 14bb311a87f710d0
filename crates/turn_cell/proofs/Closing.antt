-- The table as it is made, and what is known where the last pass closes it.
use Rattle.turn_cell.proofs.Common.{[], ℕ, ◌++◌, ◌+◌, ◌<◌, ◌∙◌, ◌∷◌, ◌≡◌, ◌≢◌, ◌≤◌, ◌⊎◌, All, Any, ap, append-nil, append_cancel_left, AreCalls, arith, Bool, calls_of, Entry, eq-eqb, eqb, false, Final, first, Fits, FitsPass, Guarded}
use Rattle.turn_cell.proofs.Common.{has_slot, if◌then◌else◌, inl, inr, is_live, is_pass, IsClosed, IsHeld, IsKept, IsLegal, IsLegalFrom, IsStateAfter, List, ne_eqb, one_if, opening, Option, owns, passes, Phase, refl, Result, SeatView, Seen}
use Rattle.turn_cell.proofs.{Common.{slots, Some, State, state_after, subst, suc, sym, times, total, true, view_at, zero}, Sums.{total_two, total_gap}, Prefixes.prefix_self, Histories.calls_of-append, Turns.{pass_lives, owns_if}}
use mathlib.Core.Logic.{dite}
use mathlib.Core.Option.{some, some-injective, some-ne-none}
use native.Mathlib.Decide.{ℕ_discrete}
use lib.ListN.{get_elem?}
use Rattle.turn_cell.specs.declared.seat_view.Phase.TheVariants.{Spent, Note, Idle, Entered, Inside}
use Rattle.atomic_table.specs.Seated.{TableId}
use Rattle.turn_cell.specs.declared.faults.CallFault.{CallFault}

slot_below_pass : (st : Phase) → one_if (has_slot st) ≤ one_if (is_pass st)
slot_below_pass Spent = omega arith
slot_below_pass Note = omega arith
slot_below_pass Idle = omega arith
slot_below_pass Entered = omega arith
slot_below_pass Inside = omega arith

pass_of_owner : {M E R W S : Type 0} (n : ℕ) (v : SeatView M E R W S) (st : Phase) → v.phase ≡ st → 0 < owns n v → is_pass st ≡ true
pass_of_owner n v Spent e h = absurd (let z : owns n v ≡ 0 = ap (λ (st : Phase). if is_pass st then one_if (eqb v.number n) + times n v.past else 0) e in omega arith)
pass_of_owner n v Note e h = absurd (let z : owns n v ≡ 0 = ap (λ (st : Phase). if is_pass st then one_if (eqb v.number n) + times n v.past else 0) e in omega arith)
pass_of_owner n v Idle e h = refl
pass_of_owner n v Entered e h = refl
pass_of_owner n v Inside e h = refl

module _ {A : Type 0} (f : A → ℕ) where
  -- where a total is positive, some member is
  pub some_one : (xs : List A) → 0 < total f xs → (i : ℕ) × (x : A) × (get_elem? xs i ≡ some x) × (0 < f x)
  some_one [] h = absurd (omega arith)
  some_one (x ∷ xs) h = dite (ℕ_discrete (f x) 0) (λ (z : f x ≡ 0). let r = some_one xs (omega arith) in (suc r.0, r.1, r.2, r.3)) (λ (ne : f x ≢ 0). (0, x, refl, omega arith))

module _ {M E R W S : Type 0} where
  empty_if : (e : Entry M E R W S) (xs : List (Entry M E R W S)) → calls_of e.caller (e ∷ xs) ≡ [] → ⊥
  empty_if e xs h = let k : e ∷ calls_of e.caller xs ≡ [] = sym (ap (λ (b : Bool). if b then e ∷ calls_of e.caller xs else calls_of e.caller xs) (eq-eqb e.caller e.caller refl)) ∙ h in absurd (cc)

  -- a list of which nobody has made a call is empty
  nobodys : (xs : List (Entry M E R W S)) → ((n : ℕ) → calls_of n xs ≡ []) → xs ≡ []
  nobodys [] h = refl
  nobodys (e ∷ xs) h = absurd (empty_if e xs (h e.caller))

  appended_none : (xs ys : List (Entry M E R W S)) → xs ++ ys ≡ [] → ys ≡ []
  appended_none [] ys e = e
  appended_none (x ∷ xs) ys e = absurd (cc)

  -- the calls of a number that stands there are seen
  seen_calls : (log seen : List (Entry M E R W S)) (n : ℕ) (xs : List (ℕ × List (Entry M E R W S))) → AreCalls log seen xs → 0 < times n xs → calls_of n log ≡ calls_of n seen
  seen_calls log seen n [] k h = absurd (omega arith)
  seen_calls log seen n (x ∷ xs) k h = dite (ℕ_discrete x.0 n)
      (λ (e : x.0 ≡ n). subst (λ (m : ℕ). calls_of m log ≡ calls_of m seen) e (k.0 ∙ sym k.1))
      (λ (ne : x.0 ≢ n). let z : one_if (eqb x.0 n) ≡ 0 = ap one_if (ne_eqb x.0 n ne) in seen_calls log seen n xs k.2 (omega arith))

if_none : {A : Type 0} (b : Bool) (x : A) (xs : List A) → (if b then x ∷ xs else xs) ≡ [] → xs ≡ []
if_none true x xs e = absurd (cc)
if_none false x xs e = e

module _ {M E R W S : Type 0} where
  all_calls : (log seen : List (Entry M E R W S)) (xs : List (ℕ × List (Entry M E R W S))) → AreCalls log seen xs → All (λ p. calls_of p.0 log ≡ p.1) xs
  all_calls log seen [] c k d lt = absurd (omega arith)
  all_calls log seen (x ∷ xs) c zero d lt = c.0
  all_calls log seen (x ∷ xs) c (suc k) d lt = all_calls log seen xs c.2 k d (omega arith)

  -- a number that is counted stands there
  stands : (n : ℕ) (xs : List (ℕ × List (Entry M E R W S))) → 0 < times n xs → Any (λ p. p.0 ≡ n) xs
  stands n [] h = absurd (omega arith)
  stands n (x ∷ xs) h = dite (ℕ_discrete x.0 n)
      (λ (e : x.0 ≡ n). (0, x, omega arith, refl, e))
      (λ (ne : x.0 ≢ n). let z : one_if (eqb x.0 n) ≡ 0 = ap one_if (ne_eqb x.0 n ne) in let r = stands n xs (omega arith) in (suc r.0, r.1, omega arith, r.3, r.4))

  -- each entry has the number 0 or one of the past, where no other number has an entry
  callers_of : (past : List (ℕ × List (Entry M E R W S))) (xs : List (Entry M E R W S)) → ((n : ℕ) → n ≢ 0 → times n past ≡ 0 → calls_of n xs ≡ []) → All (λ e. (e.caller ≡ 0) ⊎ Any (λ p. p.0 ≡ e.caller) past) xs
  callers_of past [] h k d lt = absurd (omega arith)
  callers_of past (e ∷ es) h zero d lt = dite (ℕ_discrete e.caller 0) (λ (z : e.caller ≡ 0). inl z)
      (λ (ne : e.caller ≢ 0). dite (ℕ_discrete (times e.caller past) 0)
      (λ (z : times e.caller past ≡ 0). absurd (empty_if e es (h e.caller ne z)))
      (λ (some_there : times e.caller past ≢ 0). inr (stands e.caller past (omega arith))))
  callers_of past (e ∷ es) h (suc k) d lt = callers_of past es (λ n ne z. if_none (eqb e.caller n) e (calls_of n es) (h n ne z)) k d (omega arith)

module _ {M E R W S : Type 0} (state : M → S) (after : S → E → S) (reply : S → E → R) (age : S → ℕ) where
  abbrev Rule : State (Option (Guarded M E R W S)) (SeatView M E R W S) → Type 0
  Rule s = IsKept state after reply age s

  pub opens : (h : Guarded M E R W S) → h.journal.items.items ≡ [] → age (state h.machine.value) ≤ 60000000 → Rule (opening (0 ∷ 0 ∷ []) (Some h ∷ []) (first (state h.machine.value)))
  opens h empty young =
      let v : SeatView M E R W S = first (state h.machine.value) in
      let one_there : (id : ℕ) (d : SeatView M E R W S) → get_elem? (v ∷ []) id ≡ some d → v ≡ d = only v in
      let fit : Fits (state h.machine.value) [] v = record { same = refl; seen = prefix_self []; told = prefix_self []; whole = λ _. refl } in
      let mine : FitsPass [] (v ∷ []) v = record { calls = (refl, refl, tt); past = λ ne. absurd (ne refl); made = λ _. omega arith; below = λ _ n le. let x : one_if (eqb 0 n) ≡ 0 = ap one_if (ne_eqb 0 n (λ e. absurd (omega arith))) in omega arith } in
      record {
        opening = state h.machine.value;
        log = [];
        busy = 0;
        words = refl;
        legal = tt;
        young = omega arith;
        short = omega arith;
        live = λ id d e l. subst (Fits (state h.machine.value) []) (one_there id d e) fit;
        pass = λ id d e l. subst (FitsPass [] (v ∷ [])) (one_there id d e) mine;
        turn = refl;
        one = omega arith;
        at_home = λ _. (h, refl, (empty, refl));
        away = λ z. absurd (omega arith);
        apart = λ n. at_most_one n;
        known = λ n z. refl;
      }
    where
      only : (v : SeatView M E R W S) (id : ℕ) (d : SeatView M E R W S) → get_elem? (v ∷ []) id ≡ some d → v ≡ d
      only v zero d e = some-injective v d e
      only v (suc id) d e = absurd (some-ne-none d (sym e))

      at_most_one : (n : ℕ) → one_if (eqb 0 n) + 0 + 0 ≤ 1
      at_most_one n = dite (ℕ_discrete 0 n) (λ (e : 0 ≡ n). let x : one_if (eqb 0 n) ≡ 1 = ap one_if (eq-eqb 0 n e) in omega arith) (λ (ne : 0 ≢ n). let x : one_if (eqb 0 n) ≡ 0 = ap one_if (ne_eqb 0 n ne) in omega arith)

  -- the last pass has seen all, and has the numbers of all calls
  pub closes : (s : State (Option (Guarded M E R W S)) (SeatView M E R W S)) (r : Rule s) (id : ℕ) (v : SeatView M E R W S) → get_elem? s.views id ≡ some v → v.phase ≡ Idle → v.number ≡ 0 → v.made ≡ v.taken + 1
      → (v.seen ≡ r.log) × ((h : Guarded M E R W S) × (s.homes ≡ some (Some h) ∷ []) × IsHeld state after reply age r.opening r.log h) × ((n : ℕ) → n ≢ 0 → times n v.past ≡ 0 → calls_of n r.log ≡ [])
  closes s r id v at waits zero_is all =
      let vs = s.views in
      let pass : is_pass v.phase ≡ true = ap is_pass waits in
      let was = r.live id v at (pass_lives v.phase pass) in
      let fit = r.pass id v at pass in
      let made = fit.made zero_is in
      let only_one : total passes vs ≡ 1 = omega arith in
      let v_pass : passes v ≡ 1 = ap one_if pass in
      let no_slot : slots v ≡ 0 = ap (λ (st : Phase). one_if (has_slot st)) waits in
      let gap = total_gap slots passes (λ (u : SeatView M E R W S). slot_below_pass u.phase) vs id v at in
      let home = r.at_home (omega arith) in
      let rest_of : List (Entry M E R W S) = was.seen.0 in
      let log_is : v.seen ++ rest_of ≡ r.log = was.seen.1 in
      let calls_are : (n : ℕ) → calls_of n v.seen ++ calls_of n rest_of ≡ calls_of n r.log = λ n. sym (calls_of-append n v.seen rest_of) ∙ ap (calls_of n) log_is in
      let owned : (n : ℕ) → 0 < total (owns n) vs → 0 < times n ((v.number, v.own_calls) ∷ v.past) = λ n some_own.
      let o = some_one (owns n) vs some_own in
      let u_pass : is_pass o.1.phase ≡ true = pass_of_owner n o.1 o.1.phase refl o.3 in
      dite (ℕ_discrete o.0 id)
      (λ (e : o.0 ≡ id).
      let same : o.1 ≡ v = some-injective o.1 v (sym o.2 ∙ (ap (get_elem? vs) e ∙ at)) in
      let x : owns n o.1 ≡ owns n v = ap (owns n) same in
      let y = owns_if n v pass in
      omega arith)
      (λ (ne : o.0 ≢ id). let two = total_two passes vs id o.0 v o.1 ne at o.2 in let y : passes o.1 ≡ 1 = ap one_if u_pass in absurd (omega arith)) in
      let none_behind : (n : ℕ) → calls_of n rest_of ≡ [] = λ n. dite (ℕ_discrete (total (owns n) vs) 0)
      (λ (z : total (owns n) vs ≡ 0). appended_none (calls_of n v.seen) (calls_of n rest_of) (calls_are n ∙ r.known n z))
      (λ (ne : total (owns n) vs ≢ 0). append_cancel_left (calls_of n v.seen) (calls_of n rest_of) []
      (calls_are n ∙ (seen_calls r.log v.seen n ((v.number, v.own_calls) ∷ v.past) fit.calls (owned n (omega arith)) ∙ sym (append-nil (calls_of n v.seen))))) in
      let empty : rest_of ≡ [] = nobodys rest_of none_behind in
      let whole : v.seen ≡ r.log = sym (append-nil v.seen) ∙ (ap (λ (zs : List (Entry M E R W S)). v.seen ++ zs) (sym empty) ∙ log_is) in (
        whole,
        home,
        λ n ne none_past. dite (ℕ_discrete (total (owns n) vs) 0) (λ (z : total (owns n) vs ≡ 0). r.known n z)
            (λ (some_own : total (owns n) vs ≢ 0). let x = owned n (omega arith) in let y : one_if (eqb v.number n) ≡ 0 = ap one_if (ne_eqb v.number n (λ e. ne (sym e ∙ zero_is))) in absurd (omega arith)),
      )

  -- what the slot has where the table was closed with the last pass
  pub closed : (id : ℕ) (v : SeatView M E R W S) (ws : List ℕ) (xs : List (Option (Guarded M E R W S))) → Final (Seen Rule id v) ws xs → v.phase ≡ Idle → v.number ≡ 0 → v.made ≡ v.taken + 1
      → (slot : Option (Guarded M E R W S)) → get_elem? xs 0 ≡ some slot → (cell : TableId) (kept : Option (Result R CallFault)) → (h : Guarded M E R W S) × (slot ≡ Some h) × IsClosed after reply state (view_at cell kept v) h.machine.value h.journal.items.items
  closed id v ws xs f waits zero_is all slot lies cell kept =
      let s = f.0 in
      let r = f.1.0 in
      let at = f.1.1 in
      let c = closes s r id v at waits zero_is all in
      let h : Guarded M E R W S = c.1.0 in
      let fit = r.pass id v at (ap is_pass waits) in
      let was = r.live id v at (ap is_live waits) in
      let home : get_elem? s.homes 0 ≡ some (some (Some h)) = ap (λ hs. get_elem? hs 0) c.1.1 in
      let same : slot ≡ Some h = some-injective slot (Some h) (sym lies ∙ f.4 0 (Some h) home) in
      let log_is : h.journal.items.items ≡ r.log = c.1.2.0 in
      let whole : r.log ≡ v.seen = sym c.0 in (
        h,
        same,
        record {
          whole = log_is ∙ whole;
          machine_is = subst (λ (o : Option S). IsStateAfter after o h.journal.items.items (state h.machine.value)) (sym was.same) (c.1.2.1 ∙ ap (state_after after r.opening) (sym log_is));
          legal = subst (λ (o : Option S). IsLegalFrom after reply o h.journal.items.items) (sym was.same) (subst (IsLegal after reply r.opening) (sym log_is) r.legal);
          own = ap (calls_of 0) log_is ∙ (ap (λ (n : ℕ). calls_of n r.log) (sym zero_is) ∙ fit.calls.0);
          past = subst (λ (zs : List (Entry M E R W S)). All (λ p. calls_of p.0 zs ≡ p.1) v.past) (sym log_is) (all_calls r.log v.seen v.past fit.calls.2);
          callers = callers_of v.past h.journal.items.items (λ n ne none_past. ap (calls_of n) log_is ∙ c.2 n ne none_past);
        },
      )
