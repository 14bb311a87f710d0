-- Each step of a seat keeps the rule.
use Rattle.turn_cell.proofs.Common.{[], ℕ, ⊎_elim, ◌*◌, ◌++◌, ◌+◌, ◌<◌, ◌∙◌, ◌∷◌, ◌≡◌, ◌≢◌, ◌≤◌, acquired, Act, Allows, ap, AreCalls, arith, at_set, Bool, calls_of, carried_after, carried_log, committed, drop, drop-append_seam, Entry}
use Rattle.turn_cell.proofs.Common.{eq-eqb, eqb, exchanged, Fits, FitsPass, get_or, gives, Guarded, has_slot, has_turn, if◌then◌else◌, is_live, is_pass, IsHeld, IsKept, IsLegal, IsLegalFrom, IsStateAfter, IsYoung, keeps, le_refl, length}
use Rattle.turn_cell.proofs.Common.{List, observed, one_if, Option, owns, passes, Phase, refl, released, Seated, SeatView, set, slots, Some, State, state_after, step, stepped, subst, sym, takes, times, took_out, total, true, turns, Valid}
use Rattle.turn_cell.proofs.{Sums.{total_set, total_same, total_at, total_two, total_below, total_gap}, Prefixes.{prefix_self, prefix_trans}, Histories.{calls_of-own, calls_of-other, others_stay, seen_whole, pasts_stay, legal_start}}
use mathlib.Core.Option.{some, none, some-injective, some-ne-none}
use mathlib.Core.Option as maybe
use mathlib.Core.List.{IsPrefix}
use lib.ListN.{get_elem?}
use prog.Atomic.{either}
use Rattle.turn_cell.specs.declared.seat_view.Phase.TheVariants.{Spent, Note, Idle, Entered, Inside}

pub pass_lives : (st : Phase) → is_pass st ≡ true → is_live st ≡ true
pass_lives Spent e = e
pass_lives Note e = refl
pass_lives Idle e = refl
pass_lives Entered e = refl
pass_lives Inside e = refl

slot_below_turn : (st : Phase) → one_if (has_slot st) ≤ one_if (has_turn st)
slot_below_turn Spent = omega arith
slot_below_turn Note = omega arith
slot_below_turn Idle = omega arith
slot_below_turn Entered = omega arith
slot_below_turn Inside = omega arith

eq_tests : (a b : ℕ) → a ≡ b → eqb a b ≡ true
eq_tests a b e = eq-eqb a b e

module _ {M E R W S : Type 0} where
  abbrev pub moved : SeatView M E R W S → Phase → List (Entry M E R W S) → ℕ → SeatView M E R W S
  moved v st xs k = record v { phase = st; seen = xs; met = k }

  pub owns_if : (n : ℕ) (v : SeatView M E R W S) → is_pass v.phase ≡ true → owns n v ≡ one_if (eqb v.number n) + times n v.past
  owns_if n v p = ap (λ (b : Bool). if b then one_if (eqb v.number n) + times n v.past else 0) p

  -- a seat that changes neither the number of passes nor who owns which number
  pub fits_again : (log : List (Entry M E R W S)) (vs ws : List (SeatView M E R W S)) (u : SeatView M E R W S) → total passes ws ≡ total passes vs → ((n : ℕ) → total (owns n) ws ≡ total (owns n) vs)
      → FitsPass log vs u → FitsPass log ws u
  fits_again log vs ws u p o f = record {
    calls = f.calls;
    past = f.past;
    made = λ z. let a = f.made z in omega arith;
    below = λ z n le. o n ∙ f.below z n le;
  }

module _ {M E R W S : Type 0} (state : M → S) (after : S → E → S) (reply : S → E → R) (age : S → ℕ) where
  abbrev Rule : State (Option (Guarded M E R W S)) (SeatView M E R W S) → Type 0
  Rule s = IsKept state after reply age s

  -- what the slot is where n seats hold it
  abbrev Slot : S → List (Entry M E R W S) → List (maybe.Option (Option (Guarded M E R W S))) → ℕ → Type 0
  Slot opening log homes n = (n ≡ 0 → (h : Guarded M E R W S) × (homes ≡ some (Some h) ∷ []) × IsHeld state after reply age opening log h) × (0 < n → homes ≡ none ∷ [])

  -- a pass's step that adds no call
  pub steady : (s : State (Option (Guarded M E R W S)) (SeatView M E R W S)) (r : Rule s) (id : ℕ) (v : SeatView M E R W S) (st : Phase) (xs : List (Entry M E R W S)) (k busy : ℕ) (homes : List (maybe.Option (Option (Guarded M E R W S))))
      → get_elem? s.views id ≡ some v → is_pass v.phase ≡ true → is_pass st ≡ true
      → IsPrefix v.told xs → IsPrefix xs r.log → (st ≡ Inside → xs ≡ r.log) → AreCalls r.log xs ((v.number, v.own_calls) ∷ v.past)
      → busy + one_if (has_turn v.phase) ≡ r.busy + one_if (has_turn st) → busy ≤ 1
      → ((n : ℕ) → n + one_if (has_slot v.phase) ≡ total slots s.views + one_if (has_slot st) → Slot r.opening r.log homes n)
      → Rule record { words = length r.log ∷ busy ∷ []; homes = homes; views = set s.views id (moved v st xs k) }
  steady s r id v st xs k busy homes at pass pass' told seen whole calls turn one slot =
      let w : SeatView M E R W S = moved v st xs k in
      let vs = s.views in
      let ws : List (SeatView M E R W S) = set vs id w in
      let p : total passes ws ≡ total passes vs = total_same passes vs id v w at (ap one_if (pass' ∙ sym pass)) in
      let o : (n : ℕ) → total (owns n) ws ≡ total (owns n) vs = λ n. total_same (owns n) vs id v w at (owns_if n w pass' ∙ sym (owns_if n v pass)) in
      let t = total_set turns vs id v w at in
      let u = total_set slots vs id v w at in
      let was = r.live id v at (pass_lives v.phase pass) in
      let fit = r.pass id v at pass in
      let mine : FitsPass r.log ws w = record { calls = calls; past = fit.past; made = λ z. let a = fit.made z in omega arith; below = λ z n le. o n ∙ fit.below z n le } in
      let here : Fits r.opening r.log w = record { same = was.same; seen = seen; told = told; whole = whole } in
      record {
        opening = r.opening;
        log = r.log;
        busy = busy;
        words = refl;
        legal = r.legal;
        young = r.young;
        short = r.short;
        live = λ j d e l. ⊎_elim (λ (q : (j ≡ id) × (w ≡ d)). subst (Fits r.opening r.log) q.1 here) (λ (q : (j ≢ id) × (get_elem? vs j ≡ some d)). r.live j d q.1 l) (at_set vs id j w d e);
        pass = λ j d e l. ⊎_elim (λ (q : (j ≡ id) × (w ≡ d)). subst (FitsPass r.log ws) q.1 mine) (λ (q : (j ≢ id) × (get_elem? vs j ≡ some d)). fits_again r.log vs ws d p o (r.pass j d q.1 l)) (at_set vs id j w d e);
        turn = let b = r.turn in omega arith;
        one = one;
        at_home = λ z. (slot (total slots ws) u).0 z;
        away = λ z. (slot (total slots ws) u).1 z;
        apart = λ n. let a = r.apart n in let b = o n in omega arith;
        known = λ n z. r.known n (sym (o n) ∙ z);
      }

  -- whatever the word i becomes by f, with the view w and the act a
  abbrev Goes : State (Option (Guarded M E R W S)) (SeatView M E R W S) → ℕ → ℕ → Seated M E R W S → (ℕ → Seated M E R W S → Type 0) → ℕ → Type 0
  Goes s i id me tells y = (w : SeatView M E R W S) × (a : Act (Option (Guarded M E R W S))) × Valid s.homes me.1 a × Rule (stepped s i y id me.1 w a) × tells (get_or s.words i 0) (w, carried_after me.1 a)

  -- the calls that a pass knows of
  pub calls_at : (s : State (Option (Guarded M E R W S)) (SeatView M E R W S)) (r : Rule s) (id : ℕ) (v : SeatView M E R W S) → get_elem? s.views id ≡ some v → is_pass v.phase ≡ true → AreCalls r.log v.seen ((v.number, v.own_calls) ∷ v.past)
  calls_at s r id v at pass = (r.pass id v at pass).calls

  legal_before : (xs log : List (Entry M E R W S)) (s : S) → IsPrefix xs log → IsLegal after reply s log → IsLegal after reply s xs
  legal_before xs log s pre k = legal_start after reply s xs pre.0 (subst (IsLegal after reply s) (sym pre.1) k)

  pub acquires : (slots id : ℕ) (me : Seated M E R W S) → me.0.phase ≡ Idle
      → Allows Rule slots id me 1 (λ y. either (eqb y 0) 1 y) (acquired (step slots 1 0 1 none) me)
  acquires n id me waits s r _ at _ =
      let v = me.0 in
      let pass : is_pass v.phase ≡ true = ap is_pass waits in
      let no_turn : one_if (has_turn v.phase) ≡ 0 = ap (λ (st : Phase). one_if (has_turn st)) waits in
      let no_slot : one_if (has_slot v.phase) ≡ 0 = ap (λ (st : Phase). one_if (has_slot st)) waits in
      let was = r.live id v at (pass_lives v.phase pass) in
      let y : ℕ = get_or s.words 1 0 in
      let y_is : y ≡ r.busy = ap (λ (ws : List ℕ). get_or ws 1 0) r.words in
      let told : ℕ → Seated M E R W S → Type 0 = acquired (step n 1 0 1 none) me in
      exchanged y 0 1 (Goes s 1 id me told)
      (λ hit. (
        moved v Entered v.seen v.met,
        keeps,
        tt,
        subst (λ (ws : List ℕ). Rule record { words = set ws 1 1; homes = s.homes; views = set s.views id (moved v Entered v.seen v.met) }) (sym r.words)
            (steady s r id v Entered v.seen v.met 1 s.homes at pass refl was.told was.seen (λ is. absurd (cc)) (calls_at s r id v at pass) (omega arith) (le_refl 1)
            (λ k e. ((λ z. r.at_home (omega arith)), (λ z. r.away (omega arith))))),
        (waits, (λ _. refl), (λ other. absurd (other hit))),
      ))
      (λ miss. (
        moved v v.phase v.seen (v.met + 1),
        keeps,
        tt,
        subst (λ (ws : List ℕ). Rule record { words = set ws 1 (get_or ws 1 0); homes = s.homes; views = set s.views id (moved v v.phase v.seen (v.met + 1)) }) (sym r.words)
            (steady s r id v v.phase v.seen (v.met + 1) r.busy s.homes at pass pass was.told was.seen was.whole (calls_at s r id v at pass) refl r.one
            (λ k e. ((λ z. r.at_home (omega arith)), (λ z. r.away (omega arith))))),
        (waits, (λ hit. absurd (miss hit)), (λ _. refl)),
      ))

  pub observes : (slots id : ℕ) (me : Seated M E R W S) → me.0.phase ≡ Idle
      → Allows Rule slots id me 0 (λ y. y) (observed after reply (step slots 0 0 0 none) me)
  observes n id me waits s r _ at _ =
      let v = me.0 in
      let pass : is_pass v.phase ≡ true = ap is_pass waits in
      let was = r.live id v at (pass_lives v.phase pass) in
      let calls = calls_at s r id v at pass in (
        moved v v.phase v.seen v.met,
        keeps,
        tt,
        subst (λ (ws : List ℕ). Rule record { words = set ws 0 (get_or ws 0 0); homes = s.homes; views = set s.views id v }) (sym r.words)
            (steady s r id v v.phase v.seen v.met r.busy s.homes at pass pass was.told was.seen was.whole calls refl r.one
            (λ k e. ((λ z. r.at_home (omega arith)), (λ z. r.away (omega arith))))),
        (
          refl,
          record {
            legal = subst (λ (o : Option S). IsLegalFrom after reply o v.seen) (sym was.same) (legal_before v.seen r.log r.opening was.seen r.legal);
            told = was.told;
            own = calls.1;
          },
        ),
      )

  from_opening : (o : Option S) (opening : S) (xs : List (Entry M E R W S)) → o ≡ Some opening → IsLegal after reply opening xs → IsLegalFrom after reply o xs
  from_opening o opening xs e k = subst (λ (p : Option S). IsLegalFrom after reply p xs) (sym e) k

  of_opening : (o : Option S) (opening : S) (xs : List (Entry M E R W S)) → o ≡ Some opening → IsLegalFrom after reply o xs → IsLegal after reply opening xs
  of_opening o opening xs e k = subst (λ (p : Option S). IsLegalFrom after reply p xs) e k

  of_state : (o : Option S) (opening : S) (xs : List (Entry M E R W S)) (t : S) → o ≡ Some opening → IsStateAfter after o xs t → t ≡ state_after after opening xs
  of_state o opening xs t e k = subst (λ (p : Option S). IsStateAfter after p xs t) e k

  -- no seat has the slot where the one with the turn has not taken it
  none_inside : (s : State (Option (Guarded M E R W S)) (SeatView M E R W S)) (r : Rule s) (id : ℕ) (v : SeatView M E R W S) → get_elem? s.views id ≡ some v → v.phase ≡ Entered → total slots s.views ≡ 0
  none_inside s r id v at is =
      let a : one_if (has_turn v.phase) ≡ 1 = ap (λ (st : Phase). one_if (has_turn st)) is in
      let b : one_if (has_slot v.phase) ≡ 0 = ap (λ (st : Phase). one_if (has_slot st)) is in
      let g = total_gap slots turns (λ (u : SeatView M E R W S). slot_below_turn u.phase) s.views id v at in
      let t = r.turn in
      let o = r.one in
      omega arith

  -- the seat that has the slot is the only one
  one_inside : (s : State (Option (Guarded M E R W S)) (SeatView M E R W S)) (r : Rule s) (id : ℕ) (v : SeatView M E R W S) → get_elem? s.views id ≡ some v → v.phase ≡ Inside → (total slots s.views ≡ 1) × (r.busy ≡ 1)
  one_inside s r id v at is =
      let a : one_if (has_turn v.phase) ≡ 1 = ap (λ (st : Phase). one_if (has_turn st)) is in
      let b : one_if (has_slot v.phase) ≡ 1 = ap (λ (st : Phase). one_if (has_slot st)) is in
      let g = total_below slots turns (λ (u : SeatView M E R W S). slot_below_turn u.phase) s.views in
      let c = total_at slots s.views id v at in
      let d = total_at turns s.views id v at in
      let t = r.turn in
      let o = r.one in
      (omega arith, omega arith)

  pub takes_out : (slots id : ℕ) (me : Seated M E R W S) → me.0.phase ≡ Entered
      → Allows Rule slots id me 0 (λ y. y) (took_out after reply state age (step slots 0 0 0 none) me)
  takes_out n id me is s r _ at _ =
      let v = me.0 in
      let pass : is_pass v.phase ≡ true = ap is_pass is in
      let turn : one_if (has_turn v.phase) ≡ 1 = ap (λ (st : Phase). one_if (has_turn st)) is in
      let no_slot : one_if (has_slot v.phase) ≡ 0 = ap (λ (st : Phase). one_if (has_slot st)) is in
      let was = r.live id v at (pass_lives v.phase pass) in
      let calls = calls_at s r id v at pass in
      let none_in = none_inside s r id v at is in
      let home = r.at_home none_in in
      let h : Guarded M E R W S = home.0 in
      let homes_is : s.homes ≡ some (Some h) ∷ [] = home.1 in
      let xs : List (Entry M E R W S) = h.journal.items.items in
      let all : xs ≡ r.log = home.2.0 in
      let st_is : state h.machine.value ≡ state_after after r.opening r.log = home.2.1 in
      let w : SeatView M E R W S = moved v Inside xs v.met in (
        w,
        takes 0 (Some h),
        ap (λ (hs : List (maybe.Option (Option (Guarded M E R W S)))). get_elem? hs 0) homes_is,
        subst (λ (hs : List (maybe.Option (Option (Guarded M E R W S)))). Rule record { words = set s.words 0 (get_or s.words 0 0); homes = set hs 0 none; views = set s.views id w }) (sym homes_is)
            (subst (λ (ws : List ℕ). Rule record { words = set ws 0 (get_or ws 0 0); homes = none ∷ []; views = set s.views id w }) (sym r.words)
            (steady s r id v Inside xs v.met r.busy (none ∷ []) at pass refl
            (prefix_trans v.told v.seen xs was.told (subst (IsPrefix v.seen) (sym all) was.seen))
            (subst (λ (ys : List (Entry M E R W S)). IsPrefix ys r.log) (sym all) (prefix_self r.log)) (λ _. all)
            (subst (λ (ys : List (Entry M E R W S)). AreCalls r.log ys ((v.number, v.own_calls) ∷ v.past)) (sym all) (seen_whole r.log v.seen ((v.number, v.own_calls) ∷ v.past) calls))
            (omega arith) r.one (λ k e. ((λ z. absurd (omega arith)), (λ z. refl))))),
        record {
          held = h;
          seat = refl;
          count = ap (λ (ws : List ℕ). get_or ws 0 0) r.words ∙ ap length (sym all);
          more = subst (IsPrefix v.seen) (sym all) was.seen;
          state_is = subst (λ (p : Option S). IsStateAfter after p xs (state h.machine.value)) (sym was.same) (st_is ∙ ap (state_after after r.opening) (sym all));
          legal = from_opening v.opening r.opening xs was.same (subst (IsLegal after reply r.opening) (sym all) r.legal);
          own = ap (calls_of v.number) all ∙ calls.0;
          young = subst (λ (t : S). age t ≤ 60000000 + 60000 * length xs) (sym st_is) (subst (λ (ys : List (Entry M E R W S)). age (state_after after r.opening r.log) ≤ 60000000 + 60000 * length ys) (sym all) r.young);
          short = subst (λ (ys : List (Entry M E R W S)). length ys ≤ 65536) (sym all) r.short;
        },
      )

  pub releases : (slots id : ℕ) (me : Seated M E R W S) (h : Guarded M E R W S) → me.0.phase ≡ Inside → me.1 ≡ (0, Some h) ∷ [] → h.journal.items.items ≡ me.0.seen → IsStateAfter after me.0.opening me.0.seen (state h.machine.value)
      → Allows Rule slots id me 1 (λ _. 0) (λ _. released (step slots 1 0 0 none) me 0)
  releases n id me h is has same st_is s r _ at _ =
      let v = me.0 in
      let pass : is_pass v.phase ≡ true = ap is_pass is in
      let turn : one_if (has_turn v.phase) ≡ 1 = ap (λ (st : Phase). one_if (has_turn st)) is in
      let slot : one_if (has_slot v.phase) ≡ 1 = ap (λ (st : Phase). one_if (has_slot st)) is in
      let was = r.live id v at (pass_lives v.phase pass) in
      let in_it = one_inside s r id v at is in
      let homes_is : s.homes ≡ none ∷ [] = r.away (omega arith) in
      let whole : v.seen ≡ r.log = was.whole is in
      let w : SeatView M E R W S = moved v Idle v.seen v.met in
      let held : IsHeld state after reply age r.opening r.log h = (same ∙ whole, of_state v.opening r.opening v.seen (state h.machine.value) was.same st_is ∙ ap (state_after after r.opening) whole) in
      let kept : Rule record { words = set s.words 1 0; homes = some (Some h) ∷ []; views = set s.views id w } =
      subst (λ (ws : List ℕ). Rule record { words = set ws 1 0; homes = some (Some h) ∷ []; views = set s.views id w }) (sym r.words)
      (steady s r id v Idle v.seen v.met 0 (some (Some h) ∷ []) at pass refl was.told was.seen (λ is. absurd (cc)) (calls_at s r id v at pass) (omega arith) (omega arith)
      (λ k e. ((λ z. (h, refl, held)), (λ z. absurd (omega arith))))) in (
        w,
        gives,
        tt,
        subst (λ (c : List (ℕ × Option (Guarded M E R W S))). Rule (stepped s 1 0 id c w gives)) (sym has)
            (subst (λ (hs : List (maybe.Option (Option (Guarded M E R W S)))). Rule record { words = set s.words 1 0; homes = set hs 0 (some (Some h)); views = set s.views id w }) (sym homes_is) kept),
        refl,
      )

  -- a call is committed while the slot is out
  pub commits : (slots id : ℕ) (me : Seated M E R W S) (h : Guarded M E R W S) (e : Entry M E R W S) (new : ℕ) → me.0.phase ≡ Inside → me.1 ≡ (0, Some h) ∷ [] → h.journal.items.items ≡ me.0.seen ++ e ∷ [] → e.caller ≡ me.0.number
      → new ≡ length h.journal.items.items → IsLegalFrom after reply me.0.opening h.journal.items.items → IsStateAfter after me.0.opening h.journal.items.items (state h.machine.value) → age (state h.machine.value) ≤ 60000000 + 60000 * length h.journal.items.items → length h.journal.items.items ≤ 65536
      → Allows Rule slots id me 0 (λ _. new) (λ _. committed (step slots 0 new 0 none) me new)
  commits n id me h e new is has grown own count legal st_is young short s r _ at _ =
      let v = me.0 in
      let vs = s.views in
      let xs : List (Entry M E R W S) = h.journal.items.items in
      let w : SeatView M E R W S = record v { seen = carried_log me.1; own_calls = v.own_calls ++ drop (length v.seen) (carried_log me.1) } in
      let w' : SeatView M E R W S = record v { seen = xs; own_calls = v.own_calls ++ e ∷ [] } in
      let carried : carried_log me.1 ≡ xs = ap carried_log has in
      let rest_is : drop (length v.seen) (carried_log me.1) ≡ e ∷ [] = ap (drop (length v.seen)) (carried ∙ grown) ∙ drop-append_seam v.seen (e ∷ []) in
      let w_is : w ≡ w' = λ i. record v { seen = carried i; own_calls = v.own_calls ++ rest_is i } in
      let pass : is_pass v.phase ≡ true = ap is_pass is in
      let was = r.live id v at (pass_lives v.phase pass) in
      let fit = r.pass id v at pass in
      let in_it = one_inside s r id v at is in
      let homes_is : s.homes ≡ none ∷ [] = r.away (omega arith) in
      let whole : v.seen ≡ r.log = was.whole is in
      let slot : one_if (has_slot v.phase) ≡ 1 = ap (λ (st : Phase). one_if (has_slot st)) is in
      let longer : xs ≡ r.log ++ e ∷ [] = grown ∙ ap (λ (ys : List (Entry M E R W S)). ys ++ e ∷ []) whole in
      let ws : List (SeatView M E R W S) = set vs id w' in
      let p : total passes ws ≡ total passes vs = total_same passes vs id v w' at refl in
      let o : (k : ℕ) → total (owns k) ws ≡ total (owns k) vs = λ k. total_same (owns k) vs id v w' at refl in
      let t : total turns ws ≡ total turns vs = total_same turns vs id v w' at refl in
      let u : total slots ws ≡ total slots vs = total_same slots vs id v w' at refl in
      let owns_own : owns e.caller v ≡ 1 + times e.caller v.past = owns_if e.caller v pass ∙ ap (λ (b : Bool). one_if b + times e.caller v.past) (eq_tests v.number e.caller (sym own)) in
      let ap_own = r.apart e.caller in
      let in_all = total_at (owns e.caller) vs id v at in
      let past_apart : times e.caller v.past ≡ 0 = omega arith in
      let log' : List (Entry M E R W S) = r.log ++ e ∷ [] in
      let calls : AreCalls r.log v.seen ((v.number, v.own_calls) ∷ v.past) = fit.calls in
      let own_calls : calls_of v.number log' ≡ v.own_calls ++ e ∷ [] = calls_of-own v.number r.log e own ∙ ap (λ (ys : List (Entry M E R W S)). ys ++ e ∷ []) calls.0 in
      let mine : FitsPass log' ws (record w' { seen = log' }) = record {
        calls = (own_calls, own_calls, pasts_stay r.log e v.past past_apart (seen_whole r.log v.seen v.past calls.2));
        past = fit.past;
        made = λ z. let a = fit.made z in omega arith;
        below = λ z k le. o k ∙ fit.below z k le;
      } in
      let here : Fits r.opening log' (record w' { seen = log' }) = record { same = was.same; seen = prefix_self log'; told = prefix_trans v.told v.seen log' was.told (e ∷ [], ap (λ (ys : List (Entry M E R W S)). ys ++ e ∷ []) whole); whole = λ _. refl } in
      let here' : Fits r.opening log' w' = subst (λ (ys : List (Entry M E R W S)). Fits r.opening log' (record w' { seen = ys })) (sym longer) here in
      let mine' : FitsPass log' ws w' = subst (λ (ys : List (Entry M E R W S)). FitsPass log' ws (record w' { seen = ys })) (sym longer) mine in
      let more : (j : ℕ) (d : SeatView M E R W S) → j ≢ id → get_elem? vs j ≡ some d → Fits r.opening r.log d → Fits r.opening log' d = λ j d other there f. record {
        same = f.same;
        seen = prefix_trans d.seen r.log log' f.seen (e ∷ [], refl);
        told = f.told;
        whole = λ inside. let two = total_two slots vs id j v d other at there in let b : one_if (has_slot d.phase) ≡ 1 = ap (λ (st : Phase). one_if (has_slot st)) inside in absurd (omega arith);
      } in
      let more_pass : (j : ℕ) (d : SeatView M E R W S) → j ≢ id → get_elem? vs j ≡ some d → is_pass d.phase ≡ true → FitsPass log' ws d = λ j d other there l.
      let f = r.pass j d there l in
      let two = total_two (owns e.caller) vs id j v d other at there in
      let d_owns = owns_if e.caller d l in
      let none_there : times e.caller ((d.number, d.own_calls) ∷ d.past) ≡ 0 = omega arith in
      record {
        calls = others_stay r.log d.seen e ((d.number, d.own_calls) ∷ d.past) none_there f.calls;
        past = f.past;
        made = λ z. let a = f.made z in omega arith;
        below = λ z k le. o k ∙ f.below z k le;
      } in
      let kept : Rule record { words = length log' ∷ r.busy ∷ []; homes = none ∷ []; views = ws } = record {
        opening = r.opening;
        log = log';
        busy = r.busy;
        words = refl;
        legal = subst (IsLegal after reply r.opening) longer (of_opening v.opening r.opening xs was.same legal);
        young = subst (IsYoung state after reply age r.opening) longer (subst (λ (q : S). age q ≤ 60000000 + 60000 * length xs) (of_state v.opening r.opening xs (state h.machine.value) was.same st_is) young);
        short = subst (λ (ys : List (Entry M E R W S)). length ys ≤ 65536) longer short;
        live = λ j d z l. ⊎_elim (λ (q : (j ≡ id) × (w' ≡ d)). subst (Fits r.opening log') q.1 here') (λ (q : (j ≢ id) × (get_elem? vs j ≡ some d)). more j d q.0 q.1 (r.live j d q.1 l)) (at_set vs id j w' d z);
        pass = λ j d z l. ⊎_elim (λ (q : (j ≡ id) × (w' ≡ d)). subst (FitsPass log' ws) q.1 mine') (λ (q : (j ≢ id) × (get_elem? vs j ≡ some d)). more_pass j d q.0 q.1 l) (at_set vs id j w' d z);
        turn = t ∙ r.turn;
        one = r.one;
        at_home = λ z. absurd (omega arith);
        away = λ z. refl;
        apart = λ k. let a = r.apart k in let b = o k in omega arith;
        known = λ k z. let b = o k in calls_of-other k r.log e (λ eq. let q : owns k v ≡ owns e.caller v = ap (λ (j : ℕ). owns j v) (sym eq) in let c = total_at (owns k) vs id v at in absurd (omega arith)) ∙ r.known k (omega arith);
      } in (
        w,
        keeps,
        tt,
        subst (λ (x : SeatView M E R W S). Rule record { words = set s.words 0 new; homes = s.homes; views = set vs id x }) (sym w_is)
            (subst (λ (hs : List (maybe.Option (Option (Guarded M E R W S)))). Rule record { words = set s.words 0 new; homes = hs; views = ws }) (sym homes_is)
            (subst (λ (ns : List ℕ). Rule record { words = set ns 0 new; homes = none ∷ []; views = ws }) (sym r.words)
            (subst (λ (k : ℕ). Rule record { words = k ∷ r.busy ∷ []; homes = none ∷ []; views = ws }) (sym (count ∙ ap length longer)) kept))),
        refl,
      )
