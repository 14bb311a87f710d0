-- Passes and notes that are made, and that are taken in.
use Rattle.turn_cell.proofs.Common.{[], ℕ, ⊎_elim, ◌++◌, ◌+◌, ◌∙◌, ◌∷◌, ◌≡◌, ◌≢◌, ◌≤◌, ap, AreCalls, arith, at_set, at_snoc, Bool, calls_of, Entry, eq-eqb, eqb, false, Fits, FitsPass, Guarded, has_slot, has_turn, heard, if◌then◌else◌}
use Rattle.turn_cell.proofs.Common.{is_live, is_pass, IsKept, joined, Joins, le_refl, length, List, ltb, ne_eqb, note_of, one_if, Option, owns, passes, Phase, refl, SeatView, set, set_else, slots, spent, split_from, split_off, Splits}
use Rattle.turn_cell.proofs.{Common.{State, subst, sym, times, total, true, turns}, Sums.{total_set, total_same, total_at, total_two, total_append}, Prefixes.{prefix_self, prefix_shorter}, Histories.{calls_none, more_seen, calls_snoc}}
use Rattle.turn_cell.proofs.{Histories.times_snoc, Turns.{pass_lives, owns_if, fits_again}}
use mathlib.Core.Logic.{dite}
use mathlib.Core.Option.{some}
use mathlib.Core.List.{IsPrefix}
use native.Mathlib.Decide.{ℕ_discrete}
use lib.ListN.{get_elem?}
use Rattle.turn_cell.specs.declared.seat_view.Phase.TheVariants.{Note, Idle, Inside}
use Rattle.std.proofs.lemmas.Bool.{ltb-true, ltb-false}

one_number : (k n : ℕ) → k ≢ n → one_if (eqb k n) ≡ 0
one_number k n ne = ap one_if (ne_eqb k n ne)

note_no_pass : false ≡ true → ⊥
note_no_pass e = absurd (cc)

waiting_not_inside : Idle ≡ Inside → ⊥
waiting_not_inside e = absurd (cc)

same_number : (k n : ℕ) → k ≡ n → one_if (eqb k n) ≡ 1
same_number k n e = ap one_if (eq-eqb k n e)

module _ {M E R W S : Type 0} where
  -- a pass with the number 0 is the only one
  pub other_number : (vs : List (SeatView M E R W S)) (i j : ℕ) (v u : SeatView M E R W S) → get_elem? vs i ≡ some v → get_elem? vs j ≡ some u → j ≢ i → is_pass v.phase ≡ true → is_pass u.phase ≡ true
      → ((n : ℕ) → total (owns n) vs ≤ 1) → v.number ≡ 0 → u.number ≢ 0
  other_number vs i j v u at there ne p q apart z z' =
      let a = total_two (owns 0) vs i j v u ne at there in
      let b = apart 0 in
      let c : owns 0 v ≡ 1 + times 0 v.past = owns_if 0 v p ∙ ap (λ (x : Bool). one_if x + times 0 v.past) (eq-eqb v.number 0 z) in
      let d : owns 0 u ≡ 1 + times 0 u.past = owns_if 0 u q ∙ ap (λ (x : Bool). one_if x + times 0 u.past) (eq-eqb u.number 0 z') in
      absurd (omega arith)

  -- the longer of two beginnings of one list
  longer_is : (xs ys log : List (Entry M E R W S)) → IsPrefix xs log → IsPrefix ys log
      → (b : Bool) → ltb (length ys) (length xs) ≡ b
      → IsPrefix (if b then xs else ys) log × IsPrefix (if b then ys else xs) (if b then xs else ys) × IsPrefix xs (if b then xs else ys) × IsPrefix ys (if b then xs else ys)
  longer_is xs ys log p q true is = let less = ltb-true (length ys) (length xs) is in let s = prefix_shorter ys xs log q p (omega arith) in (p, s, prefix_self xs, s)
  longer_is xs ys log p q false is = let s = prefix_shorter xs ys log p q (ltb-false (length ys) (length xs) is) in (q, s, s, prefix_self ys)

module _ {M E R W S : Type 0} (state : M → S) (after : S → E → S) (reply : S → E → R) (age : S → ℕ) where
  abbrev Rule : State (Option (Guarded M E R W S)) (SeatView M E R W S) → Type 0
  Rule s = IsKept state after reply age s

  pub splits_pass : (id : ℕ) (v : SeatView M E R W S) → v.phase ≡ Idle → v.number ≡ 0 → Splits Rule id v (split_from v) (split_off v)
  splits_pass id v waits zero_is s r at =
      let vs = s.views in
      let pass : is_pass v.phase ≡ true = ap is_pass waits in
      let a : SeatView M E R W S = split_from v in
      let b : SeatView M E R W S = split_off v in
      let ws : List (SeatView M E R W S) = set vs id a ++ b ∷ [] in
      let was = r.live id v at (pass_lives v.phase pass) in
      let fit = r.pass id v at pass in
      let made_is = fit.made zero_is in
      let below = fit.below zero_is in
      let p : total passes ws ≡ total passes vs + 1 = let x = total_append passes (set vs id a) b in let y = total_same passes vs id v a at refl in omega arith in
      let o : (n : ℕ) → total (owns n) ws ≡ total (owns n) vs + one_if (eqb v.made n) = λ n. let x = total_append (owns n) (set vs id a) b in let y = total_same (owns n) vs id v a at refl in omega arith in
      let t : total turns ws ≡ total turns vs = let x = total_append turns (set vs id a) b in let y = total_same turns vs id v a at refl in omega arith in
      let u : total slots ws ≡ total slots vs = let x = total_append slots (set vs id a) b in let y = total_same slots vs id v a at refl in omega arith in
      let nobody : total (owns v.made) vs ≡ 0 = below v.made (le_refl v.made) in
      let v_owns : owns 0 v ≡ 1 + times 0 v.past = owns_if 0 v pass ∙ ap (λ (x : Bool). one_if x + times 0 v.past) (eq-eqb v.number 0 zero_is) in
      let v_in = total_at (owns 0) vs id v at in
      let made_some : v.made ≢ 0 = λ z. let k = below 0 (omega arith) in absurd (omega arith) in
      let no_calls : calls_of v.made r.log ≡ [] = r.known v.made nobody in
      let fits_a : Fits r.opening r.log a = record { same = was.same; seen = was.seen; told = was.told; whole = was.whole } in
      let fits_b : Fits r.opening r.log b = record { same = was.same; seen = was.seen; told = prefix_self v.seen; whole = λ is. absurd (cc) } in
      let pass_a : FitsPass r.log ws a = record {
        calls = fit.calls;
        past = fit.past;
        made = λ z. omega arith;
        below = λ z n le. let x = o n in let y = below n (omega arith) in let w = one_number v.made n (λ e. absurd (omega arith)) in omega arith;
      } in
      let pass_b : FitsPass r.log ws b = record {
        calls = (no_calls, calls_none v.made v.seen r.log was.seen no_calls, tt);
        past = λ _. (refl, refl);
        made = λ z. absurd (made_some z);
        below = λ z n le. absurd (made_some z);
      } in
      let pass_c : (j : ℕ) (d : SeatView M E R W S) → j ≢ id → get_elem? vs j ≡ some d → is_pass d.phase ≡ true → FitsPass r.log ws d = λ j d ne there l.
      let f = r.pass j d there l in
      let other = other_number vs id j v d at there ne pass l r.apart zero_is in
      record { calls = f.calls; past = f.past; made = λ z. absurd (other z); below = λ z n le. absurd (other z) } in
      record {
        opening = r.opening;
        log = r.log;
        busy = r.busy;
        words = r.words;
        legal = r.legal;
        young = r.young;
        short = r.short;
        live = λ j d z l. ⊎_elim
            (λ (z' : get_elem? (set vs id a) j ≡ some d). ⊎_elim (λ (q : (j ≡ id) × (a ≡ d)). subst (Fits r.opening r.log) q.1 fits_a) (λ (q : (j ≢ id) × (get_elem? vs j ≡ some d)). r.live j d q.1 l) (at_set vs id j a d z'))
            (λ (q : b ≡ d). subst (Fits r.opening r.log) q fits_b) (at_snoc (set vs id a) b d j z);
        pass = λ j d z l. ⊎_elim
            (λ (z' : get_elem? (set vs id a) j ≡ some d). ⊎_elim (λ (q : (j ≡ id) × (a ≡ d)). subst (FitsPass r.log ws) q.1 pass_a) (λ (q : (j ≢ id) × (get_elem? vs j ≡ some d)). pass_c j d q.0 q.1 l) (at_set vs id j a d z'))
            (λ (q : b ≡ d). subst (FitsPass r.log ws) q pass_b) (at_snoc (set vs id a) b d j z);
        turn = t ∙ r.turn;
        one = r.one;
        at_home = λ z. r.at_home (omega arith);
        away = λ z. r.away (omega arith);
        apart = λ n. dite (ℕ_discrete v.made n)
            (λ (e : v.made ≡ n). let x = o n in let y = below n (omega arith) in let w = same_number v.made n e in omega arith)
            (λ (e : v.made ≢ n). let x = o n in let y = r.apart n in let w = one_number v.made n e in omega arith);
        known = λ n z. let x = o n in r.known n (omega arith);
      }

  pub splits_note : (id : ℕ) (v : SeatView M E R W S) → v.phase ≡ Idle → Splits Rule id v v (note_of v)
  splits_note id v waits s r at =
      let vs = s.views in
      let pass : is_pass v.phase ≡ true = ap is_pass waits in
      let b : SeatView M E R W S = note_of v in
      let ws : List (SeatView M E R W S) = set vs id v ++ b ∷ [] in
      let was = r.live id v at (pass_lives v.phase pass) in
      let p : total passes ws ≡ total passes vs = let x = total_append passes (set vs id v) b in let y = total_same passes vs id v v at refl in omega arith in
      let o : (n : ℕ) → total (owns n) ws ≡ total (owns n) vs = λ n. let x = total_append (owns n) (set vs id v) b in let y = total_same (owns n) vs id v v at refl in omega arith in
      let t : total turns ws ≡ total turns vs = let x = total_append turns (set vs id v) b in let y = total_same turns vs id v v at refl in omega arith in
      let u : total slots ws ≡ total slots vs = let x = total_append slots (set vs id v) b in let y = total_same slots vs id v v at refl in omega arith in
      let fits_b : Fits r.opening r.log b = record { same = was.same; seen = was.seen; told = prefix_self v.seen; whole = λ is. absurd (cc) } in
      record {
        opening = r.opening;
        log = r.log;
        busy = r.busy;
        words = r.words;
        legal = r.legal;
        young = r.young;
        short = r.short;
        live = λ j d z l. ⊎_elim
            (λ (z' : get_elem? (set vs id v) j ≡ some d). ⊎_elim (λ (q : (j ≡ id) × (v ≡ d)). subst (Fits r.opening r.log) q.1 was) (λ (q : (j ≢ id) × (get_elem? vs j ≡ some d)). r.live j d q.1 l) (at_set vs id j v d z'))
            (λ (q : b ≡ d). subst (Fits r.opening r.log) q fits_b) (at_snoc (set vs id v) b d j z);
        pass = λ j d z l. ⊎_elim
            (λ (z' : get_elem? (set vs id v) j ≡ some d). ⊎_elim (λ (q : (j ≡ id) × (v ≡ d)). subst (FitsPass r.log ws) q.1 (fits_again r.log vs ws v p o (r.pass id v at pass))) (λ (q : (j ≢ id) × (get_elem? vs j ≡ some d)). fits_again r.log vs ws d p o (r.pass j d q.1 l)) (at_set vs id j v d z'))
            (λ (q : b ≡ d). absurd (note_no_pass (ap (λ (x : SeatView M E R W S). is_pass x.phase) q ∙ l))) (at_snoc (set vs id v) b d j z);
        turn = t ∙ r.turn;
        one = r.one;
        at_home = λ z. r.at_home (omega arith);
        away = λ z. r.away (omega arith);
        apart = λ n. let x = o n in let y = r.apart n in omega arith;
        known = λ n z. r.known n (sym (o n) ∙ z);
      }

  -- a seat of number 0 takes in the seen list of another, which is spent
  module _ (s : State (Option (Guarded M E R W S)) (SeatView M E R W S)) (r : Rule s) (id : ℕ) (v : SeatView M E R W S) (other : ℕ) (w both : SeatView M E R W S) (at : get_elem? s.views id ≡ some v) (apart : ¬ (other ≡ id)) (there : get_elem? s.views other ≡ some w) where
    abbrev once : List (SeatView M E R W S)
    once = set s.views id both

    abbrev twice : List (SeatView M E R W S)
    twice = set once other (spent {M = M} {E = E} {R = R} {W = W} {S = S})

    there_too : get_elem? once other ≡ some w
    there_too = set_else s.views id other both apart ∙ there

    sums : (f : SeatView M E R W S → ℕ) → total f twice + (f w + f v) ≡ total f s.views + (f both + f (spent {M = M} {E = E} {R = R} {W = W} {S = S}))
    sums f = let a = total_set f s.views id v both at in let b = total_set f once other w (spent {M = M} {E = E} {R = R} {W = W} {S = S}) there_too in omega arith

    -- who stands there afterwards
    stands : {X : Type 0} (j : ℕ) (d : SeatView M E R W S) → get_elem? twice j ≡ some d → (j ≡ other → (spent {M = M} {E = E} {R = R} {W = W} {S = S}) ≡ d → X) → (j ≡ id → both ≡ d → X) → (j ≢ id → j ≢ other → get_elem? s.views j ≡ some d → X) → X
    stands j d e gone here elsewhere =
        ⊎_elim (λ (q : (j ≡ other) × ((spent {M = M} {E = E} {R = R} {W = W} {S = S}) ≡ d)). gone q.0 q.1)
        (λ (q : (j ≢ other) × (get_elem? once j ≡ some d)). ⊎_elim (λ (k : (j ≡ id) × (both ≡ d)). here k.0 k.1) (λ (k : (j ≢ id) × (get_elem? s.views j ≡ some d)). elsewhere k.0 q.0 k.1) (at_set s.views id j both d q.1))
        (at_set once other j (spent {M = M} {E = E} {R = R} {W = W} {S = S}) d e)

  pub joins_note : (id : ℕ) (v : SeatView M E R W S) (other : ℕ) (w : SeatView M E R W S) → v.phase ≡ Idle → w.phase ≡ Note → Joins Rule id v other w (heard v w) spent
  joins_note id v other w waits note s r at apart there' =
      let vs = s.views in
      let pass : is_pass v.phase ≡ true = ap is_pass waits in
      let both : SeatView M E R W S = heard v w in
      let there : get_elem? vs other ≡ some w = sym (set_else vs id other both apart) ∙ there' in
      let ws : List (SeatView M E R W S) = twice s r id v other w both at apart there in
      let was = r.live id v at (pass_lives v.phase pass) in
      let its = r.live other w there (ap is_live note) in
      let fit = r.pass id v at pass in
      let big = longer_is v.seen w.seen r.log was.seen its.seen (ltb (length w.seen) (length v.seen)) refl in
      let no_pass : passes w ≡ 0 = ap (λ (st : Phase). one_if (is_pass st)) note in
      let no_turn : turns w ≡ 0 = ap (λ (st : Phase). one_if (has_turn st)) note in
      let no_slot : slots w ≡ 0 = ap (λ (st : Phase). one_if (has_slot st)) note in
      let no_own : (n : ℕ) → owns n w ≡ 0 = λ n. ap (λ (st : Phase). if is_pass st then one_if (eqb w.number n) + times n w.past else 0) note in
      let p : total passes ws ≡ total passes vs = let x = sums s r id v other w both at apart there passes in omega arith in
      let t : total turns ws ≡ total turns vs = let x = sums s r id v other w both at apart there turns in omega arith in
      let u : total slots ws ≡ total slots vs = let x = sums s r id v other w both at apart there slots in omega arith in
      let o : (n : ℕ) → total (owns n) ws ≡ total (owns n) vs = λ n. let x = sums s r id v other w both at apart there (owns n) in let y = no_own n in omega arith in
      let here : Fits r.opening r.log both = record { same = was.same; seen = big.0; told = big.1; whole = λ is. absurd (waiting_not_inside (sym waits ∙ is)) } in
      let mine : FitsPass r.log ws both = record { calls = more_seen r.log v.seen both.seen ((v.number, v.own_calls) ∷ v.past) big.2 big.0 fit.calls; past = fit.past; made = λ z. let a = fit.made z in omega arith; below = λ z n le. o n ∙ fit.below z n le } in
      record {
        opening = r.opening;
        log = r.log;
        busy = r.busy;
        words = r.words;
        legal = r.legal;
        young = r.young;
        short = r.short;
        live = λ j d e l. stands s r id v other w both at apart there {X = Fits r.opening r.log d} j d e
            (λ z is. absurd (note_no_pass (ap (λ (x : SeatView M E R W S). is_live x.phase) is ∙ l))) (λ z is. subst (Fits r.opening r.log) is here) (λ z z' k. r.live j d k l);
        pass = λ j d e l. stands s r id v other w both at apart there {X = FitsPass r.log ws d} j d e
            (λ z is. absurd (note_no_pass (ap (λ (x : SeatView M E R W S). is_pass x.phase) is ∙ l))) (λ z is. subst (FitsPass r.log ws) is mine) (λ z z' k. fits_again r.log vs ws d p o (r.pass j d k l));
        turn = t ∙ r.turn;
        one = r.one;
        at_home = λ z. r.at_home (omega arith);
        away = λ z. r.away (omega arith);
        apart = λ n. let x = o n in let y = r.apart n in omega arith;
        known = λ n z. r.known n (sym (o n) ∙ z);
      }

  pub joins_pass : (id : ℕ) (v : SeatView M E R W S) (other : ℕ) (w : SeatView M E R W S) → v.phase ≡ Idle → w.phase ≡ Idle → v.number ≡ 0 → Joins Rule id v other w (joined v w) spent
  joins_pass id v other w waits its_stage zero_is s r at apart there' =
      let vs = s.views in
      let pass : is_pass v.phase ≡ true = ap is_pass waits in
      let its_pass : is_pass w.phase ≡ true = ap is_pass its_stage in
      let both : SeatView M E R W S = joined v w in
      let there : get_elem? vs other ≡ some w = sym (set_else vs id other both apart) ∙ there' in
      let ws : List (SeatView M E R W S) = twice s r id v other w both at apart there in
      let was = r.live id v at (pass_lives v.phase pass) in
      let its = r.live other w there (pass_lives w.phase its_pass) in
      let fit = r.pass id v at pass in
      let its_fit = r.pass other w there its_pass in
      let its_past = its_fit.past (other_number vs id other v w at there apart pass its_pass r.apart zero_is) in
      let big = longer_is v.seen w.seen r.log was.seen its.seen (ltb (length w.seen) (length v.seen)) refl in
      let one_pass : passes w ≡ 1 = ap (λ (st : Phase). one_if (is_pass st)) its_stage in
      let no_turn : turns w ≡ 0 = ap (λ (st : Phase). one_if (has_turn st)) its_stage in
      let no_slot : slots w ≡ 0 = ap (λ (st : Phase). one_if (has_slot st)) its_stage in
      let v_turn : turns v ≡ turns both = refl in
      let w_owns : (n : ℕ) → owns n w ≡ one_if (eqb w.number n) = λ n. let x = owns_if n w its_pass in let y : times n w.past ≡ 0 = ap (times n) its_past.0 in omega arith in
      let both_owns : (n : ℕ) → owns n both ≡ owns n v + one_if (eqb w.number n) = λ n. let x = owns_if n v pass in let y = owns_if n both pass in let z = times_snoc n v.past (w.number, w.own_calls) in omega arith in
      let p : total passes ws + 1 ≡ total passes vs = let x = sums s r id v other w both at apart there passes in omega arith in
      let t : total turns ws ≡ total turns vs = let x = sums s r id v other w both at apart there turns in omega arith in
      let u : total slots ws ≡ total slots vs = let x = sums s r id v other w both at apart there slots in omega arith in
      let o : (n : ℕ) → total (owns n) ws ≡ total (owns n) vs = λ n. let x = sums s r id v other w both at apart there (owns n) in let y = w_owns n in let z = both_owns n in omega arith in
      let here : Fits r.opening r.log both = record { same = was.same; seen = big.0; told = big.1; whole = λ is. absurd (waiting_not_inside (sym waits ∙ is)) } in
      let calls : AreCalls r.log both.seen ((v.number, v.own_calls) ∷ v.past) = more_seen r.log v.seen both.seen ((v.number, v.own_calls) ∷ v.past) big.2 big.0 fit.calls in
      let its_calls : AreCalls r.log both.seen ((w.number, w.own_calls) ∷ []) = more_seen r.log w.seen both.seen ((w.number, w.own_calls) ∷ []) big.3 big.0 (its_fit.calls.0, its_fit.calls.1, tt) in
      let all_calls : AreCalls r.log both.seen ((v.number, v.own_calls) ∷ (v.past ++ (w.number, w.own_calls) ∷ [])) = (calls.0, calls.1, calls_snoc r.log both.seen v.past w.number w.own_calls calls.2 its_calls.0 its_calls.1) in
      let mine : FitsPass r.log ws both = record { calls = all_calls; past = λ ne. absurd (ne zero_is); made = λ z. let a = fit.made z in omega arith; below = λ z n le. o n ∙ fit.below z n le } in
      record {
        opening = r.opening;
        log = r.log;
        busy = r.busy;
        words = r.words;
        legal = r.legal;
        young = r.young;
        short = r.short;
        live = λ j d e l. stands s r id v other w both at apart there {X = Fits r.opening r.log d} j d e
            (λ z is. absurd (note_no_pass (ap (λ (x : SeatView M E R W S). is_live x.phase) is ∙ l))) (λ z is. subst (Fits r.opening r.log) is here) (λ z z' k. r.live j d k l);
        pass = λ j d e l. stands s r id v other w both at apart there {X = FitsPass r.log ws d} j d e
            (λ z is. absurd (note_no_pass (ap (λ (x : SeatView M E R W S). is_pass x.phase) is ∙ l))) (λ z is. subst (FitsPass r.log ws) is mine)
            (λ z z' k. let f = r.pass j d k l in let ne = other_number vs id j v d at k z pass l r.apart zero_is in record { calls = f.calls; past = f.past; made = λ q. absurd (ne q); below = λ q n le. absurd (ne q) });
        turn = t ∙ r.turn;
        one = r.one;
        at_home = λ z. r.at_home (omega arith);
        away = λ z. r.away (omega arith);
        apart = λ n. let x = o n in let y = r.apart n in omega arith;
        known = λ n z. r.known n (sym (o n) ∙ z);
      }
