-- Journals that answer what is owed: phase by phase, with each actor's lines in order.
use Rattle.line_readers.proofs.Common.{[], ℕ, ◌++◌, ◌==◌, ◌∷◌, ◌≡◌, ◌≢◌, ◌≤◌, all_owed, AllRows, ap, append-nil, arith, calls_of, due, Entry, eq-eqb, false, first_by, if◌then◌else◌, IsLegal, length, lines_by, List, ne_eqb, Option, refl}
use Rattle.line_readers.proofs.{Common.{Some, state_after, subst, suc, sym, take, true, zero}, Owed.{due-hold, IsFirst, first-is, some-first, others-hold, first-holds, by-append, own-first}}
use mathlib.Core.List.{IsPrefix}
use mathlib.Core.Logic.{dite}
use native.Mathlib.Decide.{ℕ_discrete}

prefix-behind : {X : Type 0} (x e : X) (xs es : List X) → IsPrefix (x ∷ xs) (e ∷ es) → (x ≡ e) × IsPrefix xs es
prefix-behind x e xs es (zs, same) = (cc (same), (zs, cc (same)))

module _ {M E R W S L : Type 0} (after : S → E → S) (reply : S → E → R) (actor_of : L → ℕ) (event_of : L → Option E) where
  -- each entry is the answer to the line at its place
  abbrev pub Fit : List (Entry M E R W S) → List L → Type 0
  Fit [] [] = Unit {0}
  Fit (e ∷ es) (l ∷ ls) = (event_of l ≡ Some e.event) × Fit es ls
  Fit _ _ = ⊥

  -- an entry answers the first line of its caller in the phase that is due
  pub record Answer (s : S) (owed : List (List L)) (e : Entry M E R W S) : Type 0 where
    pub phase : List L
    pub later : List (List L)
    pub line : L
    pub others : List L
    pub is_due : due owed ≡ phase ∷ later
    pub first : first_by actor_of e.caller phase ≡ Some (line, others)
    pub event : event_of line ≡ Some e.event
    pub replied : e.reply ≡ reply s e.event

  -- entries answer all that is owed, one after another, and then the machine has this state
  abbrev pub Answers : S → List (List L) → List (Entry M E R W S) → S → Type 0
  Answers s owed [] t = (due owed ≡ []) × (t ≡ s)
  Answers s owed (e ∷ es) t = (x : Answer s owed e) × Answers (after s e.event) (x.others ∷ x.later) es t

  -- ---- from what each actor sees
  -- of the entries each actor's fit its lines, of whole phases and in a beginning for each number of phases
  module _ (IsActor : ℕ → Type 0) where
    abbrev pub FitBy : List (Entry M E R W S) → List L → Type 0
    FitBy es ls = (a : ℕ) → IsActor a → Fit (calls_of a es) (lines_by actor_of a ls)

    abbrev pub BeginsBy : List (Entry M E R W S) → List (List L) → ℕ → Type 0
    BeginsBy es owed k = (start : List (Entry M E R W S)) × IsPrefix start es × FitBy start (all_owed (take k owed))

    none-owed : (es : List (Entry M E R W S)) (owed : List (List L)) → es ≡ [] → AllRows (AllRows (λ l. IsActor (actor_of l))) owed → FitBy es (all_owed owed) → due owed ≡ []
    none-owed es [] none all fit = refl
    none-owed es ([] ∷ phases) none (nobody, all) fit = none-owed es phases none all fit
    none-owed es ((l ∷ ls) ∷ phases) none ((actor, more), all) fit =
        let own = own-first actor_of (actor_of l) l (ls ++ all_owed phases) (eq-eqb (actor_of l) (actor_of l) refl) in
        absurd (subst (λ (xs : List (Entry M E R W S)). Fit (calls_of (actor_of l) xs) (l ∷ lines_by actor_of (actor_of l) (ls ++ all_owed phases))) none (subst (Fit (calls_of (actor_of l) es)) own (fit (actor_of l) actor)))

    -- the first entry, of some that answer a phase in which a line is
    first-entry : (start : List (Entry M E R W S)) (l : L) (ls : List L) → IsActor (actor_of l) → FitBy start (l ∷ ls) → (x : Entry M E R W S) × (rest : List (Entry M E R W S)) × (start ≡ x ∷ rest)
    first-entry [] l ls actor fit = absurd (subst (Fit []) (own-first actor_of (actor_of l) l ls (eq-eqb (actor_of l) (actor_of l) refl)) (fit (actor_of l) actor))
    first-entry (x ∷ rest) l ls actor fit = (x, rest, refl)

    fit-first : (es : List (Entry M E R W S)) (ls : List L) (e : Entry M E R W S) → Fit (e ∷ es) ls → (l : L) × (more : List L) × (ls ≡ l ∷ more) × (event_of l ≡ Some e.event) × Fit es more
    fit-first es [] e fit = absurd fit
    fit-first es (l ∷ more) e fit = (l, more, refl, fit.0, fit.1)

    own-entry : (a : ℕ) (e : Entry M E R W S) (es : List (Entry M E R W S)) → (e.caller == a) ≡ true → calls_of a (e ∷ es) ≡ e ∷ calls_of a es
    own-entry a e es own = ap (λ test. if test then e ∷ calls_of a es else calls_of a es) own

    other-entry : (a : ℕ) (e : Entry M E R W S) (es : List (Entry M E R W S)) → (e.caller == a) ≡ false → calls_of a (e ∷ es) ≡ calls_of a es
    other-entry a e es other = ap (λ test. if test then e ∷ calls_of a es else calls_of a es) other

    -- what fits behind the first entry, where it answers a line of the phase
    fit-behind : (e : Entry M E R W S) (es : List (Entry M E R W S)) (phase : List L) (l : L) (others rest : List L) → IsFirst actor_of e.caller phase l others
        → FitBy (e ∷ es) (phase ++ rest) → FitBy es (others ++ rest)
    fit-behind e es phase l others rest h fit b actor = subst (Fit (calls_of b es)) (sym (by-append actor_of b others rest)) (dite (ℕ_discrete b e.caller) own other)
      where
        here : Fit (calls_of b (e ∷ es)) (lines_by actor_of b phase ++ lines_by actor_of b rest)
        here = subst (Fit (calls_of b (e ∷ es))) (by-append actor_of b phase rest) (fit b actor)

        own : b ≡ e.caller → Fit (calls_of b es) (lines_by actor_of b others ++ lines_by actor_of b rest)
        own same =
            let entries = own-entry b e es (eq-eqb e.caller b (sym same)) in
            let lines : lines_by actor_of b phase ≡ l ∷ lines_by actor_of b others = subst (λ a. lines_by actor_of a phase ≡ l ∷ lines_by actor_of a others) (sym same) h.first in
            let both : Fit (e ∷ calls_of b es) ((l ∷ lines_by actor_of b others) ++ lines_by actor_of b rest) =
            subst (λ xs. Fit xs ((l ∷ lines_by actor_of b others) ++ lines_by actor_of b rest)) entries (subst (λ ls. Fit (calls_of b (e ∷ es)) (ls ++ lines_by actor_of b rest)) lines here) in
            both.1

        other : b ≢ e.caller → Fit (calls_of b es) (lines_by actor_of b others ++ lines_by actor_of b rest)
        other not =
            let entries = other-entry b e es (ne_eqb e.caller b (λ is. not (sym is))) in
            subst (λ xs. Fit xs (lines_by actor_of b others ++ lines_by actor_of b rest)) entries (subst (λ ls. Fit (calls_of b (e ∷ es)) (ls ++ lines_by actor_of b rest)) (sym (h.stay b not)) here)

    -- a beginning that fits a phase in which a line is has the first entry
    begins-with : (e : Entry M E R W S) (es : List (Entry M E R W S)) (l : L) (ls : List L) → IsActor (actor_of l) → (start : List (Entry M E R W S)) → IsPrefix start (e ∷ es) → FitBy start (l ∷ ls)
        → (rest : List (Entry M E R W S)) × IsPrefix rest es × FitBy (e ∷ rest) (l ∷ ls)
    begins-with e es l ls actor start prefix fit =
        let (x, rest, same) = first-entry start l ls actor fit in
        let (is, more) = prefix-behind x e rest es (subst (λ xs. IsPrefix xs (e ∷ es)) same prefix) in
        (rest, more, subst (λ y. FitBy (y ∷ rest) (l ∷ ls)) is (subst (λ xs. FitBy xs (l ∷ ls)) same fit))

    -- the first entry answers, and the others fit what is owed then
    record GoesOn (s : S) (owed : List (List L)) (e : Entry M E R W S) (es : List (Entry M E R W S)) : Type 0 where
      answer : Answer s owed e
      actors : AllRows (AllRows (λ l. IsActor (actor_of l))) (answer.others ∷ answer.later)
      fit : FitBy es (all_owed (answer.others ∷ answer.later))
      begins : (k : ℕ) → k ≤ length (answer.others ∷ answer.later) → BeginsBy es (answer.others ∷ answer.later) k

    goes-on : (s : S) (e : Entry M E R W S) (es : List (Entry M E R W S)) (owed : List (List L)) → e.reply ≡ reply s e.event → IsActor e.caller → AllRows (AllRows (λ l. IsActor (actor_of l))) owed
        → FitBy (e ∷ es) (all_owed owed) → ((k : ℕ) → k ≤ length owed → BeginsBy (e ∷ es) owed k) → GoesOn s owed e es
    goes-on s e es [] is caller actors fit begins =
        absurd (subst (λ xs. Fit xs []) (own-entry e.caller e es (eq-eqb e.caller e.caller refl)) (fit e.caller caller))
    goes-on s e es ([] ∷ phases) is caller (none, actors) fit begins =
        let more = goes-on s e es phases is caller actors fit (λ k low. begins (suc k) (omega (arith, low))) in
        let x = more.answer in
        record {
          answer = record { phase = x.phase; later = x.later; line = x.line; others = x.others; is_due = x.is_due; first = x.first; event = x.event; replied = x.replied };
          actors = more.actors;
          fit = more.fit;
          begins = more.begins;
        }
    goes-on s e es ((l ∷ ls) ∷ phases) is caller (all, actors) fit begins =
        let phase = l ∷ ls in
        let (start, prefix, fits) = begins 1 (omega arith) in
        let (rest, more, first_fits) = begins-with e es l (ls ++ []) all.0 start prefix fits in
        let (k, lines, by_caller, event, behind) = fit-first (calls_of e.caller rest) (lines_by actor_of e.caller (phase ++ [])) e
        (subst (λ xs. Fit xs (lines_by actor_of e.caller (phase ++ []))) (own-entry e.caller e rest (eq-eqb e.caller e.caller refl)) (first_fits e.caller caller)) in
        let own : lines_by actor_of e.caller phase ≡ k ∷ lines = subst (λ ks. lines_by actor_of e.caller ks ≡ k ∷ lines) (append-nil phase) by_caller in
        let (others, first) = some-first actor_of e.caller phase k lines own in
        let h = first-is actor_of e.caller phase k others first in
        record {
          answer = record { phase = phase; later = phases; line = k; others = others; is_due = refl; first = first; event = event; replied = is };
          actors = (others-hold actor_of (λ x. IsActor (actor_of x)) e.caller phase k others first all, actors);
          fit = fit-behind e es phase k others (all_owed phases) h fit;
          begins = later_begin others k h;
        }
      where
        later_begin : (others : List L) (k : L) → IsFirst actor_of e.caller (l ∷ ls) k others → (n : ℕ) → n ≤ length (others ∷ phases) → BeginsBy es (others ∷ phases) n
        later_begin others k h zero low = ([], (es, refl), λ a actor. tt)
        later_begin others k h (suc n) low =
            let (start, prefix, fits) = begins (suc n) low in
            let (rest, more, first_fits) = begins-with e es l (ls ++ all_owed (take n phases)) all.0 start prefix fits in
            (rest, more, fit-behind e rest (l ∷ ls) k others (all_owed (take n phases)) h first_fits)

    pub answers : (es : List (Entry M E R W S)) (s : S) (owed : List (List L)) → IsLegal after reply s es → AllRows (λ e. IsActor e.caller) es → AllRows (AllRows (λ l. IsActor (actor_of l))) owed
        → FitBy es (all_owed owed) → ((k : ℕ) → k ≤ length owed → BeginsBy es owed k) → Answers s owed es (state_after after s es)
    answers [] s owed legal callers actors fit begins = (none-owed [] owed refl actors fit, refl)
    answers (e ∷ es) s owed (is, legal) (caller, callers) actors fit begins =
        let g = goes-on s e es owed is caller actors fit begins in
        (g.answer, answers es (after s e.event) (g.answer.others ∷ g.answer.later) legal callers g.actors g.fit g.begins)

    -- ---- and back
    fit-front : (e : Entry M E R W S) (es : List (Entry M E R W S)) (phase : List L) (l : L) (others rest : List L) → IsFirst actor_of e.caller phase l others → event_of l ≡ Some e.event
        → FitBy es (others ++ rest) → FitBy (e ∷ es) (phase ++ rest)
    fit-front e es phase l others rest h event fit b actor = subst (Fit (calls_of b (e ∷ es))) (sym (by-append actor_of b phase rest)) (dite (ℕ_discrete b e.caller) own other)
      where
        here : Fit (calls_of b es) (lines_by actor_of b others ++ lines_by actor_of b rest)
        here = subst (Fit (calls_of b es)) (by-append actor_of b others rest) (fit b actor)

        own : b ≡ e.caller → Fit (calls_of b (e ∷ es)) (lines_by actor_of b phase ++ lines_by actor_of b rest)
        own same =
            let entries = own-entry b e es (eq-eqb e.caller b (sym same)) in
            let lines : lines_by actor_of b phase ≡ l ∷ lines_by actor_of b others = subst (λ a. lines_by actor_of a phase ≡ l ∷ lines_by actor_of a others) (sym same) h.first in
            subst (λ xs. Fit xs (lines_by actor_of b phase ++ lines_by actor_of b rest)) (sym entries) (subst (λ ls. Fit (e ∷ calls_of b es) (ls ++ lines_by actor_of b rest)) (sym lines) (event, here))

        other : b ≢ e.caller → Fit (calls_of b (e ∷ es)) (lines_by actor_of b phase ++ lines_by actor_of b rest)
        other not =
            let entries = other-entry b e es (ne_eqb e.caller b (λ is. not (sym is))) in
            subst (λ xs. Fit xs (lines_by actor_of b phase ++ lines_by actor_of b rest)) (sym entries) (subst (λ ls. Fit (calls_of b es) (ls ++ lines_by actor_of b rest)) (h.stay b not) here)

    -- entries that fit what is owed, from the first phase on
    record FitAll (es : List (Entry M E R W S)) (owed : List (List L)) : Type 0 where
      pub whole : FitBy es (all_owed owed)
      pub begins : (k : ℕ) → k ≤ length owed → BeginsBy es owed k

    begins-none : (es : List (Entry M E R W S)) (owed : List (List L)) → BeginsBy es owed zero
    begins-none es owed = ([], (es, refl), λ a actor. tt)

    fit-answer : (s : S) (e : Entry M E R W S) (es : List (Entry M E R W S)) (owed : List (List L)) (x : Answer s owed e) → FitAll es (x.others ∷ x.later) → FitAll (e ∷ es) owed
    fit-answer s e es [] x fit = absurd (let due = x.is_due in cc (due))
    fit-answer s e es ([] ∷ phases) x fit =
        let y : Answer s phases e = record { phase = x.phase; later = x.later; line = x.line; others = x.others; is_due = x.is_due; first = x.first; event = x.event; replied = x.replied } in
        let more = fit-answer s e es phases y fit in
        record { whole = more.whole; begins = from more.begins }
      where
        from : ((k : ℕ) → k ≤ length phases → BeginsBy (e ∷ es) phases k) → (k : ℕ) → k ≤ length ([] ∷ phases) → BeginsBy (e ∷ es) ([] ∷ phases) k
        from begins zero low = begins-none (e ∷ es) ([] ∷ phases)
        from begins (suc k) low = begins k (omega (arith, low))
    fit-answer s e es ((l ∷ ls) ∷ phases) x fit = of_phase x.phase x.later x.is_due x.first fit
      where
        of_phase : (phase : List L) (later : List (List L)) → (l ∷ ls) ∷ phases ≡ phase ∷ later → first_by actor_of e.caller phase ≡ Some (x.line, x.others) → FitAll es (x.others ∷ later) → FitAll (e ∷ es) ((l ∷ ls) ∷ phases)
        of_phase phase later same first given =
            let same_phase : phase ≡ l ∷ ls = cc (same) in
            let same_later : later ≡ phases = cc (same) in
            let h = first-is actor_of e.caller (l ∷ ls) x.line x.others (subst (λ p. first_by actor_of e.caller p ≡ Some (x.line, x.others)) same_phase first) in
            let here = subst (λ ps. FitAll es (x.others ∷ ps)) same_later given in
            record { whole = fit-front e es (l ∷ ls) x.line x.others (all_owed phases) h x.event here.whole; begins = from h here.begins }
          where
            from : IsFirst actor_of e.caller (l ∷ ls) x.line x.others → ((k : ℕ) → k ≤ length (x.others ∷ phases) → BeginsBy es (x.others ∷ phases) k) → (k : ℕ) → k ≤ length ((l ∷ ls) ∷ phases) → BeginsBy (e ∷ es) ((l ∷ ls) ∷ phases) k
            from h begins zero low = begins-none (e ∷ es) ((l ∷ ls) ∷ phases)
            from h begins (suc k) low =
                let (start, prefix, fits) = begins (suc k) low in
                (e ∷ start, (prefix.0, ap (λ xs. e ∷ xs) prefix.1), fit-front e start (l ∷ ls) x.line x.others (all_owed (take k phases)) h x.event fits)

    -- what answers all that is owed
    pub record IsWhole (s : S) (owed : List (List L)) (es : List (Entry M E R W S)) (t : S) : Type 0 where
      pub legal : IsLegal after reply s es
      pub state : t ≡ state_after after s es
      pub callers : AllRows (λ e. IsActor e.caller) es
      pub whole : FitBy es (all_owed owed)
      pub begins : (k : ℕ) → k ≤ length owed → BeginsBy es owed k

    nothing-fits : (es : List (Entry M E R W S)) (owed : List (List L)) → es ≡ [] → due owed ≡ [] → FitAll es owed
    nothing-fits es [] none is = record { whole = λ a actor. subst (λ (xs : List (Entry M E R W S)). Fit (calls_of a xs) []) (sym none) tt; begins = λ k low. only k low }
      where
        only : (k : ℕ) → k ≤ 0 → BeginsBy es [] k
        only zero low = begins-none es []
        only (suc k) low = absurd (omega arith)
    nothing-fits es ([] ∷ phases) none is =
        let more = nothing-fits es phases none is in
        record { whole = more.whole; begins = from more.begins }
      where
        from : ((k : ℕ) → k ≤ length phases → BeginsBy es phases k) → (k : ℕ) → k ≤ length ([] ∷ phases) → BeginsBy es ([] ∷ phases) k
        from begins zero low = begins-none es ([] ∷ phases)
        from begins (suc k) low = begins k (omega (arith, low))
    nothing-fits es ((l ∷ ls) ∷ phases) none is = absurd (cc (is))

    pub answers-whole : (es : List (Entry M E R W S)) (s : S) (owed : List (List L)) (t : S) → AllRows (AllRows (λ l. IsActor (actor_of l))) owed → Answers s owed es t → IsWhole s owed es t
    answers-whole [] s owed t actors (none, same) =
        let fit = nothing-fits [] owed refl none in
        record { legal = tt; state = same; callers = tt; whole = fit.whole; begins = fit.begins }
    answers-whole (e ∷ es) s owed t actors (x, rest) =
        let due_actors = subst (AllRows (AllRows (λ l. IsActor (actor_of l)))) x.is_due (due-hold (λ l. IsActor (actor_of l)) owed actors) in
        let others = others-hold actor_of (λ l. IsActor (actor_of l)) e.caller x.phase x.line x.others x.first due_actors.0 in
        let here = first-holds actor_of (λ l. IsActor (actor_of l)) e.caller x.phase x.line x.others x.first due_actors.0 in
        let own = (first-is actor_of e.caller x.phase x.line x.others x.first).own in
        let more = answers-whole es (after s e.event) (x.others ∷ x.later) t (others, due_actors.1) rest in
        let fit = fit-answer s e es owed x (record { whole = more.whole; begins = more.begins }) in
        record { legal = (x.replied, more.legal); state = more.state; callers = (subst IsActor own here, more.callers); whole = fit.whole; begins = fit.begins }
