-- The reader of a journal takes exactly the lines of entries that answer what is owed.
use Rattle.line_readers.proofs.Common.{[], ℕ, ◌+◌, ◌∙◌, ◌∷◌, ◌≡◌, ◌≤◌, AllRows, ap, arith, behind, Bool, Bytes, bytes_eq, bytes_eq-Decides, done, due, Entry, entry, eq-eqb, false, first_by, how_many, if_shown, if◌then◌else◌, IsLive}
use Rattle.line_readers.proofs.Common.{IsOneLine, journal, length, List, mapped, next_of, None, of_event, of_first, one_more, Option, Reader, refl, same_Some, shown, Some, subst, suc, sym, takes, true, with_entry, with_others, zero}
use Rattle.line_readers.proofs.{Answers.Answers, Owed.{Due, nothing, some, is-due, due-many, due-hold, first-is, first-holds, others-hold}, Taking.Takes}
use Rattle.std.specs.Option.{is_some}

-- ---- a reader whose value is made from another's
pub mapped-takes : {A B : Type 0} (f : A → B) (r : Reader A) (ls : List Bytes) (a : A) → Takes r ls a → Takes (mapped f r) ls (f a)
mapped-takes f (done a) [] b is = ap f is
mapped-takes f (done a) (l ∷ ls) b is = absurd is
mapped-takes f (takes p go) [] b is = absurd is
mapped-takes f (takes p go) (l ∷ ls) b (may, is) = (may, mapped-takes f (go l) ls b is)

pub takes-mapped : {A B : Type 0} (f : A → B) (r : Reader A) (ls : List Bytes) (b : B) → Takes (mapped f r) ls b → (a : A) × Takes r ls a × (b ≡ f a)
takes-mapped f (done a) [] b is = (a, refl, sym is)
takes-mapped f (done a) (l ∷ ls) b is = absurd is
takes-mapped f (takes p go) [] b is = absurd is
takes-mapped f (takes p go) (l ∷ ls) b (may, is) = let (a, more, same) = takes-mapped f (go l) ls b is in (a, (may, more), same)

pub mapped-live : {A B : Type 0} (f : A → B) (r : Reader A) → IsLive r → IsLive (mapped f r)
mapped-live f (done a) live = tt
mapped-live f (takes p go) (first, live) = (first, λ l may. let (one, more) = live l may in (one, mapped-live f (go l) more))

module _ {M E R W S L : Type 0} (after : S → E → S) (reply : S → E → R) (actor_of : L → ℕ) (event_of : L → Option E)
    (caller_in : ℕ → Bytes → Option ℕ) (print : ℕ → Entry M E R W S → Bytes) where
  -- the lines of entries, numbered from k on
  abbrev pub lines_from : ℕ → List (Entry M E R W S) → List Bytes
  lines_from k [] = []
  lines_from k (e ∷ es) = print k e ∷ lines_from (k + 1) es

  -- what is asked of the lines: whose call a line shows is told by the line
  abbrev pub TellsCallers : (ℕ → Type 0) → Type 0
  TellsCallers IsActor = (k : ℕ) (e : Entry M E R W S) → IsActor e.caller → caller_in k (print k e) ≡ Some e.caller

  -- ---- one line
  shown-entry : (k : ℕ) (s : S) (phase : List L) (e : Entry M E R W S) (l : L) (others : List L) → caller_in k (print k e) ≡ Some e.caller → first_by actor_of e.caller phase ≡ Some (l, others) → event_of l ≡ Some e.event
      → e.reply ≡ reply s e.event → shown after reply actor_of event_of caller_in print k s phase (print k e) ≡ Some (e, others)
  shown-entry k s phase e l others tells first event replied =
      let is_next : next_of after reply actor_of event_of caller_in print s phase (caller_in k (print k e)) ≡ Some (e, others) = rw (tells, first, event, ← replied) refl in
      rw (is_next, (bytes_eq-Decides (print k e) (print k e)).1 refl) refl

  -- what a line shows is an answer
  record Shows (k : ℕ) (s : S) (phase : List L) (line : Bytes) (x : Entry M E R W S × List L) : Type 0 where
    printed : line ≡ print k x.0
    script : L
    first : first_by actor_of x.0.caller phase ≡ Some (script, x.1)
    event : event_of script ≡ Some x.0.event
    replied : x.0.reply ≡ reply s x.0.event

  -- a candidate that the line shows
  shows-candidate : (k : ℕ) (s : S) (phase : List L) (line : Bytes) (y x : Entry M E R W S × List L) (l : L) → first_by actor_of y.0.caller phase ≡ Some (l, y.1) → event_of l ≡ Some y.0.event → y.0.reply ≡ reply s y.0.event
      → (test : Bool) → bytes_eq line (print k y.0) ≡ test → (if test then Some y else None) ≡ Some x → Shows k s phase line x
  shows-candidate k s phase line y x l first event replied true equal is =
      subst (Shows k s phase line) (same_Some y x is) (record { printed = (bytes_eq-Decides line (print k y.0)).0 equal; script = l; first = first; event = event; replied = replied })
  shows-candidate k s phase line y x l first event replied false equal is = absurd (cc (is))

  abbrev of_candidate : ℕ → Bytes → Option (Entry M E R W S × List L) → Option (Entry M E R W S × List L)
  of_candidate k line o = if_shown after reply actor_of event_of caller_in print k line o

  shows : (k : ℕ) (s : S) (phase : List L) (line : Bytes) (x : Entry M E R W S × List L) → shown after reply actor_of event_of caller_in print k s phase line ≡ Some x → Shows k s phase line x
  shows k s phase line x is = by_caller (caller_in k line) is
    where
      by_event : (a : ℕ) (l : L) (others : List L) → first_by actor_of a phase ≡ Some (l, others) → (o : Option E) → event_of l ≡ o → of_candidate k line (of_event after reply actor_of event_of caller_in print s a others o) ≡ Some x → Shows k s phase line x
      by_event a l others first None event is = absurd (cc (is))
      by_event a l others first (Some e) event is = shows-candidate k s phase line (entry a e (reply s e), others) x l first event refl (bytes_eq line (print k (entry a e (reply s e)))) refl is

      by_first : (a : ℕ) (o : Option (L × List L)) → first_by actor_of a phase ≡ o → of_candidate k line (of_first after reply actor_of event_of caller_in print s a o) ≡ Some x → Shows k s phase line x
      by_first a None first is = absurd (cc (is))
      by_first a (Some p) first is = by_event a p.0 p.1 first (event_of p.0) refl is

      by_caller : (o : Option ℕ) → of_candidate k line (next_of after reply actor_of event_of caller_in print s phase o) ≡ Some x → Shows k s phase line x
      by_caller None is = absurd (cc (is))
      by_caller (Some a) is = by_first a (first_by actor_of a phase) refl is

  -- ---- the whole journal
  abbrev the_journal : ℕ → ℕ → S → List (List L) → Reader (List (Entry M E R W S) × S)
  the_journal n k s owed = journal after reply actor_of event_of caller_in print n k s owed

  abbrev OneMore : ℕ → ℕ → S → List (List L) → Reader (List (Entry M E R W S) × S)
  OneMore n k s owed = one_more after reply actor_of event_of caller_in print k (λ t more. the_journal n (k + 1) t more) s owed

  few-others : (a : ℕ) (owed : List (List L)) (phase : List L) (later : List (List L)) (l : L) (others : List L) → due owed ≡ phase ∷ later → first_by actor_of a phase ≡ Some (l, others) → how_many owed ≡ suc (how_many (others ∷ later))
  few-others a owed phase later l others is first =
      let same : how_many owed ≡ length phase + how_many later = sym (due-many owed) ∙ ap how_many is in
      let fewer = (first-is actor_of a phase l others first).fewer in
      omega (arith, same, fewer)

  pub journal-takes : (IsActor : ℕ → Type 0) → ((k : ℕ) (e : Entry M E R W S) → IsActor e.caller → caller_in k (print k e) ≡ Some e.caller)
      → (n k : ℕ) (s : S) (owed : List (List L)) (es : List (Entry M E R W S)) (t : S) → how_many owed ≤ n → AllRows (λ e. IsActor e.caller) es
      → Answers after reply actor_of event_of s owed es t → Takes (the_journal n k s owed) (lines_from k es) (es, t)
  journal-takes IsActor tells zero k s owed [] t few callers (none, same) = ap (λ m. ([], m)) (sym same)
  journal-takes IsActor tells zero k s owed (e ∷ es) t few callers (x, rest) =
      let more = few-others e.caller owed x.phase x.later x.line x.others x.is_due x.first in
      absurd (omega (arith, more, few))
  journal-takes IsActor tells (suc n) k s owed [] t few callers (none, same) =
      subst (λ o. Takes (OneMore n k s o) [] ([], t)) (sym none) (ap (λ m. ([], m)) (sym same))
  journal-takes IsActor tells (suc n) k s owed (e ∷ es) t few (caller, callers) (x, rest) =
      let more = few-others e.caller owed x.phase x.later x.line x.others x.is_due x.first in
      let here = shown-entry k s x.phase e x.line x.others (tells k e caller) x.first x.event x.replied in
      let go : S → List (List L) → Reader (List (Entry M E R W S) × S) = λ u ps. the_journal n (k + 1) u ps in
      let there = journal-takes IsActor tells n (k + 1) (after s e.event) (x.others ∷ x.later) es t (omega (arith, more, few)) callers rest in
      let behind_it = mapped-takes (with_entry after reply actor_of event_of caller_in print e) (go (after s e.event) (x.others ∷ x.later)) (lines_from (k + 1) es) (es, t) there in
      subst (λ o. Takes (OneMore n k s o) (lines_from k (e ∷ es)) (e ∷ es, t)) (sym x.is_due)
      (subst (λ o. (is_some o ≡ true) × Takes (behind after reply actor_of event_of caller_in print go s x.later o) (lines_from (k + 1) es) (e ∷ es, t)) (sym here) (refl, behind_it))

  some_is : {X : Type 0} (o : Option X) → is_some o ≡ true → (x : X) × (o ≡ Some x)
  some_is None is = absurd (cc (is))
  some_is (Some x) is = (x, refl)

  nothing-due : (owed : List (List L)) → how_many owed ≤ 0 → due owed ≡ []
  nothing-due owed few = by (is-due owed)
    where
      by : Due owed → due owed ≡ []
      by (nothing none) = none
      by (some l ls later is) = let same = sym (due-many owed) ∙ ap how_many is in absurd (omega (arith, same, few))

  -- what the reader takes are the lines of entries that answer
  pub record IsJournal (k : ℕ) (s : S) (owed : List (List L)) (ls : List Bytes) (made : List (Entry M E R W S) × S) : Type 0 where
    pub lines : ls ≡ lines_from k made.0
    pub answers : Answers after reply actor_of event_of s owed made.0 made.1

  no-entry : (k : ℕ) (s : S) (owed : List (List L)) (ls : List Bytes) (made : List (Entry M E R W S) × S) → due owed ≡ [] → Takes (done ([], s)) ls made → IsJournal k s owed ls made
  no-entry k s owed [] made none is = subst (IsJournal k s owed []) is (record { lines = refl; answers = (none, refl) })
  no-entry k s owed (l ∷ ls) made none is = absurd is

  with-answer : (k : ℕ) (s : S) (owed : List (List L)) (phase : List L) (later : List (List L)) (line : Bytes) (ls : List Bytes) (x : Entry M E R W S × List L) (made : List (Entry M E R W S) × S)
      → due owed ≡ phase ∷ later → Shows k s phase line x → IsJournal (k + 1) (after s x.0.event) (x.1 ∷ later) ls made → IsJournal k s owed (line ∷ ls) (x.0 ∷ made.0, made.1)
  with-answer k s owed phase later line ls x made is h more = record {
    lines = ap (λ l. l ∷ ls) h.printed ∙ ap (λ xs. print k x.0 ∷ xs) more.lines;
    answers = (record { phase = phase; later = later; line = h.script; others = x.1; is_due = is; first = h.first; event = h.event; replied = h.replied }, more.answers);
  }

  pub takes-journal : (n k : ℕ) (s : S) (owed : List (List L)) (ls : List Bytes) (made : List (Entry M E R W S) × S) → how_many owed ≤ n → Takes (the_journal n k s owed) ls made → IsJournal k s owed ls made
  takes-journal zero k s owed ls made few is = no-entry k s owed ls made (nothing-due owed few) is
  takes-journal (suc n) k s owed ls made few is = by (is-due owed) ls is (λ u ps rest m low went. takes-journal n (k + 1) u ps rest m low went)
    where
      Later : Type 0
      Later = (u : S) (ps : List (List L)) (rest : List Bytes) (m : List (Entry M E R W S) × S) → how_many ps ≤ n → Takes (the_journal n (k + 1) u ps) rest m → IsJournal (k + 1) u ps rest m

      by_line : (phase : List L) (later : List (List L)) (line : Bytes) (rest : List Bytes) → due owed ≡ phase ∷ later → Later → (x : Entry M E R W S × List L) → shown after reply actor_of event_of caller_in print k s phase line ≡ Some x
          → Takes (behind after reply actor_of event_of caller_in print (λ u ps. the_journal n (k + 1) u ps) s later (Some x)) rest made → IsJournal k s owed (line ∷ rest) made
      by_line phase later line rest due_is more x here went =
          let h = shows k s phase line x here in
          let fewer = few-others x.0.caller owed phase later h.script x.1 due_is h.first in
          let (m, taken_then, same) = takes-mapped (with_entry after reply actor_of event_of caller_in print x.0) (the_journal n (k + 1) (after s x.0.event) (x.1 ∷ later)) rest made went in
          subst (IsJournal k s owed (line ∷ rest)) (sym same) (with-answer k s owed phase later line rest x m due_is h (more (after s x.0.event) (x.1 ∷ later) rest m (omega (arith, fewer, few)) taken_then))

      by : Due owed → (lines : List Bytes) → Takes (the_journal (suc n) k s owed) lines made → Later → IsJournal k s owed lines made
      by (nothing none) lines went more = no-entry k s owed lines made none (subst (λ o. Takes (OneMore n k s o) lines made) none went)
      by (some l ls later due_is) [] went more = absurd (subst (λ o. Takes (OneMore n k s o) [] made) due_is went)
      by (some l ls later due_is) (line ∷ rest) went more =
          let here = subst (λ o. Takes (OneMore n k s o) (line ∷ rest) made) due_is went in
          let (x, is_x) = some_is (shown after reply actor_of event_of caller_in print k s (l ∷ ls) line) here.0 in
          by_line (l ∷ ls) later line rest due_is more x is_x (subst (λ o. Takes (behind after reply actor_of event_of caller_in print (λ u ps. the_journal n (k + 1) u ps) s later o) rest made) is_x here.1)

  -- ---- it goes on
  -- what is known of each line that is owed, where machines keep to some states by some events
  module _ (IsActor : ℕ → Type 0) (Kept : S → Type 0) (Good : E → Type 0) (keeps : (s : S) (e : E) → Kept s → Good e → Kept (after s e))
      (one-line : (k a : ℕ) (s : S) (e : E) → IsActor a → Kept s → Good e → IsOneLine (print k (entry a e (reply s e))))
      (tells : (k : ℕ) (e : Entry M E R W S) → IsActor e.caller → caller_in k (print k e) ≡ Some e.caller) where
    pub record IsGood (l : L) : Type 0 where
      pub actor : IsActor (actor_of l)
      pub event : E
      pub is : event_of l ≡ Some event
      pub good : Good event

    good-event : (l : L) (e : E) → IsGood l → event_of l ≡ Some e → Good e
    good-event l e g is = subst Good (same_Some g.event e (sym g.is ∙ is)) g.good

    pub journal-live : (n k : ℕ) (s : S) (owed : List (List L)) → Kept s → AllRows (AllRows IsGood) owed → IsLive (the_journal n k s owed)
    journal-live zero k s owed kept good = tt
    journal-live (suc n) k s owed kept good = by (is-due owed) (λ t ps kept_t good_ps. journal-live n (k + 1) t ps kept_t good_ps)
      where
        Later : Type 0
        Later = (t : S) (ps : List (List L)) → Kept t → AllRows (AllRows IsGood) ps → IsLive (the_journal n (k + 1) t ps)

        some-line : (l : L) (ls : List L) → IsGood l → (line : Bytes) × (is_some (shown after reply actor_of event_of caller_in print k s (l ∷ ls) line) ≡ true)
        some-line l ls g =
            let e : Entry M E R W S = entry (actor_of l) g.event (reply s g.event) in
            let first : first_by actor_of (actor_of l) (l ∷ ls) ≡ Some (l, ls) = ap (λ test. if test then Some (l, ls) else with_others actor_of l (first_by actor_of (actor_of l) ls)) (eq-eqb (actor_of l) (actor_of l) refl) in
            (print k e, ap is_some (shown-entry k s (l ∷ ls) e l ls (tells k e g.actor) first g.is refl))

        each-line : (phase : List L) (later : List (List L)) → AllRows IsGood phase → AllRows (AllRows IsGood) later → Later → (line : Bytes) (x : Entry M E R W S × List L) → Shows k s phase line x
            → IsOneLine line × IsLive (behind after reply actor_of event_of caller_in print (λ t ps. the_journal n (k + 1) t ps) s later (Some x))
        each-line phase later all more go line x h =
            let g = first-holds actor_of IsGood x.0.caller phase h.script x.1 h.first all in
            let others = others-hold actor_of IsGood x.0.caller phase h.script x.1 h.first all in
            let own = (first-is actor_of x.0.caller phase h.script x.1 h.first).own in
            let event = good-event h.script x.0.event g h.event in
            let entry_is : entry x.0.caller x.0.event (reply s x.0.event) ≡ x.0 = ap (λ r. entry x.0.caller x.0.event r) (sym h.replied) in (
              subst IsOneLine (ap (print k) entry_is ∙ sym h.printed) (one-line k x.0.caller s x.0.event (subst IsActor own g.actor) kept event),
              mapped-live (with_entry after reply actor_of event_of caller_in print x.0) (the_journal n (k + 1) (after s x.0.event) (x.1 ∷ later)) (go (after s x.0.event) (x.1 ∷ later) (keeps s x.0.event kept event) (others, more)),
            )

        by : Due owed → Later → IsLive (the_journal (suc n) k s owed)
        by (nothing none) go = subst (λ o. IsLive (OneMore n k s o)) (sym none) tt
        by (some l ls later due_is) go =
            let all = subst (AllRows (AllRows IsGood)) due_is (due-hold IsGood owed good) in
            subst (λ o. IsLive (OneMore n k s o)) (sym due_is) (
              some-line l ls all.0.0,
              λ line may.
                  let (x, is_x) = some_is (shown after reply actor_of event_of caller_in print k s (l ∷ ls) line) may in
                  subst (λ o. IsOneLine line × IsLive (behind after reply actor_of event_of caller_in print (λ t ps. the_journal n (k + 1) t ps) s later o)) (sym is_x)
                  (each-line (l ∷ ls) later all.0 all.1 go line x (shows k s (l ∷ ls) line x is_x)),
            )
