-- A line of a journal, right or wrong.
use Rattle.std.proofs.Common.{◌≡◌, ℕ, ◌+◌, ◌<◌, ◌≤◌, ◌==◌, Bool, true, false, List, [], ◌∷◌, ◌++◌, length, Option, Some, None, length-append, refl, sym, ap, ◌∙◌, subst, arith, if◌then◌else◌, option_map}
use Rattle.audit_model.proofs.Common.{by-test, actor_of, ActorDecl, AreTurns, Asked, begins, behind_them, Bytes, caller_from, caller_in, ended, Entry, entry, File, first-is, first_by, Followed, followed, FollowedBy, front_of, GrowsTo, IsActor, IsAuditable, IsOneLine, Journaled, left_of, line_start, LineJudged, next_of, one_taken, queue_of, Reaches, rest, rest-differs, rest-line, rest-wrong, rest_journal, same_front, same_Some, shown, StopsAt}
use Rattle.audit_model.proofs.Callers.{caller-of-first}
use Rattle.line_followers.proofs.JournalLines.{caller-none, event-none, first-none}
use Rattle.line_followers.proofs.Turns.{IsTurn, turn-none, turn-taken}

-- ---- a caller that is found is an actor
caller-range : (f : File) (k : ℕ) (text : Bytes) (a c : ℕ) (ds : List ActorDecl) → caller_from f k text a ds ≡ Some c → (a ≤ c) × (c < a + length ds)
caller-range f k text a c [] is = absurd (cc (is))
caller-range f k text a c (d ∷ ds) is =
    by-test (λ b. (if b then Some a else caller_from f k text (a + 1) ds) ≡ Some c → (a ≤ c) × (c < a + length (d ∷ ds))) (begins (line_start f k a) text)
    (λ here same. let equal : a ≡ c = cc (same) in (omega (arith, equal), omega (arith, equal)))
    (λ not same. let (low, high) = caller-range f k text (a + 1) c ds same in (omega (arith, low), omega (arith, high))) is

caller-actor : (f : File) (k : ℕ) (text : Bytes) (a : ℕ) → caller_in f k text ≡ Some a → IsActor f a × (a < length f.actors + 1)
caller-actor f k text a is = let (low, high) = caller-range f k text 1 a f.actors is in ((low, omega (arith, high)), omega (arith, high))

-- the actor whose next line is shown
pub next-is : (queues : List (List Asked)) (o : Option ℕ) (a : ℕ) (c : Asked) → next_of queues o ≡ Some (a, c) → (o ≡ Some a) × (cs : List Asked) × (queue_of queues a ≡ c ∷ cs)
next-is queues None a c is = absurd (cc (is))
next-is queues (Some b) a c is = by (queue_of queues b) refl is
  where
    by : (queue : List Asked) → queue_of queues b ≡ queue → option_map {U = ℕ × Asked} (λ l. (b, l)) (front_of queue) ≡ Some (a, c) → (Some b ≡ Some a) × (cs : List Asked) × (queue_of queues a ≡ c ∷ cs)
    by [] at none = absurd (cc (none))
    by (x ∷ xs) at some =
        let pair : (b, x) ≡ (a, c) = same_Some (b, x) (a, c) some in
        let actor : b ≡ a = ap (λ (p : ℕ × Asked). p.0) pair in
        let first : x ≡ c = ap (λ (p : ℕ × Asked). p.1) pair in
        (ap Some actor, xs, subst (λ n. queue_of queues n ≡ c ∷ xs) actor (at ∙ ap (λ y. y ∷ xs) first))

-- what is asked of a journal so that its lines can be judged: the first line of an actor is the same to it, an entry whose state and event are such
-- stands in one line and tells its caller, and a line feed ends what is printed
pub record IsReadable {M E R W S L C : Type 0} (Kept : S → Type 0) (Good : E → Type 0) (j : Journaled M E R W S L C) : Type 0 where
  pub first : (a : ℕ) (phase : List Asked) (c : Asked) (others : List Asked) → first_by actor_of a phase ≡ Some (c, others) → first_by j.actor a (j.lines phase) ≡ Some (j.line c, j.lines others)
  pub none : (a : ℕ) (phase : List Asked) → first_by actor_of a phase ≡ None → first_by j.actor a (j.lines phase) ≡ None
  pub some : (phase : List Asked) → 0 < length phase → 0 < length (j.lines phase)
  pub one : (k a : ℕ) (s : S) (e : E) → IsActor j.file a → Kept s → Good e → IsOneLine (j.shown k (entry a e (j.reply s e)))
  pub tells : (k : ℕ) (e : Entry M E R W S) → IsActor j.file e.caller → caller_in j.file k (j.shown k e) ≡ Some e.caller
  pub ends : (k : ℕ) (e : Entry M E R W S) → j.printed k e ≡ j.shown k e ++ 10 ∷ []

module _ {M E R W S L C : Type 0} {Kept : S → Type 0} {Good : E → Type 0} (j : Journaled M E R W S L C) (auditable : IsAuditable j.file) (h : IsReadable Kept Good j) where
  abbrev next_place : C → ℕ
  next_place c = length (j.journal c) + 1

  -- the caller that the first line shows
  shows-caller : (from : C) (old : Followed) (o : Option ℕ) → caller_in j.file (next_place from) (left_of old) ≡ o → (m : Bytes) (rest : List Bytes) → ended (left_of old) ≡ m ∷ rest → caller_in j.file (next_place from) m ≡ o
  shows-caller from old o is m rest there = caller-of-first j.file auditable (next_place from) (left_of old) m rest there ∙ is

  abbrev entry_by : C → ℕ → E → Entry M E R W S
  entry_by from a e = entry a e (j.reply (j.machine from) e)

  abbrev line_by : C → ℕ → E → Bytes
  line_by from a e = j.shown (next_place from) (entry_by from a e)

  -- it makes its next call, and the line of it stands there
  stands-there : (from to : C) (old : Followed) (phase : List Asked) (a : ℕ) (c : Asked) (others : List Asked) (e : E)
      → IsActor j.file a → Kept (j.machine from) → Good e → first_by actor_of a phase ≡ Some (c, others) → j.event (j.line c) ≡ Some e
      → j.machine to ≡ j.after (j.machine from) e → j.journal to ≡ j.journal from ++ entry_by from a e ∷ []
      → (same_front (line_by from a e ++ 10 ∷ []) (left_of old) == length (line_by from a e ++ 10 ∷ [])) ≡ true
      → GrowsTo j from old to (followed (line_by from a e ++ 10 ∷ []) old) (λ later. j.lines phase ∷ later) (λ later. j.lines others ∷ later)
  stands-there from to old phase a c others e actor kept good first event machine journal stands =
      let made = entry_by from a e in
      let new = followed (line_by from a e ++ 10 ∷ []) old in
      let longer : length (j.journal to) + 1 ≡ next_place from + 1 = ap (λ (es : List (Entry M E R W S)). length es + 1) journal ∙ ap (λ n. n + 1) (length-append (j.journal from) (made ∷ [])) in (
        made ∷ [],
        journal,
        λ later.
            subst (λ n. Reaches (rest j from (j.lines phase ∷ later)) old (rest_journal j.after j.reply j.actor j.event (caller_in j.file) j.shown n (j.machine to) (j.lines others ∷ later)) new (behind_them j (made ∷ [])))
            (sym longer)
            (subst (λ s. Reaches (rest j from (j.lines phase ∷ later)) old (rest_journal j.after j.reply j.actor j.event (caller_in j.file) j.shown (next_place from + 1) s (j.lines others ∷ later)) new (behind_them j (made ∷ [])))
            (sym machine)
            (rest-line j.after j.reply j.actor j.event (caller_in j.file) j.shown (next_place from) (j.machine from) (j.lines phase) later a (j.line c) (j.lines others) e old (line_by from a e)
            refl (h.one (next_place from) a (j.machine from) e actor kept good) (h.tells (next_place from) made actor) (h.first a phase c others first) event stands)),
      )

  -- or another one does
  differs-there : (from : C) (old : Followed) (phase : List Asked) (a : ℕ) (c : Asked) (others : List Asked) (e : E)
      → IsActor j.file a → Kept (j.machine from) → Good e → caller_in j.file (next_place from) (left_of old) ≡ Some a → first_by actor_of a phase ≡ Some (c, others) → j.event (j.line c) ≡ Some e
      → (same_front (line_by from a e ++ 10 ∷ []) (left_of old) == length (line_by from a e ++ 10 ∷ [])) ≡ false
      → StopsAt j from old (followed (line_by from a e ++ 10 ∷ []) old) (λ later. j.lines phase ∷ later)
  differs-there from old phase a c others e actor kept good caller first event not later =
      rest-differs j.after j.reply j.actor j.event (caller_in j.file) j.shown (next_place from) (j.machine from) (j.lines phase) later a (j.line c) (j.lines others) e old (line_by from a e)
      refl (h.one (next_place from) a (j.machine from) e actor kept good) (shows-caller from old (Some a) caller) (h.first a phase c others first) event not

  pub line-judged : (from to : C) (old new : Followed) (queues : List (List Asked)) (phase : List Asked) (a : ℕ) (c : Asked) (e : E) (stands : Bool)
      → Kept (j.machine from) → Good e → next_of queues (caller_in j.file (next_place from) (left_of old)) ≡ Some (a, c) → AreTurns actor_of (length j.file.actors) queues phase → j.event (j.line c) ≡ Some e
      → j.machine to ≡ j.after (j.machine from) e → j.journal to ≡ j.journal from ++ entry_by from a e ∷ []
      → FollowedBy (j.printed (next_place from) (entry_by from a e)) old new stands
      → LineJudged j from old to new (one_taken a queues) phase stands
  line-judged from to old new queues phase a c e stands kept good next turns event machine journal (moved, told) =
      let (caller, cs, queue) = next-is queues (caller_in j.file (next_place from) (left_of old)) a c next in
      let (actor, within) = caller-actor j.file (next_place from) (left_of old) a caller in
      let turn = turn-taken actor_of (length j.file.actors) a queues phase c cs within turns queue in
      let piece : j.printed (next_place from) (entry_by from a e) ≡ line_by from a e ++ 10 ∷ [] = h.ends (next_place from) (entry_by from a e) in
      by stands (subst (λ p. new ≡ followed p old) piece moved) (subst (λ p. stands ≡ (same_front p (left_of old) == length p)) piece told) turn actor caller
    where
      by : (test : Bool) → new ≡ followed (line_by from a e ++ 10 ∷ []) old → test ≡ (same_front (line_by from a e ++ 10 ∷ []) (left_of old) == length (line_by from a e ++ 10 ∷ []))
          → IsTurn actor_of (length j.file.actors) a queues phase c → IsActor j.file a → caller_in j.file (next_place from) (left_of old) ≡ Some a → LineJudged j from old to new (one_taken a queues) phase test
      by true moved told turn actor caller = (
        turn.others,
        (first-is actor_of a phase c turn.others turn.first).fewer,
        turn.turns,
        subst (λ s. GrowsTo j from old to s (λ later. j.lines phase ∷ later) (λ later. j.lines turn.others ∷ later)) (sym moved)
            (stands-there from to old phase a c turn.others e actor kept good turn.first event machine journal (sym told)),
      )
      by false moved told turn actor caller =
          subst (λ s. StopsAt j from old s (λ later. j.lines phase ∷ later)) (sym moved) (differs-there from old phase a c turn.others e actor kept good caller turn.first event (sym told))

  -- ---- no line may stand there
  wrong-there : (from : C) (old : Followed) (phase : List Asked) → 0 < length phase
      → ((m : Bytes) (rest : List Bytes) → ended (left_of old) ≡ m ∷ rest → shown j.after j.reply j.actor j.event (caller_in j.file) j.shown (next_place from) (j.machine from) (j.lines phase) m ≡ None)
      → StopsAt j from old old (λ later. j.lines phase ∷ later)
  wrong-there from old phase some none later =
      rest-wrong j.after j.reply j.actor j.event (caller_in j.file) j.shown (next_place from) (j.machine from) (j.lines phase) later (h.some phase some) old none

  without-caller : (from : C) (old : Followed) (phase : List Asked) → 0 < length phase → caller_in j.file (next_place from) (left_of old) ≡ None → StopsAt j from old old (λ later. j.lines phase ∷ later)
  without-caller from old phase some none =
      wrong-there from old phase some (λ m rest is. caller-none j.after j.reply j.actor j.event (caller_in j.file) j.shown (next_place from) (j.machine from) (j.lines phase) m (shows-caller from old None none m rest is))

  without-turn : (from : C) (old : Followed) (queues : List (List Asked)) (phase : List Asked) (a : ℕ) → 0 < length phase → caller_in j.file (next_place from) (left_of old) ≡ Some a
      → AreTurns actor_of (length j.file.actors) queues phase → queue_of queues a ≡ [] → StopsAt j from old old (λ later. j.lines phase ∷ later)
  without-turn from old queues phase a some caller turns none =
      let (actor, within) = caller-actor j.file (next_place from) (left_of old) a caller in
      let first = h.none a phase (turn-none actor_of (length j.file.actors) a queues phase within turns none) in
      wrong-there from old phase some (λ m rest is. first-none j.after j.reply j.actor j.event (caller_in j.file) j.shown (next_place from) (j.machine from) (j.lines phase) m a (shows-caller from old (Some a) caller m rest is) first)

  -- no actor's next line is shown
  pub without-call : (from : C) (old : Followed) (queues : List (List Asked)) (phase : List Asked) → 0 < length phase → AreTurns actor_of (length j.file.actors) queues phase
      → next_of queues (caller_in j.file (next_place from) (left_of old)) ≡ None → StopsAt j from old old (λ later. j.lines phase ∷ later)
  without-call from old queues phase some turns none = by (caller_in j.file (next_place from) (left_of old)) refl none
    where
      by : (o : Option ℕ) → caller_in j.file (next_place from) (left_of old) ≡ o → next_of queues o ≡ None → StopsAt j from old old (λ later. j.lines phase ∷ later)
      by None caller none = without-caller from old phase some caller
      by (Some a) caller none = without-turn from old queues phase a some caller turns (empty (queue_of queues a) none)
        where
          empty : (queue : List Asked) → option_map {U = ℕ × Asked} (λ l. (a, l)) (front_of queue) ≡ None → queue ≡ []
          empty [] none = refl
          empty (x ∷ xs) none = absurd (cc (none))

  pub without-event : (from : C) (old : Followed) (queues : List (List Asked)) (phase : List Asked) (a : ℕ) (c : Asked) → 0 < length phase → AreTurns actor_of (length j.file.actors) queues phase
      → next_of queues (caller_in j.file (next_place from) (left_of old)) ≡ Some (a, c) → j.event (j.line c) ≡ None → StopsAt j from old old (λ later. j.lines phase ∷ later)
  without-event from old queues phase a c some turns next none =
      let (caller, cs, queue) = next-is queues (caller_in j.file (next_place from) (left_of old)) a c next in
      let (actor, within) = caller-actor j.file (next_place from) (left_of old) a caller in
      let turn = turn-taken actor_of (length j.file.actors) a queues phase c cs within turns queue in
      wrong-there from old phase some (λ m rest is. event-none j.after j.reply j.actor j.event (caller_in j.file) j.shown (next_place from) (j.machine from) (j.lines phase) m a (j.line c) (j.lines turn.others)
      (shows-caller from old (Some a) caller m rest is) (h.first a phase c turn.others turn.first) none)
