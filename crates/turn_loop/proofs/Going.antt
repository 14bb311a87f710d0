-- A talk that goes on, and how it ends.
use Rattle.turn_loop.proofs.Common.{[], ℕ, ◌++◌, ◌<◌, ◌==◌, ◌^◌, ◌∙◌, ◌∷◌, ◌≡◌, ◌≤◌, ◌⊎◌, AllByRecursion, and_then, answers, ap, append-nil, append_assoc, Appends, Appends-kept, Appends-nil, Appends-trans, AppendsPrefix, arith, as_turn}
use Rattle.turn_loop.proofs.Common.{Begins, behind, Bool, but_last, Bytes, Closes, Consumes, Consumes-nil, Consumes-trans, Cut, CutTells, drop, Ended, EndTells, eqb-true, Err, Front, HasList, held, HoldsNoneOrAll, HoldsTurns, inl, inr}
use Rattle.turn_loop.proofs.Common.{IsAtEnd, IsAtRest, IsErrAnd, IsRead, IsRest, joined, LeavesOnly, length, length-append, List, MAX_INPUT, NoneWaited, Ok, Option, refl, Result, Rules, split, split_from, still_first, subst, sym, TalkFault}
use Rattle.turn_loop.proofs.{Common.{true, Turned, turns, turns_of, worked}, Splits.{answers-append, begins-self, begins-trans, front-all, front-more, front-none, front-then, split-append, still-first, worked-append}, Stored.holds-any}
use Rattle.turn_loop.proofs.{Stored.{holds-done, holds-more, holds-turn, now, rest-held, rest-image, stays}, InTurns.{but-last-more, joined-more, joined-turns, turns-append}}
use Rattle.turn_loop.specs.{Waiting.{Filled, ReadAnew, Unworked}, declared.turns.Turn.Turn}
use Rattle.turn_loop.specs.declared.faults.TalkFault.TheVariants as fault

-- Between two turns: what was read is the items of whole turns and what waits; the state and the disk are those of the
-- accepted ones, and what was written is the answers to all.
pub record Going {E D : Type 0} (rules : Rules) (holds : E → Bool → List Bytes → Bytes → Type 0) (content : D → List ℕ) (may_leave : D → List ℕ → Type 0) (moment : D → ℕ) (left_since : D → ℕ → List ℕ → Type 0) (first : D) (from before : Option Bytes) (ps : List Bytes)
    (disk : D) (to after : Option Bytes) (desk : E) (waiting : Unworked) (gate : ℕ) : Type 0 where
  pub reads : List Bytes
  pub done : List (List Bytes)
  pub begun : Bytes
  pub taken : Consumes from to (joined reads)
  pub counted : waiting.read ≡ length (joined reads)
  pub pieces : AllByRecursion IsRead reads
  pub within : length (joined (but_last reads)) ≤ MAX_INPUT
  pub none_waited : NoneWaited rules ps reads done
  pub one_by_one : turns_of rules true ps [] reads ≡ done ++ turns rules (still_first true (joined done)) (worked rules ps (joined done)) (split rules.ends (begun ++ waiting.bytes)).items
  pub front : Front rules.ends (joined reads) (joined done) (begun ++ waiting.bytes)
  pub open_item : IsRest rules.ends begun
  pub keeps : holds desk (still_first true (joined done)) (worked rules ps (joined done)) begun
  pub rest : IsAtRest content may_leave disk (worked rules ps (joined done)) gate
  pub room : gate < 2 ^ 30
  pub answered : Appends before after (answers rules true ps (joined done))
  pub moments : LeavesOnly moment left_since first disk (HoldsTurns rules ps [] done)

-- what holds of the error that is returned
pub end-of : {T E : Type 0} (r : Result T E) (P : E → Type 0) (Q : Result T E → Type 0) → IsErrAnd r P → ((e : E) → P e → Q (Err e)) → Q r
end-of (Ok x) P Q is to = absurd is
end-of (Err e) P Q is to = to e is

-- one read more
pieces-more : (reads : List Bytes) (read : Bytes) → AllByRecursion IsRead reads → IsRead read → AllByRecursion IsRead (reads ++ read ∷ [])
pieces-more [] read all is = (is, tt)
pieces-more (r ∷ reads) read all is = (all.0, pieces-more reads read all.1 is)

pub empty : (bytes : Bytes) (b : Bool) → b ≡ (length bytes == 0) → b ≡ true → bytes ≡ []
empty [] b is so = refl
empty (x ∷ bytes) b is so = let none : length (x ∷ bytes) ≡ 0 = eqb-true (length (x ∷ bytes)) 0 (sym is ∙ so) in absurd (omega (arith, none))

module _ {E D : Type 0} (rules : Rules) (holds : E → Bool → List Bytes → Bytes → Type 0) (content : D → List ℕ) (may_leave : D → List ℕ → Type 0) (moment : D → ℕ) (left_since : D → ℕ → List ℕ → Type 0) (first : D) (from before : Option Bytes) (ps : List Bytes) where
  pub begun : ((d : D) (c : List ℕ) → left_since d (moment d) c → may_leave d c) → (desk : E) (gate : ℕ) → holds desk true ps [] → IsAtRest content may_leave first ps gate → gate < 2 ^ 30
      → Going rules holds content may_leave moment left_since first from before ps first from before desk (record { bytes = []; read = 0 }) gate
  begun only_now desk gate keeps rest room = record {
    reads = [];
    done = [];
    begun = [];
    taken = Consumes-nil from;
    counted = refl;
    pieces = tt;
    within = omega arith;
    none_waited = ([], refl);
    one_by_one = refl;
    front = front-none rules.ends [];
    open_item = refl;
    keeps = keeps;
    rest = rest;
    room = room;
    answered = Appends-nil before;
    moments = stays content may_leave moment left_since (HoldsTurns rules ps [] []) only_now first ps gate rest (holds-done rules ps []);
  }

module _ {E D : Type 0} {rules : Rules} {holds : E → Bool → List Bytes → Bytes → Type 0} {content : D → List ℕ} {may_leave : D → List ℕ → Type 0} {moment : D → ℕ} {left_since : D → ℕ → List ℕ → Type 0} {first : D} {from before : Option Bytes} {ps : List Bytes}
    {disk : D} {to after : Option Bytes} {desk : E} {waiting : Unworked} {gate : ℕ} (so_far : Going rules holds content may_leave moment left_since first from before ps disk to after desk waiting gate) where
  -- what is held is told by the disk
  pub told : held (content disk) ≡ worked rules ps (joined so_far.done)
  told = rest-held content may_leave disk (worked rules ps (joined so_far.done)) gate so_far.rest

  -- no byte was taken from the source
  pub kept : (then : Option Bytes) → Consumes to then [] → Going rules holds content may_leave moment left_since first from before ps disk then after desk waiting gate
  kept then none = record {
    reads = so_far.reads;
    done = so_far.done;
    begun = so_far.begun;
    taken = subst (Consumes from then) (append-nil (joined so_far.reads)) (Consumes-trans from to then (joined so_far.reads) [] so_far.taken none);
    counted = so_far.counted;
    pieces = so_far.pieces;
    within = so_far.within;
    none_waited = so_far.none_waited;
    one_by_one = so_far.one_by_one;
    front = so_far.front;
    open_item = so_far.open_item;
    keeps = so_far.keeps;
    rest = so_far.rest;
    room = so_far.room;
    answered = so_far.answered;
    moments = so_far.moments;
  }

  -- nothing waits
  alone : waiting.bytes ≡ [] → so_far.begun ++ waiting.bytes ≡ so_far.begun
  alone none = ap (λ w. so_far.begun ++ w) none ∙ append-nil so_far.begun

  pub whole : waiting.bytes ≡ [] → split rules.ends (joined so_far.reads) ≡ record { items = joined so_far.done; rest = so_far.begun }
  whole none =
      front-all rules.ends (joined so_far.reads) (joined so_far.done) so_far.begun (subst (Front rules.ends (joined so_far.reads) (joined so_far.done)) (alone none) so_far.front) so_far.open_item

  pub all-done : waiting.bytes ≡ [] → so_far.done ≡ turns_of rules true ps [] so_far.reads
  all-done none =
      sym (so_far.one_by_one
      ∙ ap (λ b. so_far.done ++ turns rules (still_first true (joined so_far.done)) (worked rules ps (joined so_far.done)) (split rules.ends b).items) (alone none)
      ∙ ap (λ s. so_far.done ++ turns rules (still_first true (joined so_far.done)) (worked rules ps (joined so_far.done)) s.items) so_far.open_item
      ∙ append-nil so_far.done)

  -- a read gave a piece where nothing waited
  module _ (then : Option Bytes) (others : Unworked) (anew : ReadAnew to then waiting others) (some : 0 < length others.bytes) where
    more : joined (so_far.reads ++ others.bytes ∷ []) ≡ joined so_far.reads ++ others.bytes
    more = joined-more so_far.reads others.bytes

    is-rest : split_from rules.ends [] (joined so_far.reads) ≡ record { items = joined so_far.done; rest = so_far.begun }
    is-rest = whole anew.none

    -- the turns of the piece are those of the items that end in it
    piece-turns : turns_of rules true ps [] (so_far.reads ++ others.bytes ∷ [])
        ≡ so_far.done ++ turns rules (still_first true (joined so_far.done)) (worked rules ps (joined so_far.done)) (split rules.ends (so_far.begun ++ others.bytes)).items
    piece-turns =
        turns-append rules true ps [] so_far.reads (others.bytes ∷ [])
        ∙ ap (λ s. turns_of rules true ps [] so_far.reads ++ turns_of rules (still_first true s.items) (worked rules ps s.items) s.rest (others.bytes ∷ [])) is-rest
        ∙ ap (λ l. l ++ turns_of rules (still_first true (joined so_far.done)) (worked rules ps (joined so_far.done)) so_far.begun (others.bytes ∷ [])) (sym (all-done anew.none))
        ∙ ap (λ l. so_far.done ++ l) (append-nil (turns rules (still_first true (joined so_far.done)) (worked rules ps (joined so_far.done)) (split_from rules.ends so_far.begun others.bytes).items))
        ∙ ap (λ s. so_far.done ++ turns rules (still_first true (joined so_far.done)) (worked rules ps (joined so_far.done)) s.items)
        (sym (split-append rules.ends [] so_far.begun others.bytes ∙ ap (λ s. behind s.items (split_from rules.ends s.rest others.bytes)) so_far.open_item))

    pub read-piece : Going rules holds content may_leave moment left_since first from before ps disk then after desk others gate
    read-piece = record {
      reads = so_far.reads ++ others.bytes ∷ [];
      done = so_far.done;
      begun = so_far.begun;
      taken = subst (Consumes from then) (sym more) (Consumes-trans from to then (joined so_far.reads) others.bytes so_far.taken anew.taken);
      counted = omega (arith, anew.counted, so_far.counted, ap length more, length-append (joined so_far.reads) others.bytes);
      pieces = pieces-more so_far.reads others.bytes so_far.pieces (some, anew.short);
      within = omega (arith, anew.allowed, so_far.counted, ap (λ r. length (joined r)) (but-last-more so_far.reads others.bytes));
      none_waited =
          subst (λ r. Begins (turns_of rules true ps [] r) so_far.done) (sym (but-last-more so_far.reads others.bytes)) (subst (λ l. Begins l so_far.done) (all-done anew.none) (begins-self so_far.done));
      one_by_one = piece-turns;
      front =
          subst (λ b. Front rules.ends b (joined so_far.done) (so_far.begun ++ others.bytes)) (sym more)
          (front-more rules.ends (joined so_far.reads) (joined so_far.done) so_far.begun others.bytes
          (subst (Front rules.ends (joined so_far.reads) (joined so_far.done)) (alone anew.none) so_far.front));
      open_item = so_far.open_item;
      keeps = so_far.keeps;
      rest = so_far.rest;
      room = so_far.room;
      answered = so_far.answered;
      moments = so_far.moments;
    }

  -- no bytes came, and nothing waits
  same-waiting : (others : Unworked) → others.bytes ≡ waiting.bytes → others.read ≡ waiting.read → others ≡ waiting
  same-waiting others bytes read =
      let with_bytes : Bytes → Unworked = λ b. record { bytes = b; read = others.read } in
      let with_read : ℕ → Unworked = λ n. record { bytes = waiting.bytes; read = n } in
      ap with_bytes bytes ∙ ap with_read read

  pub filled : (then : Option Bytes) (others : Unworked) → Filled to then waiting others → Going rules holds content may_leave moment left_since first from before ps disk then after desk others gate
  filled then others (inl still) =
      subst (λ w. Going rules holds content may_leave moment left_since first from before ps disk then after desk w gate) (sym still.same) (kept then still.kept)
  filled then others (inr anew) = by-bytes others.bytes refl
    where
      by-bytes : (bytes : Bytes) → others.bytes ≡ bytes → Going rules holds content may_leave moment left_since first from before ps disk then after desk others gate
      by-bytes [] none =
          subst (λ w. Going rules holds content may_leave moment left_since first from before ps disk then after desk w gate)
          (sym (same-waiting others (none ∙ sym anew.none) (omega (arith, anew.counted, ap length none))))
          (kept then (subst (Consumes to then) none anew.taken))
      by-bytes (b ∷ bytes) is = read-piece then others anew (omega (arith, ap length is))

  pub last-read : (then : Option Bytes) (others : Unworked) → Filled to then waiting others → others.bytes ≡ [] → IsAtEnd then × (others.read ≤ MAX_INPUT)
  last-read then others (inl still) none = absurd (still.some (ap (λ w. w.bytes) (sym still.same) ∙ none))
  last-read then others (inr anew) none = (anew.last none, omega (arith, anew.allowed, anew.counted, ap length none))

  -- the talk ends between two turns
  pub ended : (end : Result (Unit {0}) TalkFault) (later : Option Bytes) → EndTells rules (may_leave disk) to before later ps so_far.reads so_far.done [] end
      → Ended rules may_leave moment left_since first disk from to before later ps end
  ended end later tells =
      let none : so_far.done ≡ so_far.done ++ [] = sym (append-nil so_far.done) in
      record {
        reads = so_far.reads;
        done = so_far.done;
        last = [];
        taken = so_far.taken;
        pieces = so_far.pieces;
        within = so_far.within;
        none_waited = so_far.none_waited;
        begins =
            subst (λ l. Begins l (turns_of rules true ps [] so_far.reads)) none
            (turns rules (still_first true (joined so_far.done)) (worked rules ps (joined so_far.done)) (split rules.ends (so_far.begun ++ waiting.bytes)).items, sym so_far.one_by_one);
        moments = subst (λ l. LeavesOnly moment left_since first disk (HoldsTurns rules ps [] l)) none so_far.moments;
        now = λ c left. subst (λ l. HoldsTurns rules ps so_far.done l c) none
            (holds-done rules ps so_far.done c (rest-image content may_leave disk (worked rules ps (joined so_far.done)) gate so_far.rest c left));
        tells = tells;
      }

  pub ended-memory : Ended rules may_leave moment left_since first disk from to before after ps (Err fault.NoMemory)
  ended-memory = ended (Err fault.NoMemory) after (refl, so_far.answered)

  ended-unread : waiting.bytes ≡ [] → Ended rules may_leave moment left_since first disk from to before after ps (Err fault.Unread)
  ended-unread all = ended (Err fault.Unread) after (all-done all, refl, so_far.answered)

  ended-long : waiting.bytes ≡ [] → MAX_INPUT < waiting.read → Ended rules may_leave moment left_since first disk from to before after ps (Err fault.TooLong)
  ended-long all long = ended (Err fault.TooLong) after (omega (arith, long, so_far.counted), all-done all, refl, so_far.answered)

  pub closed : (later : Option Bytes) (r : Result (Unit {0}) TalkFault) → IsAtEnd to → waiting.read ≤ MAX_INPUT → waiting.bytes ≡ [] → Closes after later (rules.ending (worked rules ps (joined so_far.done)) so_far.begun) r
      → Ended rules may_leave moment left_since first disk from to before later ps r
  closed later (Ok x) end short all closes =
      ended (Ok x) later (
        end,
        omega (arith, short, so_far.counted),
        all-done all,
        refl,
        subst (λ s. Appends before later (answers rules true ps s.items ++ rules.ending (worked rules ps s.items) s.rest)) (sym (whole all))
            (Appends-trans before after later (answers rules true ps (joined so_far.done)) (rules.ending (worked rules ps (joined so_far.done)) so_far.begun) so_far.answered closes),
      )
  closed later (Err fault.NoMemory) end short all closes = ended (Err fault.NoMemory) later (refl, Appends-kept before after later (answers rules true ps (joined so_far.done)) so_far.answered closes)
  closed later (Err fault.Unwritten) end short all closes =
      let none : joined so_far.done ≡ joined so_far.done ++ [] = sym (append-nil (joined so_far.done)) in
      ended (Err fault.Unwritten) later (
        λ c left. subst (λ l. HasList (worked rules ps l) c) none (rest-image content may_leave disk (worked rules ps (joined so_far.done)) gate so_far.rest c left),
        (
          after,
          so_far.answered,
          inr (end, all-done all, refl, subst (λ s. AppendsPrefix after later (rules.ending (worked rules ps (joined so_far.done)) s.rest)) (sym (whole all)) closes),
        ),
      )
  closed later (Err fault.Disk) end short all closes = absurd closes
  closed later (Err fault.Unread) end short all closes = absurd closes
  closed later (Err fault.TooLong) end short all closes = absurd closes

module _ {E D : Type 0} {rules : Rules} {holds : E → Bool → List Bytes → Bytes → Type 0} {content : D → List ℕ} {may_leave : D → List ℕ → Type 0} {moment : D → ℕ} {left_since : D → ℕ → List ℕ → Type 0} {first : D} {from before : Option Bytes} {ps : List Bytes}
    {disk : D} {to after : Option Bytes} {desk : E} {waiting : Unworked} {gate : ℕ} (so_far : Going rules holds content may_leave moment left_since first from before ps disk to after desk waiting gate) where
  -- no more was read
  pub unfilled : (then : Option Bytes) (why : TalkFault) → (why ≡ fault.Unread) ⊎ (why ≡ fault.TooLong) → (why ≡ fault.TooLong → MAX_INPUT < waiting.read) → waiting.bytes ≡ [] → Consumes to then []
      → Ended rules may_leave moment left_since first disk from then before after ps (Err why)
  unfilled then why (inl unread) long none nothing =
      subst (λ e. Ended rules may_leave moment left_since first disk from then before after ps (Err e)) (sym unread)
      (ended-unread (kept so_far then nothing) none)
  unfilled then why (inr too_long) long none nothing =
      subst (λ e. Ended rules may_leave moment left_since first disk from then before after ps (Err e)) (sym too_long)
      (ended-long (kept so_far then nothing) none (long too_long))

  -- a run of a turn's calls behind the run so far
  with-turn : (new : D) (items : List Bytes) → LeavesOnly moment left_since disk new (HoldsNoneOrAll rules (worked rules ps (joined so_far.done)) items)
      → LeavesOnly moment left_since first new (HoldsTurns rules ps [] (so_far.done ++ as_turn items))
  with-turn new items turn =
      let there = worked rules ps (joined so_far.done) in
      let all = so_far.done ++ as_turn items in
      and_then moment left_since first disk new (HoldsTurns rules ps [] so_far.done) (HoldsNoneOrAll rules there items) (HoldsTurns rules ps [] all) so_far.moments turn
      (λ c h. holds-more rules ps [] so_far.done all c (as_turn items, refl) h)
      (λ c h. holds-any rules ps so_far.done all c (holds-turn rules ps so_far.done items c h))

  -- one turn more
  pub went-on : (new : D) (later : Option Bytes) (other : E) (others : Unworked) (t : Turn)
      → Turned rules holds content may_leave moment left_since disk new after later (still_first true (joined so_far.done)) (worked rules ps (joined so_far.done)) so_far.begun waiting.bytes other t
      → others.bytes ≡ drop t.done waiting.bytes → others.read ≡ waiting.read
      → Going rules holds content may_leave moment left_since first from before ps new to later other others t.gate
  went-on new later other others t turn are read =
      let was = joined so_far.done in
      let there = worked rules ps was in
      let items : joined (so_far.done ++ as_turn turn.items) ≡ was ++ turn.items = joined-turns so_far.done turn.items in
      let same : worked rules there turn.items ≡ worked rules ps (joined (so_far.done ++ as_turn turn.items)) = sym (ap (worked rules ps) items ∙ worked-append rules ps was turn.items) in
      let is_first : still_first (still_first true was) turn.items ≡ still_first true (joined (so_far.done ++ as_turn turn.items)) = still-first true was turn.items ∙ ap (still_first true) (sym items) in
      let left : turn.left ++ drop t.done waiting.bytes ≡ turn.left ++ others.bytes = ap (λ b. turn.left ++ b) (sym are) in
      record {
        reads = so_far.reads;
        done = so_far.done ++ as_turn turn.items;
        begun = turn.left;
        taken = so_far.taken;
        counted = read ∙ so_far.counted;
        pieces = so_far.pieces;
        within = so_far.within;
        none_waited = begins-trans (turns_of rules true ps [] (but_last so_far.reads)) so_far.done (so_far.done ++ as_turn turn.items) so_far.none_waited (as_turn turn.items, refl);
        one_by_one =
            so_far.one_by_one ∙ ap (λ l. so_far.done ++ l) turn.one_turn
            ∙ sym (append_assoc so_far.done (as_turn turn.items) (turns rules (still_first (still_first true was) turn.items) (worked rules there turn.items) (split rules.ends (turn.left ++ drop t.done waiting.bytes)).items))
            ∙ ap (λ f. so_far.done ++ as_turn turn.items ++ turns rules f (worked rules there turn.items) (split rules.ends (turn.left ++ drop t.done waiting.bytes)).items) is_first
            ∙ ap (λ qs. so_far.done ++ as_turn turn.items ++ turns rules (still_first true (joined (so_far.done ++ as_turn turn.items))) qs (split rules.ends (turn.left ++ drop t.done waiting.bytes)).items) same
            ∙ ap (λ b. so_far.done ++ as_turn turn.items ++ turns rules (still_first true (joined (so_far.done ++ as_turn turn.items))) (worked rules ps (joined (so_far.done ++ as_turn turn.items))) (split rules.ends b).items) left;
        front =
            subst (λ l. Front rules.ends (joined so_far.reads) l (turn.left ++ others.bytes)) (sym items)
            (subst (Front rules.ends (joined so_far.reads) (was ++ turn.items)) left
            (front-then rules.ends (joined so_far.reads) was (so_far.begun ++ waiting.bytes) turn.items (turn.left ++ drop t.done waiting.bytes) so_far.front turn.front));
        open_item = turn.open_item;
        keeps = subst (λ f. holds other f (worked rules ps (joined (so_far.done ++ as_turn turn.items))) turn.left) is_first (subst (λ qs. holds other (still_first (still_first true was) turn.items) qs turn.left) same turn.keeps);
        rest = subst (λ qs. IsAtRest content may_leave new qs t.gate) same turn.rest;
        room = turn.room;
        answered =
            subst (λ l. Appends before later (answers rules true ps l)) (sym items)
            (subst (Appends before later) (sym (answers-append rules true ps was turn.items)) (Appends-trans before after later (answers rules true ps was) (answers rules (still_first true was) there turn.items) so_far.answered turn.answered));
        moments = with-turn new turn.items turn.moments;
      }

  -- a turn that was cut
  module _ (counts_now : (d : D) (t : ℕ) (c : List ℕ) → t ≤ moment d → may_leave d c → left_since d t c) (new : D) (later : Option Bytes) where
    tells : (why : TalkFault) (items : List Bytes) → CutTells rules (may_leave new) after later (still_first true (joined so_far.done)) (worked rules ps (joined so_far.done)) items why
        → EndTells rules (may_leave new) to before later ps so_far.reads so_far.done items (Err why)
    tells fault.NoMemory items (none, kept) = (none, Appends-kept before after later (answers rules true ps (joined so_far.done)) so_far.answered kept)
    tells fault.Disk items kept = Appends-kept before after later (answers rules true ps (joined so_far.done)) so_far.answered kept
    tells fault.Unwritten items (part, list) =
        (λ c left. subst (λ qs. HasList qs c) (sym (worked-append rules ps (joined so_far.done) items)) (list c left), (after, so_far.answered, inl part))
    tells fault.Unread items never = absurd never
    tells fault.TooLong items never = absurd never

    pub was-cut : (why : TalkFault) → Cut rules may_leave moment left_since disk new after later (still_first true (joined so_far.done)) (worked rules ps (joined so_far.done)) so_far.begun waiting.bytes why
        → Ended rules may_leave moment left_since first new from to before later ps (Err why)
    was-cut why cut =
        let there = worked rules ps (joined so_far.done) in
        let all = turns rules (still_first true (joined so_far.done)) there (split rules.ends (so_far.begun ++ waiting.bytes)).items in
        record {
          reads = so_far.reads;
          done = so_far.done;
          last = cut.items;
          taken = so_far.taken;
          pieces = so_far.pieces;
          within = so_far.within;
          none_waited = so_far.none_waited;
          begins = (cut.one_turn.0, append_assoc so_far.done (as_turn cut.items) cut.one_turn.0 ∙ ap (λ l. so_far.done ++ l) cut.one_turn.1 ∙ sym so_far.one_by_one);
          moments = with-turn new cut.items cut.moments;
          now = λ c left. holds-turn rules ps so_far.done cut.items c (now content may_leave moment left_since counts_now disk new (HoldsNoneOrAll rules there cut.items) cut.moments c left);
          tells = tells why cut.items cut.tells;
        }
