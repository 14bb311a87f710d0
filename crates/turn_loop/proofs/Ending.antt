-- What the end of a talk says of the whole of it.
use Rattle.turn_loop.proofs.Common.{[], ℕ, ◌++◌, ◌<◌, ◌^◌, ◌∙◌, ◌≡◌, ◌≤◌, ◌⊎◌, Acknowledged, answers, ap, append-nil, append_assoc, Appends, AppendsPrefix, arith, as_turn, Begins, Bool, Bytes, Consumes, Consumes-whole, Ended, Err}
use Rattle.turn_loop.proofs.Common.{HoldsBeginningOf, HoldsItems, HoldsTurns, IfSome, inl, inr, IsAtEnd, IsErrOf, joined, LeavesOnly, length, length-append, List, None, Ok, OnErr, OnOk, Option, refl, Result, Rules, said, Some, split}
use Rattle.turn_loop.proofs.{Common.{split_from, still_first, subst, sym, TalkFault, true, turns_of, weaker, worked}, Splits.{answers-append, begins-self, begins-trans, split-append}, Stored.turns-items-held, InTurns.joined-append}
use Rattle.turn_loop.proofs.InTurns.{joined-of, joined-turns}
use Rattle.adept_io.proofs.Sent.{AppendsPrefix-after, AppendsPrefix-append}
use Rattle.turn_loop.specs.declared.faults.TalkFault.TheVariants as fault

-- bytes of which some were taken are these and what is left
taken-front : (a b : Option Bytes) (given : Bytes) (P : Bytes → Type 0) → Consumes a b given → ((left : Bytes) → b ≡ Some left → P (given ++ left)) → IfSome a P
taken-front None b given P taken to = tt
taken-front (Some xs) None given P taken to = absurd taken
taken-front (Some xs) (Some left) given P taken to = subst P (sym taken) (to left refl)

all-sent : (before after : Option Bytes) (text : Bytes) → Appends before after text → AppendsPrefix before after text
all-sent before after text all = record { sent = text; rest = []; whole = append-nil text; appends = all }

-- the items of more bytes begin with those of fewer
items-more : (ends : Bytes → ℕ → Bool) (given left : Bytes) → Begins (split ends given).items (split ends (given ++ left)).items
items-more ends given left = ((split_from ends (split ends given).rest left).items, ap (λ s. s.items) (sym (split-append ends [] given left)))

-- the items of the first turns are the first items
turns-begin : (turns all : List (List Bytes)) (items : List Bytes) → joined all ≡ items → Begins turns all → Begins (joined turns) items
turns-begin turns all items are (more, is) = (joined more, sym (joined-append turns more) ∙ ap joined is ∙ are)

-- what is said to bytes begins with the answers to their first items
said-begins : (rules : Rules) (ps items : List Bytes) (talk : Bytes) → Begins items (split rules.ends talk).items → (rest : Bytes) × (answers rules true ps items ++ rest ≡ said rules ps talk)
said-begins rules ps items talk (more, is) =
    let last = rules.ending (worked rules ps (split rules.ends talk).items) (split rules.ends talk).rest in
    let others = answers rules (still_first true items) (worked rules ps items) more in (
      others ++ last,
      sym (append_assoc (answers rules true ps items) others last)
          ∙ ap (λ t. t ++ last) (sym (answers-append rules true ps items more) ∙ ap (answers rules true ps) is),
    )

prefix-said : (rules : Rules) (ps items : List Bytes) (talk : Bytes) (before after : Option Bytes) → Begins items (split rules.ends talk).items → AppendsPrefix before after (answers rules true ps items)
    → AppendsPrefix before after (said rules ps talk)
prefix-said rules ps items talk before after begins part =
    let rest = said-begins rules ps items talk begins in
    subst (AppendsPrefix before after) rest.1 (AppendsPrefix-append before after (answers rules true ps items) rest.0 part)

at-the-end : {to : Option Bytes} (left : Bytes) → to ≡ Some left → IsAtEnd to → left ≡ []
at-the-end left is end = subst IsAtEnd is end

-- what is acknowledged of a talk is a beginning of what is said to it
prefix-of : (rules : Rules) (images : List ℕ → Type 0) (before after : Option Bytes) (ps : List Bytes) (talk : Bytes) → Acknowledged rules images before after ps talk → AppendsPrefix before after (said rules ps talk)
prefix-of rules images before after ps talk a = elim a.answered [
  | inl part ↦ prefix-said rules ps a.items talk before after a.begins part
  | inr all ↦ all.1
]

module _ {D : Type 0} {rules : Rules} {may_leave : D → List ℕ → Type 0} {moment : D → ℕ} {left_since : D → ℕ → List ℕ → Type 0} {old new : D} {from to before after : Option Bytes} {ps : List Bytes} where
  pub end-whole : (r : Result (Unit {0}) TalkFault) → Ended rules may_leave moment left_since old new from to before after ps r → OnOk r (IsAtEnd to)
  end-whole (Ok x) e = e.tells.0
  end-whole (Err why) e = tt

  pub end-answered : (r : Result (Unit {0}) TalkFault) → Ended rules may_leave moment left_since old new from to before after ps r
      → OnOk r (IfSome from (λ talk. Appends before after (said rules ps talk)))
  end-answered (Ok x) e = Consumes-whole from to (joined e.reads) (λ talk. Appends before after (said rules ps talk)) e.taken e.tells.0 e.tells.4
  end-answered (Err why) e = tt

  pub end-short : (r : Result (Unit {0}) TalkFault) → Ended rules may_leave moment left_since old new from to before after ps r
      → IfSome from (λ talk. OnOk r (length talk < 2 ^ 63))
  end-short (Ok x) e = Consumes-whole from to (joined e.reads) (λ talk. length talk < 2 ^ 63) e.taken e.tells.0 (omega (arith, e.tells.1))
  end-short (Err why) e = taken-front from to (joined e.reads) (λ talk. Unit {0}) e.taken (λ left is. tt)

  pub end-long : (r : Result (Unit {0}) TalkFault) → Ended rules may_leave moment left_since old new from to before after ps r
      → IfSome from (λ talk. IsErrOf r fault.TooLong → 2 ^ 63 ≤ length talk)
  end-long r e = taken-front from to (joined e.reads) (λ talk. IsErrOf r fault.TooLong → 2 ^ 63 ≤ length talk) e.taken (λ left is. longer r e left)
    where
      longer : (r : Result (Unit {0}) TalkFault) (e : Ended rules may_leave moment left_since old new from to before after ps r) (left : Bytes) → IsErrOf r fault.TooLong → 2 ^ 63 ≤ length (joined e.reads ++ left)
      longer (Ok x) e left never = absurd cc
      longer (Err fault.TooLong) e left it = omega (arith, e.tells.0, length-append (joined e.reads) left)
      longer (Err fault.Unread) e left it = absurd cc
      longer (Err fault.NoMemory) e left it = absurd cc
      longer (Err fault.Disk) e left it = absurd cc
      longer (Err fault.Unwritten) e left it = absurd cc

  -- the items of all turns are those of what was read
  module _ (r : Result (Unit {0}) TalkFault) (e : Ended rules may_leave moment left_since old new from to before after ps r) (left : Bytes) where
    first-turns : (turns : List (List Bytes)) → Begins turns (turns_of rules true ps [] e.reads) → Begins (joined turns) (split rules.ends (joined e.reads ++ left)).items
    first-turns turns begins =
        begins-trans (joined turns) (split rules.ends (joined e.reads)).items (split rules.ends (joined e.reads ++ left)).items
        (turns-begin turns (turns_of rules true ps [] e.reads) (split rules.ends (joined e.reads)).items (joined-of rules true ps [] e.reads) begins) (items-more rules.ends (joined e.reads) left)

    first-items : Begins (joined (e.done ++ as_turn e.last)) (split rules.ends (joined e.reads ++ left)).items
    first-items = first-turns (e.done ++ as_turn e.last) e.begins

    first-done : Begins (joined e.done) (split rules.ends (joined e.reads ++ left)).items
    first-done = first-turns e.done (begins-trans e.done (e.done ++ as_turn e.last) (turns_of rules true ps [] e.reads) (as_turn e.last, refl) e.begins)

    -- each image holds no more than what is accepted in the whole talk
    no-more : (c : List ℕ) → may_leave new c → HoldsItems rules ps (joined e.done) (split rules.ends (joined e.reads ++ left)).items c
    no-more c stays = turns-items-held rules ps e.done (e.done ++ as_turn e.last) (split rules.ends (joined e.reads ++ left)).items c first-items (e.now c stays)

    acknowledged-done : Appends before after (answers rules true ps (joined e.done)) → Acknowledged rules (may_leave new) before after ps (joined e.reads ++ left)
    acknowledged-done all = record {
      items = joined e.done;
      begins = first-done;
      answered = inl (all-sent before after (answers rules true ps (joined e.done)) all);
      stored = no-more;
    }

    -- where the bytes have ended
    acknowledged-all : left ≡ [] → e.done ≡ turns_of rules true ps [] e.reads → AppendsPrefix before after (said rules ps (joined e.reads)) → Acknowledged rules (may_leave new) before after ps (joined e.reads ++ left)
    acknowledged-all none all part =
        let same : joined e.reads ≡ joined e.reads ++ left = sym (append-nil (joined e.reads)) ∙ ap (λ l. joined e.reads ++ l) (sym none) in
        record {
          items = joined e.done;
          begins = first-done;
          answered = inr (ap joined all ∙ joined-of rules true ps [] e.reads ∙ ap (λ b. (split rules.ends b).items) same, subst (λ b. AppendsPrefix before after (said rules ps b)) same part);
          stored = no-more;
        }

  pub end-moments : (r : Result (Unit {0}) TalkFault) → Ended rules may_leave moment left_since old new from to before after ps r → LeavesOnly moment left_since old new (HoldsBeginningOf rules ps from)
  end-moments r e =
      weaker moment left_since old new (HoldsTurns rules ps [] (e.done ++ as_turn e.last)) (HoldsBeginningOf rules ps from) e.moments
      (λ c h.
      taken-front from to (joined e.reads) (λ talk. HoldsItems rules ps [] (split rules.ends talk).items c) e.taken
      (λ left is. turns-items-held rules ps [] (e.done ++ as_turn e.last) (split rules.ends (joined e.reads ++ left)).items c (first-items r e left) h))

  acknowledged-of : (r : Result (Unit {0}) TalkFault) (e : Ended rules may_leave moment left_since old new from to before after ps r) (left : Bytes) → to ≡ Some left
      → Acknowledged rules (may_leave new) before after ps (joined e.reads ++ left)
  acknowledged-of (Ok x) e left is = acknowledged-all (Ok x) e left (at-the-end left is e.tells.0) e.tells.2 (all-sent before after (said rules ps (joined e.reads)) e.tells.4)
  acknowledged-of (Err fault.Unread) e left is = acknowledged-done (Err fault.Unread) e left e.tells.2
  acknowledged-of (Err fault.TooLong) e left is = acknowledged-done (Err fault.TooLong) e left e.tells.3
  acknowledged-of (Err fault.NoMemory) e left is = acknowledged-done (Err fault.NoMemory) e left e.tells.1
  acknowledged-of (Err fault.Disk) e left is = acknowledged-done (Err fault.Disk) e left e.tells
  acknowledged-of (Err fault.Unwritten) e left is = either e.tells.1.2
    where
      either : AppendsPrefix e.tells.1.0 after (answers rules (still_first true (joined e.done)) (worked rules ps (joined e.done)) e.last)
          ⊎ (IsAtEnd to × (e.done ≡ turns_of rules true ps [] e.reads) × (e.last ≡ []) × AppendsPrefix e.tells.1.0 after (rules.ending (worked rules ps (joined e.done)) (split rules.ends (joined e.reads)).rest)) → Acknowledged rules (may_leave new) before after ps (joined e.reads ++ left)
      either (inl part) = record {
        items = joined e.done ++ e.last;
        begins = subst (λ l. Begins l (split rules.ends (joined e.reads ++ left)).items) (joined-turns e.done e.last) (first-items (Err fault.Unwritten) e left);
        answered =
            inl
            (subst (AppendsPrefix before after) (sym (answers-append rules true ps (joined e.done) e.last))
            (AppendsPrefix-after before e.tells.1.0 after (answers rules true ps (joined e.done)) (answers rules (still_first true (joined e.done)) (worked rules ps (joined e.done)) e.last) e.tells.1.1 part));
        stored = λ c stays. record {
          items = joined e.done ++ e.last;
          no_less = begins-self (joined e.done ++ e.last);
          no_more = subst (λ l. Begins l (split rules.ends (joined e.reads ++ left)).items) (joined-turns e.done e.last) (first-items (Err fault.Unwritten) e left);
          list = e.tells.0 c stays;
        };
      }
      either (inr (end, all, none, part)) =
          let items : joined e.done ≡ (split rules.ends (joined e.reads)).items = ap joined all ∙ joined-of rules true ps [] e.reads in
          acknowledged-all (Err fault.Unwritten) e left (at-the-end left is end) all
          (subst (λ items. AppendsPrefix before after (answers rules true ps items ++ rules.ending (worked rules ps items) (split rules.ends (joined e.reads)).rest)) items
          (AppendsPrefix-after before e.tells.1.0 after (answers rules true ps (joined e.done)) (rules.ending (worked rules ps (joined e.done)) (split rules.ends (joined e.reads)).rest) e.tells.1.1 part))

  pub end-acknowledged : (r : Result (Unit {0}) TalkFault) → Ended rules may_leave moment left_since old new from to before after ps r
      → IfSome from (λ talk. Acknowledged rules (may_leave new) before after ps talk)
  end-acknowledged r e = taken-front from to (joined e.reads) (λ talk. Acknowledged rules (may_leave new) before after ps talk) e.taken (λ left is. acknowledged-of r e left is)

  pub end-begun : (r : Result (Unit {0}) TalkFault) → Ended rules may_leave moment left_since old new from to before after ps r
      → OnErr r (IfSome from (λ talk. AppendsPrefix before after (said rules ps talk)))
  end-begun (Ok x) e = tt
  end-begun (Err why) e = taken-front from to (joined e.reads) (λ talk. AppendsPrefix before after (said rules ps talk)) e.taken (λ left is. prefix-of rules (may_leave new) before after ps (joined e.reads ++ left) (acknowledged-of (Err why) e left is))
