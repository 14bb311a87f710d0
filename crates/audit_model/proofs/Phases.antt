-- A journal, phase by phase.
use Rattle.std.proofs.Common.{◌≡◌, ℕ, ◌+◌, ◌<◌, true, false, List, [], ◌∷◌, ◌++◌, append_assoc, append-nil, drop, get_or, length, Some, None, refl, sym, ap, ◌∙◌, subst, arith}
use Rattle.audit_model.proofs.Common.{actor_of, AreSame, AreTurns, Asked, behind_them, caller_in, drop_all, drop_more, Entry, filled, filled-many, Followed, Follows, follows-on, GrowsTo, how_many, InPhase, InPhases, journal, Journaled, LineJudged, phase-over, PhaseJudged, reaches-here, reaches-last, reaches-same, Reader, rest, rest-done, rest-on, same-follows, same-journal, StopsAt}

filled-twice : {L : Type 0} (ps : List (List L)) → filled (filled ps) ≡ filled ps
filled-twice [] = refl
filled-twice ([] ∷ ps) = filled-twice ps
filled-twice ((l ∷ ls) ∷ ps) = ap (λ qs. (l ∷ ls) ∷ qs) (filled-twice ps)

module _ {M E R W S L C : Type 0} (j : Journaled M E R W S L C) where
  abbrev Owing : Type 0
  Owing = List (List L) → List (List L)

  -- nothing was gone along yet
  pub grows-here : (k : C) (s : Followed) (owed : Owing) → GrowsTo j k s k s owed owed
  grows-here k s owed =
      ([], sym (append-nil (j.journal k)), λ later. reaches-same (rest j k (owed later)) (rest j k (owed later)) (λ made. made) (behind_them j []) s s (λ made. refl) (reaches-here (rest j k (owed later)) s))

  -- on from where somebody came to
  pub grows-on : (from mid to : C) (old between new : Followed) (owed more last : Owing) → GrowsTo j from old mid between owed more → GrowsTo j mid between to new more last → GrowsTo j from old to new owed last
  grows-on from mid to old between new owed more last (es, one, reach) (fs, two, on) = (
    es ++ fs,
    two ∙ (ap (λ xs. xs ++ fs) one ∙ append_assoc (j.journal from) es fs),
    λ later.
        rest-on j.after j.reply j.actor j.event (caller_in j.file) j.shown (length (j.journal from) + 1) (length (j.journal mid) + 1) (j.machine from) (j.machine mid) (j.machine to) (owed later) (more later) (last later) (length (j.journal to) + 1) es fs old between new (reach later) (on later),
  )

  pub grows-stops : (from mid : C) (old between new : Followed) (owed more : Owing) → GrowsTo j from old mid between owed more → StopsAt j mid between new more → StopsAt j from old new owed
  grows-stops from mid old between new owed more (es, one, reach) stop later =
      follows-on (rest j from (owed later)) (rest j mid (more later)) (behind_them j es) old between new None (reach later) (stop later)

  -- whatever is owed later
  grows-at : (from to : C) (old new : Followed) (owed more last : Owing) → GrowsTo j from old to new owed more → GrowsTo j from old to new (λ later. owed (last later)) (λ later. more (last later))
  grows-at from to old new owed more last (es, one, reach) = (es, one, λ later. reach (last later))

  -- nothing more is owed in the phase
  phase-done : (from to : C) (old new : Followed) (owed : Owing) → GrowsTo j from old to new owed (λ later. [] ∷ later) → GrowsTo j from old to new owed (λ later. later)
  phase-done from to old new owed (es, one, reach) = (
    es,
    one,
    λ later. reaches-last (rest j from (owed later)) (rest j to ([] ∷ later)) (rest j to later) (behind_them j es) old new
        (phase-over j.after j.reply j.actor j.event (caller_in j.file) j.shown (length (j.journal to) + 1) (j.machine to) later) (reach later),
  )

  -- ---- line by line
  pub phase-begun : (k : C) (s : Followed) (queues : List (List Asked)) (phase : List Asked) → AreTurns actor_of (length j.file.actors) queues phase → InPhase j k s k s queues phase 0
  phase-begun k s queues phase turns = (phase, omega arith, turns, grows-here k s (λ later. j.lines phase ∷ later))

  pub line-on : (from mid to : C) (old between new : Followed) (queues left : List (List Asked)) (phase : List Asked) (n : ℕ) → n < length phase → InPhase j from old mid between queues phase n
      → ((owed : List Asked) → 0 < length owed → AreTurns actor_of (length j.file.actors) queues owed → LineJudged j mid between to new left owed true) → InPhase j from old to new left phase (n + 1)
  line-on from mid to old between new queues left phase n low (owed, many, turns, grown) judged =
      let (others, fewer, behind, line) = judged owed (omega (arith, low, many)) turns in (
        others,
        omega (arith, fewer, many),
        behind,
        grows-on from mid to old between new (λ later. j.lines phase ∷ later) (λ later. j.lines owed ∷ later) (λ later. j.lines others ∷ later) grown line,
      )

  pub line-stops : (from mid to : C) (old between new : Followed) (queues left : List (List Asked)) (phase : List Asked) (n : ℕ) → n < length phase → InPhase j from old mid between queues phase n
      → ((owed : List Asked) → 0 < length owed → AreTurns actor_of (length j.file.actors) queues owed → LineJudged j mid between to new left owed false) → PhaseJudged j from old to new phase false
  line-stops from mid to old between new queues left phase n low (owed, many, turns, grown) judged =
      grows-stops from mid old between new (λ later. j.lines phase ∷ later) (λ later. j.lines owed ∷ later) grown (judged owed (omega (arith, low, many)) turns)

  pub phase-whole : j.lines [] ≡ [] → (from to : C) (old new : Followed) (queues : List (List Asked)) (phase : List Asked) → InPhase j from old to new queues phase (length phase) → PhaseJudged j from old to new phase true
  phase-whole none from to old new queues phase (others, many, turns, grown) = by others (omega (arith, many)) grown
    where
      by : (others : List Asked) → length others ≡ 0 → GrowsTo j from old to new (λ later. j.lines phase ∷ later) (λ later. j.lines others ∷ later) → PhaseJudged j from old to new phase true
      by [] few grown = phase-done from to old new (λ later. j.lines phase ∷ later) (subst (λ ls. GrowsTo j from old to new (λ later. j.lines phase ∷ later) (λ later. ls ∷ later)) none grown)
      by (l ∷ ls) few grown = absurd (omega (arith, few))

  -- ---- phase by phase
  pub phases-begun : (k : C) (s : Followed) (owed : List (List Asked)) → InPhases j k s k s owed 0
  phases-begun k s owed = grows-here k s (λ later. j.phases owed ++ later)

  module _ (first : (p : List Asked) (ps : List (List Asked)) → j.phases (p ∷ ps) ≡ j.lines p ∷ j.phases ps) where
    dropped : (owed : List (List Asked)) (n : ℕ) (phase : List Asked) → n < length owed → phase ≡ get_or owed n phase → j.phases (drop n owed) ≡ j.lines phase ∷ j.phases (drop (n + 1) owed)
    dropped owed n phase low is = ap j.phases (drop_more owed n phase low ∙ ap (λ ls. ls ∷ drop (n + 1) owed) (sym is)) ∙ first phase (drop (n + 1) owed)

    pub phase-on : (from mid to : C) (old between new : Followed) (owed : List (List Asked)) (n : ℕ) (phase : List Asked) → n < length owed → phase ≡ get_or owed n phase
        → InPhases j from old mid between owed n → PhaseJudged j mid between to new phase true → InPhases j from old to new owed (n + 1)
    phase-on from mid to old between new owed n phase low is grown judged =
        grows-on from mid to old between new (λ later. j.phases owed ++ later) (λ later. j.phases (drop n owed) ++ later) (λ later. j.phases (drop (n + 1) owed) ++ later) grown
        (subst (λ ps. GrowsTo j mid between to new (λ later. ps ++ later) (λ later. j.phases (drop (n + 1) owed) ++ later)) (sym (dropped owed n phase low is))
        (grows-at mid to between new (λ later. j.lines phase ∷ later) (λ later. later) (λ later. j.phases (drop (n + 1) owed) ++ later) judged))

    pub phase-stops : (from mid to : C) (old between new : Followed) (owed : List (List Asked)) (n : ℕ) (phase : List Asked) → n < length owed → phase ≡ get_or owed n phase
        → InPhases j from old mid between owed n → PhaseJudged j mid between to new phase false → StopsAt j from old new (λ later. j.phases owed ++ later)
    phase-stops from mid to old between new owed n phase low is grown judged =
        grows-stops from mid old between new (λ later. j.phases owed ++ later) (λ later. j.phases (drop n owed) ++ later) grown
        (subst (λ ps. StopsAt j mid between new (λ later. ps ++ later)) (sym (dropped owed n phase low is)) (λ later. judged (j.phases (drop (n + 1) owed) ++ later)))

  pub phases-whole : j.phases [] ≡ [] → (from to : C) (old new : Followed) (owed : List (List Asked)) → InPhases j from old to new owed (length owed) → GrowsTo j from old to new (λ later. j.phases owed ++ later) (λ later. later)
  phases-whole none from to old new owed grown =
      subst (λ ps. GrowsTo j from old to new (λ later. j.phases owed ++ later) (λ later. ps ++ later)) (ap j.phases (drop_all (length owed) owed (omega arith)) ∙ none) grown

  -- ---- the whole journal
  abbrev pub journal_from : ℕ → S → List (List L) → Reader (List (Entry M E R W S) × S)
  journal_from k s owed = journal j.after j.reply j.actor j.event (caller_in j.file) j.shown (how_many owed) k s owed

  -- phases in which nothing is owed are not seen
  same-rest : (k : ℕ) (c : C) (all owed : List (List L)) → length (j.journal c) + 1 ≡ k → owed ≡ filled all → AreSame (rest j c owed) (journal_from k (j.machine c) all)
  same-rest k c all owed place same =
      subst (λ o. AreSame (rest j c o) (journal_from k (j.machine c) all)) (sym same)
      (subst (λ n. AreSame (journal j.after j.reply j.actor j.event (caller_in j.file) j.shown n (length (j.journal c) + 1) (j.machine c) (filled all)) (journal_from k (j.machine c) all)) (sym (filled-many all))
      (subst (λ p. AreSame (journal j.after j.reply j.actor j.event (caller_in j.file) j.shown (how_many all) p (j.machine c) (filled all)) (journal_from k (j.machine c) all)) (sym place)
      (same-journal j.after j.reply j.actor j.event (caller_in j.file) j.shown (how_many all) k (j.machine c) (filled all) all (filled-twice all))))

  -- it is read to its end
  pub journal-whole : (k : ℕ) (from to : C) (old new : Followed) (all owed : List (List L)) → length (j.journal from) + 1 ≡ k → owed ≡ filled all → GrowsTo j from old to new (λ later. owed ++ later) (λ later. later)
      → (es : List (Entry M E R W S)) × (j.journal to ≡ j.journal from ++ es) × Follows (journal_from k (j.machine from) all) old new (Some (es, j.machine to))
  journal-whole k from to old new all owed place same (es, one, reach) =
      let ends = rest-done j.after j.reply j.actor j.event (caller_in j.file) j.shown (length (j.journal to) + 1) (j.machine to) new in
      let gone : Follows (rest j from (owed ++ [])) old new (Some (es ++ [], j.machine to)) = follows-on (rest j from (owed ++ [])) (rest j to []) (behind_them j es) old new new (Some ([], j.machine to)) (reach []) ends in
      let read = same-follows (rest j from (owed ++ [])) (journal_from k (j.machine from) all) old new (Some (es ++ [], j.machine to)) (same-rest k from all (owed ++ []) place (append-nil owed ∙ same)) gone in
      (es, one, subst (λ xs. Follows (journal_from k (j.machine from) all) old new (Some (xs, j.machine to))) (append-nil es) read)

  -- or not
  pub journal-stopped : (k : ℕ) (from : C) (old new : Followed) (all owed : List (List L)) → length (j.journal from) + 1 ≡ k → owed ≡ filled all → StopsAt j from old new (λ later. owed ++ later)
      → Follows (journal_from k (j.machine from) all) old new None
  journal-stopped k from old new all owed place same stop =
      same-follows (rest j from (owed ++ [])) (journal_from k (j.machine from) all) old new None (same-rest k from all (owed ++ []) place (append-nil owed ∙ same)) (stop [])
