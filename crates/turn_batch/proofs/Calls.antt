-- What both rounds leave of the passes.
use Rattle.std.proofs.Common.{◌≡◌, ℕ, zero, suc, ◌+◌, ◌<◌, List, [], ◌∷◌, length, Option, Some, None, Result, Ok, Err, IsSome, MatchResult, MatchOption, slice_get, slice_index_or, refl, sym, ap, ◌∙◌, subst, arith}
use Rattle.turn_cell.specs.{declared.faults.CallFault.CallFault, declared.pass.Pass.Pass, declared.cell.Cell.Cell, Passes.{PassView, view_of, IsPassOf, Sees, Calls}}
use Rattle.turn_batch.specs.Batch.{AreOf, AreAnswered, AreTaken, IsCalled, IsTried, IsServed, AreCalled}

module _ {M E R W S : Type 0} {g : _} where
  -- there are as many passes as cells
  pub length-passes : (cs : List (Cell M E R W S)) (ps : List (Pass M E R W S g)) → AreOf cs ps → length ps ≡ length cs
  length-passes [] [] k = refl
  length-passes [] (p ∷ ps) k = absurd k
  length-passes (c ∷ cs) [] k = absurd k
  length-passes (c ∷ cs) (p ∷ ps) k = let r = length-passes cs ps k.1 in omega arith

  -- the pass at a place is of the cell there
  pub pass_at : (cs : List (Cell M E R W S)) (ps : List (Pass M E R W S g)) → AreOf cs ps → (i : ℕ) (c : Cell M E R W S) (d : Pass M E R W S g) → slice_get cs i ≡ Some c → IsPassOf c (slice_index_or ps i d)
  pass_at [] [] k i c d e = absurd (cc)
  pass_at [] (p ∷ ps) k i c d e = absurd k
  pass_at (x ∷ cs) [] k i c d e = absurd k
  pass_at (x ∷ cs) (p ∷ ps) k zero c d e = let same : x ≡ c = cc (e) in subst (λ y. IsPassOf y p) same k.0
  pass_at (x ∷ cs) (p ∷ ps) k (suc i) c d e = pass_at cs ps k.1 i c d e

module _ {M E R W S : Type 0} (after : S → E → S) (reply : S → E → R) (event : E) where
  -- a call does not speak of what is met and kept, before it and after it
  pub called_too : (v w : PassView M E R W S) (m n : ℕ) (k l : Option (Result R CallFault)) (a : Result R CallFault) → IsCalled after reply event v a w
      → IsCalled after reply event (record v { met = m; kept = k }) a (record w { met = n; kept = l })
  called_too v w m n k l a c = record {
    cell = c.cell;
    opening = c.opening;
    number = c.number;
    made = c.made;
    taken = c.taken;
    past = c.past;
    outcome = outcome_too a c.outcome;
    room = c.room;
    full = c.full;
    memory = c.memory;
  }
    where
      outcome_too : (a : Result R CallFault) → MatchResult a (λ r. Calls after reply event v r w) (λ _. Sees after reply v w)
          → MatchResult a (λ r. Calls after reply event (record v { met = m; kept = k }) r (record w { met = n; kept = l })) (λ _. Sees after reply (record v { met = m; kept = k }) (record w { met = n; kept = l }))
      outcome_too (Ok r) o = record { others = o.others; seen = o.seen; own_calls = o.own_calls; legal = o.legal; own = o.own }
      outcome_too (Err f) o = record { more = o.more; own_calls = o.own_calls; legal = o.legal; own = o.own }

  -- the pass keeps its answer, or the turn was taken: it is of the same cell
  pub tried_cell : (v w : PassView M E R W S) → IsTried after reply event v w → w.cell ≡ v.cell
  tried_cell v w t = cases w.kept t
    where
      cases : (o : Option (Result R CallFault)) → MatchOption o (w ≡ record v { met = v.met + 1; kept = None }) (λ answer. IsCalled after reply event v answer w) → w.cell ≡ v.cell
      cases None e = ap (λ (u : PassView M E R W S). u.cell) e
      cases (Some a) c = c.cell

  abbrev pub HasCalled : PassView M E R W S → PassView M E R W S → Type 0
  HasCalled v w = MatchOption w.kept ⊥ (λ answer. IsCalled after reply event v answer w)

  -- after both rounds the call is made, and its answer kept
  pub served : (v u w : PassView M E R W S) → IsTried after reply event v u → IsServed after reply event u w → HasCalled v w
  served v u w t s = cases u.kept refl t s
    where
      from_tried : (o : Option (Result R CallFault)) → MatchOption o ⊥ (λ answer. IsCalled after reply event (record v { met = v.met + 1; kept = None }) answer w) → MatchOption o ⊥ (λ answer. IsCalled after reply event v answer w)
      from_tried None h = h
      from_tried (Some a) h = called_too (record v { met = v.met + 1; kept = None }) w v.met w.met v.kept w.kept a h

      cases : (o : Option (Result R CallFault)) → u.kept ≡ o → MatchOption o (u ≡ record v { met = v.met + 1; kept = None }) (λ answer. IsCalled after reply event v answer u)
          → MatchOption o (MatchOption w.kept ⊥ (λ answer. IsCalled after reply event u answer w)) (λ _. w ≡ u) → HasCalled v w
      cases None is e h = from_tried w.kept (subst (λ (x : PassView M E R W S). MatchOption w.kept ⊥ (λ answer. IsCalled after reply event x answer w)) e h)
      cases (Some a) is c e = subst (HasCalled v) (sym e) (subst (λ (o : Option (Result R CallFault)). MatchOption o ⊥ (λ answer. IsCalled after reply event v answer u)) (sym is) c)

  has_kept : (v w : PassView M E R W S) → HasCalled v w → IsSome w.kept
  has_kept v w h = cases w.kept h
    where
      cases : (o : Option (Result R CallFault)) → MatchOption o ⊥ (λ answer. IsCalled after reply event v answer w) → IsSome o
      cases None h = absurd h
      cases (Some a) h = refl

  -- the answer that was kept is the call's
  taken_answer : (v w u : PassView M E R W S) (a : Result R CallFault) → HasCalled v w → w.kept ≡ Some a → u ≡ record w { kept = None } → IsCalled after reply event v a u × (u.kept ≡ None)
  taken_answer v w u a h is e =
      let c : IsCalled after reply event v a w = subst (λ (o : Option (Result R CallFault)). MatchOption o ⊥ (λ answer. IsCalled after reply event v answer w)) is h in
      (subst (IsCalled after reply event v a) (sym e) (called_too v w v.met w.met v.kept None a c), ap (λ (x : PassView M E R W S). x.kept) e)

  module _ {g : _} where
    -- after the first round the pass at a place is still of the cell there
    pub tried_at : (cs : List (Cell M E R W S)) (ps us : List (Pass M E R W S g)) → AreOf cs ps
        → ((i : ℕ) (d : Pass M E R W S g) → i < length ps → IsTried after reply event (view_of (slice_index_or ps i d)) (view_of (slice_index_or us i d)))
        → (i : ℕ) (c : Cell M E R W S) (d : Pass M E R W S g) → slice_get cs i ≡ Some c → IsPassOf c (slice_index_or us i d)
    tried_at cs ps us o t i c d e =
        tried_cell (view_of (slice_index_or ps i d)) (view_of (slice_index_or us i d)) (t i d (subst (λ (n : ℕ). i < n) (sym (length-passes cs ps o)) (in_cells cs i e))) ∙ pass_at cs ps o i c d e
      where
        in_cells : (xs : List (Cell M E R W S)) (i : ℕ) → slice_get xs i ≡ Some c → i < length xs
        in_cells [] i e = absurd (cc)
        in_cells (x ∷ xs) zero e = omega arith
        in_cells (x ∷ xs) (suc i) e = let r = in_cells xs i e in omega arith

    -- each call is made, and its answer kept
    abbrev pub HaveCalled : List (Pass M E R W S g) → List (Pass M E R W S g) → Type 0
    HaveCalled [] [] = Unit {0}
    HaveCalled (p ∷ ps) (q ∷ qs) = HasCalled (view_of p) (view_of q) × HaveCalled ps qs
    HaveCalled _ _ = ⊥

    pub both_rounds : (ps us qs : List (Pass M E R W S g)) → length us ≡ length ps → length qs ≡ length ps
        → ((i : ℕ) (d : Pass M E R W S g) → i < length ps → IsTried after reply event (view_of (slice_index_or ps i d)) (view_of (slice_index_or us i d)))
        → ((i : ℕ) (d : Pass M E R W S g) → i < length us → IsServed after reply event (view_of (slice_index_or us i d)) (view_of (slice_index_or qs i d)))
        → HaveCalled ps qs
    both_rounds [] [] [] l l' t s = tt
    both_rounds [] [] (q ∷ qs) l l' t s = absurd (omega arith)
    both_rounds [] (u ∷ us) qs l l' t s = absurd (omega arith)
    both_rounds (p ∷ ps) [] qs l l' t s = absurd (omega arith)
    both_rounds (p ∷ ps) (u ∷ us) [] l l' t s = absurd (omega arith)
    both_rounds (p ∷ ps) (u ∷ us) (q ∷ qs) l l' t s = (
      served (view_of p) (view_of u) (view_of q) (t 0 p (omega arith)) (s 0 p (omega arith)),
      both_rounds ps us qs (omega arith) (omega arith) (λ i d lt. t (suc i) d (omega arith)) (λ i d lt. s (suc i) d (omega arith)),
    )

    pub answered : (ps qs : List (Pass M E R W S g)) → HaveCalled ps qs → AreAnswered qs
    answered [] [] k = tt
    answered [] (q ∷ qs) k = absurd k
    answered (p ∷ ps) [] k = absurd k
    answered (p ∷ ps) (q ∷ qs) k = (has_kept (view_of p) (view_of q) k.0, answered ps qs k.1)

    pub all_called : (ps qs ns : List (Pass M E R W S g)) (answers : List (Result R CallFault)) → HaveCalled ps qs → AreTaken qs answers ns → AreCalled after reply event ps answers ns
    all_called [] [] [] [] k t = tt
    all_called [] [] [] (a ∷ answers) k t = absurd t
    all_called [] [] (n ∷ ns) answers k t = absurd (none_taken n ns answers t)
      where
        none_taken : (n : Pass M E R W S g) (ns : List (Pass M E R W S g)) (answers : List (Result R CallFault)) → AreTaken [] answers (n ∷ ns) → ⊥
        none_taken n ns [] t = t
        none_taken n ns (a ∷ answers) t = t
    all_called [] (q ∷ qs) ns answers k t = absurd k
    all_called (p ∷ ps) [] ns answers k t = absurd k
    all_called (p ∷ ps) (q ∷ qs) [] [] k t = absurd t
    all_called (p ∷ ps) (q ∷ qs) [] (a ∷ answers) k t = absurd t
    all_called (p ∷ ps) (q ∷ qs) (n ∷ ns) [] k t = absurd t
    all_called (p ∷ ps) (q ∷ qs) (n ∷ ns) (a ∷ answers) k t =
        let c = taken_answer (view_of p) (view_of q) (view_of n) a k.0 t.0 t.1 in
        (c.0, c.1, all_called ps qs ns answers k.1 t.2)

    pub still_of : (cs : List (Cell M E R W S)) (ps ns : List (Pass M E R W S g)) (answers : List (Result R CallFault)) → AreOf cs ps → AreCalled after reply event ps answers ns → AreOf cs ns
    still_of [] [] [] answers o k = tt
    still_of [] [] (n ∷ ns) [] o k = absurd k
    still_of [] [] (n ∷ ns) (a ∷ answers) o k = absurd k
    still_of [] (p ∷ ps) ns answers o k = absurd o
    still_of (c ∷ cs) [] ns answers o k = absurd o
    still_of (c ∷ cs) (p ∷ ps) [] [] o k = absurd k
    still_of (c ∷ cs) (p ∷ ps) [] (a ∷ answers) o k = absurd k
    still_of (c ∷ cs) (p ∷ ps) (n ∷ ns) [] o k = absurd k
    still_of (c ∷ cs) (p ∷ ps) (n ∷ ns) (a ∷ answers) o k = (k.0.cell ∙ o.0, still_of cs ps ns answers o.1 k.2)
