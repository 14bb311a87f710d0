-- One call with one of many passes.
use Rattle.adept_server.proofs.Common.{[], ℕ, ◌<◌, ◌∙◌, ◌∷◌, ◌≡◌, ◌≤◌, ap, append-nil, AreOf, CallFault, Calls, CallsOne, Cell, Err, IfErr, IfOk, inl, inr, IsAnswered, IsLegalView, IsPassOf, length, List, map, map-set, MAX_ENTRIES, Ok}
use Rattle.adept_server.proofs.{Common.{OnErr, option_map, Pass, PassView, refl, Result, Sees, set, slice_get, slice_get-map, Some, Stays, subst, suc, view_of, zero}, Places.get-set_same}
use Rattle.turn_cell.specs.declared.faults.CallFault.TheVariants.{Full, NoMemory}

module _ {M E R W S : Type 0} {g : _} where
  -- a pass in another's place is of the cell there
  pub passes-of_set : (cs : List (Cell M E R W S)) (ps : List (Pass M E R W S g)) → AreOf cs ps → (i : ℕ) (c : Cell M E R W S) (q : Pass M E R W S g) → slice_get cs i ≡ Some c → IsPassOf c q → AreOf cs (set ps i q)
  passes-of_set [] [] k i c q there of = tt
  passes-of_set [] (p ∷ ps) k i c q there of = absurd k
  passes-of_set (d ∷ cs) [] k i c q there of = absurd k
  passes-of_set (d ∷ cs) (p ∷ ps) k zero c q there of = (let same : c ≡ d = cc (there) in subst (λ x. IsPassOf x q) same of, k.1)
  passes-of_set (d ∷ cs) (p ∷ ps) k (suc i) c q there of = (k.0, passes-of_set cs ps k.1 i c q there of)

  -- a pass stands where it was put
  pub set-view : (ps : List (Pass M E R W S g)) (i : ℕ) (q : Pass M E R W S g) → i < length ps → slice_get (map view_of (set ps i q)) i ≡ Some (view_of q)
  set-view ps i q lt = slice_get-map view_of (set ps i q) i ∙ ap (option_map view_of) (get-set_same ps i q lt)

  -- the rest of the cells and of the passes
  pub of_rest : (cs rest : List (Cell M E R W S)) (c : Cell M E R W S) (ps left : List (Pass M E R W S g)) (p : Pass M E R W S g) → cs ≡ c ∷ rest → ps ≡ p ∷ left → AreOf cs ps → AreOf rest left
  of_rest cs rest c ps left p cells passes of =
      let both : AreOf (c ∷ rest) (p ∷ left) = subst (λ xs. AreOf xs (p ∷ left)) cells (subst (AreOf cs) passes of) in both.1

module _ {M E R W S : Type 0} (after : S → E → S) (reply : S → E → R) (event : E) where
  -- what a call promises is what it leaves of the pass
  pub called_once : (v w : PassView M E R W S) (answer : Result R CallFault) → Stays v w → IfOk answer (λ r. Calls after reply event v r w) → OnErr answer (Sees after reply v w)
      → length w.seen ≤ MAX_ENTRIES → IfErr answer (λ f. f ≡ Full → length w.seen ≡ MAX_ENTRIES) → IfErr answer (λ f. f ≡ NoMemory → length w.seen < MAX_ENTRIES) → IsAnswered after reply event v answer w
  called_once v w (Ok r) s ok err room full memory = record {
    cell = s.cell;
    opening = s.opening;
    number = s.number;
    made = s.made;
    taken = s.taken;
    past = s.past;
    outcome = ok;
    room = room;
    full = λ is. absurd (cc);
    memory = λ is. absurd (cc);
  }
  called_once v w (Err f) s ok err room full memory = record {
    cell = s.cell;
    opening = s.opening;
    number = s.number;
    made = s.made;
    taken = s.taken;
    past = s.past;
    outcome = err;
    room = tt;
    full = λ is. full (cc);
    memory = λ is. inr (memory (cc));
  }

  -- where memory ran out before a call, the pass is as it was
  pub not_called : (v : PassView M E R W S) → IsLegalView after reply v → IsAnswered after reply event v (Err NoMemory) v
  not_called v legal = record {
    cell = refl;
    opening = refl;
    number = refl;
    made = refl;
    taken = refl;
    past = refl;
    outcome = record { more = ([], append-nil v.seen); own_calls = refl; legal = legal.legal; own = legal.own };
    room = tt;
    full = λ is. absurd (cc);
    memory = λ is. inl refl;
  }

  -- a call with the pass at a place is one call of the list
  pub calls_one : {g : _} (ps : List (Pass M E R W S g)) (i : ℕ) (p q : Pass M E R W S g) (answer : Result R CallFault) → slice_get ps i ≡ Some p → IsAnswered after reply event (view_of p) answer (view_of q)
      → CallsOne after reply event i answer (map view_of ps) (map view_of (set ps i q))
  calls_one ps i p q answer there called = record {
    before = view_of p;
    behind = view_of q;
    there = slice_get-map view_of ps i ∙ ap (option_map view_of) there;
    called = called;
    others = map-set view_of ps i q;
  }
