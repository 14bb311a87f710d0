-- What calls leave of passes.
use Rattle.adept_actor.proofs.Common.{[], ℕ, ◌++◌, ◌==◌, ◌∙◌, ◌∷◌, ◌≡◌, ◌≢◌, ap, append-nil, append_assoc, Bool, CallEach, CallFault, Calls, CallsOne, drop, entry, eq-eqb, Err, false, HasDone, if◌then◌else◌, IsAnswered, length, List}
use Rattle.adept_actor.proofs.Common.{MatchResult, ne_eqb, None, Ok, Option, PassView, refl, Result, Sees, set, set-here, set-other, slice_get, Some, subst, suc, sym, take, true, zero}
use mathlib.Core.Logic.{dite}
use native.Mathlib.Decide.{ℕ_discrete}
use Rattle.adept_server.proofs.OneCall.{more_seen}
use Rattle.turn_cell.proofs.Prefixes.{prefix_self, prefix_trans}
use Rattle.turn_cell.specs.{declared.journal.Entry.Entry, declared.limits.TheConstants.MAX_ENTRIES}
use Rattle.turn_cell.specs.declared.faults.CallFault.TheVariants as fault

-- What holds of an item before and behind, where one place of a list is set: something at that place, and at each other that it stays.
pub at-set : {A : Type 0} (P : Bool → Option A → Option A → Type 0) (xs : List A) (i : ℕ) (x y : A) → slice_get xs i ≡ Some x → P true (Some x) (Some y) → ((o : Option A) → P false o o) → (j : ℕ) → P (i == j) (slice_get xs j) (slice_get (set xs i y) j)
at-set P xs i x y there here stays j =
    dite (ℕ_discrete i j)
    (λ (same : i ≡ j).
    subst (λ k. P (i == k) (slice_get xs k) (slice_get (set xs i y) k)) same
    (subst (λ b. P b (slice_get xs i) (slice_get (set xs i y) i)) (sym (eq-eqb i i refl)) (subst (λ o. P true o (slice_get (set xs i y) i)) (sym there) (subst (P true (Some x)) (sym (set-here xs i y x there)) here))))
    (λ (not : i ≢ j). subst (λ b. P b (slice_get xs j) (slice_get (set xs i y) j)) (sym (ne_eqb i j not)) (subst (P false (slice_get xs j)) (sym (set-other xs i j y not)) (stays (slice_get xs j))))

-- what a cell was told and answered, if anything
abbrev pub Answered : Type 0 → Type 0 → Type 0
Answered E R = Option (E × Result R CallFault)

abbrev pub told_at : {E R : Type 0} → E → Option (Result R CallFault) → Answered E R
told_at e (Some answer) = Some (e, answer)
told_at e None = None

module _ {M E R W S : Type 0} where
  -- no call
  pub none-done : (p q : PassView M E R W S) → p ≡ q → HasDone [] p q
  none-done p q is = subst (HasDone [] p) is (record { cell = refl; opening = refl; number = refl; made = refl; taken = refl; past = refl; more = prefix_self p.seen; own_calls = sym (append-nil p.own_calls) })

  -- calls and then more
  pub more-done : (es fs : List (Entry M E R W S)) (p q r : PassView M E R W S) → HasDone es p q → HasDone fs q r → HasDone (es ++ fs) p r
  more-done es fs p q r h k = record {
    cell = k.cell ∙ h.cell;
    opening = k.opening ∙ h.opening;
    number = k.number ∙ h.number;
    made = k.made ∙ h.made;
    taken = k.taken ∙ h.taken;
    past = k.past ∙ h.past;
    more = prefix_trans p.seen q.seen r.seen h.more k.more;
    own_calls = k.own_calls ∙ (ap (λ xs. xs ++ fs) h.own_calls ∙ append_assoc p.own_calls es fs);
  }

  -- the entries of that: none where there was a fault
  abbrev pub entries_at : ℕ → Answered E R → List (Entry M E R W S)
  entries_at n (Some (e, Ok r)) = entry n e r ∷ []
  entries_at n (Some (e, Err f)) = []
  entries_at n None = []

  pub one-entry : (n : ℕ) (e : E) (r : R) (b : Bool) → entries_at n (if b then Some (e, Ok r) else None) ≡ (if b then entry n e r ∷ [] else [])
  one-entry n e r true = refl
  one-entry n e r false = refl

  pub no-entry : (n : ℕ) (e : E) (f : CallFault) (b : Bool) → entries_at n (if b then Some (e, Err f) else None) ≡ []
  no-entry n e f true = refl
  no-entry n e f false = refl

module _ {M E R W S : Type 0} (after : S → E → S) (reply : S → E → R) where
  -- what that leaves of a pass
  abbrev pub IsTold : Answered E R → Option (PassView M E R W S) → Option (PassView M E R W S) → Type 0
  IsTold None o u = u ≡ o
  IsTold (Some (e, a)) (Some p) (Some q) = IsAnswered after reply e p a q
  IsTold (Some (e, a)) _ _ = ⊥

  -- one pass of a list called, and no other
  pub one-told : (e : E) (i : ℕ) (answer : Result R CallFault) (vs ws : List (PassView M E R W S)) → CallsOne after reply e i answer vs ws → (j : ℕ) → IsTold (if i == j then Some (e, answer) else None) (slice_get vs j) (slice_get ws j)
  one-told e i answer vs ws k j = subst (λ xs. IsTold (if i == j then Some (e, answer) else None) (slice_get vs j) (slice_get xs j)) (sym k.others) (at-set (λ b. IsTold (if b then Some (e, answer) else None)) vs i k.before k.behind k.there k.called (λ o. refl) j)

  -- each of the first passes of a list called, and the others did not
  pub each-told : (e : E) (many : ℕ) (vs : List (PassView M E R W S)) (answers : List (Result R CallFault)) (ws : List (PassView M E R W S)) → CallEach after reply e (take many vs) answers ws
      → (j : ℕ) → IsTold (told_at e (slice_get answers j)) (slice_get vs j) (slice_get (ws ++ drop many vs) j)
  each-told e zero vs [] [] k zero = refl
  each-told e zero vs [] [] k (suc j) = refl
  each-told e zero vs [] (w ∷ ws) k j = absurd k
  each-told e zero vs (a ∷ answers) ws k j = absurd k
  each-told e (suc many) [] [] [] k zero = refl
  each-told e (suc many) [] [] [] k (suc j) = refl
  each-told e (suc many) [] [] (w ∷ ws) k j = absurd k
  each-told e (suc many) [] (a ∷ answers) ws k j = absurd k
  each-told e (suc many) (v ∷ vs) [] ws k j = absurd k
  each-told e (suc many) (v ∷ vs) (a ∷ answers) [] k j = absurd k
  each-told e (suc many) (v ∷ vs) (a ∷ answers) (w ∷ ws) k zero = k.0
  each-told e (suc many) (v ∷ vs) (a ∷ answers) (w ∷ ws) k (suc j) = each-told e many vs answers ws k.2 j

  pub each-many : (e : E) (vs : List (PassView M E R W S)) (answers : List (Result R CallFault)) (ws : List (PassView M E R W S)) → CallEach after reply e vs answers ws → length answers ≡ length vs
  each-many e [] [] [] k = refl
  each-many e [] [] (w ∷ ws) k = absurd k
  each-many e [] (a ∷ answers) ws k = absurd k
  each-many e (v ∷ vs) [] ws k = absurd k
  each-many e (v ∷ vs) (a ∷ answers) [] k = absurd k
  each-many e (v ∷ vs) (a ∷ answers) (w ∷ ws) k = ap suc (each-many e vs answers ws k.2)

  -- the calls of a pass grow by what was told and answered
  pub told-done : (n : ℕ) (t : Answered E R) (o u : Option (PassView M E R W S)) → IsTold t o u → (p q : PassView M E R W S) → o ≡ Some p → u ≡ Some q → p.number ≡ n → HasDone (entries_at n t) p q
  told-done n t o u told p q at at_then numbered = go t (subst (IsTold t (Some p)) at_then (subst (λ x. IsTold t x u) at told))
    where
      go : (t : Answered E R) → IsTold t (Some p) (Some q) → HasDone (entries_at n t) p q
      go None same = none-done p q (cc (same))
      go (Some (e, answer)) k = record {
        cell = k.cell;
        opening = k.opening;
        number = k.number;
        made = k.made;
        taken = k.taken;
        past = k.past;
        more = more_seen after reply e p q answer k;
        own_calls = subst (λ m. q.own_calls ≡ p.own_calls ++ entries_at m (Some (e, answer))) numbered (by answer k.outcome);
      }
        where
          by : (a : Result R CallFault) → MatchResult a (λ r. Calls after reply e p r q) (λ _. Sees after reply p q) → q.own_calls ≡ p.own_calls ++ entries_at p.number (Some (e, a))
          by (Ok r) o = o.own_calls
          by (Err f) o = o.own_calls ∙ sym (append-nil p.own_calls)

  -- a full journal was seen where it is told
  pub told-full : (e : E) (o u : Option (PassView M E R W S)) → IsTold (Some (e, Err fault.Full)) o u → (q : PassView M E R W S) × (u ≡ Some q) × (length q.seen ≡ MAX_ENTRIES)
  told-full e None u k = absurd k
  told-full e (Some p) None k = absurd k
  told-full e (Some p) (Some q) k = (q, refl, k.full refl)
