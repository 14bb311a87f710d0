-- What one call leaves of each pass of a list.
use Rattle.adept_server.proofs.Common.{[], ℕ, ◌++◌, ◌∙◌, ◌∷◌, ◌≡◌, ◌⊎◌, ap, append_assoc, AreCalled, CallEach, CallFault, Calls, CallsOne, entry, Err, IfOk, inl, inr, IsAnswered, IsLegalView, List, map, MatchResult, Ok, OnErr, OnOk, Pass}
use Rattle.adept_server.proofs.{Common.{PassView, refl, Result, Sees, slice_get, Some, subst, sym, take, take-map, view_of}, Places.{set_cases, stays_or_set}}
use mathlib.Core.List.{IsPrefix}

-- what holds behind each answer holds behind a reply
room_left : {A X Y : Type 0} (answer : Result X Y) → A → OnOk answer A
room_left (Ok r) a = a
room_left (Err f) a = tt

module _ {M E R W S : Type 0} (after : S → E → S) (reply : S → E → R) (event : E) where
  -- a pass that was called has seen a legal list, which begins with the old one
  pub legal_behind : (v w : PassView M E R W S) (answer : Result R CallFault) → IsAnswered after reply event v answer w → IsLegalView after reply w
  legal_behind v w answer called = go answer called.outcome
    where
      go : (a : Result R CallFault) → MatchResult a (λ r. Calls after reply event v r w) (λ _. Sees after reply v w) → IsLegalView after reply w
      go (Ok r) o = record { legal = o.legal; own = o.own }
      go (Err f) o = record { legal = o.legal; own = o.own }

  pub more_seen : (v w : PassView M E R W S) (answer : Result R CallFault) → IsAnswered after reply event v answer w → IsPrefix v.seen w.seen
  more_seen v w answer called = go answer called.outcome
    where
      go : (a : Result R CallFault) → MatchResult a (λ r. Calls after reply event v r w) (λ _. Sees after reply v w) → IsPrefix v.seen w.seen
      go (Ok r) o = (o.others ++ entry v.number event r ∷ [], sym (append_assoc v.seen o.others (entry v.number event r ∷ [])) ∙ sym o.seen)
      go (Err f) o = o.more

  -- the passes behind a call: each is as before, or is the one that called
  pub one_behind : (i : ℕ) (answer : Result R CallFault) (ps qs : List (PassView M E R W S)) → CallsOne after reply event i answer ps qs
      → (j : ℕ) (q : PassView M E R W S) → slice_get qs j ≡ Some q → (p : PassView M E R W S) × (slice_get ps j ≡ Some p) × ((q ≡ p) ⊎ ((j ≡ i) × IsAnswered after reply event p answer q))
  one_behind i answer ps qs k j q is = elim (set_cases ps i j k.behind q (subst (λ xs. slice_get xs j ≡ Some q) k.others is)) [
    | inl s ↦ (k.before, ap (slice_get ps) s.0 ∙ k.there, inr (s.0, subst (IsAnswered after reply event k.before answer) (sym s.1) k.called))
    | inr s ↦ (q, s, inl refl)
  ]

  -- and the passes before it
  pub one_before : (i : ℕ) (answer : Result R CallFault) (ps qs : List (PassView M E R W S)) → CallsOne after reply event i answer ps qs
      → (j : ℕ) (p : PassView M E R W S) → slice_get ps j ≡ Some p → (q : PassView M E R W S) × (slice_get qs j ≡ Some q) × ((q ≡ p) ⊎ ((j ≡ i) × IsAnswered after reply event p answer q))
  one_before i answer ps qs k j p is = elim (stays_or_set ps i j k.behind p is) [
    | inl s ↦ (k.behind, ap (λ xs. slice_get xs j) k.others ∙ s.1, inr (s.0, subst (λ x. IsAnswered after reply event x answer k.behind) (same k.before p (sym k.there ∙ (ap (slice_get ps) (sym s.0) ∙ is))) k.called))
    | inr s ↦ (p, ap (λ xs. slice_get xs j) k.others ∙ s, inl refl)
  ]
    where
      same : (x y : PassView M E R W S) → Some x ≡ Some y → x ≡ y
      same x y e = cc

  -- what a batch of calls leaves of its passes
  pub each_called : {g : _} (ps : List (Pass M E R W S g)) (answers : List (Result R CallFault)) (qs : List (Pass M E R W S g)) → AreCalled after reply event ps answers qs → CallEach after reply event (map view_of ps) answers (map view_of qs)
  each_called [] [] [] k = tt
  each_called [] [] (q ∷ qs) k = absurd k
  each_called [] (a ∷ answers) qs k = absurd k
  each_called (p ∷ ps) [] qs k = absurd k
  each_called (p ∷ ps) (a ∷ answers) [] k = absurd k
  each_called (p ∷ ps) (a ∷ answers) (q ∷ qs) k = (
    record {
      cell = k.0.cell;
      opening = k.0.opening;
      number = k.0.number;
      made = k.0.made;
      taken = k.0.taken;
      past = k.0.past;
      outcome = k.0.outcome;
      room = room_left a k.0.room;
      full = k.0.full;
      memory = λ is. inr (k.0.memory is);
    },
    k.0.memory,
    each_called ps answers qs k.2,
  )

  -- the same of a batch whose passes were read in front of a row and put back there
  pub batch_ok : {g : _} {X Y : Type 0} (f : X → List (Result R CallFault)) (o : Result X Y) (many : ℕ) (ps read qs row : List (Pass M E R W S g)) → read ≡ ps → row ≡ qs
      → IfOk o (λ a. AreCalled after reply event (take many read) (f a) (take many qs)) → IfOk o (λ a. CallEach after reply event (take many (map view_of ps)) (f a) (map view_of (take many row)))
  batch_ok f (Err y) many ps read qs row is behind k = tt
  batch_ok f (Ok a) many ps read qs row is behind k =
      let each = each_called (take many ps) (f a) (take many row) (subst (λ xs. AreCalled after reply event (take many ps) (f a) (take many xs)) (sym behind) (subst (λ xs. AreCalled after reply event (take many xs) (f a) (take many qs)) is k)) in
      subst (λ vs. CallEach after reply event vs (f a) (map view_of (take many row))) (sym (take-map view_of many ps)) each

-- where there was no batch, the row is as before
pub batch_err : {A X Y : Type 0} (o : Result X Y) (ps read qs row : List A) → read ≡ ps → row ≡ qs → OnErr o (qs ≡ read) → OnErr o (row ≡ ps)
batch_err (Ok a) ps read qs row is behind k = tt
batch_err (Err y) ps read qs row is behind k = behind ∙ (k ∙ is)
