-- The queues of actors tell whose next line it is.
use Rattle.line_followers.proofs.Common.{[], ℕ, ◌++◌, ◌+◌, ◌<◌, ◌==◌, ◌∙◌, ◌∷◌, ◌≡◌, ◌≢◌, ◌≤◌, ap, append-nil, arith, Bool, by-append, eq-eqb, eqb-true, false, first-is, first_by, if◌then◌else◌, IsFirst, length, lines_by, List, ne_eqb}
use Rattle.line_followers.proofs.Common.{None, Option, other-first, own-first, refl, slice_get, slice_set, Some, some-first, subst, suc, sym, true, zero}
use Rattle.line_followers.specs.Turns.{AreTurns, behind_front, one_added, one_taken, queue_in, queue_of}

-- ---- a list with one item set
pub get-set : {X : Type 0} (xs : List X) (i : ℕ) (x : X) → i < length xs → slice_get (slice_set xs i x) i ≡ Some x
get-set [] i x within = absurd (omega (arith, within))
get-set (y ∷ ys) zero x within = refl
get-set (y ∷ ys) (suc i) x within = get-set ys i x (omega (arith, within))

pub get-other : {X : Type 0} (xs : List X) (i j : ℕ) (x : X) → j ≢ i → slice_get (slice_set xs i x) j ≡ slice_get xs j
get-other [] i j x other = refl
get-other (y ∷ ys) zero zero x other = absurd (other refl)
get-other (y ∷ ys) zero (suc j) x other = refl
get-other (y ∷ ys) (suc i) zero x other = refl
get-other (y ∷ ys) (suc i) (suc j) x other = get-other ys i j x (λ same. other (ap suc same))

pub set-many : {X : Type 0} (xs : List X) (i : ℕ) (x : X) → length (slice_set xs i x) ≡ length xs
set-many [] i x = refl
set-many (y ∷ ys) zero x = refl
set-many (y ∷ ys) (suc i) x = ap suc (set-many ys i x)

module _ {L : Type 0} (actor_of : L → ℕ) where
  -- whose turn it is
  pub record IsTurn (actors a : ℕ) (queues : List (List L)) (phase : List L) (l : L) : Type 0 where
    pub others : List L
    pub first : first_by actor_of a phase ≡ Some (l, others)
    pub turns : AreTurns actor_of actors (one_taken a queues) others

  -- the queue of each actor is what it owes of the others
  others-queue : (actors a : ℕ) (queues : List (List L)) (phase : List L) (l : L) (others : List L) → a < actors + 1 → AreTurns actor_of actors queues phase → IsFirst actor_of a phase l others
      → (b : ℕ) → b < actors + 1 → queue_of (one_taken a queues) b ≡ lines_by actor_of b others
  others-queue actors a queues phase l others within (many, same) h b below = by (b == a) refl
    where
      by : (test : Bool) → (b == a) ≡ test → queue_of (one_taken a queues) b ≡ lines_by actor_of b others
      by true is =
          let equal : b ≡ a = eqb-true b a is in
          let set : queue_of (one_taken a queues) a ≡ behind_front (queue_of queues a) = ap queue_in (get-set queues a (behind_front (queue_of queues a)) (omega (arith, within, many))) in
          let own : behind_front (queue_of queues a) ≡ lines_by actor_of a others = ap behind_front (same a within ∙ h.first) in
          subst (λ c. queue_of (one_taken a queues) c ≡ lines_by actor_of c others) (sym equal) (set ∙ own)
      by false not =
          let apart : b ≢ a = λ equal. cc (not, eq-eqb b a equal) in
          ap queue_in (get-other queues a b (behind_front (queue_of queues a)) apart) ∙ (same b below ∙ sym (h.stay b apart))

  pub turn-taken : (actors a : ℕ) (queues : List (List L)) (phase : List L) (l : L) (ls : List L) → a < actors + 1 → AreTurns actor_of actors queues phase → queue_of queues a ≡ l ∷ ls → IsTurn actors a queues phase l
  turn-taken actors a queues phase l ls within turns is =
      let (others, first) = some-first actor_of a phase l ls (sym (turns.1 a within) ∙ is) in
      let h = first-is actor_of a phase l others first in
      record {
        others = others;
        first = first;
        turns = (set-many queues a _ ∙ turns.0, others-queue actors a queues phase l others within turns h);
      }

  pub turn-none : (actors a : ℕ) (queues : List (List L)) (phase : List L) → a < actors + 1 → AreTurns actor_of actors queues phase → queue_of queues a ≡ [] → first_by actor_of a phase ≡ None
  turn-none actors a queues phase within (many, same) is = by (first_by actor_of a phase) refl
    where
      by : (o : Option (L × List L)) → first_by actor_of a phase ≡ o → first_by actor_of a phase ≡ None
      by None none = none
      by (Some p) first = let h = first-is actor_of a phase p.0 p.1 first in absurd (cc (sym is ∙ (same a within ∙ h.first)))

  -- ---- the queues are filled, line by line
  queue-added : (a : ℕ) (l : L) (queues : List (List L)) (b : ℕ) → a < length queues → queue_of (one_added a l queues) b ≡ (if b == a then queue_of queues a ++ l ∷ [] else queue_of queues b)
  queue-added a l queues b within = by (b == a) refl
    where
      by : (test : Bool) → (b == a) ≡ test → queue_of (one_added a l queues) b ≡ (if test then queue_of queues a ++ l ∷ [] else queue_of queues b)
      by true is = ap (queue_of (one_added a l queues)) (eqb-true b a is) ∙ ap queue_in (get-set queues a (queue_of queues a ++ l ∷ []) within)
      by false not = ap queue_in (get-other queues a b (queue_of queues a ++ l ∷ []) (λ equal. cc (not, eq-eqb b a equal)))

  line-added : (b : ℕ) (phase : List L) (l : L) (test : Bool) → (actor_of l == b) ≡ test → lines_by actor_of b (phase ++ l ∷ []) ≡ (if test then lines_by actor_of b phase ++ l ∷ [] else lines_by actor_of b phase)
  line-added b phase l true own = by-append actor_of b phase (l ∷ []) ∙ ap (λ ls. lines_by actor_of b phase ++ ls) (own-first actor_of b l [] own)
  line-added b phase l false other = by-append actor_of b phase (l ∷ []) ∙ (ap (λ ls. lines_by actor_of b phase ++ ls) (other-first actor_of b l [] other) ∙ append-nil (lines_by actor_of b phase))

  pub turn-added : (actors : ℕ) (queues : List (List L)) (phase : List L) (l : L) → AreTurns actor_of actors queues phase → actor_of l < length queues → AreTurns actor_of actors (one_added (actor_of l) l queues) (phase ++ l ∷ [])
  turn-added actors queues phase l (many, same) within = (set-many queues (actor_of l) _ ∙ many, λ b below. by b below (actor_of l == b) refl)
    where
      by : (b : ℕ) → b < actors + 1 → (test : Bool) → (actor_of l == b) ≡ test → queue_of (one_added (actor_of l) l queues) b ≡ lines_by actor_of b (phase ++ l ∷ [])
      by b below true is =
          let equal : actor_of l ≡ b = eqb-true (actor_of l) b is in
          let own : (b == actor_of l) ≡ true = eq-eqb b (actor_of l) (sym equal) in
          queue-added (actor_of l) l queues b within
          ∙ (ap (λ test. if test then queue_of queues (actor_of l) ++ l ∷ [] else queue_of queues b) own
          ∙ (ap (λ a. queue_of queues a ++ l ∷ []) equal ∙ (ap (λ ls. ls ++ l ∷ []) (same b below) ∙ sym (line-added b phase l true is))))
      by b below false not =
          let other : (b == actor_of l) ≡ false = ne_eqb b (actor_of l) (λ equal. cc (not, eq-eqb (actor_of l) b (sym equal))) in
          queue-added (actor_of l) l queues b within
          ∙ (ap (λ test. if test then queue_of queues (actor_of l) ++ l ∷ [] else queue_of queues b) other ∙ (same b below ∙ sym (line-added b phase l false not)))

  -- an actor that has no queue is none of theirs
  pub turn-foreign : (actors : ℕ) (queues : List (List L)) (phase : List L) (l : L) → AreTurns actor_of actors queues phase → length queues ≤ actor_of l → AreTurns actor_of actors queues (phase ++ l ∷ [])
  turn-foreign actors queues phase l (many, same) past =
      (many, λ b below. same b below ∙ sym (line-added b phase l false (ne_eqb (actor_of l) b (λ equal. omega (arith, equal, below, past, many)))))
