-- What becomes of lists in a list where one of them is changed.
use Rattle.case_audit.proofs.Common.{[], ℕ, ◌++◌, ◌+◌, ◌-◌, ◌<◌, ◌∙◌, ◌∷◌, ◌≡◌, ◌≢◌, ◌≤◌, ap, arith, behind_front, changed_at, eq-eqb, get_or, if◌then◌else◌, length, List, map, map-set, ne_eqb, one_taken, queue_of, refl, replicate, set}
use Rattle.case_audit.proofs.{Common.{set_past, slice_set, suc, sym, with_line, zero}, Sharing.changed-suc}

-- one item becomes another
pub item-changed : {A X : Type 0} (view : A → X) (g : X → X) (items : List A) (i : ℕ) (c d : A) → i < length items → c ≡ get_or items i c → view d ≡ g (view c) → map view (set items i d) ≡ changed_at g i (map view items)
item-changed view g [] i c d low is new = absurd (omega (arith, low))
item-changed view g (x ∷ xs) zero c d low is new = ap (λ y. y ∷ map view xs) (new ∙ ap (λ y. g (view y)) is)
item-changed view g (x ∷ xs) (suc i) c d low is new = ap (λ ys. view x ∷ ys) (item-changed view g xs i c d (omega (arith, low)) is new) ∙ sym (changed-suc g i (view x) (map view xs))

pub map-at : {A X : Type 0} (view : A → X) (items : List A) (i : ℕ) (c : A) → i < length items → c ≡ get_or items i c → view c ≡ get_or (map view items) i (view c)
map-at view [] i c low is = absurd (omega (arith, low))
map-at view (x ∷ xs) zero c low is = ap view is
map-at view (x ∷ xs) (suc i) c low is = map-at view xs i c (omega (arith, low)) is

-- ---- queues
module _ {A X : Type 0} (view : A → List X) where
  pub queue-at : (items : List A) (i : ℕ) (c : A) → i < length items → c ≡ get_or items i c → queue_of (map view items) i ≡ view c
  queue-at [] i c low is = absurd (omega (arith, low))
  queue-at (x ∷ xs) zero c low is = ap view (sym is)
  queue-at (x ∷ xs) (suc i) c low is = queue-at xs i c (omega (arith, low)) is

  pub queue-changed : (h : List X → List X) (items : List A) (i : ℕ) (c d : A) → i < length items → c ≡ get_or items i c → view d ≡ h (view c)
      → map view (set items i d) ≡ slice_set (map view items) i (h (queue_of (map view items) i))
  queue-changed h items i c d low is new = map-set view items i d ∙ ap (slice_set (map view items) i) (new ∙ ap h (sym (queue-at items i c low is)))

-- nothing is taken from a queue that is not there
pub none-taken : {L : Type 0} (queues : List (List L)) (a : ℕ) → length queues ≤ a → one_taken a queues ≡ queues
none-taken queues a past = set_past queues a (behind_front (queue_of queues a)) past

-- ---- the last phase
module _ {L : Type 0} (p : ℕ) (l : L) where
  pub last-same : (qs : List (ℕ × List L)) (n : ℕ) (q : ℕ × List L) → length qs ≡ suc n → q ≡ get_or qs n q → q.0 ≡ p → set qs n (q.0, q.1 ++ l ∷ []) ≡ with_line p l qs
  last-same [] n q many is same = absurd (omega (arith, many))
  last-same (x ∷ []) zero q many is same =
      let first : q ≡ x = is in
      rw first (sym (ap (λ test. if test then (x.0, x.1 ++ l ∷ []) ∷ [] else x ∷ (p, l ∷ []) ∷ []) (eq-eqb x.0 p (ap (λ (y : ℕ × List L). y.0) (sym first) ∙ same))))
  last-same (x ∷ []) (suc n) q many is same = absurd (omega (arith, many))
  last-same (x ∷ y ∷ ys) zero q many is same = absurd (omega (arith, many))
  last-same (x ∷ y ∷ ys) (suc n) q many is same = ap (λ zs. x ∷ zs) (last-same (y ∷ ys) n q (omega (arith, many)) is same)

  pub last-other : (qs : List (ℕ × List L)) (n : ℕ) (q : ℕ × List L) → length qs ≡ suc n → q ≡ get_or qs n q → q.0 ≢ p → qs ++ (p, l ∷ []) ∷ [] ≡ with_line p l qs
  last-other [] n q many is other = absurd (omega (arith, many))
  last-other (x ∷ []) zero q many is other =
      let first : q ≡ x = is in
      sym (ap (λ test. if test then (x.0, x.1 ++ l ∷ []) ∷ [] else x ∷ (p, l ∷ []) ∷ []) (ne_eqb x.0 p (λ same. other (ap (λ (y : ℕ × List L). y.0) first ∙ same))))
  last-other (x ∷ []) (suc n) q many is other = absurd (omega (arith, many))
  last-other (x ∷ y ∷ ys) zero q many is other = absurd (omega (arith, many))
  last-other (x ∷ y ∷ ys) (suc n) q many is other = ap (λ zs. x ∷ zs) (last-other (y ∷ ys) n q (omega (arith, many)) is other)

  pub last-none : (qs : List (ℕ × List L)) → length qs ≡ 0 → qs ++ (p, l ∷ []) ∷ [] ≡ with_line p l qs
  last-none [] none = refl
  last-none (x ∷ xs) none = absurd (omega (arith, none))

pub nothing-each : {C X : Type 0} (cs : List C) (x : X) → replicate (length cs) x ≡ map (λ c. x) cs
nothing-each [] x = refl
nothing-each (c ∷ cs) x = ap (λ xs. x ∷ xs) (nothing-each cs x)
