-- Places that are all visited in their order.
use Rattle.wsm_settle.proofs.Common.{[], ℕ, ◌+◌, ◌<◌, ◌≡◌, ◌≤◌, AllBehind, arith, Bool, both_ways, Card, card_at, cases_Bool, eq-eqb, eqb, eqb-true, false, first, get_or, Handed, inl, inr, is_one_of, IsRevised, length, List, Mark, None}
use Rattle.wsm_settle.proofs.{Common.{Option, place-within, places_from, put_row, rank_place, refl, said, seen, Some, subst, suc, true, Walks, WalksOne, zero}, Visits.{walks-new, walks-none, walks-on, walks-same}}

pub place-among : (q p n : ℕ) → p ≤ q → q < p + n → is_one_of q (places_from p n) ≡ true
place-among q p zero from to = absurd (omega (arith, from, to))
place-among q p (suc n) from to =
    elim (cases_Bool (eqb p q)) [
      | inl here ↦ rw here refl
      | inr away ↦ rw away (place-among q (p + 1) n (omega (arith, from, apart away)) (omega (arith, to)))
    ]
  where
    apart : eqb p q ≡ false → p ≡ q → ⊥
    apart away same = both_ways _ away (eq-eqb p q same)

from-place : (q p n : ℕ) → is_one_of q (places_from p n) ≡ true → p ≤ q
from-place q p zero h = absurd (both_ways _ refl h)
from-place q p (suc n) h =
    elim (cases_Bool (eqb p q)) [
      | inl here ↦ omega (arith, eqb-true p q here)
      | inr away ↦ (let later = from-place q (p + 1) n (rw away at h) in omega (arith, later))
    ]

behind-place : (p n : ℕ) → AllBehind p (places_from (p + 1) n)
behind-place p n q h = let far = from-place q (p + 1) n h in omega (arith, far)

all-behind : (rank : List ℕ) (p n : ℕ) → p + suc n ≡ length rank → (names : ℕ → Bool) → Handed rank names (p + 1) (places_from (p + 1) n) (places_from (p + 1) n)
all-behind rank p n all names = record {
  stay = λ q there. there;
  come = λ k named in_rank low. place-among (rank_place k rank) (p + 1) n low (let within = place-within k rank in_rank in omega (arith, within, all));
  only = λ q there. inl there;
}

-- ---- one place
module _ (cards : List Card) (rank : List ℕ) (p n d : ℕ) (lt : p < length rank) (here : get_or rank p d ≡ n) (kept : List (ℕ × Mark)) (changes : List (ℕ × Option Mark)) where
  pub one-none : card_at n cards ≡ None → WalksOne cards rank kept p changes changes
  one-none none k all = walks-none cards rank p n d (places_from (p + 1) k) lt here (behind-place p k) kept changes none

  pub one-same : (c : Card) → card_at n cards ≡ Some c → (o : Option Mark) → IsRevised cards (seen kept changes) c o → o ≡ None → WalksOne cards rank kept p changes changes
  one-same c found o revised none k all = walks-same cards rank p n d (places_from (p + 1) k) lt here (behind-place p k) kept changes c found o revised none

  pub one-new : (c : Card) → card_at n cards ≡ Some c → (o : Option Mark) → IsRevised cards (seen kept changes) c o → (m : Mark) → o ≡ Some m → (x : Option Mark) → x ≡ said m → (changes' : List (ℕ × Option Mark)) →
      changes' ≡ put_row first (c.node, x) changes → WalksOne cards rank kept p changes changes'
  one-new c found o revised m some x x_is changes' are k all =
      walks-new cards rank p n d (places_from (p + 1) k) lt here (behind-place p k) kept changes c found o revised m some x x_is changes' are (places_from (p + 1) k) (all-behind rank p k all _)

-- ---- all of them
abbrev pub LeftFrom : List Card → List ℕ → List (ℕ × Mark) → List (ℕ × Option Mark) → ℕ → List (ℕ × Option Mark) → Type 0
LeftFrom cards rank kept begun p changes = (n : ℕ) → p + n ≡ length rank → Walks cards rank kept (places_from 0 (length rank)) begun (places_from p n) changes

pub left-first : (cards : List Card) (rank : List ℕ) (kept : List (ℕ × Mark)) (begun : List (ℕ × Option Mark)) → LeftFrom cards rank kept begun 0 begun
left-first cards rank kept begun n all = subst (λ m. Walks cards rank kept (places_from 0 (length rank)) begun (places_from 0 m) begun) (let same : length rank ≡ n = omega (arith, all) in same) (λ goal aim st. st)

pub left-next : (cards : List Card) (rank : List ℕ) (kept kept' : List (ℕ × Mark)) (begun x y : List (ℕ × Option Mark)) (p : ℕ) → LeftFrom cards rank kept begun p x → kept' ≡ kept → WalksOne cards rank kept' p x y → LeftFrom cards rank kept begun (p + 1) y
left-next cards rank kept kept' begun x y p left same one n all =
    let next : p + suc n ≡ length rank = omega (arith, all) in
    walks-on cards rank kept kept' (places_from 0 (length rank)) (places_from p (suc n)) (places_from p (suc n)) (places_from (p + 1) n) begun x y (left (suc n) next) refl same (one n next)

pub left-none : (cards : List Card) (rank : List ℕ) (kept : List (ℕ × Mark)) (begun x : List (ℕ × Option Mark)) (p : ℕ) → LeftFrom cards rank kept begun p x → p ≡ length rank → Walks cards rank kept (places_from 0 (length rank)) begun [] x
left-none cards rank kept begun x p left all = left 0 (omega (arith, all))

pub all-visited : (rank : List ℕ) (k : ℕ) → is_one_of k rank ≡ true → is_one_of (rank_place k rank) (places_from 0 (length rank)) ≡ true
all-visited rank k in_rank = place-among (rank_place k rank) 0 (length rank) (omega arith) (let within = place-within k rank in_rank in omega (arith, within))
