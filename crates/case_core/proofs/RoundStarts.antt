-- No entry of a loop's nodes stands below the position at which the first of them was started or repeated.
use Rattle.case_core.proofs.Common.{[], ℕ, ◌∙◌, ◌∷◌, ◌≡◌, ◌≤◌, all-rows-map, AllRows, ap, arith, AtMostOne, Bool, both_rows, both_ways, Card, card_at, cards_of, cases_Bool, Current, cut_entry, early, Entry, eq-eqb, eqb, eqb-true, facts_of}
use Rattle.case_core.proofs.Common.{false, find, first_seen, flat_of, inl, InOrder, inr, is_again_of, is_one_of, item_at, Kept, kept-item, kept-mark, lesser, List, listed, LiveModel, ltb-false, ltb-true, Mark, mark_now, mark_or, marks_in}
use Rattle.case_core.proofs.Common.{nat_lt, None, Option, or_cases, Orderly, position_of, refl, replay_of_case, rises-after, same_Some, seen_before, Some, Spots, started-kept, StaysBelow, subst, sym, true, whole, whole-orderly}
use Rattle.case_core.proofs.{Keeping.table-of, Marked.current, TrailFacts.once-each}
use Rattle.wsm_schema.specs.declared.entries.Entry.TheVariants as entry
use Rattle.wsm_walk.proofs.Told.{untold}

-- ---- the least
lesser-right : (o : Option ℕ) (q : ℕ) → lesser o q ≤ q
lesser-right None q = omega arith
lesser-right (Some p) q = elim (cases_Bool (nat_lt p q)) [ inl less ↦ let l = ltb-true p q less in rw less (omega (arith, l)) | inr other ↦ rw other (omega arith) ]

lesser-left : (o : Option ℕ) (p q : ℕ) → o ≡ Some p → lesser o q ≤ p
lesser-left None p q h = absurd (cc)
lesser-left (Some r) p q h =
    let same : r ≡ p = same_Some r p h in
    elim (cases_Bool (nat_lt r q)) [ inl less ↦ rw less (omega (arith, same)) | inr other ↦ let le = ltb-false r q other in rw other (omega (arith, same, le)) ]

seen-right : (m : Mark) (q : ℕ) → seen_before m q ≤ q
seen-right m q = let a = lesser-right m.again (lesser m.started q) in let b = lesser-right m.started q in omega (arith, a, b)

seen-started : (m : Mark) (p q : ℕ) → m.started ≡ Some p → seen_before m q ≤ p
seen-started m p q h = let a = lesser-right m.again (lesser m.started q) in let b = lesser-left m.started p q h in omega (arith, a, b)

seen-again : (m : Mark) (p q : ℕ) → m.again ≡ Some p → seen_before m q ≤ p
seen-again m p q h = lesser-left m.again p (lesser m.started q) h

module _ (rows : List (ℕ × Mark)) where
  abbrev mark : ℕ → Mark
  mark n = mark_or (item_at n rows)

  first-right : (ns : List ℕ) (q : ℕ) → first_seen rows ns q ≤ q
  first-right [] q = omega arith
  first-right (n ∷ ns) q = let a = first-right ns (seen_before (mark n) q) in let b = seen-right (mark n) q in omega (arith, a, b)

  -- what is at most p for each node of the list, from wherever it begins
  first-member : (p n : ℕ) → ((q : ℕ) → seen_before (mark n) q ≤ p) → (ns : List ℕ) (q : ℕ) → is_one_of n ns ≡ true → first_seen rows ns q ≤ p
  first-member p n at [] q among = absurd (both_ways _ refl among)
  first-member p n at (m ∷ ms) q among =
      elim (or_cases (eqb m n) (is_one_of n ms) among) [
        | inl here ↦
            let a = first-right ms (seen_before (mark m) q) in
            let b : seen_before (mark m) q ≤ p = subst (λ k. seen_before (mark k) q ≤ p) (sym (eqb-true m n here)) (at q) in
            omega (arith, a, b)
        | inr later ↦ first-member p n at ms (seen_before (mark m) q) later
      ]

-- ---- what is found of entries that stand once
none-rows : (test : Entry → Bool) (es : List (ℕ × Entry)) → find (λ e. test e.1) es ≡ None → AllRows (λ e. test e.1 ≡ false) es
none-rows test [] h = tt
none-rows test (x ∷ xs) h =
    elim (cases_Bool (test x.1)) [
      | inl it ↦ let q : Some x ≡ None = rw it at h in absurd (cc)
      | inr other ↦ (other, none-rows test xs (rw other at h))
    ]

once-at : (test : Entry → Bool) (es : List (ℕ × Entry)) → AtMostOne (λ e. test e.1) es → AllRows (λ e. test e.1 ≡ true → position_of test es ≡ Some e.0) es
once-at test [] once = tt
once-at test (x ∷ xs) once = (
  (λ it. rw it refl),
  elim (cases_Bool (test x.1)) [
    | inl it ↦ all-rows-map (λ e. test e.1 ≡ false) (λ e. test e.1 ≡ true → position_of test (x ∷ xs) ≡ Some e.0) (λ e none here. absurd (both_ways _ none here)) xs (none-rows test xs (once.0 it))
    | inr other ↦ all-rows-map (λ e. test e.1 ≡ true → position_of test xs ≡ Some e.0) (λ e. test e.1 ≡ true → position_of test (x ∷ xs) ≡ Some e.0) (λ e at here. rw other (at here)) xs (once-at test xs once.1)
  ],
)

all-of : (P : ℕ → ℕ × Entry → Type 0) (es : List (ℕ × Entry)) → ((n : ℕ) → AllRows (P n) es) → AllRows (λ e. (n : ℕ) → P n e) es
all-of P [] h = tt
all-of P (x ∷ xs) h = ((λ n. (h n).0), all-of P xs (λ n. (h n).1))

-- ---- a round
module _ (l : LiveModel) (kept : Kept l) (body : List ℕ) (next : ℕ) where
  abbrev es : List (ℕ × Entry)
  es = l.trail.entries

  abbrev rows : List (ℕ × Mark)
  rows = marks_in l

  abbrev first : ℕ
  first = first_seen rows body next

  now : Current l.schema kept.checked.rank es l.trail.next rows
  now = current l kept kept.checked.rank kept.checked.ranked rows refl

  table : (t : Spots) × (replay_of_case l ≡ whole t)
  table = table-of (replay_of_case l) kept.replays

  orderly : Orderly es
  orderly = whole-orderly (flat_of l.schema) es table.0 (rises-after 0 l.trail.next es kept.rises) table.1

  started : (n : ℕ) → (mark_or (item_at n rows)).started ≡ (facts_of es).started n
  started n = started-kept l.schema kept.checked.rank es l.trail.next rows now n

  again : (n : ℕ) → (mark_or (item_at n rows)).again ≡ position_of (is_again_of n) es
  again n = go (card_at n (cards_of l.schema)) refl
    where
      go : (o : Option Card) → card_at n (cards_of l.schema) ≡ o → (mark_or (item_at n rows)).again ≡ position_of (is_again_of n) es
      go (Some c) at = ap (λ (m : Mark). m.again) (kept-mark l.schema kept.checked.rank es l.trail.next rows now n c at)
      go None at =
          ap (λ o. (mark_or o).again) (kept-item l.schema kept.checked.rank es l.trail.next rows now n ∙ ap (λ o. listed o (mark_now l.schema kept.checked.rank es n)) at)
          ∙ sym (ap (λ (m : Mark). m.again) (untold l.schema kept.checked.rank kept.checked.ranked es table.0 (rises-after 0 l.trail.next es kept.rises) table.1 n at))

  begun : (n p : ℕ) → is_one_of n body ≡ true → (facts_of es).started n ≡ Some p → first ≤ p
  begun n p inside at = first-member rows p n (λ q. seen-started (mark_or (item_at n rows)) p q (started n ∙ at)) body next inside

  ended : (n p : ℕ) → is_one_of n body ≡ true → (o : Option ℕ) → (facts_of es).started n ≡ o → early p o ≡ true → first ≤ p
  ended n p inside None at h = absurd (both_ways _ refl h)
  ended n p inside (Some t) at h = let le = begun n t inside at in let lt = ltb-true t p h in omega (arith, le, lt)

  repeated : (n p : ℕ) → is_one_of n body ≡ true → position_of (is_again_of n) es ≡ Some p → first ≤ p
  repeated n p inside at = first-member rows p n (λ q. seen-again (mark_or (item_at n rows)) p q (again n ∙ at)) body next inside

  apart : (n p : ℕ) → (is_one_of n body ≡ true → first ≤ p) → nat_lt p first ≡ true → is_one_of n body ≡ false
  apart n p at below =
      elim (cases_Bool (is_one_of n body)) [
        | inl inside ↦ let le = at inside in let lt = ltb-true p first below in absurd (omega (arith, le, lt))
        | inr out ↦ out
      ]

  stays : (p : ℕ) (e : Entry) → InOrder (facts_of es) p e → ((n : ℕ) → is_again_of n e ≡ true → position_of (is_again_of n) es ≡ Some p) → nat_lt p first ≡ true → cut_entry body p e ≡ Some (p, e)
  stays p (entry.Start node user reads) order once below = let out = apart node p (λ inside. begun node p inside order) below in rw out refl
  stays p (entry.End node writes choice) order once below = let out = apart node p (λ inside. ended node p inside ((facts_of es).started node) refl order.2) below in rw out refl
  stays p (entry.Again node writes) order once below = let out = apart node p (λ inside. repeated node p inside (once node (eq-eqb node node refl))) below in rw out refl
  stays p (entry.Wrote writes) order once below = refl

  pub stays-below : StaysBelow (first_seen (marks_in l) body next) body l.trail.entries
  stays-below =
      both_rows (λ e. InOrder (facts_of es) e.0 e.1) (λ e. (n : ℕ) → is_again_of n e.1 ≡ true → position_of (is_again_of n) es ≡ Some e.0) (λ e. nat_lt e.0 first ≡ true → cut_entry body e.0 e.1 ≡ Some e)
      (λ e order once below. stays e.0 e.1 order once below) es orderly.order
      (all-of (λ n e. is_again_of n e.1 ≡ true → position_of (is_again_of n) es ≡ Some e.0) es (λ n. once-at (is_again_of n) es (once-each l kept n).1.1))
