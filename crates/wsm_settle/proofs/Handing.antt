-- Places that become pending.
use Rattle.wsm_settle.proofs.Common.{[], ℕ, ◌+◌, ◌<◌, ◌||◌, ◌∙◌, ◌∷◌, ◌≡◌, ◌≤◌, ◌⊎◌, add-one, AllWithin, ap, arith, Bool, both_ways, cases_Bool, drop, drop-cons, eq-eqb, eqb, eqb-true, false, get_or, Handed, inl, inr, insert_key, is_one_of}
use Rattle.wsm_settle.proofs.Common.{length, List, list_any, match_ordering, nat_cmp, None, or-true, place-within, position_from, rank_place, refl, same_Some, Some, some-one, subst, suc, sym, true, zero}
use Rattle.std.specs.declared.cmp.Ordering.{Ordering}
use Rattle.std.specs.declared.cmp.Ordering.TheVariants.{Less, Equal, Greater}
use Rattle.std.proofs.lemmas.Map.Lookups.{exact_unsigned}

drop_all : {X : Type 0} (xs : List X) (i : ℕ) → length xs ≤ i → drop i xs ≡ []
drop_all [] zero past = refl
drop_all [] (suc i) past = refl
drop_all (x ∷ xs) zero past = absurd (omega (arith, past))
drop_all (x ∷ xs) (suc i) past = drop_all xs i (omega (arith, past))

or-first : (a b : Bool) → a ≡ true → (a || b) ≡ true
or-first true b h = refl
or-first false b h = absurd (both_ways _ refl h)

or-second : (a b : Bool) → b ≡ true → (a || b) ≡ true
or-second true b h = refl
or-second false b h = h

module _ (rank : List ℕ) (low : ℕ) where
  -- nothing is named
  pub handed-none : (names : ℕ → Bool) → ((k : ℕ) → names k ≡ true → is_one_of k rank ≡ true → low ≤ rank_place k rank → ⊥) → (old : List ℕ) → Handed rank names low old old
  handed-none names none old = record {
    stay = λ q h. h;
    come = λ k names_k in_rank far. absurd (none k names_k in_rank far);
    only = λ q h. inl h;
  }

  pub handed-nothing : (old : List ℕ) → Handed rank (λ k. false) low old old
  handed-nothing old = handed-none (λ k. false) (λ k none in_rank far. both_ways _ refl none) old

  -- at the end of a list nothing is left to be named
  pub handed-rest : {X : Type 0} (test : ℕ → X → Bool) (xs : List X) (i : ℕ) → length xs ≤ i → (old : List ℕ) → Handed rank (λ k. list_any (test k) (drop i xs)) low old old
  handed-rest test xs i past old = rw (drop_all xs i past) (handed-nothing old)

  -- what became pending stays so
  pub handed-again : (names : ℕ → Bool) (old new : List ℕ) → Handed rank names low old new → Handed rank names low new new
  handed-again names old new h = record { stay = λ q there. there; come = h.come; only = λ q there. inl there }

  pub handed-last : (node : ℕ) (old new : List ℕ) → Handed rank (λ k. eqb node k) low old new → (n : ℕ) → Some node ≡ Some n → Handed rank (λ k. eqb n k) low new new
  handed-last node old new h n same = subst (λ m. Handed rank (λ k. eqb m k) low new new) (same_Some node n same) (handed-again (λ k. eqb node k) old new h)

  -- what one of two names, one after the other
  pub handed-both : (a b : ℕ → Bool) (old mid new : List ℕ) → Handed rank a low old mid → Handed rank b low mid new → Handed rank (λ k. a k || b k) low old new
  handed-both a b old mid new x y = record {
    stay = λ q h. y.stay q (x.stay q h);
    come = λ k names in_rank far. elim (or-true (a k) (b k) names) [ inl left ↦ y.stay (rank_place k rank) (x.come k left in_rank far) | inr right ↦ y.come k right in_rank far ];
    only = λ q h. elim (y.only q h) [
      | inl there ↦ elim (x.only q there) [ inl before ↦ inl before | inr named ↦ inr (named.0, or-first (a named.0) (b named.0) named.1, named.2, named.3, named.4) ]
      | inr named ↦ inr (named.0, or-second (a named.0) (b named.0) named.1, named.2, named.3, named.4)
    ];
  }

  -- the next of a list, and then the rest of it
  pub handed-next : {X : Type 0} (test : ℕ → X → Bool) (xs : List X) (i : ℕ) (d : X) (old mid last : List ℕ) → i < length xs → Handed rank (λ k. test k (get_or xs i d)) low old mid →
      Handed rank (λ k. list_any (test k) (drop (i + 1) xs)) low mid last → Handed rank (λ k. list_any (test k) (drop i xs)) low old last
  handed-next test xs i d old mid last lt one rest =
      let split : drop i xs ≡ get_or xs i d ∷ drop (i + 1) xs = rw add-one (drop-cons xs i d lt) in
      subst (λ ys. Handed rank (λ k. list_any (test k) ys) low old last) (sym split)
      (handed-both (λ k. test k (get_or xs i d)) (λ k. list_any (test k) (drop (i + 1) xs)) old mid last one rest)

  -- all pending places are in the rank
  pub handed-within : (names : ℕ → Bool) (old new : List ℕ) → Handed rank names low old new → AllWithin (length rank) old → AllWithin (length rank) new
  handed-within names old new h within q there =
      elim (h.only q there) [ inl before ↦ within q before | inr named ↦ subst (λ x. x < length rank) named.3 (place-within named.0 rank named.2) ]

-- where a node stands in a list
position-place : (n i : ℕ) (rank : List ℕ) (q : ℕ) → position_from (λ k. eqb k n) i rank ≡ Some q → (is_one_of n rank ≡ true) × (i + rank_place n rank ≡ q)
position-place n i [] q h = absurd (cc)
position-place n i (k ∷ ks) q h =
    elim (cases_Bool (eqb k n)) [
      | inl same ↦ let e : Some i ≡ Some q = rw same at h in rw same (refl, omega (arith, some-one i q e))
      | inr other ↦ let r = position-place n (i + 1) ks q (rw other at h) in rw other (r.0, omega (arith, r.1))
    ]

pub position-none : (n i : ℕ) (rank : List ℕ) → position_from (λ k. eqb k n) i rank ≡ None → is_one_of n rank ≡ false
position-none n i [] h = refl
position-none n i (k ∷ ks) h =
    elim (cases_Bool (eqb k n)) [
      | inl same ↦ let e : Some i ≡ None = rw same at h in absurd (cc)
      | inr other ↦ rw other (position-none n (i + 1) ks (rw other at h))
    ]

pub placed-at : (n : ℕ) (rank : List ℕ) (q : ℕ) → position_from (λ k. eqb k n) 0 rank ≡ Some q → (is_one_of n rank ≡ true) × (rank_place n rank ≡ q)
placed-at n rank q h = let r = position-place n 0 rank q h in (r.0, omega (arith, r.1))

-- a node stands at its place
pub get_or-place : (n d : ℕ) (rank : List ℕ) → is_one_of n rank ≡ true → get_or rank (rank_place n rank) d ≡ n
get_or-place n d [] h = absurd (both_ways _ refl h)
get_or-place n d (k ∷ ks) h =
    elim (cases_Bool (eqb k n)) [
      | inl same ↦ rw same (eqb-true k n same)
      | inr other ↦ rw other (get_or-place n d ks (rw other at h))
    ]

-- ---- a key that is put into a set
put-own : (k : ℕ) (ks : List ℕ) → is_one_of k (insert_key nat_cmp ks k) ≡ true
put-own k [] = rw (eq-eqb k k refl) refl
put-own k (x ∷ xs) = go (nat_cmp k x) refl (put-own k xs)
  where
    go : (o : Ordering) → nat_cmp k x ≡ o → is_one_of k (insert_key nat_cmp xs k) ≡ true → is_one_of k (match_ordering o (k ∷ x ∷ xs) (x ∷ xs) (x ∷ insert_key nat_cmp xs k)) ≡ true
    go Less h ih = rw (eq-eqb k k refl) refl
    go Equal h ih = rw (eq-eqb x k (sym (exact_unsigned k x h))) refl
    go Greater h ih = or-second (eqb x k) _ ih

put-kept : (k q : ℕ) (ks : List ℕ) → is_one_of q ks ≡ true → is_one_of q (insert_key nat_cmp ks k) ≡ true
put-kept k q [] h = absurd (both_ways _ refl h)
put-kept k q (x ∷ xs) h = go (nat_cmp k x) (λ later. put-kept k q xs later)
  where
    go : (o : Ordering) → (is_one_of q xs ≡ true → is_one_of q (insert_key nat_cmp xs k) ≡ true) → is_one_of q (match_ordering o (k ∷ x ∷ xs) (x ∷ xs) (x ∷ insert_key nat_cmp xs k)) ≡ true
    go Less ih = or-second (eqb k q) _ h
    go Equal ih = h
    go Greater ih = elim (or-true (eqb x q) (is_one_of q xs) h) [ inl here ↦ or-first (eqb x q) _ here | inr later ↦ or-second (eqb x q) _ (ih later) ]

put-only : (k q : ℕ) (ks : List ℕ) → is_one_of q (insert_key nat_cmp ks k) ≡ true → (is_one_of q ks ≡ true) ⊎ (k ≡ q)
put-only k q [] h = elim (or-true (eqb k q) false h) [ inl here ↦ inr (eqb-true k q here) | inr none ↦ absurd (both_ways _ refl none) ]
put-only k q (x ∷ xs) h = go (nat_cmp k x) h (λ later. put-only k q xs later)
  where
    go : (o : Ordering) → is_one_of q (match_ordering o (k ∷ x ∷ xs) (x ∷ xs) (x ∷ insert_key nat_cmp xs k)) ≡ true →
        (is_one_of q (insert_key nat_cmp xs k) ≡ true → (is_one_of q xs ≡ true) ⊎ (k ≡ q)) → (is_one_of q (x ∷ xs) ≡ true) ⊎ (k ≡ q)
    go Less g ih = elim (or-true (eqb k q) (is_one_of q (x ∷ xs)) g) [ inl here ↦ inr (eqb-true k q here) | inr later ↦ inl later ]
    go Equal g ih = inl g
    go Greater g ih = elim (or-true (eqb x q) (is_one_of q (insert_key nat_cmp xs k)) g) [
      | inl here ↦ inl (or-first (eqb x q) _ here)
      | inr later ↦ elim (ih later) [ inl there ↦ inl (or-second (eqb x q) _ there) | inr own ↦ inr own ]
    ]

module _ (rank : List ℕ) (node low : ℕ) (old : List ℕ) where
  abbrev Own : List ℕ → Type 0
  Own new = Handed rank (λ k. eqb node k) low old new

  -- a node that is not in the rank, or stands before the others, comes not
  pub node-away : position_from (λ k. eqb k node) 0 rank ≡ None → Own old
  node-away none = handed-none rank low (λ k. eqb node k) (λ k same in_rank far. both_ways _ (position-none node 0 rank none) (subst (λ x. is_one_of x rank ≡ true) (sym (eqb-true node k same)) in_rank)) old

  pub node-before : (q : ℕ) → position_from (λ k. eqb k node) 0 rank ≡ Some q → (low ≤ q → ⊥) → Own old
  node-before q at early = handed-none rank low (λ k. eqb node k) (λ k same in_rank far. early (subst (λ x. low ≤ x) (ap (λ x. rank_place x rank) (sym (eqb-true node k same)) ∙ (placed-at node rank q at).1) far)) old

  -- any other does
  pub node-comes : (q : ℕ) → position_from (λ k. eqb k node) 0 rank ≡ Some q → low ≤ q → (new : List ℕ) → new ≡ insert_key nat_cmp old q → Own new
  node-comes q at far new is = record {
    stay = λ x h. subst (λ l. is_one_of x l ≡ true) (sym is) (put-kept q x old h);
    come = λ k same in_rank low_k.
        let e : rank_place k rank ≡ q = ap (λ x. rank_place x rank) (sym (eqb-true node k same)) ∙ place.1 in
        subst (λ l. is_one_of (rank_place k rank) l ≡ true) (sym is) (subst (λ x. is_one_of x (insert_key nat_cmp old q) ≡ true) (sym e) (put-own q old));
    only = λ x h. elim (put-only q x old (subst (λ l. is_one_of x l ≡ true) is h)) [
      | inl before ↦ inl before
      | inr own ↦ inr (node, eq-eqb node node refl, place.0, place.1 ∙ own, subst (λ y. low ≤ y) own far)
    ];
  }
    where
      place : (is_one_of node rank ≡ true) × (rank_place node rank ≡ q)
      place = placed-at node rank q at
