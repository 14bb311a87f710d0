-- Marks are read where they are not known, one after another.
use Rattle.wsm_adapt.proofs.Common.{[], ℕ, ◌+◌, ◌<◌, ◌∙◌, ◌∷◌, ◌≡◌, ◌≤◌, AllAmong, AllKnown, ap, arith, Bool, both_ways, cases_Bool, cond, drop, drop_more, eq-eqb, eqb, eqb-true, false, FewAmong, first, get_or, if◌then◌else◌, inl, inr}
use Rattle.wsm_adapt.proofs.Common.{is_known, is_one_of, is_some, is_some-map, item_at, item_at-put, length, List, Mark, None, Option, put_row, ReadsMore, refl, row_at, Some, SpendsAmong, subst, sym, true, unknown, unknown_in}
use Rattle.wsm_adapt.proofs.Filtered.{row-at}

pub more-none : (kept : List (ℕ × Mark)) (old : List (ℕ × Option Mark)) → ReadsMore kept old old
more-none kept old n = inl refl

pub more-then : (kept : List (ℕ × Mark)) (old mid new : List (ℕ × Option Mark)) → ReadsMore kept old mid → ReadsMore kept mid new → ReadsMore kept old new
more-then kept old mid new a b n =
    elim (a n) [
      | inl same ↦ elim (b n) [
        | inl too ↦ inl (too ∙ same)
        | inr came ↦ inr (sym same ∙ came.0, came.1)
      ]
      | inr came ↦ elim (b n) [
        | inl too ↦ inr (came.0, too ∙ came.1)
        | inr again ↦ absurd (let q : Some (item_at n kept) ≡ None = sym came.1 ∙ again.0 in cc)
      ]
    ]

-- what is known stays known
pub known-stays : (kept : List (ℕ × Mark)) (old new : List (ℕ × Option Mark)) → ReadsMore kept old new → (n : ℕ) → is_known old n ≡ true → is_known new n ≡ true
known-stays kept old new more n it =
    elim (more n) [
      | inl same ↦ ap is_some same ∙ it
      | inr came ↦ ap is_some came.1
    ]

pub known-all : {X : Type 0} (kept : List (ℕ × Mark)) (old new : List (ℕ × Option Mark)) (node : X → ℕ) (xs : List X) → ReadsMore kept old new → AllKnown old node xs → AllKnown new node xs
known-all kept old new node [] more all = tt
known-all kept old new node (x ∷ xs) more all = (known-stays kept old new more (node x) all.0, known-all kept old new node xs more all.1)

-- and so what is unknown grows less
pub unknown-less : (kept : List (ℕ × Mark)) (old new : List (ℕ × Option Mark)) → ReadsMore kept old new → (n : ℕ) → unknown new n ≤ unknown old n
unknown-less kept old new more n =
    elim (cases_Bool (is_known old n)) [
      | inl it ↦ rw (it, known-stays kept old new more n it) (omega arith)
      | inr none ↦ elim (cases_Bool (is_known new n)) [
        | inl it ↦ rw (none, it) (omega arith)
        | inr too ↦ rw (none, too) (omega arith)
      ]
    ]

pub unknown_in-less : (kept : List (ℕ × Mark)) (old new : List (ℕ × Option Mark)) → ReadsMore kept old new → (all : List ℕ) → unknown_in new all ≤ unknown_in old all
unknown_in-less kept old new more [] = omega arith
unknown_in-less kept old new more (n ∷ ns) =
    let a = unknown-less kept old new more n in
    let b = unknown_in-less kept old new more ns in
    omega (arith, a, b)

-- by one at least where one of them has a row since
unknown_in-one : (kept : List (ℕ × Mark)) (old new : List (ℕ × Option Mark)) → ReadsMore kept old new → (n : ℕ) → is_known old n ≡ false → is_known new n ≡ true → (all : List ℕ) → is_one_of n all ≡ true →
    unknown_in new all + 1 ≤ unknown_in old all
unknown_in-one kept old new more n none there [] among = absurd (both_ways _ refl among)
unknown_in-one kept old new more n none there (k ∷ ks) among =
    elim (cases_Bool (eqb k n)) [
      | inl same ↦
          let e : k ≡ n = eqb-true k n same in
          let was : unknown old k ≡ 1 = ap (unknown old) e ∙ rw none refl in
          let is : unknown new k ≡ 0 = ap (unknown new) e ∙ rw there refl in
          let rest = unknown_in-less kept old new more ks in
          omega (arith, was, is, rest)
      | inr other ↦
          let a = unknown-less kept old new more k in
          let b = unknown_in-one kept old new more n none there ks (rw other at among) in
          omega (arith, a, b)
    ]

-- so one read more is paid for
pub spends-one : (kept : List (ℕ × Mark)) (old new : List (ℕ × Option Mark)) (n reads reads' : ℕ) → ReadsMore kept old new → is_known old n ≡ false → is_known new n ≡ true → reads' ≤ reads + 1 →
    SpendsAmong (λ all. is_one_of n all ≡ true) reads old reads' new
spends-one kept old new n reads reads' more none there few all among = let one = unknown_in-one kept old new more n none there all among in omega (arith, one, few)

pub few-one : (old : List (ℕ × Option Mark)) (n reads reads' : ℕ) → is_known old n ≡ false → reads' ≤ reads + 1 → FewAmong (λ all. is_one_of n all ≡ true) reads old reads'
few-one old n reads reads' none few all among = let one = at_least all among in omega (arith, one, few)
  where
    at_least : (ns : List ℕ) → is_one_of n ns ≡ true → 1 ≤ unknown_in old ns
    at_least [] in_ns = absurd (both_ways _ refl in_ns)
    at_least (k ∷ ks) in_ns =
        elim (cases_Bool (eqb k n)) [
          | inl same ↦ let was : unknown old k ≡ 1 = ap (unknown old) (eqb-true k n same) ∙ rw none refl in omega (arith, was)
          | inr other ↦ let rest = at_least ks (rw other at in_ns) in omega (arith, rest)
        ]

-- a node that has a row by its key has one
pub known-has : (n : ℕ) (rows : List (ℕ × Option Mark)) (t : Bool) → is_some (row_at first (n, 0) rows) ≡ t → is_known rows n ≡ t
known-has n rows t h = is_some-map _ (row_at first (n, 0) rows) ∙ h

-- one mark that is read
pub more-one : (kept : List (ℕ × Mark)) (old : List (ℕ × Option Mark)) (n : ℕ) → is_known old n ≡ false → ReadsMore kept old (put_row first (n, item_at n kept) old)
more-one kept old n none k =
    elim (cases_Bool (eqb n k)) [
      | inl here ↦
          let same : n ≡ k = eqb-true n k here in
          inr (nothing (item_at k old) (ap (λ j. is_known old j) (sym same) ∙ none), item_at-put k (n, item_at n kept) old ∙ rw here (ap (λ j. Some (item_at j kept)) same))
      | inr away ↦ inl (item_at-put k (n, item_at n kept) old ∙ rw away refl)
    ]
  where
    nothing : (o : Option (Option Mark)) → is_some o ≡ false → o ≡ None
    nothing None h = refl
    nothing (Some m) h = absurd (both_ways _ h refl)

pub known-one : (old : List (ℕ × Option Mark)) (n : ℕ) (o : Option Mark) → is_known (put_row first (n, o) old) n ≡ true
known-one old n o = ap is_some (item_at-put n (n, o) old) ∙ own_row
  where
    own_row : is_some (cond (eqb n n) (Some o) (item_at n old)) ≡ true
    own_row = rw (eq-eqb n n refl) refl

-- ---- one after another: `last` is what is known at the end
pub all-next : {X : Type 0} (kept : List (ℕ × Mark)) (node : X → ℕ) (xs : List X) (i : ℕ) (d : X) → i < length xs → (new last : List (ℕ × Option Mark)) → is_known new (node (get_or xs i d)) ≡ true → ReadsMore kept new last →
    AllKnown last node (drop (i + 1) xs) → AllKnown last node (drop i xs)
all-next kept node xs i d lt new last there more rest = subst (λ l. AllKnown last node l) (sym (drop_more xs i d lt)) (known-stays kept new last more (node (get_or xs i d)) there, rest)

pub spends-next : {X : Type 0} (node : X → ℕ) (xs : List X) (i : ℕ) (d : X) → i < length xs → (old now new : List (ℕ × Option Mark)) (reads reads' reads'' : ℕ) → SpendsAmong (λ all. AllAmong all node xs) reads old reads' now →
    SpendsAmong (λ all. is_one_of (node (get_or xs i d)) all ≡ true) reads' now reads'' new → SpendsAmong (λ all. AllAmong all node xs) reads old reads'' new
spends-next node xs i d lt old now new reads reads' reads'' before one all among =
    let a = before all among in
    let b = one all (row-at (λ x. is_one_of (node x) all ≡ true) xs i d lt among) in
    omega (arith, a, b)

-- a read that fails is one of those that may be
pub few-next : {X : Type 0} (node : X → ℕ) (xs : List X) (i : ℕ) (d : X) → i < length xs → (old now : List (ℕ × Option Mark)) (reads reads' reads'' : ℕ) → SpendsAmong (λ all. AllAmong all node xs) reads old reads' now →
    FewAmong (λ all. is_one_of (node (get_or xs i d)) all ≡ true) reads' now reads'' → FewAmong (λ all. AllAmong all node xs) reads old reads''
few-next node xs i d lt old now reads reads' reads'' before one all among =
    let a = before all among in
    let b = one all (row-at (λ x. is_one_of (node x) all ≡ true) xs i d lt among) in
    omega (arith, a, b)

-- what is paid for is no more than what may be read
pub few-spent : (asked : List ℕ → Type 0) (reads : ℕ) (old : List (ℕ × Option Mark)) (reads' : ℕ) (new : List (ℕ × Option Mark)) → SpendsAmong asked reads old reads' new → FewAmong asked reads old reads'
few-spent asked reads old reads' new spent all among = let a = spent all among in omega (arith, a)

-- ---- rows that tell the same of each node
pub more-like : (kept : List (ℕ × Mark)) (old mid new : List (ℕ × Option Mark)) → ReadsMore kept old mid → ((n : ℕ) → item_at n new ≡ item_at n mid) → ReadsMore kept old new
more-like kept old mid new more like n =
    elim (more n) [
      | inl same ↦ inl (like n ∙ same)
      | inr came ↦ inr (came.0, like n ∙ came.1)
    ]

pub unknown-like : (old new : List (ℕ × Option Mark)) → ((n : ℕ) → item_at n new ≡ item_at n old) → (all : List ℕ) → unknown_in new all ≡ unknown_in old all
unknown-like old new like [] = refl
unknown-like old new like (n ∷ ns) =
    ap (λ (o : Option (Option Mark)). (if is_some o then 0 else 1) + unknown_in new ns) (like n) ∙ ap (λ k. unknown old n + k) (unknown-like old new like ns)
