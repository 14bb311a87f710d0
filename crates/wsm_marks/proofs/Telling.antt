-- The facts of a trail are told by its entries, one at each position.
use Rattle.wsm_marks.proofs.Common.{[], ℕ, ◌++◌, ◌<◌, ◌||◌, ◌∙◌, ◌∷◌, ◌≡◌, ◌≤◌, all-rows-map, AllRows, ap, append_assoc, arith, below, Bool, cases_Bool, early, Ends, Entries, Entry, Facts, facts_of, false, find, first_misfit, FlatModel}
use Rattle.wsm_marks.proofs.Common.{Fresh, inl, InOrder, inr, is_end_of, is_start_of, last_position, le-ltb, List, list_any, lt-ltb, ltb-true, Marking, nat_lt, or-false, or_parts, Orderly, position_of, Quiet, refl, replay_of, RisesAfter}
use Rattle.wsm_marks.proofs.{Common.{subst, suc, sym, Tells, Told, true, value_below}, Causality.TimedNet, FirstFailure.replay-ends, Lists.{lt-suc_self, or_none, rows-last}}

-- all positions below q
abbrev pub AllBelow : ℕ → Entries → Type 0
AllBelow q es = AllRows (λ e. nat_lt e.0 q ≡ true) es

-- positions below a number are below a greater one
pub all_below-later : (a b : ℕ) → a ≤ b → (es : Entries) → AllBelow a es → AllBelow b es
all_below-later a b le es h = all-rows-map _ _ (λ e x. lt-ltb e.0 b (omega (arith, ltb-true e.0 a x))) es h

module _ (test : Entry → Bool) where
  -- whether an entry passes the test
  abbrev pub has_entry : Entries → Bool
  has_entry es = list_any (λ e. test e.1) es

  -- nothing is early behind the last position
  pub rest-late : (q last : ℕ) → q ≤ suc last → (es : Entries) → RisesAfter last es → early q (position_of test es) ≡ false
  rest-late q last le [] rises = refl
  rest-late q last le (e ∷ es) rises =
      elim (cases_Bool (test e.1)) [
        | inl it ↦ rw it (le-ltb e.0 q (omega (arith, ltb-true last e.0 rises.0)))
        | inr other ↦ rw other (rest-late q e.0 (omega (arith, ltb-true last e.0 rises.0)) es rises.1)
      ]

  at_head : (q : ℕ) (e : ℕ × Entry) (es : Entries) → nat_lt e.0 q ≡ true → early q (position_of test (e ∷ es)) ≡ (test e.1 || early q (position_of test es))
  at_head q e es lt = elim (cases_Bool (test e.1)) [ inl it ↦ rw (it, lt) refl | inr other ↦ rw other refl ]

  -- the first entry that passes, where those in front have lower positions
  pub early-behind : (q : ℕ) (front rest : Entries) → AllBelow q front → early q (position_of test (front ++ rest)) ≡ (has_entry front || early q (position_of test rest))
  early-behind q [] rest h = refl
  early-behind q (e ∷ es) rest h =
      elim (cases_Bool (test e.1)) [
        | inl it ↦ rw (it, h.0) refl
        | inr other ↦ rw other (early-behind q es rest h.1)
      ]

  quiet-rest : (front rest : Entries) (last q : ℕ) → AllBelow (suc last) front → RisesAfter last rest → suc last ≤ q → early q (position_of test rest) ≡ false →
      early q (position_of test (front ++ rest)) ≡ early (suc last) (position_of test (front ++ rest))
  quiet-rest front rest last q below rises le none =
      early-behind q front rest (all_below-later (suc last) q le front below) ∙ or_none (has_entry front) _ none
      ∙ sym (early-behind (suc last) front rest below ∙ or_none (has_entry front) _ (rest-late (suc last) last (omega arith) rest rises))

  head-late : (e : ℕ × Entry) (rest : Entries) → RisesAfter e.0 rest → early e.0 (position_of test (e ∷ rest)) ≡ false
  head-late e rest rises =
      elim (cases_Bool (test e.1)) [
        | inl it ↦ rw it (le-ltb e.0 e.0 (omega arith))
        | inr other ↦ rw other (rest-late e.0 e.0 (omega arith) rest rises)
      ]

  step-head : (front rest : Entries) (e : ℕ × Entry) (last : ℕ) → AllBelow (suc last) front → RisesAfter last (e ∷ rest) →
      early (suc e.0) (position_of test (front ++ (e ∷ rest))) ≡ (early e.0 (position_of test (front ++ (e ∷ rest))) || test e.1)
  step-head front rest e last below rises =
      let lt : last < e.0 = ltb-true last e.0 rises.0 in
      let more : AllBelow (suc e.0) front = all_below-later (suc last) (suc e.0) (omega arith) front below in
      let same : AllBelow e.0 front = all_below-later (suc last) e.0 (omega arith) front below in
      let late : early (suc e.0) (position_of test rest) ≡ false = rest-late (suc e.0) e.0 (omega arith) rest rises.1 in
      early-behind (suc e.0) front (e ∷ rest) more
      ∙ ap (λ b. has_entry front || b) (at_head (suc e.0) e rest (lt-suc_self e.0) ∙ or_none (test e.1) _ late)
      ∙ sym (ap (λ b. b || test e.1) (early-behind e.0 front (e ∷ rest) same ∙ or_none (has_entry front) _ (head-late e rest rises.1)))

  quiet-head : (front rest : Entries) (e : ℕ × Entry) (last : ℕ) → AllBelow (suc last) front → RisesAfter last (e ∷ rest) →
      early e.0 (position_of test (front ++ (e ∷ rest))) ≡ early (suc last) (position_of test (front ++ (e ∷ rest)))
  quiet-head front rest e last below rises =
      let lt : last < e.0 = ltb-true last e.0 rises.0 in
      quiet-rest front (e ∷ rest) last e.0 below rises (omega arith) (head-late e rest rises.1)

-- ---- a trail with one more entry
pub has-last : (test : Entry → Bool) (es : Entries) (e : ℕ × Entry) → has_entry test (es ++ e ∷ []) ≡ (has_entry test es || test e.1)
has-last test [] e = or-false (test e.1)
has-last test (d ∷ ds) e = elim (cases_Bool (test d.1)) [ inl it ↦ rw it refl | inr other ↦ rw other (has-last test ds e) ]

-- one more entry that fails the test is not found
pub find-last : (test : Entry → Bool) (es : Entries) (e : ℕ × Entry) → test e.1 ≡ false → find (λ x. test x.1) (es ++ e ∷ []) ≡ find (λ x. test x.1) es
find-last test [] e h = rw h refl
find-last test (d ∷ ds) e h = elim (cases_Bool (test d.1)) [ inl it ↦ rw it refl | inr other ↦ rw other (find-last test ds e h) ]

-- what is found behind entries that all fail the test
pub find-behind : (test : Entry → Bool) (es rest : Entries) → has_entry test es ≡ false → find (λ x. test x.1) (es ++ rest) ≡ find (λ x. test x.1) rest
find-behind test [] rest h = refl
find-behind test (d ∷ ds) rest h =
    let p = or_parts (test d.1) (has_entry test ds) h in rw p.0 (find-behind test ds rest p.1)

told-behind : (front rest : Entries) (last : ℕ) → AllBelow (suc last) front → RisesAfter last rest → AllRows (λ e. InOrder (facts_of (front ++ rest)) e.0 e.1) rest → Told (facts_of (front ++ rest)) last rest
told-behind front [] last below rises order = λ q lt.
    let less : last < q = ltb-true last q lt in
    record {
      starts = λ n. quiet-rest (is_start_of n) front [] last q below rises (omega arith) refl;
      ends = λ n. quiet-rest (is_end_of n) front [] last q below rises (omega arith) refl;
    }
told-behind front (e ∷ es) last below rises order =
    let lt : last < e.0 = ltb-true last e.0 rises.0 in
    let tells : Tells (facts_of (front ++ (e ∷ es))) last e.0 e.1 = record {
      later = rises.0;
      quiet = record { starts = λ n. quiet-head (is_start_of n) front es e last below rises; ends = λ n. quiet-head (is_end_of n) front es e last below rises };
      starts = λ n. step-head (is_start_of n) front es e last below rises;
      ends = λ n. step-head (is_end_of n) front es e last below rises;
      order = order.0;
    } in
    let regroup : (front ++ e ∷ []) ++ es ≡ front ++ (e ∷ es) = append_assoc front (e ∷ []) es in (
      tells,
      subst (λ l. Told (facts_of l) e.0 es) regroup
          (told-behind (front ++ e ∷ []) es e.0
          (rows-last _ front e (all_below-later (suc last) (suc e.0) (omega arith) front below) (lt-suc_self e.0))
          rises.1 (subst (λ l. AllRows (λ d. InOrder (facts_of l) d.0 d.1) es) (sym regroup) order.1)),
    )

-- an orderly trail tells its facts
pub orderly-told : (es : Entries) → Orderly es → Told (facts_of es) 0 es
orderly-told es orderly = told-behind [] es 0 tt orderly.rises orderly.order

-- nothing is told before position 1
pub orderly-fresh : (es : Entries) → Orderly es → Fresh (facts_of es)
orderly-fresh es orderly = record {
  starts = λ n. rest-late (is_start_of n) 1 0 (omega arith) es orderly.rises;
  ends = λ n. rest-late (is_end_of n) 1 0 (omega arith) es orderly.rises;
}

-- nothing is told behind the last position
pub told-end : (f : Facts) (last : ℕ) (es : Entries) → Told f last es → (q : ℕ) → nat_lt (last_position last es) q ≡ true → Quiet f (suc (last_position last es)) q
told-end f last [] h q lt = h q lt
told-end f last (e ∷ es) h q lt = told-end f e.0 es h.1 q lt

-- first failure of a trail: its replay fails at the first entry that does not fit, else it ends with the marking behind the last position
pub trail-ends : (g : FlatModel) (rank : List ℕ) (es : Entries) (m : Marking) → TimedNet g.cards rank (facts_of es) m → Orderly es →
    Ends g.cards (facts_of es) m (suc (last_position 0 es)) (first_misfit g (facts_of es) m (λ d p. value_below d p es) es) (replay_of g es)
trail-ends g rank es m net orderly = replay-ends g rank (facts_of es) m net es (orderly-told es orderly) (orderly-fresh es orderly)
