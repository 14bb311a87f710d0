-- All that changes put, without what they drop, is what they make of the rows one after another.
use Rattle.wsm_lists.proofs.Common.{[], ℕ, ◌++◌, ◌+◌, ◌<◌, ◌∙◌, ◌∷◌, ◌≡◌, ◌≤◌, absent_of, AllRows, ap, append-nil, append_assoc, arith, Ascends, Bool, both_ways, cases_Bool, changed, cond, drop, drop_all, drop_more, eqb, eqb-true, false}
use Rattle.wsm_lists.proofs.Common.{filter, first, get_or, inl, inr, is_gone, is_some, item_after, item_at, key_lt, length, length-append, length-set, List, list_any, ltb-true, ne_eqb, None, not, Option, put_all, put_before, put_row}
use Rattle.wsm_lists.proofs.{Common.{puts_of, refl, row_at, rows_below, Some, sym, take, take-append-le, take_at, true}, ByNumber.{ascends-changed, is_some-map, item_at-above, item_at-changed, item_at-put, items-same, lt_number}}
use Rattle.wsm_lists.proofs.Rows.{ascends_put, insert_where_absent, rows_below_le, set_where_there}
use Rattle.std.proofs.lemmas.List.Edits.{length-insert}

module _ {A : Type 0} where
  -- how long rows are with one more put
  length-put : (y : ℕ × A) (xs : List (ℕ × A)) → Ascends first xs → length (put_row first y xs) ≡ length xs + cond (is_some (item_at y.0 xs)) 0 1
  length-put y xs s =
      let same = is_some-map (λ r. r.1) (row_at first (y.0, 0) xs) in
      elim (cases_Bool (is_some (item_at y.0 xs))) [
        | inl there ↦
            let here : is_some (row_at first (y.0, 0) xs) ≡ true = sym same ∙ there in
            rw there (ap length (set_where_there first y xs s here) ∙ length-set xs (rows_below first (y.0, 0) xs) y ∙ omega arith)
        | inr absent ↦
            let here : is_some (row_at first (y.0, 0) xs) ≡ false = sym same ∙ absent in
            rw absent (ap length (insert_where_absent first y xs s here) ∙ length-insert xs (rows_below first (y.0, 0) xs) y (rows_below_le first (y.0, 0) xs) ∙ omega arith)
      ]

  -- what is put makes no difference to other numbers
  absent-same : (y : ℕ × A) (ys xs : List (ℕ × A)) → AllRows (λ z. key_lt (first y) (first z) ≡ true) ys → absent_of ys (put_row first y xs) ≡ absent_of ys xs
  absent-same y [] xs above = refl
  absent-same y (z ∷ zs) xs above =
      let less : y.0 < z.0 = ltb-true y.0 z.0 (sym (lt_number y.0 z.0) ∙ above.0) in
      let other : item_at z.0 (put_row first y xs) ≡ item_at z.0 xs = item_at-put z.0 y xs ∙ ap (λ b. cond b (Some y.1) (item_at z.0 xs)) (ne_eqb y.0 z.0 (omega (arith, less))) in
      let rest = absent-same y zs xs above.1 in
      elim (cases_Bool (is_some (item_at z.0 xs))) [
        | inl there ↦ rw (other, there) rest
        | inr absent ↦ rw (other, absent) (ap (λ l. z ∷ l) rest)
      ]

  -- how long rows are with all put
  pub grown : (ys xs : List (ℕ × A)) → Ascends first ys → Ascends first xs → length (put_all ys xs) ≡ length xs + length (absent_of ys xs)
  grown [] xs sy sx = omega arith
  grown (y ∷ ys) xs sy sx =
      let next = grown ys (put_row first y xs) sy.1 (ascends_put first y xs sx) in
      let one = length-put y xs sx in
      let same : length (absent_of ys (put_row first y xs)) ≡ length (absent_of ys xs) = ap length (absent-same y ys xs sy.0) in
      elim (cases_Bool (is_some (item_at y.0 xs))) [
        | inl there ↦ let e : length (put_row first y xs) ≡ length xs + 0 = rw there at one in rw there (omega (arith, next, e, same))
        | inr absent ↦ let e : length (put_row first y xs) ≡ length xs + 1 = rw absent at one in rw absent (omega (arith, next, e, same))
      ]

  -- rows that ascend still do with some of them gone
  all-filter : (P : ℕ × A → Type 0) (test : ℕ × A → Bool) (xs : List (ℕ × A)) → AllRows P xs → AllRows P (filter test xs)
  all-filter P test [] h = tt
  all-filter P test (x ∷ xs) h = elim (cases_Bool (test x)) [ inl it ↦ rw it (h.0, all-filter P test xs h.1) | inr other ↦ rw other (all-filter P test xs h.1) ]

  pub ascends-filter : (test : ℕ × A → Bool) (xs : List (ℕ × A)) → Ascends first xs → Ascends first (filter test xs)
  ascends-filter test [] s = tt
  ascends-filter test (x ∷ xs) s = elim (cases_Bool (test x)) [ inl it ↦ rw it (all-filter _ test xs s.0, ascends-filter test xs s.1) | inr other ↦ rw other (ascends-filter test xs s.1) ]

  item_at-filter : (n : ℕ) (test : ℕ → Bool) (xs : List (ℕ × A)) → item_at n (filter (λ r. test r.0) xs) ≡ cond (test n) (item_at n xs) None
  item_at-filter n test [] = elim (cases_Bool (test n)) [ inl it ↦ rw it refl | inr other ↦ rw other refl ]
  item_at-filter n test (x ∷ xs) =
      elim (cases_Bool (eqb x.0 n)) [
        | inl here ↦
            let same : test x.0 ≡ test n = ap test (eqb-true x.0 n here) in
            elim (cases_Bool (test n)) [
              | inl it ↦ rw (same, it, here) refl
              | inr other ↦ rw (same, other) (item_at-filter n test xs ∙ ap (λ b. cond b (item_at n xs) None) other)
            ]
        | inr away ↦ elim (cases_Bool (test x.0)) [
          | inl it ↦ rw (it, away) (item_at-filter n test xs)
          | inr other ↦ rw (other, away) (item_at-filter n test xs)
        ]
      ]

  -- what a number's row holds, by what was put there
  abbrev put_after : Option (Option A) → Option A → Option A
  put_after (Some (Some x)) old = Some x
  put_after _ old = old

  pub ascends-put_all : (ys xs : List (ℕ × A)) → Ascends first xs → Ascends first (put_all ys xs)
  ascends-put_all [] xs s = s
  ascends-put_all (y ∷ ys) xs s = ascends-put_all ys (put_row first y xs) (ascends_put first y xs s)

  item_at-put_all : (n : ℕ) (cs : List (ℕ × Option A)) (xs : List (ℕ × A)) → Ascends first cs → item_at n (put_all (puts_of cs) xs) ≡ put_after (item_at n cs) (item_at n xs)
  item_at-put_all n [] xs s = refl
  item_at-put_all n (c ∷ cs) xs s = go c.0 c.1 (λ same. item_at-above n c cs s.0 same) (λ ys. item_at-put_all n cs ys s.1)
    where
      go : (m : ℕ) (o : Option A) → (eqb m n ≡ true → item_at n cs ≡ None) → ((ys : List (ℕ × A)) → item_at n (put_all (puts_of cs) ys) ≡ put_after (item_at n cs) (item_at n ys)) →
          item_at n (put_all (put_before m o (puts_of cs)) xs) ≡ put_after (item_at n ((m, o) ∷ cs)) (item_at n xs)
      go m None none next =
          elim (cases_Bool (eqb m n)) [
            | inl here ↦ rw here (next xs ∙ ap (λ o. put_after o (item_at n xs)) (none here))
            | inr away ↦ rw away (next xs)
          ]
      go m (Some x) none next =
          next (put_row first (m, x) xs) ∙ ap (put_after (item_at n cs)) (item_at-put n (m, x) xs)
          ∙ elim (cases_Bool (eqb m n)) [
            | inl here ↦ rw (here, none here) refl
            | inr away ↦ rw away refl
          ]

  both-after : (c : Option (Option A)) (old : Option A) → cond (not (is_gone c)) (put_after c old) None ≡ item_after c old
  both-after None old = refl
  both-after (Some None) old = refl
  both-after (Some (Some x)) old = refl

  -- all that is put, without what goes
  pub taken-in : (cs : List (ℕ × Option A)) (xs : List (ℕ × A)) → Ascends first cs → Ascends first xs → filter (λ r. not (is_gone (item_at r.0 cs))) (put_all (puts_of cs) xs) ≡ changed cs xs
  taken-in cs xs sc sx =
      items-same _ _ (ascends-filter (λ r. not (is_gone (item_at r.0 cs))) (put_all (puts_of cs) xs) (ascends-put_all (puts_of cs) xs sx)) (ascends-changed cs xs sx) (λ n.
      item_at-filter n (λ m. not (is_gone (item_at m cs))) (put_all (puts_of cs) xs)
      ∙ ap (λ o. cond (not (is_gone (item_at n cs))) o None) (item_at-put_all n cs xs sc)
      ∙ both-after (item_at n cs) (item_at n xs)
      ∙ sym (item_at-changed n cs xs sc sx))

  -- where each change puts a row, none goes
  none-gone : (n : ℕ) (cs : List (ℕ × Option A)) → list_any (λ c. not (is_some c.1)) cs ≡ false → is_gone (item_at n cs) ≡ false
  none-gone n [] h = refl
  none-gone n (c ∷ cs) h = go c.0 c.1 h (none-gone n cs)
    where
      go : (m : ℕ) (o : Option A) → list_any (λ c. not (is_some c.1)) ((m, o) ∷ cs) ≡ false → (list_any (λ c. not (is_some c.1)) cs ≡ false → is_gone (item_at n cs) ≡ false) → is_gone (item_at n ((m, o) ∷ cs)) ≡ false
      go m None h next = absurd (both_ways _ h refl)
      go m (Some x) h next = elim (cases_Bool (eqb m n)) [ inl here ↦ rw here refl | inr away ↦ rw away (next h) ]

  pub all-stay : (cs : List (ℕ × Option A)) (xs : List (ℕ × A)) → list_any (λ c. not (is_some c.1)) cs ≡ false → filter (λ r. not (is_gone (item_at r.0 cs))) xs ≡ xs
  all-stay cs [] h = refl
  all-stay cs (x ∷ xs) h = rw (none-gone x.0 cs h) (ap (λ l. x ∷ l) (all-stay cs xs h))

module _ {A : Type 0} where
  -- one change in front of others
  pub put_all-front : (n : ℕ) (o : Option A) (ys xs : List (ℕ × A)) → put_all (put_before n o ys) xs ≡ put_all ys (put_all (put_before n o []) xs)
  put_all-front n None ys xs = refl
  put_all-front n (Some x) ys xs = refl

  pub absent_of-front : (n : ℕ) (o : Option A) (ys xs : List (ℕ × A)) → absent_of (put_before n o ys) xs ≡ absent_of (put_before n o []) xs ++ absent_of ys xs
  absent_of-front n None ys xs = refl
  absent_of-front n (Some x) ys xs = elim (cases_Bool (is_some (item_at n xs))) [ inl there ↦ rw there refl | inr absent ↦ rw absent refl ]

  puts-kept : (c : ℕ × Option A) (cs : List (ℕ × Option A)) → AllRows (λ d. key_lt (first c) (first d) ≡ true) cs → AllRows (λ r. key_lt (first c) (first r) ≡ true) (puts_of cs)
  puts-kept c [] h = tt
  puts-kept c (d ∷ ds) h = go d.0 d.1 h.0 (puts-kept c ds h.1)
    where
      go : (m : ℕ) (o : Option A) → key_lt (first c) (m, 0) ≡ true → AllRows (λ r. key_lt (first c) (first r) ≡ true) (puts_of ds) → AllRows (λ r. key_lt (first c) (first r) ≡ true) (put_before m o (puts_of ds))
      go m None less rest = rest
      go m (Some x) less rest = (less, rest)

  -- the rows that changes put ascend, where these do
  pub ascends-puts : (cs : List (ℕ × Option A)) → Ascends first cs → Ascends first (puts_of cs)
  ascends-puts [] s = tt
  ascends-puts (c ∷ cs) s = go c.0 c.1 (puts-kept c cs s.0) (ascends-puts cs s.1)
    where
      go : (m : ℕ) (o : Option A) → AllRows (λ r. key_lt (m, 0) (first r) ≡ true) (puts_of cs) → Ascends first (puts_of cs) → Ascends first (put_before m o (puts_of cs))
      go m None above rest = rest
      go m (Some x) above rest = (above, rest)

  -- one turn of a loop that puts what changes put
  pub set-step : (cs : List (ℕ × Option A)) (k : ℕ) (c : ℕ × Option A) → k < length cs → c ≡ get_or cs k c → (rows rows' : List (ℕ × A)) → rows' ≡ put_all (put_before c.0 c.1 []) rows →
      put_all (puts_of (drop (k + 1) cs)) rows' ≡ put_all (puts_of (drop k cs)) rows
  set-step cs k c inside is rows rows' next =
      ap (put_all (puts_of (drop (k + 1) cs))) next
      ∙ sym (put_all-front c.0 c.1 (puts_of (drop (k + 1) cs)) rows)
      ∙ ap (λ d. put_all (puts_of (d ∷ drop (k + 1) cs)) rows) is
      ∙ ap (λ l. put_all (puts_of l) rows) (sym (drop_more cs k c inside))

  -- one turn of a loop that puts behind the rows what changes put where there is no row
  pub push-step : (old rows pushed : List (ℕ × A)) (cs : List (ℕ × Option A)) (k : ℕ) (c : ℕ × Option A) (count : ℕ) → k < length cs → c ≡ get_or cs k c → count ≤ length rows → take count rows ≡ old → pushed ≡ rows ++ absent_of (put_before c.0 c.1 []) (take count rows) →
      (count ≤ length pushed) × (take count pushed ≡ old) × (pushed ++ absent_of (puts_of (drop (k + 1) cs)) old ≡ rows ++ absent_of (puts_of (drop k cs)) old)
  push-step old rows pushed cs k c count inside is long front next =
      let rest : List (ℕ × A) = absent_of (puts_of (drop (k + 1) cs)) old in
      let one : List (ℕ × A) = absent_of (put_before c.0 c.1 []) old in
      let new : pushed ≡ rows ++ one = next ∙ ap (λ l. rows ++ absent_of (put_before c.0 c.1 []) l) front in
      let all : one ++ rest ≡ absent_of (puts_of (drop k cs)) old =
      sym (absent_of-front c.0 c.1 (puts_of (drop (k + 1) cs)) old)
      ∙ ap (λ d. absent_of (puts_of (d ∷ drop (k + 1) cs)) old) is
      ∙ ap (λ l. absent_of (puts_of l) old) (sym (drop_more cs k c inside)) in (
        omega (arith, long, ap length new, length-append rows one),
        ap (take count) new ∙ take-append-le count rows one long ∙ front,
        ap (λ l. l ++ rest) new ∙ append_assoc rows one rest ∙ ap (λ l. rows ++ l) all,
      )

  pub no-more : (old rows : List (ℕ × A)) (cs : List (ℕ × Option A)) (k : ℕ) → length cs ≤ k → rows ++ absent_of (puts_of (drop k cs)) old ≡ rows
  no-more old rows cs k end = ap (λ l. rows ++ absent_of (puts_of l) old) (drop_all k cs end) ∙ append-nil rows

  -- what was there, among rows with others behind them
  pub pushed-front : (old more pushed : List (ℕ × A)) (count : ℕ) → count ≡ length old → pushed ≡ old ++ more → (count ≤ length pushed) × (take count pushed ≡ old)
  pushed-front old more pushed count long next = (omega (arith, long, ap length next, length-append old more), ap (take count) next ∙ take_at old more count (sym long))

  -- rows that are as many as they were have no others behind them
  pub pushed-none : (old more pushed : List (ℕ × A)) → length pushed ≡ length old → pushed ≡ old ++ more → pushed ≡ old
  pushed-none old [] pushed long next = next ∙ append-nil old
  pushed-none old (y ∷ ys) pushed long next = absurd (omega (arith, long, ap length next, length-append old (y ∷ ys)))

  -- how long the rows are with those behind them for which there is no row
  pub pushed-size : (old pushed : List (ℕ × A)) (cs : List (ℕ × Option A)) (count : ℕ) → Ascends first old → Ascends first cs → count ≡ length old → pushed ≡ old ++ absent_of (puts_of cs) old →
      length pushed ≡ length (put_all (puts_of cs) (take count pushed))
  pushed-size old pushed cs count so sc long next =
      let front : take count pushed ≡ old = ap (take count) next ∙ take_at old (absent_of (puts_of cs) old) count (sym long) in
      ap length next ∙ length-append old (absent_of (puts_of cs) old) ∙ sym (grown (puts_of cs) old (ascends-puts cs sc) so) ∙ ap (λ l. length (put_all (puts_of cs) l)) (sym front)
