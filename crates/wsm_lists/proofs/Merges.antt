-- A merge from the back puts all rows at their places.
use Rattle.wsm_lists.proofs.Common.{[], ℕ, ◌++◌, ◌+◌, ◌-◌, ◌<◌, ◌∙◌, ◌∷◌, ◌≡◌, ◌≤◌, AllRows, ap, append-nil, append_assoc, arith, Ascends, cases_Bool, drop, drop-set, drop_all, eq-eqb, eqb, eqb-true, false, first, get_or, get_or-take, inl}
use Rattle.wsm_lists.proofs.Common.{inr, key_eq, key_lt, last_number, length, length-append, length-set, length-take-le, List, lt-ltb, ltb-true, Merging, None, Option, put_all, put_before, put_row, puts_of, refl, set, Some, subst, suc, sym}
use Rattle.wsm_lists.proofs.{Common.{take, take-append-drop, take-set-le, take-take, take_all, take_more, true, zero}, ByNumber.{eq_number, lt_number}, Lists.{all-rows-map, rows-append, rows-parts}, Rows.all_put}

less_key : (a b : ℕ) → a < b → key_lt (a, 0) (b, 0) ≡ true
less_key a b less = lt_number a b ∙ lt-ltb a b less

not_less_key : (a b : ℕ) → b ≤ a → key_lt (a, 0) (b, 0) ≡ false
not_less_key a b le = elim (cases_Bool (key_lt (a, 0) (b, 0))) [ inl less ↦ absurd (omega (arith, le, ltb-true a b (sym (lt_number a b) ∙ less))) | inr fine ↦ fine ]

other_key : (a b : ℕ) → (a ≡ b → ⊥) → key_eq (a, 0) (b, 0) ≡ false
other_key a b apart = eq_number a b ∙ (elim (cases_Bool (eqb a b)) [ inl same ↦ absurd (apart (eqb-true a b same)) | inr fine ↦ fine ])

module _ {A : Type 0} where
  -- all numbers are below n
  abbrev pub Below : ℕ → List (ℕ × A) → Type 0
  Below n xs = AllRows (λ r. r.0 < n) xs

  puts-last : (cs : List (ℕ × Option A)) (n : ℕ) (o : Option A) → puts_of (cs ++ (n, o) ∷ []) ≡ puts_of cs ++ put_before n o []
  puts-last [] n o = refl
  puts-last (c ∷ cs) n o = go c.0 c.1 (puts-last cs n o)
    where
      go : (m : ℕ) (p : Option A) → puts_of (cs ++ (n, o) ∷ []) ≡ puts_of cs ++ put_before n o [] → put_before m p (puts_of (cs ++ (n, o) ∷ [])) ≡ put_before m p (puts_of cs) ++ put_before n o []
      go m None h = h
      go m (Some x) h = ap (λ l. (m, x) ∷ l) h

  put_all-last : (ys : List (ℕ × A)) (y : ℕ × A) (xs : List (ℕ × A)) → put_all (ys ++ y ∷ []) xs ≡ put_row first y (put_all ys xs)
  put_all-last [] y xs = refl
  put_all-last (z ∷ zs) y xs = put_all-last zs y (put_row first z xs)

  -- a row above all comes last
  put-end : (y : ℕ × A) (xs : List (ℕ × A)) → Below y.0 xs → put_row first y xs ≡ xs ++ y ∷ []
  put-end y [] low = refl
  put-end y (x ∷ xs) low = rw (less_key x.0 y.0 low.0) (ap (λ l. x ∷ l) (put-end y xs low.1))

  -- a row is put in front of a later one
  put-before : (y x : ℕ × A) (xs : List (ℕ × A)) → y.0 < x.0 → put_row first y (xs ++ x ∷ []) ≡ put_row first y xs ++ x ∷ []
  put-before y x [] less = rw (not_less_key x.0 y.0 (omega (arith, less)), other_key x.0 y.0 (λ e. omega (arith, e, less))) refl
  put-before y x (z ∷ zs) less =
      elim (cases_Bool (key_lt (z.0, 0) (y.0, 0))) [
        | inl low ↦ rw low (ap (λ l. z ∷ l) (put-before y x zs less))
        | inr high ↦ elim (cases_Bool (key_eq (z.0, 0) (y.0, 0))) [
          | inl same ↦ rw (high, same) refl
          | inr other ↦ rw (high, other) refl
        ]
      ]

  put_all-before : (ys : List (ℕ × A)) (x : ℕ × A) (xs : List (ℕ × A)) → Below x.0 ys → put_all ys (xs ++ x ∷ []) ≡ put_all ys xs ++ x ∷ []
  put_all-before [] x xs low = refl
  put_all-before (y ∷ ys) x xs low = ap (put_all ys) (put-before y x xs low.0) ∙ put_all-before ys x (put_row first y xs) low.1

  put_all-below : (n : ℕ) (ys xs : List (ℕ × A)) → Below n ys → Below n xs → Below n (put_all ys xs)
  put_all-below n [] xs low_y low_x = low_x
  put_all-below n (y ∷ ys) xs low_y low_x = put_all-below n ys (put_row first y xs) low_y.1 (all_put first (λ r. r.0 < n) y xs low_y.0 low_x)

  -- a row in place of the last one, which has its number
  put-same : (y x : ℕ × A) (xs : List (ℕ × A)) → Below y.0 xs → x.0 ≡ y.0 → put_row first y (xs ++ x ∷ []) ≡ xs ++ y ∷ []
  put-same y x [] low same = rw (not_less_key x.0 y.0 (omega (arith, same)), eq_number x.0 y.0 ∙ eq-eqb x.0 y.0 same) refl
  put-same y x (z ∷ zs) low same = rw (less_key z.0 y.0 low.0) (ap (λ l. z ∷ l) (put-same y x zs low.1 same))

  longer-put : (y : ℕ × A) (xs : List (ℕ × A)) → length xs ≤ length (put_row first y xs)
  longer-put y [] = omega arith
  longer-put y (x ∷ xs) =
      elim (cases_Bool (key_lt (x.0, 0) (y.0, 0))) [
        | inl low ↦ rw low (omega (arith, longer-put y xs))
        | inr high ↦ elim (cases_Bool (key_eq (x.0, 0) (y.0, 0))) [
          | inl same ↦ rw (high, same) (omega arith)
          | inr other ↦ rw (high, other) (omega arith)
        ]
      ]

  pub longer-put_all : (ys xs : List (ℕ × A)) → length xs ≤ length (put_all ys xs)
  longer-put_all [] xs = omega arith
  longer-put_all (y ∷ ys) xs = omega (arith, longer-put y xs, longer-put_all ys (put_row first y xs))

-- the last of rows that ascend is above the others
ascends-last : {X : Type 0} (xs : List (ℕ × X)) (y : ℕ × X) → Ascends first (xs ++ y ∷ []) → AllRows (λ r. r.0 < y.0) xs
ascends-last [] y s = tt
ascends-last (x ∷ xs) y s = (ltb-true x.0 y.0 (sym (lt_number x.0 y.0) ∙ (rows-parts (λ r. key_lt (x.0, 0) (r.0, 0) ≡ true) xs (y ∷ []) s.0).1.0), ascends-last xs y s.1)

ascends-front : {X : Type 0} (xs ys : List (ℕ × X)) → Ascends first (xs ++ ys) → Ascends first xs
ascends-front [] ys s = tt
ascends-front (x ∷ xs) ys s = ((rows-parts _ xs ys s.0).0, ascends-front xs ys s.1)

puts-below : {A : Type 0} (n : ℕ) (cs : List (ℕ × Option A)) → AllRows (λ c. c.0 < n) cs → AllRows (λ r. r.0 < n) (puts_of cs)
puts-below n [] low = tt
puts-below {A = A} n (c ∷ cs) low = go c.0 c.1 low.0 (puts-below n cs low.1)
  where
    go : (m : ℕ) (o : Option A) → m < n → AllRows (λ r. r.0 < n) (puts_of cs) → AllRows (λ r. r.0 < n) (put_before m o (puts_of cs))
    go m None less rest = rest
    go m (Some x) less rest = (less, rest)

-- what is written at the last place of what is still to come is done
written : {X : Type 0} (front : List X) (v : X) (rows all : List X) (place : ℕ) → length (front ++ v ∷ []) ≡ place → (front ++ v ∷ []) ++ drop place rows ≡ all → length rows ≡ length all →
    (place ≡ suc (place - 1)) × (place - 1 < length rows) × (length front ≡ place - 1) × (front ++ drop (place - 1) (set rows (place - 1) v) ≡ all)
written front v rows all place size done long =
    let one : length front + 1 ≡ place = omega (arith, size, length-append front (v ∷ [])) in
    let most : length (front ++ v ∷ []) + length (drop place rows) ≡ length rows = sym (length-append (front ++ v ∷ []) (drop place rows)) ∙ ap length done ∙ sym long in
    let inside : place - 1 < length rows = omega (arith, one, size, most) in
    let next : (place - 1) + 1 ≡ place = omega (arith, one) in
    let tail : drop (place - 1) (set rows (place - 1) v) ≡ v ∷ drop place rows = drop-set rows (place - 1) v inside ∙ ap (λ k. v ∷ drop k rows) next in
    (omega (arith, one), inside, omega (arith, one), ap (λ l. front ++ l) tail ∙ sym (append_assoc front (v ∷ []) (drop place rows)) ∙ done)

module _ {A : Type 0} (old : List (ℕ × A)) (cs : List (ℕ × Option A)) (sc : Ascends first cs) where
  module _ (l n : ℕ) (o : Option A) (d : ℕ × Option A) (inside : l < length cs) (here : get_or cs l d ≡ (n, o)) where
    split-changes : take (l + 1) cs ≡ take l cs ++ (n, o) ∷ []
    split-changes = take_more cs l d inside ∙ ap (λ c. take l cs ++ c ∷ []) here

    split-puts : puts_of (take (l + 1) cs) ≡ puts_of (take l cs) ++ put_before n o []
    split-puts = ap puts_of split-changes ∙ puts-last (take l cs) n o

    below-changes : Below n (puts_of (take l cs))
    below-changes =
        puts-below n (take l cs) (ascends-last (take l cs) (n, o)
        (subst (Ascends first) split-changes (ascends-front (take (l + 1) cs) (drop (l + 1) cs) (subst (Ascends first) (sym (take-append-drop (l + 1) cs)) sc))))

  -- a change that puts nothing is passed
  pub merge-gone : (rows : List (ℕ × A)) (kept l from n : ℕ) (d : ℕ × Option A) → Merging old cs rows kept (l + 1) from → get_or cs l d ≡ (n, None) → Merging old cs rows kept l from
  merge-gone rows kept l from n d m here =
      let puts : puts_of (take (l + 1) cs) ≡ puts_of (take l cs) = split-puts l n None d (omega (arith, m.few)) here ∙ append-nil (puts_of (take l cs)) in
      record {
        front = m.front;
        low = m.low;
        few = omega (arith, m.few);
        place = m.place ∙ ap (λ ys. length (put_all ys (take kept old))) puts;
        size = m.size;
        done = subst (λ ys. put_all ys (take kept old) ++ drop from rows ≡ put_all (puts_of cs) old) puts m.done;
      }

  -- the row that is kept goes to its place
  pub merge-later : (rows : List (ℕ × A)) (k l from n : ℕ) (x : A) (d : ℕ × Option A) (r e : ℕ × A) → Merging old cs rows (k + 1) (l + 1) from → get_or cs l d ≡ (n, Some x) → get_or rows k e ≡ r → n < r.0 →
      (0 < from) × (from - 1 < length rows) × Merging old cs (set rows (from - 1) r) k (l + 1) (from - 1)
  merge-later rows k l from n x d r e m here there less =
      let ys : List (ℕ × A) = puts_of (take (l + 1) cs) in
      let puts : ys ≡ puts_of (take l cs) ++ (n, x) ∷ [] = split-puts l n (Some x) d (omega (arith, m.few)) here in
      let inside : k < length old = omega (arith, m.low) in
      let own : get_or old k e ≡ r = sym (get_or-take (k + 1) old k e (omega arith)) ∙ ap (λ l. get_or l k e) (sym m.front) ∙ get_or-take (k + 1) rows k e (omega arith) ∙ there in
      let last : take (k + 1) old ≡ take k old ++ r ∷ [] = take_more old k e inside ∙ ap (λ c. take k old ++ c ∷ []) own in
      let low : Below r.0 ys = subst (Below r.0) (sym puts) (rows-append (λ c. c.0 < r.0) (puts_of (take l cs)) ((n, x) ∷ []) (all-rows-map _ _ (λ c h. omega (arith, h, less)) (puts_of (take l cs)) (below-changes l n (Some x) d (omega (arith, m.few)) here)) (less, tt)) in
      let split : put_all ys (take (k + 1) old) ≡ put_all ys (take k old) ++ r ∷ [] = ap (put_all ys) last ∙ put_all-before ys r (take k old) low in
      let w = written (put_all ys (take k old)) r rows (put_all (puts_of cs) old) from (ap length (sym split) ∙ sym m.place) (ap (λ l. l ++ drop from rows) (sym split) ∙ m.done) m.size in
      let long : length (take k old) ≡ k = length-take-le k old (omega (arith, inside)) in
      let front : k ≤ from - 1 = omega (arith, longer-put_all ys (take k old), long, w.2) in
      let same : take k rows ≡ take k old = sym (take-take k (k + 1) rows (omega arith)) ∙ ap (take k) m.front ∙ take-take k (k + 1) old (omega arith) in (
        omega (arith, w.0),
        w.1,
        record {
          front = take-set-le k rows (from - 1) r front ∙ same;
          low = omega (arith, inside);
          few = m.few;
          place = sym w.2;
          size = length-set rows (from - 1) r ∙ m.size;
          done = w.3;
        },
      )

  -- the row that is put comes behind all that is kept
  pub merge-put : (rows : List (ℕ × A)) (kept l from n : ℕ) (x : A) (d : ℕ × Option A) → Merging old cs rows kept (l + 1) from → get_or cs l d ≡ (n, Some x) → Below n (take kept old) →
      (0 < from) × (from - 1 < length rows) × Merging old cs (set rows (from - 1) (n, x)) kept l (from - 1)
  merge-put rows kept l from n x d m here low_old =
      let zs : List (ℕ × A) = puts_of (take l cs) in
      let puts : puts_of (take (l + 1) cs) ≡ zs ++ (n, x) ∷ [] = split-puts l n (Some x) d (omega (arith, m.few)) here in
      let low : Below n (put_all zs (take kept old)) = put_all-below n zs (take kept old) (below-changes l n (Some x) d (omega (arith, m.few)) here) low_old in
      let split : put_all (puts_of (take (l + 1) cs)) (take kept old) ≡ put_all zs (take kept old) ++ (n, x) ∷ [] = ap (λ ys. put_all ys (take kept old)) puts ∙ put_all-last zs (n, x) (take kept old) ∙ put-end (n, x) (put_all zs (take kept old)) low in
      let w = written (put_all zs (take kept old)) (n, x) rows (put_all (puts_of cs) old) from (ap length (sym split) ∙ sym m.place) (ap (λ l. l ++ drop from rows) (sym split) ∙ m.done) m.size in
      let long : length (take kept old) ≡ kept = length-take-le kept old m.low in
      let front : kept ≤ from - 1 = omega (arith, longer-put_all zs (take kept old), long, w.2) in (
        omega (arith, w.0),
        w.1,
        record {
          front = take-set-le kept rows (from - 1) (n, x) front ∙ m.front;
          low = m.low;
          few = omega (arith, m.few);
          place = sym w.2;
          size = length-set rows (from - 1) (n, x) ∙ m.size;
          done = w.3;
        },
      )

  -- the row that is put comes in place of the last one that is kept
  pub merge-same : (so : Ascends first old) (rows : List (ℕ × A)) (k l from n : ℕ) (x : A) (d : ℕ × Option A) (r e : ℕ × A) → Merging old cs rows (k + 1) (l + 1) from → get_or cs l d ≡ (n, Some x) → get_or rows k e ≡ r → r.0 ≡ n →
      (0 < from) × (from - 1 < length rows) × Merging old cs (set rows (from - 1) (n, x)) k l (from - 1)
  merge-same so rows k l from n x d r e m here there same_number =
      let zs : List (ℕ × A) = puts_of (take l cs) in
      let puts : puts_of (take (l + 1) cs) ≡ zs ++ (n, x) ∷ [] = split-puts l n (Some x) d (omega (arith, m.few)) here in
      let inside : k < length old = omega (arith, m.low) in
      let own : get_or old k e ≡ r = sym (get_or-take (k + 1) old k e (omega arith)) ∙ ap (λ l. get_or l k e) (sym m.front) ∙ get_or-take (k + 1) rows k e (omega arith) ∙ there in
      let last : take (k + 1) old ≡ take k old ++ r ∷ [] = take_more old k e inside ∙ ap (λ c. take k old ++ c ∷ []) own in
      let low_old : Below n (take k old) =
      subst (λ b. Below b (take k old)) same_number (ascends-last (take k old) r (subst (Ascends first) last (ascends-front (take (k + 1) old) (drop (k + 1) old) (subst (Ascends first) (sym (take-append-drop (k + 1) old)) so)))) in
      let low_puts : Below n zs = below-changes l n (Some x) d (omega (arith, m.few)) here in
      let low : Below n (put_all zs (take k old)) = put_all-below n zs (take k old) low_puts low_old in
      let split : put_all (puts_of (take (l + 1) cs)) (take (k + 1) old) ≡ put_all zs (take k old) ++ (n, x) ∷ [] =
      ap (λ ys. put_all ys (take (k + 1) old)) puts ∙ put_all-last zs (n, x) (take (k + 1) old)
      ∙ ap (λ os. put_row first (n, x) (put_all zs os)) last
      ∙ ap (put_row first (n, x)) (put_all-before zs r (take k old) (subst (λ b. Below b zs) (sym same_number) low_puts))
      ∙ put-same (n, x) r (put_all zs (take k old)) low same_number in
      let w = written (put_all zs (take k old)) (n, x) rows (put_all (puts_of cs) old) from (ap length (sym split) ∙ sym m.place) (ap (λ l. l ++ drop from rows) (sym split) ∙ m.done) m.size in
      let long : length (take k old) ≡ k = length-take-le k old (omega (arith, inside)) in
      let front : k ≤ from - 1 = omega (arith, longer-put_all zs (take k old), long, w.2) in
      let same : take k rows ≡ take k old = sym (take-take k (k + 1) rows (omega arith)) ∙ ap (take k) m.front ∙ take-take k (k + 1) old (omega arith) in (
        omega (arith, w.0),
        w.1,
        record {
          front = take-set-le k rows (from - 1) (n, x) front ∙ same;
          low = omega (arith, inside);
          few = omega (arith, m.few);
          place = sym w.2;
          size = length-set rows (from - 1) (n, x) ∙ m.size;
          done = w.3;
        },
      )

  -- a merge begins behind all rows and all changes
  pub merge-begins : (rows : List (ℕ × A)) → take (length old) rows ≡ old → length rows ≡ length (put_all (puts_of cs) old) → Merging old cs rows (length old) (length cs) (length rows)
  merge-begins rows front long = record {
    front = front ∙ sym (take_all (length old) old (omega arith));
    low = omega arith;
    few = omega arith;
    place = long ∙ ap length (sym all);
    size = long;
    done = ap (λ l. l ++ drop (length rows) rows) all ∙ ap (λ l. put_all (puts_of cs) old ++ l) (drop_all (length rows) rows (omega arith)) ∙ append-nil (put_all (puts_of cs) old);
  }
    where
      all : put_all (puts_of (take (length cs) cs)) (take (length old) old) ≡ put_all (puts_of cs) old
      all = ap (λ c. put_all (puts_of c) (take (length old) old)) (take_all (length cs) cs (omega arith)) ∙ ap (put_all (puts_of cs)) (take_all (length old) old (omega arith))

  -- and ends where no change is left
  pub merge-ends : (rows : List (ℕ × A)) (kept from : ℕ) → Merging old cs rows kept 0 from → rows ≡ put_all (puts_of cs) old
  merge-ends rows kept from m =
      let long : from ≡ kept = m.place ∙ length-take-le kept old m.low in
      sym (take-append-drop kept rows) ∙ ap (λ l. l ++ drop kept rows) m.front ∙ ap (λ k. take kept old ++ drop k rows) (sym long) ∙ m.done

-- the last of some rows
last-number : {A : Type 0} (xs : List (ℕ × A)) (y : ℕ × A) → last_number (xs ++ y ∷ []) ≡ Some y.0
last-number [] y = refl
last-number (x ∷ []) y = refl
last-number (x ∷ z ∷ zs) y = last-number (z ∷ zs) y

pub last-taken : {A : Type 0} (xs : List (ℕ × A)) (k : ℕ) (e : ℕ × A) → k < length xs → last_number (take (k + 1) xs) ≡ Some (get_or xs k e).0
last-taken xs k e inside = ap last_number (take_more xs k e inside) ∙ last-number (take k xs) (get_or xs k e)

abbrev or_zero : Option ℕ → ℕ
or_zero None = 0
or_zero (Some n) = n

no-last : {A : Type 0} (xs : List (ℕ × A)) → last_number xs ≡ None → xs ≡ []
no-last [] h = refl
no-last (x ∷ []) h = let q : Some x.0 ≡ None = h in absurd (cc)
no-last (x ∷ y ∷ ys) h = let r : y ∷ ys ≡ [] = no-last (y ∷ ys) h in absurd (omega (arith, ap length r))

low-last : {A : Type 0} (xs : List (ℕ × A)) (last n : ℕ) → Ascends first xs → last_number xs ≡ Some last → last < n → Below n xs
low-last [] last n s h less = tt
low-last (x ∷ []) last n s h less = let e : x.0 ≡ last = ap or_zero h in (omega (arith, e, less), tt)
low-last (x ∷ y ∷ ys) last n s h less =
    let rest = low-last (y ∷ ys) last n s.1 h less in
    let near : x.0 < y.0 = ltb-true x.0 y.0 (sym (lt_number x.0 y.0) ∙ s.0.0) in
    (omega (arith, near, rest.0), rest)

-- the rows that are kept are all there
pub kept-inside : {A : Type 0} (old : List (ℕ × A)) (cs : List (ℕ × Option A)) (rows : List (ℕ × A)) (kept left from : ℕ) → Merging old cs rows kept left from → kept ≤ length rows
kept-inside old cs rows kept left from m = omega (arith, m.low, longer-put_all (puts_of cs) old, m.size)

-- where the kept rows have a last one, some are kept
pub some-kept : {A : Type 0} (rows : List (ℕ × A)) (kept last : ℕ) → last_number (take kept rows) ≡ Some last → 1 ≤ kept
some-kept rows zero last there = let q : None ≡ Some last = there in absurd (cc)
some-kept rows (suc kept) last there = omega arith

module _ {A : Type 0} (old : List (ℕ × A)) (cs : List (ℕ × Option A)) (so : Ascends first old) (sc : Ascends first cs) (rows : List (ℕ × A)) (kept left from : ℕ) (m : Merging old cs rows kept left from) (some : 0 < left) (d : ℕ × Option A) (n : ℕ) where
  one_more : Merging old cs rows kept ((left - 1) + 1) from
  one_more = let e : left ≡ (left - 1) + 1 = omega (arith, some) in subst (λ l. Merging old cs rows kept l from) e m

  front-ascends : Ascends first (take kept old)
  front-ascends = ascends-front (take kept old) (drop kept old) (subst (Ascends first) (sym (take-append-drop kept old)) so)

  pub step-gone : get_or cs (left - 1) d ≡ (n, None) → Merging old cs rows kept (left - 1) from
  step-gone here = merge-gone old cs sc rows kept (left - 1) from n d one_more here

  -- where a row is put there is a place for it
  pub step-room : (x : A) → get_or cs (left - 1) d ≡ (n, Some x) → (1 ≤ from) × (from - 1 < length rows)
  step-room x here =
      let zs : List (ℕ × A) = puts_of (take (left - 1) cs) in
      let puts : puts_of (take ((left - 1) + 1) cs) ≡ zs ++ (n, x) ∷ [] = split-puts old cs sc (left - 1) n (Some x) d (omega (arith, m.few, some)) here in
      let split : length (put_all (puts_of (take ((left - 1) + 1) cs)) (take kept old)) ≡ length (put_row first (n, x) (put_all zs (take kept old))) = ap (λ ys. length (put_all ys (take kept old))) puts ∙ ap length (put_all-last zs (n, x) (take kept old)) in
      let place : from ≡ length (put_row first (n, x) (put_all zs (take kept old))) = one_more.place ∙ split in
      let one : 0 < length (put_row first (n, x) (put_all zs (take kept old))) = never-empty (n, x) (put_all zs (take kept old)) in
      let most : length (put_all (puts_of (take ((left - 1) + 1) cs)) (take kept old)) + length (drop from rows) ≡ length rows =
      sym (length-append _ (drop from rows)) ∙ ap length one_more.done ∙ sym m.size in
      (omega (arith, place, one), omega (arith, place, one, most, split))
    where
      never-empty : (y : ℕ × A) (xs : List (ℕ × A)) → 0 < length (put_row first y xs)
      never-empty y [] = omega arith
      never-empty y (z ∷ zs) =
          elim (cases_Bool (key_lt (z.0, 0) (y.0, 0))) [
            | inl low ↦ rw low (omega arith)
            | inr high ↦ elim (cases_Bool (key_eq (z.0, 0) (y.0, 0))) [
              | inl same ↦ rw (high, same) (omega arith)
              | inr other ↦ rw (high, other) (omega arith)
            ]
          ]

  pub step-first : (x : A) → get_or cs (left - 1) d ≡ (n, Some x) → last_number (take kept rows) ≡ None → Merging old cs (set rows (from - 1) (n, x)) kept (left - 1) (from - 1)
  step-first x here none =
      (merge-put old cs sc rows kept (left - 1) from n x d one_more here (subst (Below n) (sym (no-last (take kept old) (ap last_number (sym m.front) ∙ none))) tt)).2

  pub step-put : (x : A) (last : ℕ) → get_or cs (left - 1) d ≡ (n, Some x) → last_number (take kept rows) ≡ Some last → last ≤ n → (last ≡ n → ⊥) → Merging old cs (set rows (from - 1) (n, x)) kept (left - 1) (from - 1)
  step-put x last here there le apart =
      (merge-put old cs sc rows kept (left - 1) from n x d one_more here (low-last (take kept old) last n front-ascends (ap last_number (sym m.front) ∙ there) (omega (arith, le, apart)))).2

  module _ (last : ℕ) (there : last_number (take kept rows) ≡ Some last) (e : ℕ × A) where
    kept-some : 1 ≤ kept
    kept-some = some-kept rows kept last there

    one_kept : (kept - 1) + 1 ≡ kept
    one_kept = omega (arith, kept-some)

    both_more : Merging old cs rows ((kept - 1) + 1) ((left - 1) + 1) from
    both_more = subst (λ k. Merging old cs rows k ((left - 1) + 1) from) (sym one_kept) one_more

    long : kept - 1 < length rows
    long = omega (arith, kept-some, kept-inside old cs rows kept left from m)

    last-is : (get_or rows (kept - 1) e).0 ≡ last
    last-is = ap or_zero (sym (last-taken rows (kept - 1) e long) ∙ ap (λ k. last_number (take k rows)) one_kept ∙ there)

    pub step-later : (x : A) → get_or cs (left - 1) d ≡ (n, Some x) → n < last → Merging old cs (set rows (from - 1) (get_or rows (kept - 1) e)) (kept - 1) left (from - 1)
    step-later x here less =
        let back : (left - 1) + 1 ≡ left = omega (arith, some) in
        subst (λ l. Merging old cs (set rows (from - 1) (get_or rows (kept - 1) e)) (kept - 1) l (from - 1)) back
        (merge-later old cs sc rows (kept - 1) (left - 1) from n x d (get_or rows (kept - 1) e) e both_more here refl (omega (arith, less, last-is))).2

    pub step-same : (x : A) → get_or cs (left - 1) d ≡ (n, Some x) → last ≡ n → Merging old cs (set rows (from - 1) (n, x)) (kept - 1) (left - 1) (from - 1)
    step-same x here same =
        (merge-same old cs sc so rows (kept - 1) (left - 1) from n x d (get_or rows (kept - 1) e) e both_more here refl (last-is ∙ same)).2

-- what is read at a place, whatever would be read behind the list
same_read : {X : Type 0} (xs : List X) (k : ℕ) (d e : X) → k < length xs → get_or xs k d ≡ get_or xs k e
same_read [] k d e inside = absurd (omega (arith, inside))
same_read (x ∷ xs) zero d e inside = refl
same_read (x ∷ xs) (suc k) d e inside = same_read xs k d e (omega (arith, inside))

pub read-as : {A : Type 0} (cs : List (ℕ × Option A)) (k : ℕ) (d e : ℕ × Option A) (o : Option A) → k < length cs → (get_or cs k e).1 ≡ o → get_or cs k d ≡ ((get_or cs k d).0, o)
read-as cs k d e o inside is = let second : (get_or cs k d).1 ≡ o = ap (λ c. c.1) (same_read cs k d e inside) ∙ is in λ i. ((get_or cs k d).0, second i)
