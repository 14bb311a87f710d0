-- What cells get of lines that are put to them one after another.
use Rattle.case_audit.proofs.Common.{[], ℕ, ◌++◌, ◌+◌, ◌<◌, ◌==◌, ◌∙◌, ◌∷◌, ◌≡◌, ◌≤◌, add-one, ap, append-nil, append_assoc, arith, Bool, by-test, changed_at, changed_where, cond, eq-eqb, false, filter, fold, get_or, given, if-either}
use Rattle.case_audit.proofs.Common.{if◌then◌else◌, length, length-append, length-map, List, map, map-append, ne_eqb, None, numbered-lines, numbered_from, Option, position_from, put_back, put_line, put_where, range_with_len, refl}
use Rattle.case_audit.proofs.Common.{slice_get, slice_get_past, Some, suc, sym, take, true, with_line, with_lines, zero}

pub map-same : {C X : Type 0} (f g : C → X) (cs : List C) → ((c : C) → f c ≡ g c) → map f cs ≡ map g cs
map-same f g [] same = refl
map-same f g (c ∷ cs) same = ap (λ x. x ∷ map f cs) (same c) ∙ ap (λ xs. g c ∷ xs) (map-same f g cs same)

-- ---- items by their cells
pub put-map : {C X : Type 0} (test : C → Bool) (f : X → X) (g : C → X) (cs : List C) → put_where test f cs (map g cs) ≡ map (λ c. if test c then f (g c) else g c) cs
put-map test f g [] = refl
put-map test f g (c ∷ cs) = ap (λ xs. (if test c then f (g c) else g c) ∷ xs) (put-map test f g cs)

pub put-same : {C X : Type 0} (test other : C → Bool) (f : X → X) (cs : List C) (xs : List X) → ((c : C) → test c ≡ other c) → put_where test f cs xs ≡ put_where other f cs xs
put-same test other f [] xs same = refl
put-same test other f (c ∷ cs) [] same = refl
put-same test other f (c ∷ cs) (x ∷ xs) same =
    ap (λ b. (if b then f x else x) ∷ put_where test f cs xs) (same c) ∙ ap (λ ys. (if other c then f x else x) ∷ ys) (put-same test other f cs xs same)

pub put-none : {C X : Type 0} (test : C → Bool) (f : X → X) (cs : List C) (xs : List X) → ((i : ℕ) (c : C) → slice_get cs i ≡ Some c → test c ≡ false) → put_where test f cs xs ≡ xs
put-none test f [] xs none = refl
put-none test f (c ∷ cs) [] none = refl
put-none test f (c ∷ cs) (x ∷ xs) none =
    ap (λ b. (if b then f x else x) ∷ put_where test f cs xs) (none 0 c refl) ∙ ap (λ ys. x ∷ ys) (put-none test f cs xs (λ i d is. none (suc i) d is))

pub changed-suc : {X : Type 0} (f : X → X) (i : ℕ) (x : X) (xs : List X) → changed_at f (suc i) (x ∷ xs) ≡ x ∷ changed_at f i xs
changed-suc {X} f i x xs = go (slice_get xs i)
  where
    go : (o : Option X) → put_back f (suc i) (x ∷ xs) o ≡ x ∷ put_back f i xs o
    go None = refl
    go (Some y) = refl

-- ---- the cells up to an index were visited
module _ {C X : Type 0} (test : C → Bool) (f : X → X) where
  put-suc : (cs : List C) (xs : List X) (i : ℕ) (c : C) → i < length cs → c ≡ get_or cs i c → put_where test f (take (suc i) cs) xs ≡ (if test c then changed_at f i (put_where test f (take i cs) xs) else put_where test f (take i cs) xs)
  put-suc [] xs i c within is = absurd (omega arith)
  put-suc (d ∷ ds) [] zero c within is = if-either (λ ys. ◌≡◌ {A = List X} [] ys) (test c) [] [] (λ yes. refl) (λ not. refl)
  put-suc (d ∷ ds) [] (suc i) c within is = if-either (λ ys. ◌≡◌ {A = List X} [] ys) (test c) [] [] (λ yes. refl) (λ not. refl)
  put-suc (d ∷ ds) (x ∷ xs) zero c within is = rw is (by-test (λ b. (if b then f x else x) ∷ xs ≡ (if b then f x ∷ xs else x ∷ xs)) (test d) (λ yes. refl) (λ not. refl))
  put-suc (d ∷ ds) (x ∷ xs) (suc i) c within is =
      ap (λ ys. (if test d then f x else x) ∷ ys) (put-suc ds xs i c (omega arith) is) ∙ later (if test d then f x else x) (put_where test f (take i ds) xs)
    where
      later : (y : X) (ys : List X) → y ∷ (if test c then changed_at f i ys else ys) ≡ (if test c then changed_at f (suc i) (y ∷ ys) else y ∷ ys)
      later y ys = by-test (λ b. y ∷ (if b then changed_at f i ys else ys) ≡ (if b then changed_at f (suc i) (y ∷ ys) else y ∷ ys)) (test c) (λ yes. sym (changed-suc f i y ys)) (λ not. refl)

  pub put-more : (cs : List C) (xs : List X) (i : ℕ) (c : C) → i < length cs → c ≡ get_or cs i c → put_where test f (take (i + 1) cs) xs ≡ (if test c then changed_at f i (put_where test f (take i cs) xs) else put_where test f (take i cs) xs)
  put-more cs xs i c within is = rw add-one (put-suc cs xs i c within is)

-- ---- one cell passes at most
module _ {C X : Type 0} (test : C → Bool) (f : X → X) where
  past : (i : ℕ) (xs : List X) → length xs ≤ i → changed_at f i xs ≡ xs
  past i xs low = ap (put_back f i xs) (slice_get_past xs i low)

  past-all : (cs : List C) (start : ℕ) (xs : List X) → length xs ≤ start → changed_where f (position_from test start cs) xs ≡ xs
  past-all [] start xs low = refl
  past-all (c ∷ cs) start xs low =
      by-test (λ b. changed_where f (cond b (Some start) (position_from test (start + 1) cs)) xs ≡ xs) (test c) (λ yes. past start xs low) (λ not. past-all cs (start + 1) xs (omega (arith, low)))

  changed-behind : (front : List X) (x : X) (xs : List X) → changed_at f (length front) (front ++ x ∷ xs) ≡ front ++ f x ∷ xs
  changed-behind [] x xs = refl
  changed-behind (y ∷ ys) x xs = changed-suc f (length ys) y (ys ++ x ∷ xs) ∙ ap (λ zs. y ∷ zs) (changed-behind ys x xs)

  abbrev Only : List C → Type 0
  Only cs = (i j : ℕ) (c d : C) → slice_get cs i ≡ Some c → slice_get cs j ≡ Some d → test c ≡ true → test d ≡ true → i ≡ j

  others-fail : (c : C) (cs : List C) → Only (c ∷ cs) → test c ≡ true → (i : ℕ) (d : C) → slice_get cs i ≡ Some d → test d ≡ false
  others-fail c cs only passes i d is = by-test (λ b. b ≡ false) (test d) (λ too. absurd (cc (only 0 (suc i) c d refl is passes too))) (λ not. refl)

  put-from : (start : ℕ) (cs : List C) (front xs : List X) → length front ≡ start → Only cs → changed_where f (position_from test start cs) (front ++ xs) ≡ front ++ put_where test f cs xs
  put-from start [] front xs long only = refl
  put-from start (c ∷ cs) front [] long only =
      ap (changed_where f (position_from test start (c ∷ cs))) (append-nil front) ∙ (past-all (c ∷ cs) start front (omega (arith, long)) ∙ sym (append-nil front))
  put-from start (c ∷ cs) front (x ∷ xs) long only =
      go (test c) refl (put-from (start + 1) cs (front ++ x ∷ []) xs (length-append front (x ∷ []) ∙ ap (λ n. n + 1) long) (λ i j d e at there one two. cc (only (suc i) (suc j) d e at there one two)))
    where
      go : (b : Bool) → test c ≡ b → changed_where f (position_from test (start + 1) cs) ((front ++ x ∷ []) ++ xs) ≡ (front ++ x ∷ []) ++ put_where test f cs xs
          → changed_where f (cond b (Some start) (position_from test (start + 1) cs)) (front ++ x ∷ xs) ≡ front ++ (if b then f x else x) ∷ put_where test f cs xs
      go true passes later =
          ap (λ i. changed_at f i (front ++ x ∷ xs)) (sym long) ∙ (changed-behind front x xs ∙ ap (λ ys. front ++ f x ∷ ys) (sym (put-none test f cs xs (others-fail c cs only passes))))
      go false fails later =
          ap (changed_where f (position_from test (start + 1) cs)) (sym (append_assoc front (x ∷ []) xs)) ∙ (later ∙ append_assoc front (x ∷ []) (put_where test f cs xs))

  pub put-one : (cs : List C) (xs : List X) → Only cs → changed_where f (position_from test 0 cs) xs ≡ put_where test f cs xs
  put-one cs xs only = put-from 0 cs [] xs refl only

-- ---- cells that are numbers
module _ {X : Type 0} (f : X → X) where
  put-number : (n start u : ℕ) (xs : List X) → length xs ≤ n → changed_at f u xs ≡ put_where (λ t. (start + u) == t) f (range_with_len start n) xs
  put-number zero start u [] few = refl
  put-number zero start u (x ∷ xs) few = absurd (omega (arith, few))
  put-number (suc n) start u [] few = refl
  put-number (suc n) start zero (x ∷ xs) few =
      ap (λ b. (if b then f x else x) ∷ xs) (sym (eq-eqb (start + 0) start (omega arith)))
      ∙ ap (λ ys. (if (start + 0) == start then f x else x) ∷ ys) (sym (put-none (λ t. (start + 0) == t) f (range_with_len (start + 1) n) xs (λ i t is. ne_eqb (start + 0) t (λ same. let low = range-from n (start + 1) i t is in omega (arith, same, low)))))
    where
      range-from : (n a i t : ℕ) → slice_get (range_with_len a n) i ≡ Some t → a ≤ t
      range-from zero a i t is = absurd (cc (is))
      range-from (suc n) a zero t is = let same : a ≡ t = cc is in omega (arith, same)
      range-from (suc n) a (suc i) t is = let more = range-from n (a + 1) i t is in omega (arith, more)
  put-number (suc n) start (suc u) (x ∷ xs) few =
      changed-suc f u x xs
      ∙ (ap (λ ys. x ∷ ys) (put-number n (start + 1) u xs (omega (arith, few)) ∙ put-same (λ t. ((start + 1) + u) == t) (λ t. (start + suc u) == t) f (range_with_len (start + 1) n) xs (λ t. ap (λ m. m == t) (omega arith)))
      ∙ ap (λ b. (if b then f x else x) ∷ put_where (λ t. (start + suc u) == t) f (range_with_len (start + 1) n) xs) (sym (ne_eqb (start + suc u) start (λ same. omega (arith, same)))))

  pub put-at : (n u : ℕ) (xs : List X) → length xs ≤ n → changed_at f u xs ≡ put_where (λ t. u == t) f (range_with_len 0 n) xs
  put-at n u xs few = put-number n 0 u xs few ∙ put-same (λ t. (0 + u) == t) (λ t. u == t) f (range_with_len 0 n) xs (λ t. ap (λ m. m == t) (omega arith))

-- ---- line by line and phase by phase
module _ {C L : Type 0} (calls : C → L → Bool) (cs : List C) where
  abbrev lines_for : C → List L → List L
  lines_for c lines = filter (λ l. calls c l) lines

  line-step : (p : ℕ) (l : L) (ls : List L) (c : C) (qs : List (ℕ × List L)) → with_lines p (lines_for c ls) (if calls c l then with_line p l qs else qs) ≡ with_lines p (lines_for c (l ∷ ls)) qs
  line-step p l ls c qs = by-test (λ b. with_lines p (lines_for c ls) (if b then with_line p l qs else qs) ≡ with_lines p (if b then l ∷ lines_for c ls else lines_for c ls) qs) (calls c l) (λ yes. refl) (λ not. refl)

  pub lines-put : (p : ℕ) (lines : List L) (g : C → List (ℕ × List L)) → fold (put_line calls cs p) (map g cs) lines ≡ map (λ c. with_lines p (lines_for c lines) (g c)) cs
  lines-put p [] g = refl
  lines-put p (l ∷ ls) g =
      ap (λ owed. fold (put_line calls cs p) owed ls) (put-map (λ c. calls c l) (with_line p l) g cs)
      ∙ (lines-put p ls (λ c. if calls c l then with_line p l (g c) else g c)
      ∙ map-same (λ c. with_lines p (lines_for c ls) (if calls c l then with_line p l (g c) else g c)) (λ c. with_lines p (lines_for c (l ∷ ls)) (g c)) cs (λ c. line-step p l ls c (g c)))

  pub phase-put : (p : ℕ) (phases : List (List L)) (lines : List L) → p ≡ length phases → fold (put_line calls cs p) (given calls cs phases) lines ≡ given calls cs (phases ++ lines ∷ [])
  phase-put p phases lines at =
      ap (λ n. fold (put_line calls cs n) (given calls cs phases) lines) at
      ∙ (lines-put (length phases) lines (λ c. numbered_from 0 (map (lines_for c) phases))
      ∙ map-same (λ c. with_lines (length phases) (lines_for c lines) (numbered_from 0 (map (lines_for c) phases))) (λ c. numbered_from 0 (map (lines_for c) (phases ++ lines ∷ []))) cs
      (λ c. ap (λ n. with_lines n (lines_for c lines) (numbered_from 0 (map (lines_for c) phases))) (sym (length-map phases (lines_for c)))
      ∙ (numbered-lines (map (lines_for c) phases) (lines_for c lines) ∙ ap (numbered_from 0) (sym (map-append (lines_for c) phases (lines ∷ []))))))
