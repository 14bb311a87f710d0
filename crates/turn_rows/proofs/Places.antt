-- From what holds of rows to the cell and the pass at a place.
use Rattle.turn_rows.proofs.Common.{[], ℕ, ◌++◌, ◌∙◌, ◌∷◌, ◌≡◌, All, All-cons, All-head, All-nil, All-tail, AllZip, AreOf, AreOpened, arith, Cell, cell_id, first_of, IsPassOf, length, length-map, List, Pass, PassView, refl, slice_get}
use Rattle.turn_rows.proofs.Common.{slice_get-map, Some, subst, suc, sym, view_of, views, zero, zip_with}

module _ {A : Type 0} (P : A → Type 0) where
  pub All-slice_get : (xs : List A) (i : ℕ) (x : A) → All P xs → slice_get xs i ≡ Some x → P x
  All-slice_get [] i x all e = absurd (cc)
  All-slice_get (y ∷ xs) zero x all e = let same : y ≡ x = cc (e) in subst P same (All-head P y xs all)
  All-slice_get (y ∷ xs) (suc i) x all e = All-slice_get xs i x (All-tail P y xs all) e

module _ {A B : Type 0} (R : A → B → Type 0) where
  pub AllZip-slice_get : (xs : List A) (ys : List B) (i : ℕ) (x : A) (y : B) → AllZip R xs ys → slice_get xs i ≡ Some x → slice_get ys i ≡ Some y → R x y
  AllZip-slice_get [] ys i x y all ex ey = absurd (cc)
  AllZip-slice_get (a ∷ xs) [] i x y all ex ey = absurd (cc)
  AllZip-slice_get (a ∷ xs) (b ∷ ys) zero x y all ex ey =
      let left : a ≡ x = cc (ex) in
      let right : b ≡ y = cc (ey) in
      rw (← left, ← right) all.0
  AllZip-slice_get (a ∷ xs) (b ∷ ys) (suc i) x y all ex ey = AllZip-slice_get xs ys i x y all.1 ex ey

module _ {A B C : Type 0} (f : A → B → C) where
  pub length-zip_with : (xs : List A) (ys : List B) → length ys ≡ length xs → length (zip_with f xs ys) ≡ length xs
  length-zip_with [] ys e = refl
  length-zip_with (x ∷ xs) [] e = absurd (omega arith)
  length-zip_with (x ∷ xs) (y ∷ ys) e = let rest = length-zip_with xs ys (omega arith) in omega arith

  pub slice_get-zip_with : (xs : List A) (ys : List B) (i : ℕ) (x : A) (y : B) → slice_get xs i ≡ Some x → slice_get ys i ≡ Some y → slice_get (zip_with f xs ys) i ≡ Some (f x y)
  slice_get-zip_with [] ys i x y ex ey = absurd (cc)
  slice_get-zip_with (a ∷ xs) [] i x y ex ey = absurd (cc)
  slice_get-zip_with (a ∷ xs) (b ∷ ys) zero x y ex ey =
      let left : a ≡ x = cc (ex) in
      let right : b ≡ y = cc (ey) in
      cc
  slice_get-zip_with (a ∷ xs) (b ∷ ys) (suc i) x y ex ey = slice_get-zip_with xs ys i x y ex ey

  -- what f makes of items of which P and Q hold
  pub All-zip_with : (P : A → Type 0) (Q : B → Type 0) (T : C → Type 0) → ((x : A) (y : B) → P x → Q y → T (f x y)) → (xs : List A) (ys : List B) → All P xs → All Q ys → All T (zip_with f xs ys)
  All-zip_with P Q T each [] ys ps qs = All-nil T
  All-zip_with P Q T each (x ∷ xs) [] ps qs = All-nil T
  All-zip_with P Q T each (x ∷ xs) (y ∷ ys) ps qs =
      All-cons T (f x y) (zip_with f xs ys) (each x y (All-head P x xs ps) (All-head Q y ys qs)) (All-zip_with P Q T each xs ys (All-tail P x xs ps) (All-tail Q y ys qs))

module _ {M E R W S : Type 0} {g : _} where
  pub length-views : (ps : List (Pass M E R W S g)) → length (views ps) ≡ length ps
  length-views ps = length-map ps view_of

  pub slice_get-views : (ps : List (Pass M E R W S g)) (i : ℕ) (p : Pass M E R W S g) → slice_get ps i ≡ Some p → slice_get (views ps) i ≡ Some (view_of p)
  slice_get-views ps i p e = slice_get-map view_of ps i ∙ (rw e)

  -- the pass at a cell's place, and the cell at a pass's place
  pub pass_there : (cs : List (Cell M E R W S)) (ps : List (Pass M E R W S g)) (i : ℕ) (c : Cell M E R W S) → AreOf cs ps → slice_get cs i ≡ Some c → (p : Pass M E R W S g) × (slice_get ps i ≡ Some p) × IsPassOf c p
  pass_there [] ps i c of e = absurd (cc)
  pass_there (b ∷ cs) [] i c of e = absurd of
  pass_there (b ∷ cs) (p ∷ ps) zero c of e = let same : b ≡ c = cc (e) in (p, refl, rw (← same) of.0)
  pass_there (b ∷ cs) (p ∷ ps) (suc i) c of e = pass_there cs ps i c of.1 e

  pub cell_there : (cs : List (Cell M E R W S)) (ps : List (Pass M E R W S g)) (i : ℕ) (p : Pass M E R W S g) → AreOf cs ps → slice_get ps i ≡ Some p → (c : Cell M E R W S) × (slice_get cs i ≡ Some c) × IsPassOf c p
  cell_there [] [] i p of e = absurd (cc)
  cell_there [] (q ∷ ps) i p of e = absurd of
  cell_there (c ∷ cs) [] i p of e = absurd (cc)
  cell_there (c ∷ cs) (q ∷ ps) zero p of e = let same : q ≡ p = cc (e) in (c, refl, rw (← same) of.0)
  cell_there (c ∷ cs) (q ∷ ps) (suc i) p of e = cell_there cs ps i p of.1 e

  pub AreOf-slice_get : (cs : List (Cell M E R W S)) (ps : List (Pass M E R W S g)) (i : ℕ) (c : Cell M E R W S) (p : Pass M E R W S g) → AreOf cs ps → slice_get cs i ≡ Some c → slice_get ps i ≡ Some p → IsPassOf c p
  AreOf-slice_get cs ps i c p of ec ep =
      let there = pass_there cs ps i c of ec in
      let same : there.0 ≡ p = cc (there.1, ep) in
      rw (← same) there.2

  -- rows behind one another
  pub AreOf-append : (cs ds : List (Cell M E R W S)) (ps qs : List (Pass M E R W S g)) → AreOf cs ps → AreOf ds qs → AreOf (cs ++ ds) (ps ++ qs)
  AreOf-append [] ds [] qs of more = more
  AreOf-append [] ds (p ∷ ps) qs of more = absurd of
  AreOf-append (c ∷ cs) ds [] qs of more = absurd of
  AreOf-append (c ∷ cs) ds (p ∷ ps) qs of more = (of.0, AreOf-append cs ds ps qs of.1 more)

  module _ (state : M → S) where
    pub length-opened : (ms : List M) (cs : List (Cell M E R W S)) (ps : List (Pass M E R W S g)) → AreOpened state ms cs ps → (length cs ≡ length ms) × (length ps ≡ length ms)
    length-opened [] [] [] k = (refl, refl)
    length-opened (m ∷ ms) (c ∷ cs) (p ∷ ps) k = let rest = length-opened ms cs ps k.1 in (omega arith, omega arith)
    length-opened _ _ _ k = absurd k

    pub opened_there : (ms : List M) (cs : List (Cell M E R W S)) (ps : List (Pass M E R W S g)) (i : ℕ) (m : M) (c : Cell M E R W S) (p : Pass M E R W S g) → AreOpened state ms cs ps
        → slice_get ms i ≡ Some m → slice_get cs i ≡ Some c → slice_get ps i ≡ Some p → view_of p ≡ first_of (cell_id c) (state m)
    opened_there [] [] [] i m c p k em ec ep = absurd (cc)
    opened_there (n ∷ ms) (b ∷ cs) (q ∷ ps) zero m c p k em ec ep =
        let machines : n ≡ m = cc (em) in
        let cells : b ≡ c = cc (ec) in
        let passes : q ≡ p = cc (ep) in
        rw (← machines, ← cells, ← passes) k.0
    opened_there (n ∷ ms) (b ∷ cs) (q ∷ ps) (suc i) m c p k em ec ep = opened_there ms cs ps i m c p k.1 em ec ep
    opened_there _ _ _ i m c p k em ec ep = absurd k

    -- what holds of each first pass holds of the passes of a row that was opened
    pub opened-all : (P : PassView M E R W S → Type 0) → ((c : Cell M E R W S) (m : M) → P (first_of (cell_id c) (state m))) → (ms : List M) (cs : List (Cell M E R W S)) (ps : List (Pass M E R W S g)) → AreOpened state ms cs ps → All P (views ps)
    opened-all P each [] [] [] k = All-nil P
    opened-all P each (m ∷ ms) (c ∷ cs) (p ∷ ps) k = All-cons P (view_of p) (views ps) (subst P (sym k.0) (each c m)) (opened-all P each ms cs ps k.1)
    opened-all P each _ _ _ k = absurd k
