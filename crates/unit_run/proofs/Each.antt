-- The calls of the first so many cases of a type, one after another.
use Rattle.unit_run.proofs.Common.{[], ℕ, ◌&&◌, ◌++◌, ◌+◌, ◌-◌, ◌<◌, ◌==◌, ◌∙◌, ◌∷◌, ◌≡◌, ◌≤◌, add-one, and_parts, ap, ArePlaced, arith, Bool, CaseDecl, CaseId, changed_at, ClosedCase, each_of, eqb-true, false, fold-append, get_or, has_id}
use Rattle.unit_run.proofs.{Common.{if◌then◌else◌, is_among, length, length-take, List, ltb-true, nat_lt, places_of, position-from_0, position_from, refl, slice_get, Some, subst, suc, sym, take, true, types_of, zero}, Placed.changed_all}
use Rattle.unit_run.proofs.Placed.{each-placed, found}
use Rattle.std.proofs.{Math.Seq.take-suc, lemmas.Option.slice_get-get_or}

-- a front of a front
take-within : {A : Type 0} (i n : ℕ) (xs : List A) → i ≤ n → take i (take n xs) ≡ take i xs
take-within zero n xs low = refl
take-within (suc i) zero xs low = absurd (omega (arith, low))
take-within (suc i) (suc n) [] low = refl
take-within (suc i) (suc n) (x ∷ xs) low = ap (λ ys. x ∷ ys) (take-within i n xs (omega (arith, low)))

take-got : {A : Type 0} (n : ℕ) (xs : List A) (i : ℕ) → i < n → slice_get (take n xs) i ≡ slice_get xs i
take-got zero xs i low = absurd (omega (arith, low))
take-got (suc n) [] i low = refl
take-got (suc n) (x ∷ xs) zero low = refl
take-got (suc n) (x ∷ xs) (suc i) low = take-got n xs i (omega (arith, low))

-- one place more
pub one_more : (g : ClosedCase → ClosedCase) (cs : List ClosedCase) (places : List ℕ) (i : ℕ) → i < length places → changed_all g cs (take (i + 1) places) ≡ changed_at g (get_or places i 0) (changed_all g cs (take i places))
one_more g cs places i low =
    let front : take (i + 1) places ≡ take i places ++ get_or places i 0 ∷ [] = rw add-one (take-suc places i 0 low) in
    ap (changed_all g cs) front ∙ fold-append (λ xs place. changed_at g place xs) cs (take i places) (get_or places i 0 ∷ [])

-- the first that passes
pub at-position : (P : CaseDecl → Bool) (k : ℕ) (ds : List CaseDecl) (p : ℕ) → position_from P k ds ≡ Some p → (d : CaseDecl) × (slice_get ds (p - k) ≡ Some d) × (P d ≡ true) × (k ≤ p)
at-position P k [] p is = absurd (cc (is))
at-position P k (x ∷ ds) p is = go (P x) refl (at-position P (k + 1) ds p) is
  where
    go : (b : Bool) → P x ≡ b → (position_from P (k + 1) ds ≡ Some p → (d : CaseDecl) × (slice_get ds (p - (k + 1)) ≡ Some d) × (P d ≡ true) × (k + 1 ≤ p)) → (if b then Some k else position_from P (k + 1) ds) ≡ Some p
        → (d : CaseDecl) × (slice_get (x ∷ ds) (p - k) ≡ Some d) × (P d ≡ true) × (k ≤ p)
    go true passes later found_it =
        let same : k ≡ p = cc (found_it) in
        let here : p - k ≡ 0 = omega (arith, same) in
        (x, ap (slice_get (x ∷ ds)) here, passes, omega (arith, same))
    go false fails later found_it =
        let r = later found_it in
        let low = r.3 in
        let next : p - k ≡ suc (p - (k + 1)) = omega (arith, low) in
        (r.0, ap (slice_get (x ∷ ds)) next ∙ r.1, r.2, omega (arith, low))

and_false : (b : Bool) → (b && false) ≡ false
and_false true = refl
and_false false = refl

-- the case behind the first so many is not among them, and so it is as it was
each-left : (t i : ℕ) (g : ClosedCase → ClosedCase) (ds : List CaseDecl) (cs : List ClosedCase) (p : ℕ) (d : CaseDecl) → slice_get ds p ≡ Some d → is_among t i d ≡ false → slice_get (each_of t i g ds cs) p ≡ slice_get cs p
each-left t i g [] cs p d at not = refl
each-left t i g (x ∷ ds) [] p d at not = refl
each-left t i g (x ∷ ds) (y ∷ cs) zero d at not =
    let is : x ≡ d = cc (at) in
    ap (λ b. Some (if b then g y else y)) (ap (is_among t i) is ∙ not)
each-left t i g (x ∷ ds) (y ∷ cs) (suc p) d at not = each-left t i g ds cs p d at not

not-among : (t i : ℕ) (d : CaseDecl) → has_id (record { type_no = t; place = i }) d ≡ true → is_among t i d ≡ false
not-among t i d is = go (nat_lt d.id.place i) refl
  where
    place : d.id.place ≡ i
    place = eqb-true d.id.place i (and_parts (d.id.type_no == t) (d.id.place == i) is).1

    go : (b : Bool) → nat_lt d.id.place i ≡ b → is_among t i d ≡ false
    go true low = absurd (omega (arith, place, ltb-true d.id.place i low))
    go false high = ap (λ b. (d.id.type_no == t) && b) high ∙ and_false (d.id.type_no == t)

module _ (t many : ℕ) (g : ClosedCase → ClosedCase) (ds : List CaseDecl) (cs : List ClosedCase) (types : List ℕ) (same : types ≡ types_of ds) (placed : ArePlaced ds) (even : length cs ≡ length ds) where
  -- a case is as it was until its turn comes
  still-of : (i : ℕ) → i < length (take many (places_of t types)) → slice_get (changed_all g cs (take i (take many (places_of t types)))) (get_or (take many (places_of t types)) i 0) ≡ slice_get cs (get_or (take many (places_of t types)) i 0)
  still-of i low =
      let places = places_of t types in
      let p = get_or (take many places) i 0 in
      let cut = length-take many places in
      let got : slice_get (take many places) i ≡ Some p = slice_get-get_or (take many places) i 0 low in
      let there : slice_get places i ≡ Some p = sym (take-got many places i (omega (arith, low, cut))) ∙ got in
      let c : CaseId = record { type_no = t; place = i } in
      let first : position_from (has_id c) 0 ds ≡ Some p = position-from_0 (has_id c) ds ∙ (sym (found ds c placed) ∙ (ap (λ us. slice_get (places_of t us) i) (sym same) ∙ there)) in
      let r = at-position (has_id c) 0 ds p first in
      let none : p - 0 ≡ p = omega arith in
      let at : slice_get ds p ≡ Some r.0 = ap (slice_get ds) (sym none) ∙ r.1 in
      let front : changed_all g cs (take i (take many places)) ≡ each_of t i g ds cs =
      ap (changed_all g cs) (take-within i many places (omega (arith, low, cut)) ∙ ap (λ us. take i (places_of t us)) same) ∙ each-placed i t g ds cs placed even in
      ap (λ xs. slice_get xs p) front ∙ each-left t i g ds cs p r.0 at (not-among t i r.0 r.2)

  pub still-there : (items : List ℕ) → items ≡ take many (places_of t types) → (i : ℕ) → i < length items → slice_get (changed_all g cs (take i items)) (get_or items i 0) ≡ slice_get cs (get_or items i 0)
  still-there items is i = subst (λ xs. i < length xs → slice_get (changed_all g cs (take i xs)) (get_or xs i 0) ≡ slice_get cs (get_or xs i 0)) (sym is) (still-of i)

  -- all of them are called
  pub all-called : changed_all g cs (take many (places_of t types)) ≡ each_of t many g ds cs
  all-called = ap (λ us. changed_all g cs (take many (places_of t us))) same ∙ each-placed many t g ds cs placed even
