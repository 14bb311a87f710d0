-- Places as flags.
use Rattle.wsm_settle.proofs.Common.{[], ℕ, ◌++◌, ◌+◌, ◌<◌, ◌∙◌, ◌∷◌, ◌≡◌, ◌≤◌, All, ap, arith, Bool, drop, eq-eqb, false, flagged, if◌then◌else◌, insert_key, le-ltb, length, List, lt-ltb, nat_cmp, ne_eqb, refl, replicate, slice_set, subst}
use Rattle.wsm_settle.proofs.Common.{suc, sym, take, true, zero}

-- ---- all of a list
one-more : (P : ℕ → Type 0) (x : ℕ) (xs : List ℕ) → P x → All P xs → All P (x ∷ xs)
one-more P x xs p ps zero d lt = p
one-more P x xs p ps (suc i) d lt = ps i d (omega (arith, lt))

head-of : (P : ℕ → Type 0) (x : ℕ) (xs : List ℕ) → All P (x ∷ xs) → P x
head-of P x xs h = h 0 x (omega arith)

-- ---- raised flags ascend
pub from-least : (k : ℕ) (bs : List Bool) → All (λ y. k ≤ y) (flagged k bs)
from-least k [] = λ i d lt. absurd (omega (arith, lt))
from-least k (true ∷ bs) =
    let later = from-least (k + 1) bs in
    one-more (λ y. k ≤ y) k (flagged (k + 1) bs) (omega arith) (λ i d lt. let le = later i d lt in omega (arith, le))
from-least k (false ∷ bs) =
    let later = from-least (k + 1) bs in
    λ i d lt. let le = later i d lt in omega (arith, le)

pub behind-least : (k : ℕ) (bs : List Bool) → All (λ y. k < y) (flagged (k + 1) bs)
behind-least k bs = let later = from-least (k + 1) bs in λ i d lt. let le = later i d lt in omega (arith, le)

-- flags before the first raised one
pub none-before : (k n : ℕ) (bs : List Bool) → All (λ y. k + n ≤ y) (flagged k bs) → flagged (k + n) (drop n bs) ≡ flagged k bs
none-before k zero bs h = let same : k + 0 ≡ k = omega arith in ap (λ m. flagged m bs) same
none-before k (suc n) [] h = refl
none-before k (suc n) (true ∷ bs) h = absurd (let bad : k + suc n ≤ k = head-of (λ y. k + suc n ≤ y) k (flagged (k + 1) bs) h in omega (arith, bad))
none-before k (suc n) (false ∷ bs) h =
    let same : k + suc n ≡ (k + 1) + n = omega arith in
    ap (λ m. flagged m (drop n bs)) same ∙ none-before (k + 1) n bs (λ i d lt. let le = h i d lt in omega (arith, le))

-- ---- one flag more
insert-least : (k : ℕ) (xs : List ℕ) → All (λ y. k < y) xs → insert_key nat_cmp xs k ≡ k ∷ xs
insert-least k [] h = refl
insert-least k (x ∷ xs) h = rw (lt-ltb k x (head-of (λ y. k < y) x xs h)) refl

insert-same : (k : ℕ) (xs : List ℕ) → insert_key nat_cmp (k ∷ xs) k ≡ k ∷ xs
insert-same k xs = rw (le-ltb k k (omega arith), eq-eqb k k refl) refl

insert-behind : (k x : ℕ) (xs : List ℕ) → x < k → insert_key nat_cmp (x ∷ xs) k ≡ x ∷ insert_key nat_cmp xs k
insert-behind k x xs lt = rw (le-ltb k x (omega (arith, lt)), ne_eqb k x (λ same. omega (arith, lt, same))) refl

raise : (k i : ℕ) (bs : List Bool) → i < length bs → flagged k (slice_set bs i true) ≡ insert_key nat_cmp (flagged k bs) (k + i)
raise k i [] low = absurd (omega (arith, low))
raise k zero (true ∷ bs) low = let same : k ≡ k + 0 = omega arith in sym (insert-same k (flagged (k + 1) bs)) ∙ ap (λ m. insert_key nat_cmp (k ∷ flagged (k + 1) bs) m) same
raise k zero (false ∷ bs) low = let same : k ≡ k + 0 = omega arith in sym (insert-least k (flagged (k + 1) bs) (behind-least k bs)) ∙ ap (λ m. insert_key nat_cmp (flagged (k + 1) bs) m) same
raise k (suc i) (true ∷ bs) low =
    let same : (k + 1) + i ≡ k + suc i = omega arith in
    ap (λ xs. k ∷ xs) (raise (k + 1) i bs (omega (arith, low)) ∙ ap (λ m. insert_key nat_cmp (flagged (k + 1) bs) m) same)
    ∙ sym (insert-behind (k + suc i) k (flagged (k + 1) bs) (omega arith))
raise k (suc i) (false ∷ bs) low =
    let same : (k + 1) + i ≡ k + suc i = omega arith in
    raise (k + 1) i bs (omega (arith, low)) ∙ ap (λ m. insert_key nat_cmp (flagged (k + 1) bs) m) same

pub raised : (i : ℕ) (bs : List Bool) → i < length bs → flagged 0 (slice_set bs i true) ≡ insert_key nat_cmp (flagged 0 bs) i
raised i bs low = let same : 0 + i ≡ i = omega arith in raise 0 i bs low ∙ ap (λ m. insert_key nat_cmp (flagged 0 bs) m) same

-- ---- the first one less
lower : (k i : ℕ) (bs : List Bool) (rest : List ℕ) → i < length bs → flagged k bs ≡ (k + i) ∷ rest → flagged k (slice_set bs i false) ≡ rest
lower k i [] rest low is = absurd (omega (arith, low))
lower k zero (true ∷ bs) rest low is = ap tail is
  where
    tail : List ℕ → List ℕ
    tail [] = []
    tail (x ∷ xs) = xs
lower k zero (false ∷ bs) rest low is =
    absurd (let bad : k < k + 0 = head-of (λ y. k < y) (k + 0) rest (subst (All (λ y. k < y)) is (behind-least k bs)) in omega (arith, bad))
lower k (suc i) (true ∷ bs) rest low is =
    absurd (let bad : k ≡ k + suc i = ap (first-or k) is in omega (arith, bad))
  where
    first-or : ℕ → List ℕ → ℕ
    first-or d [] = d
    first-or d (x ∷ xs) = x
lower k (suc i) (false ∷ bs) rest low is =
    let same : k + suc i ≡ (k + 1) + i = omega arith in
    lower (k + 1) i bs rest (omega (arith, low)) (is ∙ ap (λ m. m ∷ rest) same)

pub lowered : (i : ℕ) (bs : List Bool) (rest : List ℕ) → i < length bs → flagged 0 bs ≡ i ∷ rest → flagged 0 (slice_set bs i false) ≡ rest
lowered i bs rest low is = let same : i ≡ 0 + i = omega arith in lower 0 i bs rest low (is ∙ ap (λ m. m ∷ rest) same)

-- ---- more flags, none of which is raised
none-raised : (k n : ℕ) → flagged k (replicate n false) ≡ []
none-raised k zero = refl
none-raised k (suc n) = none-raised (k + 1) n

pub no-flags : (n : ℕ) → flagged 0 (replicate n false) ≡ []
no-flags n = none-raised 0 n

longer : (k n : ℕ) (bs : List Bool) → flagged k (bs ++ replicate n false) ≡ flagged k bs
longer k n [] = none-raised k n
longer k n (true ∷ bs) = ap (λ xs. k ∷ xs) (longer (k + 1) n bs)
longer k n (false ∷ bs) = longer (k + 1) n bs

take-all : (bs : List Bool) (n : ℕ) → length bs ≤ n → take n bs ≡ bs
take-all [] zero le = refl
take-all [] (suc n) le = refl
take-all (b ∷ bs) zero le = absurd (omega (arith, le))
take-all (b ∷ bs) (suc n) le = ap (λ xs. b ∷ xs) (take-all bs n (omega (arith, le)))

pub grown : (bs : List Bool) (n m : ℕ) → length bs ≤ n → flagged 0 (take n bs ++ replicate m false) ≡ flagged 0 bs
grown bs n m le = ap (λ xs. flagged 0 (xs ++ replicate m false)) (take-all bs n le) ∙ longer 0 m bs

pub resized : (old new : List Bool) (ok : Bool) (n m : ℕ) → length old ≤ n → new ≡ (if ok then take n old ++ replicate m false else old) → flagged 0 new ≡ flagged 0 old
resized old new true n m le is = ap (flagged 0) is ∙ grown old n m le
resized old new false n m le is = ap (flagged 0) is

pub none-below : (n : ℕ) (bs : List Bool) → All (λ y. n ≤ y) (flagged 0 bs) → flagged n (drop n bs) ≡ flagged 0 bs
none-below n bs h =
    let same : 0 + n ≡ n = omega arith in
    ap (λ m. flagged m (drop n bs)) (sym same) ∙ none-before 0 n bs (λ i d lt. let le = h i d lt in omega (arith, le))
