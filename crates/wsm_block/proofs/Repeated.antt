-- The first number that stood earlier goes by the members of what stood earlier alone.
use Rattle.wsm_block.proofs.Common.{[], ℕ, ◌++◌, ◌+◌, ◌<◌, ◌||◌, ◌∙◌, ◌∷◌, ◌≡◌, add-one, ap, Branch, cases_Bool, codes_of, drop, drop-cons, eqb, false, get_or, get_or-map, inl, inr, is_one_of, lane_of, lanes, lanes_of, length, length-map}
use Rattle.wsm_block.proofs.Common.{List, map, or_right, refl, Some, subst, sym, take, take-suc, true, twice}
use Rattle.wsm_schema.specs.declared.blocks.Block.TheFolds.{fold_out-Branch}

code-of_lane : (b : Branch) → (lane_of b).0 ≡ b.code
code-of_lane b = rw fold_out-Branch refl

-- the codes of branches
pub codes_are : (bs : List Branch) → codes_of (lanes (lanes_of bs)) ≡ map (λ b. b.code) bs
codes_are [] = refl
codes_are (b ∷ bs) = rw (code-of_lane b) (ap (λ ns. b.code ∷ ns) (codes_are bs))

-- what was seen goes by its members alone
pub twice-members : (s t ns : List ℕ) → ((m : ℕ) → is_one_of m s ≡ is_one_of m t) → twice s ns ≡ twice t ns
twice-members s t [] h = refl
twice-members s t (n ∷ ns) h =
    elim (cases_Bool (is_one_of n t)) [
      | inl old ↦ rw (h n, old) refl
      | inr new ↦ rw (h n, new) (twice-members (n ∷ s) (n ∷ t) ns (λ m. ap (λ more. eqb n m || more) (h m)))
    ]

pub seen-behind : (m n : ℕ) (xs : List ℕ) → is_one_of m (n ∷ xs) ≡ is_one_of m (xs ++ n ∷ [])
seen-behind m n [] = refl
seen-behind m n (x ∷ xs) =
    elim (cases_Bool (eqb x m)) [
      | inl same ↦ rw same (or_right (eqb n m) true refl)
      | inr other ↦ rw other (seen-behind m n xs)
    ]

pub branch_count : (bs : List Branch) → length (codes_of (lanes (lanes_of bs))) ≡ length bs
branch_count bs = ap length (codes_are bs) ∙ length-map bs (λ b. b.code)

-- one number more that did not stand earlier
pub fresh-next : (ns : List ℕ) (i d : ℕ) → i < length ns → is_one_of (get_or ns i d) (take i ns) ≡ false →
    twice (take (i + 1) ns) (drop (i + 1) ns) ≡ twice (take i ns) (drop i ns)
fresh-next ns i d lt new =
    let n : ℕ = get_or ns i d in
    let seen : List ℕ = take i ns in
    let rest : List ℕ = drop (i + 1) ns in
    let step : twice seen (n ∷ rest) ≡ twice (n ∷ seen) rest = rw new refl in
    let more : take (i + 1) ns ≡ seen ++ n ∷ [] = ap (λ j. take j ns) (add-one i) ∙ take-suc ns i d lt in
    let here : drop i ns ≡ n ∷ rest = drop-cons ns i d lt ∙ ap (λ j. n ∷ drop j ns) (sym (add-one i)) in
    ap (λ s. twice s rest) more ∙ twice-members (seen ++ n ∷ []) (n ∷ seen) rest (λ m. sym (seen-behind m n seen)) ∙ sym step ∙ ap (twice seen) (sym here)

-- one that did
pub found-next : (ns : List ℕ) (i d : ℕ) → i < length ns → is_one_of (get_or ns i d) (take i ns) ≡ true → twice (take i ns) (drop i ns) ≡ Some (get_or ns i d)
found-next ns i d lt old = ap (twice (take i ns)) (drop-cons ns i d lt) ∙ rw old refl

-- the same of the numbers of rows
module _ {X : Type 0} (key : X → ℕ) (xs : List X) (i : ℕ) (d : X) (lt : i < length xs) where
  within : i < length (map key xs)
  within = subst (λ n. i < n) (sym (length-map xs key)) lt

  number-at : get_or (map key xs) i 0 ≡ key (get_or xs i d)
  number-at = get_or-map key xs i d 0 lt

  pub fresh-row : is_one_of (key (get_or xs i d)) (take i (map key xs)) ≡ false →
      twice (take (i + 1) (map key xs)) (drop (i + 1) (map key xs)) ≡ twice (take i (map key xs)) (drop i (map key xs))
  fresh-row new = fresh-next (map key xs) i 0 within (ap (λ n. is_one_of n (take i (map key xs))) number-at ∙ new)

  pub found-row : is_one_of (key (get_or xs i d)) (take i (map key xs)) ≡ true → twice (take i (map key xs)) (drop i (map key xs)) ≡ Some (key (get_or xs i d))
  found-row old = found-next (map key xs) i 0 within (ap (λ n. is_one_of n (take i (map key xs))) number-at ∙ old) ∙ ap Some number-at
