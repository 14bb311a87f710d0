-- The least of positions goes by the members of a list alone.
use Rattle.wsm_adapt.proofs.Common.{[], ℕ, ◌∙◌, ◌∷◌, ◌≡◌, ◌≤◌, ap, arith, both_ways, cases_Bool, eq-eqb, eqb, eqb-true, inl, inr, is_one_of, least, lesser, List, ltb, ltb-false, ltb-true, map, None, Option, refl, same_Some, Some, subst}
use Rattle.wsm_adapt.proofs.Common.{true}

-- where there is the second, the first is there too, and not above it
abbrev pub Below : Option ℕ → Option ℕ → Type 0
Below a b = (p : ℕ) → b ≡ Some p → (q : ℕ) × (a ≡ Some q) × (q ≤ p)

pub below-eq : (a b : Option ℕ) → a ≡ b → Below a b
below-eq a b same p h = (p, same ∙ h, omega arith)

pub below-then : (a b c : Option ℕ) → Below a b → Below b c → Below a c
below-then a b c x y p h =
    let v = y p h in
    let u = x v.0 v.1 in
    let l = u.2 in
    let m = v.2 in
    (u.0, u.1, omega (arith, l, m))

pub below-both : (a b : Option ℕ) → Below a b → Below b a → a ≡ b
below-both None None x y = refl
below-both None (Some q) x y = let u = x q refl in let h : None ≡ Some u.0 = u.1 in absurd (cc)
below-both (Some p) None x y = let u = y p refl in let h : None ≡ Some u.0 = u.1 in absurd (cc)
below-both (Some p) (Some q) x y =
    let u = x q refl in
    let v = y p refl in
    let e : p ≡ u.0 = same_Some p u.0 u.1 in
    let d : q ≡ v.0 = same_Some q v.0 v.1 in
    let l = u.2 in
    let m = v.2 in
    let same : p ≡ q = omega (arith, e, d, l, m) in
    ap Some same

pub lesser-left : (a b : Option ℕ) → Below (lesser a b) a
lesser-left None b p h = let q : None ≡ Some p = h in absurd (cc)
lesser-left (Some a) None p h = (p, h, omega arith)
lesser-left (Some a) (Some b) p h =
    let same : a ≡ p = same_Some a p h in
    elim (cases_Bool (ltb b a)) [
      | inl less ↦ (b, rw less refl, let l = ltb-true b a less in omega (arith, same, l))
      | inr more ↦ (a, rw more refl, omega (arith, same))
    ]

pub lesser-right : (a b : Option ℕ) → Below (lesser a b) b
lesser-right None b p h = (p, h, omega arith)
lesser-right (Some a) None p h = let q : None ≡ Some p = h in absurd (cc)
lesser-right (Some a) (Some b) p h =
    let same : b ≡ p = same_Some b p h in
    elim (cases_Bool (ltb b a)) [
      | inl less ↦ (b, rw less refl, omega (arith, same))
      | inr more ↦ (a, rw more refl, let l = ltb-false b a more in omega (arith, same, l))
    ]

pub lesser-glb : (x a b : Option ℕ) → Below x a → Below x b → Below x (lesser a b)
lesser-glb x None b u v = v
lesser-glb x (Some a) None u v = u
lesser-glb x (Some a) (Some b) u v = elim (cases_Bool (ltb b a)) [ inl less ↦ rw less v | inr more ↦ rw more u ]

pub least-member : (g : ℕ → Option ℕ) (ns : List ℕ) (n : ℕ) → is_one_of n ns ≡ true → Below (least (map g ns)) (g n)
least-member g [] n among = absurd (both_ways _ refl among)
least-member g (k ∷ ks) n among =
    elim (cases_Bool (eqb k n)) [
      | inl same ↦ subst (λ j. Below (lesser (g k) (least (map g ks))) (g j)) (eqb-true k n same) (lesser-left (g k) (least (map g ks)))
      | inr other ↦ below-then _ (least (map g ks)) (g n) (lesser-right (g k) (least (map g ks))) (least-member g ks n (rw other at among))
    ]

pub least-glb : (x : Option ℕ) (g : ℕ → Option ℕ) (ns : List ℕ) → ((n : ℕ) → is_one_of n ns ≡ true → Below x (g n)) → Below x (least (map g ns))
least-glb x g [] all = λ p h. absurd (let q : None ≡ Some p = h in cc)
least-glb x g (k ∷ ks) all =
    lesser-glb x (g k) (least (map g ks)) (all k (rw (eq-eqb k k refl) refl))
    (least-glb x g ks (λ n among. all n (elim (cases_Bool (eqb k n)) [ inl same ↦ rw same refl | inr other ↦ rw other among ])))
