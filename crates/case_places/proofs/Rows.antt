-- The rows of types, with a type more and with a case more.
use Rattle.std.proofs.{Common.{◌≡◌, ℕ, zero, suc, ◌+◌, ◌<◌, ◌==◌, Bool, true, false, List, [], ◌∷◌, ◌++◌, length, refl, sym, ap, ◌∙◌, arith, subst, if◌then◌else◌}, lemmas.Bool.{eqb-true, eqb-false, eq-eqb}, lemmas.List.append-nil}
use Rattle.std.proofs.lemmas.List.{get_or-set_same, get_or-set_other}
use Rattle.std.specs.Prelude.{get_or, set}
use Rattle.case_places.specs.Places.{AreRows, places_from, places_of}

-- an empty row more
pub empty-behind : (rows : List (List ℕ)) (t : ℕ) → get_or (rows ++ [] ∷ []) t [] ≡ get_or rows t []
empty-behind [] zero = refl
empty-behind [] (suc t) = refl
empty-behind (r ∷ rows) zero = refl
empty-behind (r ∷ rows) (suc t) = empty-behind rows t

pub kind-added : (rows : List (List ℕ)) (types : List ℕ) → AreRows rows types → AreRows (rows ++ [] ∷ []) types
kind-added rows types h t = empty-behind rows t ∙ h t

-- the place of a case more, where it is of the type
abbrev pub one_place : ℕ → ℕ → ℕ → List ℕ
one_place place t u = if u == t then place ∷ [] else []

front : (place t u : ℕ) (b : Bool) (xs ys : List ℕ) → xs ≡ ys → (if b then place ∷ xs else xs) ≡ (if b then place ∷ ys else ys)
front place t u b xs ys e = ap (λ zs. if b then place ∷ zs else zs) e

through : (b : Bool) (place : ℕ) (xs ys : List ℕ) → (if b then place ∷ (xs ++ ys) else xs ++ ys) ≡ (if b then place ∷ xs else xs) ++ ys
through true place xs ys = refl
through false place xs ys = refl

pub places-more : (place t : ℕ) (us : List ℕ) (u : ℕ) → places_from place t (us ++ u ∷ []) ≡ places_from place t us ++ one_place (place + length us) t u
places-more place t [] u =
    let same : place + 0 ≡ place = omega arith in
    ap (λ p. one_place p t u) (sym same)
places-more place t (v ∷ us) u =
    let next : place + 1 + length us ≡ place + length (v ∷ us) = omega arith in
    front place t v (v == t) _ _ (places-more (place + 1) t us u ∙ ap (λ p. places_from (place + 1) t us ++ one_place p t u) next)
    ∙ through (v == t) place (places_from (place + 1) t us) (one_place (place + length (v ∷ us)) t u)

zero-plus : (n : ℕ) → 0 + n ≡ n
zero-plus n = omega arith

pub case-added : (rows : List (List ℕ)) (types : List ℕ) (u : ℕ) → AreRows rows types → u < length rows → AreRows (set rows u (get_or rows u [] ++ length types ∷ [])) (types ++ u ∷ [])
case-added rows types u h within t = go (u == t) refl
  where
    more : places_of t (types ++ u ∷ []) ≡ places_of t types ++ one_place (length types) t u
    more = rw (zero-plus (length types)) at (places-more 0 t types u)

    go : (test : Bool) → (u == t) ≡ test → get_or (set rows u (get_or rows u [] ++ length types ∷ [])) t [] ≡ places_of t (types ++ u ∷ [])
    go true e =
        let is : u ≡ t = eqb-true u t e in
        subst (λ (s : ℕ). get_or (set rows u (get_or rows u [] ++ length types ∷ [])) s [] ≡ places_of t types ++ length types ∷ []) is
        (get_or-set_same rows u _ [] within ∙ ap (λ (s : ℕ). get_or rows s [] ++ length types ∷ []) is ∙ ap (λ r. r ++ length types ∷ []) (h t))
        ∙ sym (more ∙ ap (λ (b : Bool). places_of t types ++ (if b then length types ∷ [] else [])) e)
    go false e =
        get_or-set_other rows u t _ [] (λ is. eqb-false u t e (sym is)) ∙ h t
        ∙ sym (more ∙ ap (λ (b : Bool). places_of t types ++ (if b then length types ∷ [] else [])) e ∙ append-nil (places_of t types))
