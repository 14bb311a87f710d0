-- The least of positions, one after another.
use Rattle.wsm_adapt.proofs.Common.{ℕ, ◌+◌, ◌<◌, ◌∙◌, ◌≡◌, ap, arith, cases_Bool, drop, drop_more, false, get_or, inl, inr, least, length, lesser, List, ltb, ltb-false, ltb-true, map, None, Option, refl, Some, sym, true}

pub lesser-assoc : (a b c : Option ℕ) → lesser (lesser a b) c ≡ lesser a (lesser b c)
lesser-assoc None b c = refl
lesser-assoc (Some a) None c = refl
lesser-assoc (Some a) (Some b) None = elim (cases_Bool (ltb b a)) [ inl less ↦ rw less refl | inr more ↦ rw more refl ]
lesser-assoc (Some a) (Some b) (Some c) =
    elim (cases_Bool (ltb b a)) [
      | inl less ↦ elim (cases_Bool (ltb c b)) [
        | inl least ↦
            let ca : ltb c a ≡ true = elim (cases_Bool (ltb c a)) [ inl it ↦ it | inr no_less ↦ absurd (let x = ltb-true b a less in let y = ltb-true c b least in let z = ltb-false c a no_less in omega (arith, x, y, z)) ] in
            rw (less, least, ca) refl
        | inr between ↦ rw (less, between, less) refl
      ]
      | inr more ↦ elim (cases_Bool (ltb c b)) [
        | inl least ↦ rw (more, least) refl
        | inr most ↦
            let ca : ltb c a ≡ false = elim (cases_Bool (ltb c a)) [ inr it ↦ it | inl less ↦ absurd (let x = ltb-false b a more in let y = ltb-false c b most in let z = ltb-true c a less in omega (arith, x, y, z)) ] in
            rw (more, most, ca, more) refl
      ]
    ]

pub least-next : {X : Type 0} (g : X → Option ℕ) (xs : List X) (i : ℕ) (d : X) → i < length xs → (first : Option ℕ) (all : Option ℕ) → lesser first (least (map g (drop i xs))) ≡ all →
    lesser (lesser first (g (get_or xs i d))) (least (map g (drop (i + 1) xs))) ≡ all
least-next g xs i d lt first all h = lesser-assoc first (g (get_or xs i d)) (least (map g (drop (i + 1) xs))) ∙ ap (λ l. lesser first (least (map g l))) (sym (drop_more xs i d lt)) ∙ h
