-- The first of a queue, and what is behind it.
use Rattle.case_audit.proofs.Common.{[], ◌++◌, ◌∷◌, ◌≡◌, ap, arith, behind_front, drop, front_of, length, List, map, None, Option, option_map, option_to_list, refl, Some, sym}

module _ {A X : Type 0} (view : A → X) where
  pub popped-rest : (queue rest : List A) → rest ≡ drop 1 queue → map view rest ≡ behind_front (map view queue)
  popped-rest [] rest is = ap (map view) is
  popped-rest (x ∷ xs) rest is = ap (map view) is

  pub popped-front : (o : Option A) (queue rest : List A) → queue ≡ option_to_list o ++ rest → rest ≡ drop 1 queue → option_map view o ≡ front_of (map view queue)
  popped-front (Some x) queue rest is left = sym (ap (λ xs. front_of (map view xs)) is)
  popped-front None [] rest is left = refl
  popped-front None (x ∷ xs) rest is left =
      let long = ap length is in
      let short = ap length left in
      absurd (omega (arith, long, short))
