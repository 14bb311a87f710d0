-- What it says that no fault is found.
use Rattle.wsm_marks.proofs.Common.{[], ◌∷◌, ◌≡◌, AllRows, Bool, both_ways, false, first_some, List, None, not, Option, option_map, refl, Some, true, when}
use Rattle.std.specs.Option.{option_or}

-- of two neither
pub no_either : {X : Type 0} (a b : Option X) → option_or a b ≡ None → (a ≡ None) × (b ≡ None)
no_either None b h = (refl, h)
no_either (Some x) b h = absurd (cc)

-- no answer of a test
pub no_when : {X : Type 0} (test : Bool) (x : X) → when test x ≡ None → test ≡ false
no_when true x h = absurd (cc)
no_when false x h = refl

-- no answer that was changed
pub no_map : {X Y : Type 0} (f : X → Y) (o : Option X) → option_map f o ≡ None → o ≡ None
no_map f None h = refl
no_map f (Some x) h = absurd (cc)

-- none for any row
pub no_first : {X Y : Type 0} (f : X → Option Y) (xs : List X) → first_some f xs ≡ None → AllRows (λ x. f x ≡ None) xs
no_first f [] h = tt
no_first f (x ∷ xs) h = let r = no_either (f x) (first_some f xs) h in (r.0, no_first f xs r.1)

-- what is not refused holds
pub not_false : (b : Bool) → not b ≡ false → b ≡ true
not_false true h = refl
not_false false h = absurd (both_ways _ h refl)
