-- Rows that are written one after another.
use Rattle.std.proofs.{Common.{◌≡◌, Bool, ℕ, ◌+◌, ◌<◌, List, [], ◌∷◌, ◌++◌, length, get_or, take, Option, refl, ap, ◌∙◌, subst}, lemmas.Grind.flat_map-append}
use Rattle.std.specs.List.{flat_map}
use Rattle.adept_io.proofs.Sent.{gives_then, flat_map-take_more}
use Rattle.adept_io.specs.Written.{Gives}

-- the same text in other words
pub gives_as : {S : Type 0} (written : S → Option (List ℕ)) (faults : S → ℕ) (p q : Bool) (a b : S) (t u : List ℕ) → Gives written faults p q a b t → t ≡ u → Gives written faults p q a b u
gives_as written faults p q a b t u gives same =
    let P : List ℕ → Type 0 = λ v. Gives written faults p q a b v in subst P same gives

-- the rows up to an index, and then the row there
pub gives_row : {S X : Type 0} (written : S → Option (List ℕ)) (faults : S → ℕ) (p q r : Bool) (a b c : S) (f : X → List ℕ) (xs : List X) (i : ℕ) (d : X) → i < length xs →
    Gives written faults p q a b (flat_map f (take i xs)) → Gives written faults q r b c (f (get_or xs i d)) → Gives written faults p r a c (flat_map f (take (i + 1) xs))
gives_row written faults p q r a b c f xs i d within first second =
    rw (flat_map-take_more f xs i d within) (gives_then written faults p q r a b c (flat_map f (take i xs)) (f (get_or xs i d)) first second)

-- the same of a row that owns memory
pub gives_item : {S X : Type 0} (written : S → Option (List ℕ)) (faults : S → ℕ) (p q r : Bool) (a b c : S) (f : X → List ℕ) (xs : List X) (i : ℕ) (x : X) → x ≡ get_or xs i x → i < length xs →
    Gives written faults p q a b (flat_map f (take i xs)) → Gives written faults q r b c (f x) → Gives written faults p r a c (flat_map f (take (i + 1) xs))
gives_item {S} {X} written faults p q r a b c f xs i x is within first second =
    let P : X → Type 0 = λ y. Gives written faults q r b c (f y) in
    gives_row written faults p q r a b c f xs i x within first (subst P is second)

-- rows of rows
pub flat_map-flat_map : {X Y : Type 0} (f : Y → List ℕ) (g : X → List Y) (xs : List X) → flat_map f (flat_map g xs) ≡ flat_map (λ x. flat_map f (g x)) xs
flat_map-flat_map f g [] = refl
flat_map-flat_map f g (x ∷ xs) = flat_map-append f (g x) (flat_map g xs) ∙ ap (λ t. flat_map f (g x) ++ t) (flat_map-flat_map f g xs)
