-- Facts about each row of a list.
use Rattle.wsm_lists.proofs.Common.{[], ◌++◌, ◌∙◌, ◌∷◌, ◌≡◌, AllRows, ap, List, map, refl}

-- two functions that agree at each row
pub map-same : {X Y : Type 0} (f g : X → Y) (xs : List X) → AllRows (λ x. f x ≡ g x) xs → map f xs ≡ map g xs
map-same f g [] h = refl
map-same f g (x ∷ xs) h = ap (λ y. y ∷ map f xs) h.0 ∙ ap (λ ys. g x ∷ ys) (map-same f g xs h.1)

-- what follows from a fact about each row
pub all-rows-map : {X : Type 0} (P Q : X → Type 0) → ((x : X) → P x → Q x) → (xs : List X) → AllRows P xs → AllRows Q xs
all-rows-map P Q f [] h = tt
all-rows-map P Q f (x ∷ xs) h = (f x h.0, all-rows-map P Q f xs h.1)

-- the same of two facts
pub both_rows : {X : Type 0} (P Q R : X → Type 0) → ((x : X) → P x → Q x → R x) → (xs : List X) → AllRows P xs → AllRows Q xs → AllRows R xs
both_rows P Q R h [] p q = tt
both_rows P Q R h (x ∷ xs) p q = (h x p.0 q.0, both_rows P Q R h xs p.1 q.1)

-- what always holds
pub all_rows : {X : Type 0} (P : X → Type 0) → ((x : X) → P x) → (xs : List X) → AllRows P xs
all_rows P h [] = tt
all_rows P h (x ∷ xs) = (h x, all_rows P h xs)

pub rows-append : {X : Type 0} (P : X → Type 0) (xs ys : List X) → AllRows P xs → AllRows P ys → AllRows P (xs ++ ys)
rows-append P [] ys p q = q
rows-append P (x ∷ xs) ys p q = (p.0, rows-append P xs ys p.1 q)

pub rows-parts : {X : Type 0} (P : X → Type 0) (xs ys : List X) → AllRows P (xs ++ ys) → AllRows P xs × AllRows P ys
rows-parts P [] ys h = (tt, h)
rows-parts P (x ∷ xs) ys h = let r = rows-parts P xs ys h.1 in ((h.0, r.0), r.1)

pub rows-map : {X Y : Type 0} (Q : Y → Type 0) (g : X → Y) (xs : List X) → AllRows (λ x. Q (g x)) xs → AllRows Q (map g xs)
rows-map Q g [] h = tt
rows-map Q g (x ∷ xs) h = (h.0, rows-map Q g xs h.1)
