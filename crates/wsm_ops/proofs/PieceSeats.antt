-- Pieces of which no two are one node: what is said of a node is said of each of its pieces.
use Rattle.wsm_ops.proofs.Common.{[], ℕ, ◌++◌, ◌∙◌, ◌∷◌, ◌≡◌, AllRows, ap, Bool, both_ways, cases_Bool, eqb, eqb-true, false, filter, flat_map, if◌then◌else◌, inl, inr, is_node, is_one_of, List, list_any, nodes_in, None, Piece, refl, Seat}
use Rattle.wsm_ops.proofs.Common.{seat_at, Some, sym, true, twice}
use Rattle.wsm_ops.specs.declared.pieces.Piece.TheVariants.{Node, Head}

-- functions and tests that agree at each piece
pub same-flat_map : {X Y : Type 0} (f g : X → List Y) (xs : List X) → AllRows (λ x. f x ≡ g x) xs → flat_map f xs ≡ flat_map g xs
same-flat_map f g [] h = refl
same-flat_map f g (x ∷ xs) h = ap (λ ys. ys ++ flat_map f xs) h.0 ∙ ap (λ ys. g x ++ ys) (same-flat_map f g xs h.1)

pub same-filter : {X : Type 0} (f g : X → Bool) (xs : List X) → AllRows (λ x. f x ≡ g x) xs → filter f xs ≡ filter g xs
same-filter f g [] h = refl
same-filter f g (x ∷ xs) h = ap (λ b. if b then x ∷ filter f xs else filter f xs) h.0 ∙ ap (λ ys. if g x then x ∷ ys else ys) (same-filter f g xs h.1)

-- a piece is the node with that seat, if it is the node
abbrev pub IsSeated : ℕ → Seat → Piece → Type 0
IsSeated n seat p = is_node n p ≡ true → p ≡ Node n seat.kind seat.partner

not_later : (n : ℕ) (seat : Seat) (seen : List ℕ) (ps : List Piece) → twice seen (nodes_in ps) ≡ None → is_one_of n seen ≡ true → AllRows (IsSeated n seat) ps
not_later n seat seen [] h old = tt
not_later n seat seen (Head split code is_first ∷ ps) h old = ((λ bad. absurd (both_ways _ refl bad)), not_later n seat seen ps h old)
not_later n seat seen (Node node kind partner ∷ ps) h old =
    elim (cases_Bool (is_one_of node seen)) [
      | inl again ↦ absurd (let bad : Some node ≡ None = rw again at h in cc)
      | inr new ↦ elim (cases_Bool (eqb node n)) [
        | inl same ↦ absurd (both_ways _ (ap (λ m. is_one_of m seen) (sym (eqb-true node n same)) ∙ new) old)
        | inr other ↦ ((λ bad. absurd (both_ways _ other bad)), not_later n seat (node ∷ seen) ps (rw new at h) (rw other old))
      ]
    ]

some-is : {X : Type 0} (x y : X) → Some x ≡ Some y → x ≡ y
some-is x y h = cc

pub all_seated : (n : ℕ) (seat : Seat) (seen : List ℕ) (ps : List Piece) → twice seen (nodes_in ps) ≡ None → seat_at n ps ≡ Some seat → AllRows (IsSeated n seat) ps
all_seated n seat seen [] h there = tt
all_seated n seat seen (Head split code is_first ∷ ps) h there = ((λ bad. absurd (both_ways _ refl bad)), all_seated n seat seen ps h there)
all_seated n seat seen (Node node kind partner ∷ ps) h there =
    elim (cases_Bool (is_one_of node seen)) [
      | inl again ↦ absurd (let bad : Some node ≡ None = rw again at h in cc)
      | inr new ↦ elim (cases_Bool (eqb node n)) [
        | inl same ↦
            let is : record { kind = kind; partner = partner } ≡ seat = some-is _ _ (rw same at there) in
            let here : Node node kind partner ≡ Node n seat.kind seat.partner = ap (λ m. Node m kind partner) (eqb-true node n same) ∙ ap (λ (s : Seat). Node n s.kind s.partner) is in
            ((λ _. here), not_later n seat (node ∷ seen) ps (rw new at h) (rw same refl))
        | inr other ↦ ((λ bad. absurd (both_ways _ other bad)), all_seated n seat (node ∷ seen) ps (rw new at h) (rw other at there))
      ]
    ]

-- a node that is not there
pub none_seated : (n : ℕ) (ps : List Piece) → seat_at n ps ≡ None → AllRows (λ p. is_node n p ≡ false) ps
none_seated n [] h = tt
none_seated n (Head split code is_first ∷ ps) h = (refl, none_seated n ps h)
none_seated n (Node node kind partner ∷ ps) h =
    elim (cases_Bool (eqb node n)) [
      | inl same ↦ absurd (let bad : Some (record { kind = kind; partner = partner }) ≡ None = rw same at h in cc)
      | inr other ↦ (other, none_seated n ps (rw other at h))
    ]

-- what is kept of pieces with a fact
pub rows-filter : {X : Type 0} (P : X → Type 0) (test : X → Bool) (xs : List X) → AllRows P xs → AllRows P (filter test xs)
rows-filter P test [] h = tt
rows-filter P test (x ∷ xs) h =
    elim (cases_Bool (test x)) [
      | inl kept ↦ rw kept (h.0, rows-filter P test xs h.1)
      | inr dropped ↦ rw dropped (rows-filter P test xs h.1)
    ]

-- a piece that passes, of those with a fact
pub any-of : {X : Type 0} (P : X → Type 0) (test : X → Bool) (Q : Type 0) → ((x : X) → P x → test x ≡ true → Q) → (xs : List X) → AllRows P xs → list_any test xs ≡ true → Q
any-of P test Q f [] h found = absurd (both_ways _ refl found)
any-of P test Q f (x ∷ xs) h found =
    elim (cases_Bool (test x)) [
      | inl here ↦ f x h.0 here
      | inr other ↦ any-of P test Q f xs h.1 (rw other at found)
    ]
