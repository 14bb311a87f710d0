-- Numbered lines, and lists side by side, that are written one after another.
use Rattle.report_text.proofs.Common.{[], ℕ, ◌++◌, ◌+◌, ◌<◌, ◌∙◌, ◌∷◌, ◌≡◌, ◌⊎◌, ap, append-nil, append_assoc, arith, Bool, get_or, Gives, gives_then, inl, inr, length, List, numbered, Option, side_by_side, subst, suc, sym, take, zero}
use Rattle.std.proofs.Common.{refl}

-- the numbered lines up to an index, and the one there
numbered-take_suc : {X : Type 0} (line : ℕ → X → List ℕ) (k : ℕ) (xs : List X) (i : ℕ) (d : X) → i < length xs →
    numbered line k (take (suc i) xs) ≡ numbered line k (take i xs) ++ line (k + i) (get_or xs i d)
numbered-take_suc line k [] i d within = absurd (omega arith)
numbered-take_suc line k (x ∷ xs) zero d within =
    let e : k ≡ k + 0 = omega arith in
    append-nil (line k x) ∙ ap (λ n. line n x) e
numbered-take_suc line k (x ∷ xs) (suc i) d within =
    let e : k + 1 + i ≡ k + suc i = omega arith in
    let here = numbered-take_suc line (k + 1) xs i d (omega arith) ∙ ap (λ n. numbered line (k + 1) (take i xs) ++ line n (get_or xs i d)) e in
    ap (λ t. line k x ++ t) here ∙ sym (append_assoc (line k x) (numbered line (k + 1) (take i xs)) (line (k + suc i) (get_or xs i d)))

pub numbered-take_more : {X : Type 0} (line : ℕ → X → List ℕ) (k : ℕ) (xs : List X) (i : ℕ) (d : X) → i < length xs →
    numbered line k (take (i + 1) xs) ≡ numbered line k (take i xs) ++ line (k + i) (get_or xs i d)
numbered-take_more line k xs i d within =
    let e : i + 1 ≡ suc i = omega arith in
    ap (λ n. numbered line k (take n xs)) e ∙ numbered-take_suc line k xs i d within

pub gives_line : {S X : Type 0} (written : S → Option (List ℕ)) (faults : S → ℕ) (p q r : Bool) (a b c : S) (line : ℕ → X → List ℕ) (xs : List X) (i : ℕ) (x : X) → x ≡ get_or xs i x → i < length xs →
    Gives written faults p q a b (numbered line 1 (take i xs)) → Gives written faults q r b c (line (i + 1) x) → Gives written faults p r a c (numbered line 1 (take (i + 1) xs))
gives_line {S} {X} written faults p q r a b c line xs i x is within first second =
    let P : X → Type 0 = λ y. Gives written faults q r b c (line (i + 1) y) in
    let Q : ℕ → Type 0 = λ n. Gives written faults q r b c (line n (get_or xs i x)) in
    let next : i + 1 ≡ 1 + i = omega arith in
    rw (numbered-take_more line 1 xs i x within) (gives_then written faults p q r a b c (numbered line 1 (take i xs)) (line (1 + i) (get_or xs i x)) first (subst Q next (subst P is second)))

-- two lists side by side, of which one has come to its end
pub side_by_side-ended : {D C : Type 0} (part : D → C → List ℕ) (ds : List D) (cs : List C) → (ds ≡ []) ⊎ (cs ≡ []) → side_by_side part ds cs ≡ []
side_by_side-ended part [] cs ended = refl
side_by_side-ended part (d ∷ ds) [] ended = refl
side_by_side-ended part (d ∷ ds) (c ∷ cs) (inl e) = cc
side_by_side-ended part (d ∷ ds) (c ∷ cs) (inr e) = cc

-- what was written, the next pair, and what is left
pub side_by_side-next : {D C : Type 0} (part : D → C → List ℕ) (ds es : List D) (cs bs : List C) (d : D) (c : C) (sent whole : List ℕ) → ds ≡ d ∷ es → cs ≡ c ∷ bs →
    sent ++ side_by_side part ds cs ≡ whole → (sent ++ part d c) ++ side_by_side part es bs ≡ whole
side_by_side-next part ds es cs bs d c sent whole first second so_far =
    append_assoc sent (part d c) (side_by_side part es bs) ∙ rw (first, second) at so_far
