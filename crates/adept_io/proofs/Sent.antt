-- Several writes in a row.
use Rattle.std.proofs.{Common.{◌≡◌, Bool, true, false, subst, ℕ, ◌+◌, ◌<◌, ◌≤◌, List, [], ◌∷◌, ◌++◌, length, get_or, take, take-add, drop, Option, append_assoc, append-nil, refl, sym, ap, ◌∙◌, inl, inr, arith}, lemmas.List.take_more}
use Rattle.std.proofs.{lemmas.List.take-append-drop, lemmas.Grind.flat_map-append, KnownBytes.{Appends-nil, Appends-trans}}
use Rattle.std.specs.{List.flat_map, Io.KnownBytes.Appends}
use Rattle.adept_io.specs.{Counts.Rose, Written.{AppendsPrefix, Gives}}

-- all of the first bytes were written, and then some of the others
pub AppendsPrefix-after : (a b c : Option (List ℕ)) (t u : List ℕ) → Appends a b t → AppendsPrefix b c u → AppendsPrefix a c (t ++ u)
AppendsPrefix-after a b c t u first second = record {
  sent = t ++ second.sent;
  rest = second.rest;
  whole = append_assoc t second.sent second.rest ∙ ap (λ v. t ++ v) second.whole;
  appends = Appends-trans a b c t second.sent first second.appends;
}

-- some of the first bytes are some of all of them
pub AppendsPrefix-append : (a b : Option (List ℕ)) (t u : List ℕ) → AppendsPrefix a b t → AppendsPrefix a b (t ++ u)
AppendsPrefix-append a b t u first = record {
  sent = first.sent;
  rest = first.rest ++ u;
  whole = sym (append_assoc first.sent first.rest u) ∙ ap (λ v. v ++ u) first.whole;
  appends = first.appends;
}

-- a count that rose later has risen since an earlier moment
pub Rose-since : (a b c : ℕ) → a ≤ b → Rose b c → Rose a c
Rose-since a b c le (inl rose) = inl (omega (arith, le, rose))
Rose-since a b c le (inr greatest) = inr greatest

-- two calls in a row give both texts, one behind the other
pub gives_then : {S : Type 0} (written : S → Option (List ℕ)) (faults : S → ℕ) (p q r : Bool) (a b c : S) (t u : List ℕ) →
    Gives written faults p q a b t → Gives written faults q r b c u → Gives written faults p r a c (t ++ u)
gives_then written faults true true true a b c t u first second =
    (Appends-trans (written a) (written b) (written c) t u first.0 second.0, omega (arith, first.1, second.1))
gives_then written faults true true false a b c t u first second =
    (AppendsPrefix-after (written a) (written b) (written c) t u first.0 second.0, Rose-since (faults a) (faults b) (faults c) first.1 second.1)
gives_then written faults true false true a b c t u first second = absurd second
gives_then written faults true false false a b c t u first second =
    let P : _ → Type 0 = λ s. AppendsPrefix (written a) (written s) (t ++ u) × Rose (faults a) (faults s) in
    subst P (sym second) (AppendsPrefix-append (written a) (written b) t u first.0, first.1)
gives_then written faults false true r a b c t u first second = absurd first
gives_then written faults false false true a b c t u first second = absurd second
gives_then written faults false false false a b c t u first second = second ∙ first

-- a piece behind those that were written is what was written up to its end
pub Appends-take : (a b c : Option (List ℕ)) (i n : ℕ) (bytes : List ℕ) → Appends a b (take i bytes) → Appends b c (take n (drop i bytes)) → Appends a c (take (i + n) bytes)
Appends-take a b c i n bytes first second =
    rw (take-add i n bytes) (Appends-trans a b c (take i bytes) (take n (drop i bytes)) first second)

-- no call writes nothing
pub gives_nothing : {S : Type 0} (written : S → Option (List ℕ)) (faults : S → ℕ) (p : Bool) (a : S) → Gives written faults p p a a []
gives_nothing written faults true a = (Appends-nil (written a), omega arith)
gives_nothing written faults false a = refl

-- the pieces up to an index, and the piece there
pub flat_map-take_more : {X : Type 0} (f : X → List ℕ) (xs : List X) (i : ℕ) (d : X) → i < length xs → flat_map f (take (i + 1) xs) ≡ flat_map f (take i xs) ++ f (get_or xs i d)
flat_map-take_more f xs i d within =
    ap (flat_map f) (take_more xs i d within) ∙ flat_map-append f (take i xs) (get_or xs i d ∷ []) ∙ ap (λ t. flat_map f (take i xs) ++ t) (append-nil (f (get_or xs i d)))

-- the first of some bytes are a prefix of them
pub AppendsPrefix-take : (a b : Option (List ℕ)) (n : ℕ) (bytes : List ℕ) → Appends a b (take n bytes) → AppendsPrefix a b bytes
AppendsPrefix-take a b n bytes first = record {
  sent = take n bytes;
  rest = drop n bytes;
  whole = take-append-drop n bytes;
  appends = first;
}
