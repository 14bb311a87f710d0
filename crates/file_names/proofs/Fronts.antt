-- The first so many of names.
use Rattle.std.proofs.{Common.{◌≡◌, ◌<◌, ◌^◌, ◌&&◌, ℕ, Bool, true, false, List, length, map, take, drop, refl, sym, ap, ◌∙◌, arith}, lemmas.List.{length-take, take-append-drop, take-map}, lemmas.List.Folds.list_all-append}
use Rattle.std.specs.List.{list_all}
use Rattle.file_words.specs.Lines.{Bytes}
use Rattle.file_names.specs.ShortNames.{is_short_name}

both-left : (a b : Bool) → a && b ≡ true → a ≡ true
both-left true b e = refl
both-left false b e = absurd cc

front-passes : {X : Type 0} (p : X → Bool) (n : ℕ) (xs : List X) → list_all p xs ≡ true → list_all p (take n xs) ≡ true
front-passes p n xs all =
    both-left (list_all p (take n xs)) (list_all p (drop n xs)) (sym (list_all-append p (take n xs) (drop n xs)) ∙ ap (list_all p) (take-append-drop n xs) ∙ all)

module _ {X : Type 0} (f : X → Bytes) (n : ℕ) (ks new : List X) (is : new ≡ take n ks) where
  pub front-short : (list_all is_short_name (map f ks) ≡ true) × (length ks < 2 ^ 32) → (list_all is_short_name (map f new) ≡ true) × (length new < 2 ^ 32)
  front-short h = (
    ap (λ l. list_all is_short_name (map f l)) is ∙ ap (list_all is_short_name) (sym (take-map f n ks)) ∙ front-passes is_short_name n (map f ks) h.0,
    omega (arith, ap length is, length-take n ks, h.1),
  )

  pub front-names : (names : List Bytes) → map f ks ≡ names → map f new ≡ take n names
  front-names names same = ap (map f) is ∙ sym (take-map f n ks) ∙ ap (take n) same
