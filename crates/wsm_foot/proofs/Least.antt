-- The least of names, taken in any grouping.
use Rattle.std.proofs.{Common.{◌≡◌, ℕ, ◌+◌, ◌<◌, Bool, List, [], ◌∷◌, ◌++◌, filter, drop, length, get_or, refl, ap, sym, ◌∙◌, inl, inr, Option, Some, None, Less, Equal, Greater, rules, add-one, drop-cons}, lemmas.Bool.cases_Bool}
use Rattle.std.specs.{declared.cmp.Ordering.Ordering, Ordering.{min_by_ordering, ordering_reverse}, Cmp.IsTotalOrder, Cmp.Rules.comparing}
use Rattle.wsm_foot.specs.{Order.name_cmp, Foot.{lesser, least, if_shared}, declared.names.Name.Name}

name_total : IsTotalOrder name_cmp
name_total = search (comparing, rules)

-- ---- the lesser of two, in a total order
abbrev lesser_by : (Name → Name → Ordering) → Name → Name → Name
lesser_by R a b = min_by_ordering (R a b) a b

-- what three comparisons allow
turned : (R : Name → Name → Ordering) → IsTotalOrder R → (a b : Name) → R a b ≡ Greater → R b a ≡ Less
turned R o a b h = o.antisymm b a ∙ ap ordering_reverse h

turned_back : (R : Name → Name → Ordering) → IsTotalOrder R → (a b : Name) → R a b ≡ Less → R b a ≡ Greater
turned_back R o a b h = o.antisymm b a ∙ ap ordering_reverse h

downwards : (R : Name → Name → Ordering) → IsTotalOrder R → (a b c : Name) → R a b ≡ Greater → R b c ≡ Greater → R a c ≡ Greater
downwards R o a b c p q = turned_back R o c a (o.trans c b a (turned R o b c q) (turned R o a b p))

same_right : (R : Name → Name → Ordering) → IsTotalOrder R → (a b c : Name) → R b c ≡ Equal → R a c ≡ R a b
same_right R o a b c h = o.antisymm a c ∙ ap ordering_reverse (sym (o.congr b c a h)) ∙ sym (o.antisymm a b)

grouped : (R : Name → Name → Ordering) → IsTotalOrder R → (a b c : Name) → lesser_by R (lesser_by R a b) c ≡ lesser_by R a (lesser_by R b c)
grouped R o a b c = go (R a b) (R b c) refl refl
  where
    go : (x y : Ordering) → R a b ≡ x → R b c ≡ y → lesser_by R (lesser_by R a b) c ≡ lesser_by R a (lesser_by R b c)
    go Less Less p q = rw (p, q, p, o.trans a b c p q) refl
    go Less Equal p q = rw (p, q, p, same_right R o a b c q ∙ p) refl
    go Less Greater p q = rw (p, q) refl
    go Equal Less p q = rw (p, q, p, o.congr a b c p ∙ q) refl
    go Equal Equal p q = rw (p, q, p, o.congr a b c p ∙ q) refl
    go Equal Greater p q = rw (p, q) refl
    go Greater Less p q = rw (p, q, p) refl
    go Greater Equal p q = rw (p, q, p) refl
    go Greater Greater p q = rw (p, q, downwards R o a b c p q) refl

lesser-grouped : (a b c : Option Name) → lesser (lesser a b) c ≡ lesser a (lesser b c)
lesser-grouped None b c = refl
lesser-grouped (Some a) None c = refl
lesser-grouped (Some a) (Some b) None = refl
lesser-grouped (Some a) (Some b) (Some c) = ap Some (grouped name_cmp name_total a b c)

lesser-none : (a : Option Name) → lesser a None ≡ a
lesser-none None = refl
lesser-none (Some a) = refl

-- ---- the least of a list
pub least-append : (xs ys : List Name) → least (xs ++ ys) ≡ lesser (least xs) (least ys)
least-append [] ys = refl
least-append (x ∷ xs) ys = ap (lesser (Some x)) (least-append xs ys) ∙ sym (lesser-grouped (Some x) (least xs) (least ys))

least-next : (p : Name → Bool) (n : Name) (ns : List Name) → least (filter p (n ∷ ns)) ≡ lesser (if_shared (p n) n) (least (filter p ns))
least-next p n ns = elim (cases_Bool (p n)) [ inl kept ↦ rw kept refl | inr dropped ↦ rw dropped refl ]

-- the least so far, with the next name
pub least-goes_on : (p : Name → Bool) (names : List Name) (i : ℕ) (d : Name) (so_far new whole : Option Name) → i < length names →
    new ≡ lesser so_far (if_shared (p (get_or names i d)) (get_or names i d)) → lesser so_far (least (filter p (drop i names))) ≡ whole →
    lesser new (least (filter p (drop (i + 1) names))) ≡ whole
least-goes_on p names i d so_far new whole lt step before =
    let n : Name = get_or names i d in
    let split : drop i names ≡ n ∷ drop (i + 1) names = rw (add-one, drop-cons names i d lt) refl in
    let next : least (filter p (drop i names)) ≡ lesser (if_shared (p n) n) (least (filter p (drop (i + 1) names))) =
    ap (λ ns. least (filter p ns)) split ∙ least-next p n (drop (i + 1) names)
    in
    ap (λ x. lesser x (least (filter p (drop (i + 1) names)))) step
    ∙ lesser-grouped so_far (if_shared (p n) n) (least (filter p (drop (i + 1) names)))
    ∙ ap (lesser so_far) (sym next)
    ∙ before
