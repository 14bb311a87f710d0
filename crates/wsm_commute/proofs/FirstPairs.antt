-- The walk from the last list to the first finds the first two lists that overlap.
use Rattle.wsm_commute.proofs.Common.{[], ℕ, ◌++◌, ◌+◌, ◌<◌, ◌||◌, ◌∙◌, ◌∷◌, ◌≡◌, ◌≤◌, add-one, all_changes, ap, arith, Bool, cases_Bool, comparing, cond, drop, drop-cons, drop_of_length-le, earlier, earliest, false, filter, first_changing}
use Rattle.wsm_commute.proofs.Common.{first_overlap, first_pair, first_touching, footprint, get_or, if◌then◌else◌, inl, inr, is_among, is_eq, is_some, IsTotalOrder, least, least_overlap, length, lesser, List, list_any, Name, name_cmp, None}
use Rattle.wsm_commute.proofs.Common.{Op, Option, option_map, option_or, Ordering, ordering_reverse, overlap_with, overlaps, pair_or, position_from, refl, rules, Some, suc, sym, true}
use Rattle.std.specs.declared.cmp.Ordering.TheVariants.{Less, Equal, Greater}
use Rattle.wsm_commute.specs.declared.refusals.ManyRefusal.TheVariants as many

-- ---- the first of two places
earlier-none : (a : Option ℕ) → earlier a None ≡ a
earlier-none None = refl
earlier-none (Some a) = refl

earlier-grouped : (a b c : Option ℕ) → earlier (earlier a b) c ≡ earlier a (earlier b c)
earlier-grouped None b c = refl
earlier-grouped (Some a) None c = refl
earlier-grouped (Some a) (Some b) None = refl
earlier-grouped (Some a) (Some b) (Some c) = ap Some (omega arith)

-- no place before the first one
abbrev NotBefore : ℕ → Option ℕ → Type 0
NotBefore place None = Unit {0}
NotBefore place (Some a) = place ≤ a

lower : (place : ℕ) (a : Option ℕ) → NotBefore (place + 1) a → NotBefore place a
lower place None h = tt
lower place (Some a) h = omega (arith, h)

earlier-here : (place : ℕ) (a : Option ℕ) → NotBefore place a → earlier (Some place) a ≡ Some place
earlier-here place None h = refl
earlier-here place (Some a) h = ap Some (omega (arith, h))

earlier-there : (place : ℕ) (a : Option ℕ) → NotBefore place a → earlier a (Some place) ≡ Some place
earlier-there place None h = refl
earlier-there place (Some a) h = ap Some (omega (arith, h))

module _ {X : Type 0} where
  not_before : (p : X → Bool) (place : ℕ) (xs : List X) → NotBefore place (position_from p place xs)
  not_before p place [] = tt
  not_before p place (x ∷ xs) = go (p x) (lower place (position_from p (place + 1) xs) (not_before p (place + 1) xs))
    where
      go : (t : Bool) → NotBefore place (position_from p (place + 1) xs) → NotBefore place (cond t (Some place) (position_from p (place + 1) xs))
      go true h = omega arith
      go false h = h

  -- the first place for one of two tests
  either : (p q : X → Bool) (place : ℕ) (xs : List X) → earlier (position_from p place xs) (position_from q place xs) ≡ position_from (λ x. p x || q x) place xs
  either p q place [] = refl
  either p q place (x ∷ xs) = step (p x) (q x) (either p q (place + 1) xs)
    where
      step : (t u : Bool) → earlier (position_from p (place + 1) xs) (position_from q (place + 1) xs) ≡ position_from (λ x. p x || q x) (place + 1) xs
          → earlier (cond t (Some place) (position_from p (place + 1) xs)) (cond u (Some place) (position_from q (place + 1) xs)) ≡ cond (t || u) (Some place) (position_from (λ x. p x || q x) (place + 1) xs)
      step true true ih = earlier-here place (Some place) (omega arith)
      step true false ih = earlier-here place (position_from q (place + 1) xs) (lower place (position_from q (place + 1) xs) (not_before q (place + 1) xs))
      step false true ih = earlier-there place (position_from p (place + 1) xs) (lower place (position_from p (place + 1) xs) (not_before p (place + 1) xs))
      step false false ih = ih

  nowhere : (place : ℕ) (xs : List X) → position_from (λ x. false) place xs ≡ None
  nowhere place [] = refl
  nowhere place (x ∷ xs) = nowhere (place + 1) xs

  same-test : (p q : X → Bool) → ((x : X) → p x ≡ q x) → (place : ℕ) (xs : List X) → position_from p place xs ≡ position_from q place xs
  same-test p q h place [] = refl
  same-test p q h place (x ∷ xs) = ap (λ t. cond t (Some place) (position_from p (place + 1) xs)) (h x) ∙ ap (cond (q x) (Some place)) (same-test p q h (place + 1) xs)

  -- the first place for one of some names
  any-name : (p : Name → X → Bool) (names : List Name) (place : ℕ) (xs : List X) → earliest (λ n. position_from (p n) place xs) names ≡ position_from (λ x. list_any (λ n. p n x) names) place xs
  any-name p [] place xs = sym (nowhere place xs)
  any-name p (n ∷ ns) place xs = ap (earlier (position_from (p n) place xs)) (any-name p ns place xs) ∙ either (p n) (λ x. list_any (λ m. p m x) ns) place xs

-- ---- two lists overlap where a name that one changes is among those of the other
turned : (R : Name → Name → Ordering) → IsTotalOrder R → (a b : Name) → is_eq (R a b) ≡ is_eq (R b a)
turned R o a b = go (R b a) (o.antisymm a b)
  where
    go : (x : Ordering) → R a b ≡ ordering_reverse x → is_eq (R a b) ≡ is_eq x
    go Less h = ap is_eq h
    go Equal h = ap is_eq h
    go Greater h = ap is_eq h

name_total : IsTotalOrder name_cmp
name_total = search (comparing, rules)

pub same-name : (a b : Name) → is_eq (name_cmp a b) ≡ is_eq (name_cmp b a)
same-name a b = turned name_cmp name_total a b

abbrev share : List Name → List Name → Bool
share xs ys = list_any (is_among ys) xs

or-moved : (a b c d : Bool) → ((a || b) || (c || d)) ≡ ((a || c) || (b || d))
or-moved true b c d = refl
or-moved false true true d = refl
or-moved false true false d = refl
or-moved false false c d = refl

none-shared : (ys : List Name) → share ys [] ≡ false
none-shared [] = refl
none-shared (y ∷ ys) = none-shared ys

one-more : (x : Name) (xs ys : List Name) → share ys (x ∷ xs) ≡ (is_among ys x || share ys xs)
one-more x xs [] = refl
one-more x xs (y ∷ ys) =
    ap (λ t. (is_eq (name_cmp y x) || is_among xs y) || t) (one-more x xs ys)
    ∙ or-moved (is_eq (name_cmp y x)) (is_among xs y) (is_among ys x) (share ys xs)
    ∙ ap (λ t. (t || is_among ys x) || (is_among xs y || share ys xs)) (same-name y x)

share-turned : (xs ys : List Name) → share xs ys ≡ share ys xs
share-turned [] ys = sym (none-shared ys)
share-turned (x ∷ xs) ys = ap (λ t. is_among ys x || t) (share-turned xs ys) ∙ sym (one-more x xs ys)

some-least : (p : Name → Bool) (ns ms : List Name) → is_some (least (filter p ns ++ ms)) ≡ (list_any p ns || is_some (least ms))
some-least p [] ms = refl
some-least p (n ∷ ns) ms =
    elim (cases_Bool (p n)) [
      | inl kept ↦ rw kept (always n (least (filter p ns ++ ms)))
      | inr dropped ↦ rw dropped (some-least p ns ms)
    ]
  where
    always : (n : Name) (o : Option Name) → is_some (lesser (Some n) o) ≡ true
    always n None = refl
    always n (Some m) = refl

or-false : (a : Bool) → (a || false) ≡ a
or-false true = refl
or-false false = refl

some-filtered : (p : Name → Bool) (ns : List Name) → is_some (least (filter p ns)) ≡ list_any p ns
some-filtered p [] = refl
some-filtered p (n ∷ ns) =
    elim (cases_Bool (p n)) [
      | inl kept ↦ rw kept (always n (least (filter p ns)))
      | inr dropped ↦ rw dropped (some-filtered p ns)
    ]
  where
    always : (n : Name) (o : Option Name) → is_some (lesser (Some n) o) ≡ true
    always n None = refl
    always n (Some m) = refl

overlap-shares : (left right : List Op) → overlaps left right ≡ (list_any (is_among (footprint right)) (all_changes left) || list_any (is_among (all_changes right)) (footprint left))
overlap-shares left right =
    some-least (is_among (footprint right)) (all_changes left) (filter (is_among (footprint left)) (all_changes right))
    ∙ ap (λ t. list_any (is_among (footprint right)) (all_changes left) || t) (some-filtered (is_among (footprint left)) (all_changes right) ∙ share-turned (all_changes right) (footprint left))

-- the partner of a list, by what is noted of the later ones
pub partner : (ops : List Op) (place : ℕ) (lists : List (List Op)) →
    earlier (earliest (first_touching place lists) (all_changes ops)) (earliest (first_changing place lists) (footprint ops)) ≡ position_from (overlaps ops) place lists
partner ops place lists =
    ap (λ a. earlier a (earliest (first_changing place lists) (footprint ops))) (any-name (λ n l. is_among (footprint l) n) (all_changes ops) place lists)
    ∙ ap (earlier (position_from (λ l. list_any (is_among (footprint l)) (all_changes ops)) place lists)) (any-name (λ n l. is_among (all_changes l) n) (footprint ops) place lists)
    ∙ either (λ l. list_any (is_among (footprint l)) (all_changes ops)) (λ l. list_any (is_among (all_changes l)) (footprint ops)) place lists
    ∙ same-test _ _ (λ l. sym (overlap-shares ops l)) place lists

-- ---- steps of the loops
same-noted : (f g : Name → Option ℕ) → ((n : Name) → f n ≡ g n) → (names : List Name) → earliest f names ≡ earliest g names
same-noted f g h [] = refl
same-noted f g h (n ∷ ns) = ap (λ o. earlier o (earliest f ns)) (h n) ∙ ap (earlier (g n)) (same-noted f g h ns)

next-name : (names : List Name) (i : ℕ) (d : Name) → i < length names → drop i names ≡ get_or names i d ∷ drop (i + 1) names
next-name names i d lt = rw (add-one, drop-cons names i d lt) refl

pub earliest-goes_on : (noted : Name → Option ℕ) (names : List Name) (i : ℕ) (d : Name) (so_far new whole : Option ℕ) → i < length names → new ≡ earlier so_far (noted (get_or names i d)) →
    earlier so_far (earliest noted (drop i names)) ≡ whole → earlier new (earliest noted (drop (i + 1) names)) ≡ whole
earliest-goes_on noted names i d so_far new whole lt step before =
    ap (λ a. earlier a (earliest noted (drop (i + 1) names))) step
    ∙ earlier-grouped so_far (noted (get_or names i d)) (earliest noted (drop (i + 1) names))
    ∙ ap (λ ns. earlier so_far (earliest noted ns)) (sym (next-name names i d lt))
    ∙ before

pub earliest-ends : (noted : Name → Option ℕ) (names : List Name) (i : ℕ) (so_far whole : Option ℕ) → length names ≤ i → earlier so_far (earliest noted (drop i names)) ≡ whole → so_far ≡ whole
earliest-ends noted names i so_far whole le before = sym (earlier-none so_far) ∙ ap (λ ns. earlier so_far (earliest noted ns)) (sym (drop_of_length-le names le)) ∙ before

-- what is noted of a name behind some names
abbrev pub noted_of : List Name → ℕ → Option ℕ → Name → Option ℕ
noted_of names place old n = if is_among names n then Some place else old

pub noted-goes_on : (names : List Name) (i : ℕ) (d n : Name) (place : ℕ) (old new whole : Option ℕ) → i < length names → new ≡ cond (is_eq (name_cmp (get_or names i d) n)) (Some place) old →
    noted_of (drop i names) place old n ≡ whole → noted_of (drop (i + 1) names) place new n ≡ whole
noted-goes_on names i d n place old new whole lt step before = go (is_eq (name_cmp m n)) refl
  where
    m : Name
    m = get_or names i d

    rest : List Name
    rest = drop (i + 1) names

    here : noted_of (m ∷ rest) place old n ≡ whole
    here = ap (λ ns. noted_of ns place old n) (sym (next-name names i d lt)) ∙ before

    go : (t : Bool) → is_eq (name_cmp m n) ≡ t → noted_of rest place new n ≡ whole
    go true is =
        let found : is_eq (name_cmp n m) ≡ true = same-name n m ∙ is in
        let now : new ≡ Some place = step ∙ ap (λ t. cond t (Some place) old) is in
        let before : Some place ≡ whole = rw found at here in
        always (is_among rest n) new now ∙ before
      where
        always : (t : Bool) (new : Option ℕ) → new ≡ Some place → cond t (Some place) new ≡ Some place
        always true new h = refl
        always false new h = h
    go false is =
        let other : is_eq (name_cmp n m) ≡ false = same-name n m ∙ is in
        let now : new ≡ old = step ∙ ap (λ t. cond t (Some place) old) is in
        let before : noted_of rest place old n ≡ whole = rw other at here in
        ap (λ o. noted_of rest place o n) now ∙ before

-- what one list adds
module _ (lists : List (List Op)) (i : ℕ) (d : List Op) (within : i < length lists) where
  next-list : drop i lists ≡ get_or lists i d ∷ drop (i + 1) lists
  next-list = rw (add-one, drop-cons lists i d within) refl

  pub list-noted : (f : List Op → List Name) (names : List Name) (n : Name) (old new : Option ℕ) → names ≡ f (get_or lists i d) → new ≡ noted_of names i old n →
      old ≡ position_from (λ ops. is_among (f ops) n) (i + 1) (drop (i + 1) lists) → new ≡ position_from (λ ops. is_among (f ops) n) i (drop i lists)
  list-noted f names n old new is step before =
      step
      ∙ ap (λ ns. noted_of ns i old n) is
      ∙ ap (λ o. noted_of (f (get_or lists i d)) i o n) before
      ∙ sym (ap (position_from (λ ops. is_among (f ops) n) i) next-list)

  pub list-paired : (touched changed : Name → Option ℕ) (changes touches : List Name) (pair : Option (ℕ × ℕ)) → changes ≡ all_changes (get_or lists i d) → touches ≡ footprint (get_or lists i d) →
      ((n : Name) → touched n ≡ first_touching (i + 1) (drop (i + 1) lists) n) → ((n : Name) → changed n ≡ first_changing (i + 1) (drop (i + 1) lists) n) → pair ≡ first_pair (i + 1) (drop (i + 1) lists) →
      pair_or i (earlier (earliest touched changes) (earliest changed touches)) pair ≡ first_pair i (drop i lists)
  list-paired touched changed changes touches pair c t noted_touched noted_changed before =
      let rest : List (List Op) = drop (i + 1) lists in
      ap (λ ns. pair_or i (earlier (earliest touched ns) (earliest changed touches)) pair) c
      ∙ ap (λ ns. pair_or i (earlier (earliest touched (all_changes (get_or lists i d))) (earliest changed ns)) pair) t
      ∙ ap (λ o. pair_or i (earlier o (earliest changed (footprint (get_or lists i d)))) pair) (same-noted touched (first_touching (i + 1) rest) noted_touched (all_changes (get_or lists i d)))
      ∙ ap (λ o. pair_or i (earlier (earliest (first_touching (i + 1) rest) (all_changes (get_or lists i d))) o) pair) (same-noted changed (first_changing (i + 1) rest) noted_changed (footprint (get_or lists i d)))
      ∙ ap (λ o. pair_or i o pair) (partner (get_or lists i d) (i + 1) rest)
      ∙ ap (pair_or i (position_from (overlaps (get_or lists i d)) (i + 1) rest)) before
      ∙ sym (ap (first_pair i) next-list)

-- ---- the pair tells the refusal
pub record Found (place : ℕ) (lists : List (List Op)) (one other : ℕ) (d : List Op) : Type 0 where
  pub first : ℕ
  pub second : ℕ
  pub one_is : one ≡ place + first
  pub other_is : other ≡ place + second
  pub first_within : first < length lists
  pub second_within : second < length lists
  pub share_name : overlaps (get_or lists first d) (get_or lists second d) ≡ true
  pub refusal : first_overlap (place + 1) lists ≡ option_map (many.Overlap (one + 1) (other + 1)) (least_overlap (get_or lists first d) (get_or lists second d))

pub record FoundWith (ops : List Op) (index place : ℕ) (lists : List (List Op)) (other : ℕ) (d : List Op) : Type 0 where
  pub second : ℕ
  pub other_is : other ≡ place + second
  pub second_within : second < length lists
  pub share_name : overlaps ops (get_or lists second d) ≡ true
  pub refusal : overlap_with index ops (place + 1) lists ≡ option_map (many.Overlap index (other + 1)) (least_overlap ops (get_or lists second d))

-- a name that is there
some-or : {X Y : Type 0} (f : X → Y) (o : Option X) (rest : Option Y) → is_some o ≡ true → option_or (option_map f o) rest ≡ option_map f o
some-or f None rest h = absurd (cc)
some-or f (Some x) rest h = refl

none-or : {X Y : Type 0} (f : X → Y) (o : Option X) (rest : Option Y) → is_some o ≡ false → option_or (option_map f o) rest ≡ rest
none-or f None rest h = refl
none-or f (Some x) rest h = absurd (cc)

found-with : (ops : List Op) (index place : ℕ) (lists : List (List Op)) (other : ℕ) (d : List Op) → position_from (overlaps ops) place lists ≡ Some other → FoundWith ops index place lists other d
found-with ops index place [] other d h = absurd (cc)
found-with ops index place (l ∷ lists) other d h =
    elim (cases_Bool (overlaps ops l)) [
      | inl here ↦
          let first : Some place ≡ Some other = rw here at h in
          let is : place ≡ other = cc in
          record {
            second = 0;
            other_is = omega (arith, is);
            second_within = omega arith;
            share_name = here;
            refusal = some-or (many.Overlap index (place + 1)) (least_overlap ops l) (overlap_with index ops (place + 1 + 1) lists) here ∙ ap (λ n. option_map (many.Overlap index (n + 1)) (least_overlap ops l)) is;
          }
      | inr apart ↦
          let rest : position_from (overlaps ops) (place + 1) lists ≡ Some other = rw apart at h in
          let more = found-with ops index (place + 1) lists other d rest in
          record {
            second = suc more.second;
            other_is = let is = more.other_is in omega (arith, is);
            second_within = let lt = more.second_within in omega (arith, lt);
            share_name = more.share_name;
            refusal = none-or (many.Overlap index (place + 1)) (least_overlap ops l) (overlap_with index ops (place + 1 + 1) lists) apart ∙ more.refusal;
          }
    ]

pub none-with : (ops : List Op) (index place other : ℕ) (lists : List (List Op)) → position_from (overlaps ops) place lists ≡ None → overlap_with index ops other lists ≡ None
none-with ops index place other [] h = refl
none-with ops index place other (l ∷ lists) h =
    elim (cases_Bool (overlaps ops l)) [
      | inl here ↦ absurd (let bad : Some place ≡ None = rw here at h in cc)
      | inr apart ↦
          let rest : position_from (overlaps ops) (place + 1) lists ≡ None = rw apart at h in
          none-or (many.Overlap index other) (least_overlap ops l) (overlap_with index ops (other + 1) lists) apart ∙ none-with ops index (place + 1) (other + 1) lists rest
    ]

pub none-found : (place index : ℕ) (lists : List (List Op)) → first_pair place lists ≡ None → first_overlap index lists ≡ None
none-found place index [] h = refl
none-found place index (ops ∷ lists) h = go (position_from (overlaps ops) (place + 1) lists) refl h (none-found (place + 1) (index + 1) lists)
  where
    go : (o : Option ℕ) → position_from (overlaps ops) (place + 1) lists ≡ o → pair_or place o (first_pair (place + 1) lists) ≡ None → (first_pair (place + 1) lists ≡ None → first_overlap (index + 1) lists ≡ None) →
        first_overlap index (ops ∷ lists) ≡ None
    go (Some other) is h ih = absurd (cc)
    go None is h ih = rw (none-with ops index (place + 1) (index + 1) lists is) (ih h)

some-mapped : {X Y : Type 0} (f : X → Y) (o : Option X) (rest whole : Option Y) → is_some o ≡ true → whole ≡ option_map f o → option_or whole rest ≡ option_map f o
some-mapped f None rest whole h is = absurd (cc)
some-mapped f (Some x) rest whole h is = rw is refl

pub found : (place : ℕ) (lists : List (List Op)) (one other : ℕ) (d : List Op) → first_pair place lists ≡ Some (one, other) → Found place lists one other d
found place [] one other d h = absurd (cc)
found place (ops ∷ lists) one other d h = go (position_from (overlaps ops) (place + 1) lists) refl h (found (place + 1) lists one other d)
  where
    here : (b : ℕ) → position_from (overlaps ops) (place + 1) lists ≡ Some b → (place ≡ one) → (b ≡ other) → Found place (ops ∷ lists) one other d
    here b is first last =
        let more = found-with ops (place + 1) (place + 1) lists b d is in
        record {
          first = 0;
          second = suc more.second;
          one_is = omega (arith, first);
          other_is = let at = more.other_is in omega (arith, at, last);
          first_within = omega arith;
          second_within = let lt = more.second_within in omega (arith, lt);
          share_name = more.share_name;
          refusal =
              some-mapped (many.Overlap (place + 1) (b + 1)) (least_overlap ops (get_or lists more.second d)) (first_overlap (place + 1 + 1) lists) (overlap_with (place + 1) ops (place + 1 + 1) lists) more.share_name more.refusal
              ∙ ap (λ n. option_map (many.Overlap (n + 1) (b + 1)) (least_overlap ops (get_or lists more.second d))) first
              ∙ ap (λ n. option_map (many.Overlap (one + 1) (n + 1)) (least_overlap ops (get_or lists more.second d))) last;
        }

    go : (o : Option ℕ) → position_from (overlaps ops) (place + 1) lists ≡ o → pair_or place o (first_pair (place + 1) lists) ≡ Some (one, other) → (first_pair (place + 1) lists ≡ Some (one, other) → Found (place + 1) lists one other d)
        → Found place (ops ∷ lists) one other d
    go (Some b) is h ih =
        let same : (place, b) ≡ (one, other) = cc in
        here b is (ap (λ (p : ℕ × ℕ). p.0) same) (ap (λ (p : ℕ × ℕ). p.1) same)
    go None is h ih =
        let more = ih h in
        record {
          first = suc more.first;
          second = suc more.second;
          one_is = let at = more.one_is in omega (arith, at);
          other_is = let at = more.other_is in omega (arith, at);
          first_within = let lt = more.first_within in omega (arith, lt);
          second_within = let lt = more.second_within in omega (arith, lt);
          share_name = more.share_name;
          refusal = rw (none-with ops (place + 1) (place + 1) (place + 1 + 1) lists is) more.refusal;
        }

-- the same at the place from which lists are counted in the code
get-same : {X : Type 0} (xs : List X) (i : ℕ) (d e : X) → i < length xs → get_or xs i d ≡ get_or xs i e
get-same [] i d e lt = absurd (omega (arith, lt))
get-same (x ∷ xs) ℕ.zero d e lt = refl
get-same (x ∷ xs) (suc i) d e lt = get-same xs i d e (omega (arith, lt))

pub pair-within : (lists : List (List Op)) (one other : ℕ) → first_pair 0 lists ≡ Some (one, other) → (one < length lists) × (other < length lists)
pair-within lists one other h =
    let pair = found 0 lists one other [] h in
    let first = pair.one_is in
    let second = pair.other_is in
    let a = pair.first_within in
    let b = pair.second_within in
    (omega (arith, first, a), omega (arith, second, b))

pub record Named (lists : List (List Op)) (one other : ℕ) (x y : List Op) : Type 0 where
  pub share_name : is_some (least_overlap x y) ≡ true
  pub refusal : first_overlap 1 lists ≡ option_map (many.Overlap (one + 1) (other + 1)) (least_overlap x y)

pub pair-named : (lists : List (List Op)) (one other : ℕ) (x y : List Op) → x ≡ get_or lists one x → y ≡ get_or lists other y → first_pair 0 lists ≡ Some (one, other) → Named lists one other x y
pair-named lists one other x y at_one at_other h =
    let pair = found 0 lists one other [] h in
    let within = pair-within lists one other h in
    let first : pair.first ≡ one = let is = pair.one_is in omega (arith, is) in
    let second : pair.second ≡ other = let is = pair.other_is in omega (arith, is) in
    let left : get_or lists pair.first [] ≡ x = ap (λ n. get_or lists n []) first ∙ get-same lists one [] x within.0 ∙ sym at_one in
    let right : get_or lists pair.second [] ≡ y = ap (λ n. get_or lists n []) second ∙ get-same lists other [] y within.1 ∙ sym at_other in
    record {
      share_name = sym (ap (λ l. overlaps l (get_or lists pair.second [])) left ∙ ap (overlaps x) right) ∙ pair.share_name;
      refusal = pair.refusal ∙ ap (λ l. option_map (many.Overlap (one + 1) (other + 1)) (least_overlap l (get_or lists pair.second []))) left ∙ ap (λ l. option_map (many.Overlap (one + 1) (other + 1)) (least_overlap x l)) right;
    }
