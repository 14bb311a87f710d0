-- The work items of a case are those of the nodes that have one.
use Rattle.case_core.proofs.Common.{[], ℕ, ◌++◌, ◌||◌, ◌∙◌, ◌∷◌, ◌≡◌, all-rows-map, AllRows, ap, Ascends, ascends_put, Bool, by_node, Card, card_at, cards_of, cases_Bool, eqb, eqb-true, false, first, flat_map, fold, if◌then◌else◌, inl, inr}
use Rattle.case_core.proofs.Common.{IsSpotOf, item_at, item_of, items-same, items_at, items_of, Kept, key_lt, List, list_any, LiveModel, marking-rows, marking_of, None, Option, or_parts, put_row, refl, shown_after, shown_spots, Some, Spot}
use Rattle.case_core.proofs.{Common.{spot, spot_in, Spots, subst, sym, true, worked_on}, Marked.{shown-spot, spot-missing, table}}
use Rattle.wsm_schema.specs.declared.states.State.TheVariants.{NotActivated}

-- ---- what a function gives at the numbers of rows that ascend
abbrev full : {A : Type 0} → ℕ → List A → List (ℕ × List A)
full n [] = []
full n (x ∷ xs) = (n, x ∷ xs) ∷ []

abbrev some_list : {A : Type 0} → List A → Option (List A)
some_list [] = None
some_list (x ∷ xs) = Some (x ∷ xs)

module _ {X A : Type 0} (key : X → ℕ) (f : ℕ → List A) where
  abbrev given : List X → List (ℕ × List A)
  given xs = flat_map (λ x. full (key x) (f (key x))) xs

  abbrev has : ℕ → List X → Bool
  has n xs = list_any (λ x. eqb (key x) n) xs

  -- what stands at a number
  never : (b : Bool) (o : Option (List A)) → o ≡ None → (if b then o else None) ≡ None
  never true o h = h
  never false o h = refl

  item-full : (k n : ℕ) (o : List A) → f k ≡ o → (b : Bool) (rest : List (ℕ × List A)) → item_at n rest ≡ (if b then some_list (f n) else None) →
      item_at n (full k o ++ rest) ≡ (if eqb k n || b then some_list (f n) else None)
  item-full k n [] is b rest h =
      elim (cases_Bool (eqb k n)) [
        | inr other ↦ rw other h
        | inl same ↦
            let none : some_list (f n) ≡ None = ap some_list (ap f (sym (eqb-true k n same)) ∙ is) in
            rw same (h ∙ never b (some_list (f n)) none ∙ sym none)
      ]
  item-full k n (x ∷ xs) is b rest h =
      elim (cases_Bool (eqb k n)) [
        | inl same ↦ rw same (ap some_list (sym is ∙ ap f (eqb-true k n same)))
        | inr other ↦ rw other h
      ]

  item-given : (n : ℕ) (xs : List X) → item_at n (given xs) ≡ (if has n xs then some_list (f n) else None)
  item-given n [] = refl
  item-given n (x ∷ xs) = item-full (key x) n (f (key x)) refl (has n xs) (given xs) (item-given n xs)

  above-full : (k m : ℕ) (o : List A) → key_lt (k, 0) (m, 0) ≡ true → (rest : List (ℕ × List A)) → AllRows (λ y. key_lt (k, 0) (first y) ≡ true) rest → AllRows (λ y. key_lt (k, 0) (first y) ≡ true) (full m o ++ rest)
  above-full k m [] lt rest h = h
  above-full k m (x ∷ xs) lt rest h = (lt, h)

  above-given : (k : ℕ) (xs : List X) → AllRows (λ x. key_lt (k, 0) (key x, 0) ≡ true) xs → AllRows (λ y. key_lt (k, 0) (first y) ≡ true) (given xs)
  above-given k [] h = tt
  above-given k (x ∷ xs) h = above-full k (key x) (f (key x)) h.0 (given xs) (above-given k xs h.1)

  ascends-full : (k : ℕ) (o : List A) (rest : List (ℕ × List A)) → AllRows (λ y. key_lt (k, 0) (first y) ≡ true) rest → Ascends first rest → Ascends first (full k o ++ rest)
  ascends-full k [] rest above h = h
  ascends-full k (x ∷ xs) rest above h = (above, h)

  ascends-given : (xs : List X) → Ascends (λ x. (key x, 0)) xs → Ascends first (given xs)
  ascends-given [] h = tt
  ascends-given (x ∷ xs) h = ascends-full (key x) (f (key x)) (given xs) (above-given (key x) xs h.0) (ascends-given xs h.1)

  flat-full : (k : ℕ) (o : List A) (rest : List (ℕ × List A)) → flat_map (λ r. r.1) (full k o ++ rest) ≡ o ++ flat_map (λ r. r.1) rest
  flat-full k [] rest = refl
  flat-full k (x ∷ xs) rest = refl

  flat-given : (xs : List X) → flat_map (λ r. r.1) (given xs) ≡ flat_map (λ x. f (key x)) xs
  flat-given [] = refl
  flat-given (x ∷ xs) = flat-full (key x) (f (key x)) (given xs) ∙ ap (λ l. f (key x) ++ l) (flat-given xs)

  -- where it gives nothing at other numbers, the rows tell all of it
  whole-given : (n : ℕ) (xs : List X) → (has n xs ≡ false → f n ≡ []) → item_at n (given xs) ≡ some_list (f n)
  whole-given n xs none =
      item-given n xs
      ∙ elim (cases_Bool (has n xs)) [ inl it ↦ rw it refl | inr other ↦ rw other (sym (ap some_list (none other))) ]

-- so two lists of rows that ascend give the same where both have all numbers at which there is something
pub same-given : {X Y A : Type 0} (key : X → ℕ) (key' : Y → ℕ) (f : ℕ → List A) (xs : List X) (ys : List Y) → Ascends (λ x. (key x, 0)) xs → Ascends (λ y. (key' y, 0)) ys →
    ((n : ℕ) → list_any (λ x. eqb (key x) n) xs ≡ false → f n ≡ []) → ((n : ℕ) → list_any (λ y. eqb (key' y) n) ys ≡ false → f n ≡ []) → flat_map (λ x. f (key x)) xs ≡ flat_map (λ y. f (key' y)) ys
same-given key key' f xs ys ascends ascends' none none' =
    sym (flat-given key f xs)
    ∙ ap (flat_map (λ r. r.1)) (items-same (given key f xs) (given key' f ys) (ascends-given key f xs ascends) (ascends-given key' f ys ascends') (λ n. whole-given key f n xs (none n) ∙ sym (whole-given key' f n ys (none' n))))
    ∙ flat-given key' f ys

-- ---- rows that ascend
ascends-marked : (t : Spots) (cs : List Card) (m : Spots) → Ascends by_node m → Ascends by_node (fold (λ m c. put_row by_node (spot_in c.node t) m) m cs)
ascends-marked t [] m h = h
ascends-marked t (c ∷ cs) m h = ascends-marked t cs (put_row by_node (spot_in c.node t) m) (ascends_put by_node (spot_in c.node t) m h)

pub none-any : {X : Type 0} (test : X → Bool) (xs : List X) → list_any test xs ≡ false → AllRows (λ x. test x ≡ false) xs
none-any test [] h = tt
none-any test (x ∷ xs) h = let p = or_parts (test x) (list_any test xs) h in (p.0, none-any test xs p.1)

pub no-item : {A : Type 0} (n : ℕ) (rows : List (ℕ × A)) → AllRows (λ r. eqb r.0 n ≡ false) rows → item_at n rows ≡ None
no-item n [] h = refl
no-item n (r ∷ rs) h = rw h.0 (no-item n rs h.1)

pub flat_map-rows : {X A : Type 0} (f g : X → List A) (xs : List X) → AllRows (λ x. f x ≡ g x) xs → flat_map f xs ≡ flat_map g xs
flat_map-rows f g [] h = refl
flat_map-rows f g (x ∷ xs) h = ap (λ l. l ++ flat_map f xs) h.0 ∙ ap (λ l. g x ++ l) (flat_map-rows f g xs h.1)

idle-item : (l : LiveModel) (n : ℕ) (s : Spot) (o : Option Card) → s ≡ spot n NotActivated None → item_of l s o ≡ []
idle-item l n s None is = refl
idle-item l n s (Some c) is = rw is (elim (cases_Bool (worked_on c.kind)) [ inl works ↦ rw works refl | inr silent ↦ rw silent refl ])

module _ (l : LiveModel) (kept : Kept l) where
  abbrev cards : List Card
  cards = cards_of l.schema

  abbrev t : Spots
  t = (table l kept).0

  shown-is : shown_spots l ≡ marking_of cards t
  shown-is = ap (shown_after cards) (table l kept).1

  shown-ascend : Ascends by_node (shown_spots l)
  shown-ascend = subst (Ascends by_node) (sym shown-is) (ascends-marked t cards [] tt)

  own-item : (s : Spot) → IsSpotOf t s → item_of l s (card_at s.node cards) ≡ items_at l s.node
  own-item s own = go (card_at s.node cards) refl
    where
      go : (o : Option Card) → card_at s.node cards ≡ o → item_of l s o ≡ item_of l (spot_in s.node (shown_spots l)) o
      go None at = refl
      go (Some c) at = ap (λ x. item_of l x (Some c)) (own ∙ sym (shown-spot l kept s.node c at))

  not-shown : (n : ℕ) → list_any (λ (s : Spot). eqb s.node n) (shown_spots l) ≡ false → items_at l n ≡ []
  not-shown n none = idle-item l n _ (card_at n cards) (spot-missing n (shown_spots l) (none-any (λ (s : Spot). eqb s.node n) (shown_spots l) none))

  -- the work items are those that rows give which have all nodes with an item
  pub items-kept : {A : Type 0} (rows : List (ℕ × A)) → Ascends first rows → ((n : ℕ) → list_any (λ (r : ℕ × A). eqb r.0 n) rows ≡ false → items_at l n ≡ []) → items_of l ≡ flat_map (λ (r : ℕ × A). items_at l r.0) rows
  items-kept {A} rows up none =
      flat_map-rows (λ (s : Spot). item_of l s (card_at s.node cards)) (λ (s : Spot). items_at l s.node) (shown_spots l)
      (subst (AllRows (λ (s : Spot). item_of l s (card_at s.node cards) ≡ items_at l s.node)) (sym shown-is) (all-rows-map (IsSpotOf t) (λ (s : Spot). item_of l s (card_at s.node cards) ≡ items_at l s.node) own-item (marking_of cards t) (marking-rows cards t)))
      ∙ same-given (λ (s : Spot). s.node) (λ (r : ℕ × A). r.0) (items_at l) (shown_spots l) rows shown-ascend up not-shown none
