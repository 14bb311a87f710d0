-- From pairs of operations to pairs of lists, and from these to many lists in any order.
use Rattle.wsm_commute.proofs.Common.{[], ℕ, ◌+◌, ◌∙◌, ◌∷◌, ◌≡◌, AllRows, ap, applied, applied_from, effect, in_order, IsOrdered, List, None, Ok, Op, Option, refl, refusal, SchemaModel, Some, subst, sym, unless_fault, unless_refused}
use Rattle.wsm_commute.proofs.{Footprints.{Apart, flip, ApartFrom, AllApart}, Pairs.{effect-ordered, effects-commute, refusal-stays}, Reorders.{Reorder, same, under, exchange, joined}}
use Rattle.wsm_ops.specs.declared.faults.OpWhy.{OpWhy}

-- ---- the first operation of a list that applies
pub record Steps (i : ℕ) (s : SchemaModel) (o : Op) (os : List Op) (t : SchemaModel) : Type 0 where
  pub applies : refusal s o ≡ None
  pub rest : applied_from (i + 1) (effect s o) os ≡ Ok t

steps : (i : ℕ) (s : SchemaModel) (o : Op) (os : List Op) (t : SchemaModel) → applied_from i s (o ∷ os) ≡ Ok t → Steps i s o os t
steps i s o os t h = go (refusal s o) refl h
  where
    go : (why : Option OpWhy) → refusal s o ≡ why → unless_refused why i (applied_from (i + 1) (effect s o) os) ≡ Ok t → Steps i s o os t
    go (Some why) is h = absurd (cc)
    go None is h = record { applies = is; rest = h }

step : (i : ℕ) (s : SchemaModel) (o : Op) (os : List Op) (t : SchemaModel) → refusal s o ≡ None → applied_from (i + 1) (effect s o) os ≡ Ok t → applied_from i s (o ∷ os) ≡ Ok t
step i s o os t none rest = rw none rest

-- ---- an operation and a list
pub record Behind (i : ℕ) (s : SchemaModel) (o : Op) (os : List Op) (t : SchemaModel) : Type 0 where
  pub applies : refusal t o ≡ None
  pub same_list : applied_from i (effect s o) os ≡ Ok (effect t o)

one-list : (i : ℕ) (s t : SchemaModel) (a : Op) (os : List Op) → ApartFrom a os → IsOrdered s → refusal s a ≡ None → applied_from i s os ≡ Ok t → Behind i s a os t
one-list i s t a [] apart ordered none h = let is : s ≡ t = cc in record { applies = subst (λ x. refusal x a ≡ None) is none; same_list = ap (λ x. Ok (effect x a)) is }
one-list i s t a (b ∷ os) apart ordered none h =
    let first = steps i s b os t h in
    let still : refusal (effect s b) a ≡ None = refusal-stays s a b apart.0 ordered ∙ none in
    let later = one-list (i + 1) (effect s b) t a os apart.1 (effect-ordered s b ordered) still first.rest in
    let also : refusal (effect s a) b ≡ None = refusal-stays s b a (flip a b apart.0) ordered ∙ first.applies in
    record {
      applies = later.applies;
      same_list = step i (effect s a) b os (effect t a) also (ap (λ x. applied_from (i + 1) x os) (effects-commute s a b apart.0 ordered) ∙ later.same_list);
    }

-- ---- two lists
pub record Meet (i j : ℕ) (t u : SchemaModel) (left right : List Op) : Type 0 where
  pub schema : SchemaModel
  pub left_last : applied_from i u left ≡ Ok schema
  pub right_last : applied_from j t right ≡ Ok schema

pub two-lists : (i j : ℕ) (s t u : SchemaModel) (left right : List Op) → AllApart left right → IsOrdered s → applied_from i s left ≡ Ok t → applied_from j s right ≡ Ok u → Meet i j t u left right
two-lists i j s t u [] right apart ordered one two = let is : s ≡ t = cc in record { schema = u; left_last = refl; right_last = subst (λ x. applied_from j x right ≡ Ok u) is two }
two-lists i j s t u (a ∷ left) right apart ordered one two =
    let first = steps i s a left t one in
    let behind = one-list j s u a right apart.0 ordered first.applies two in
    let later = two-lists (i + 1) j (effect s a) t (effect u a) left right apart.1 (effect-ordered s a ordered) first.rest behind.same_list in
    record { schema = later.schema; left_last = step i u a left later.schema behind.applies later.left_last; right_last = later.right_last }

pub list-ordered : (i : ℕ) (s t : SchemaModel) (os : List Op) → IsOrdered s → applied_from i s os ≡ Ok t → IsOrdered t
list-ordered i s t [] ordered h = let is : s ≡ t = cc in subst IsOrdered is ordered
list-ordered i s t (o ∷ os) ordered h = list-ordered (i + 1) (effect s o) t os (effect-ordered s o ordered) (steps i s o os t h).rest

-- ---- many lists: each applies to one schema, and no two overlap
pub record Applies (s : SchemaModel) (ops : List Op) : Type 0 where
  pub schema : SchemaModel
  pub makes : applied s ops ≡ Ok schema

abbrev pub PairsApart : List (List Op) → Type 0
PairsApart [] = Unit {0}
PairsApart (ops ∷ lists) = AllRows (AllApart ops) lists × PairsApart lists

pub record Fits (s : SchemaModel) (lists : List (List Op)) : Type 0 where
  pub ordered : IsOrdered s
  pub each : AllRows (Applies s) lists
  pub apart : PairsApart lists

-- the others still fit behind the first
others : (s t : SchemaModel) (ops : List Op) (lists : List (List Op)) → IsOrdered s → applied s ops ≡ Ok t → AllRows (AllApart ops) lists → AllRows (Applies s) lists → AllRows (Applies t) lists
others s t ops [] ordered makes apart each = tt
others s t ops (l ∷ lists) ordered makes apart each =
    let meet = two-lists 1 1 s t each.0.schema ops l apart.0 ordered makes each.0.makes in
    (record { schema = meet.schema; makes = meet.right_last }, others s t ops lists ordered makes apart.1 each.1)

pub fits-behind : (s t : SchemaModel) (ops : List Op) (lists : List (List Op)) → Fits s (ops ∷ lists) → applied s ops ≡ Ok t → Fits t lists
fits-behind s t ops lists fits makes = record {
  ordered = list-ordered 1 s t ops fits.ordered makes;
  each = others s t ops lists fits.ordered makes fits.apart.0 fits.each.1;
  apart = fits.apart.1;
}

-- all lists, in the order in which they stand
pub record Made (s : SchemaModel) (lists : List (List Op)) : Type 0 where
  pub schema : SchemaModel
  pub makes : in_order s lists ≡ Ok schema

pub all-made : (s : SchemaModel) (lists : List (List Op)) → Fits s lists → Made s lists
all-made s [] fits = record { schema = s; makes = refl }
all-made s (ops ∷ lists) fits =
    let here = fits.each.0 in
    let rest = all-made here.schema lists (fits-behind s here.schema ops lists fits here.makes) in
    record { schema = rest.schema; makes = ap (λ r. unless_fault r (λ t. in_order t lists)) here.makes ∙ rest.makes }

-- ---- any order
one-turned : (b : Op) (left : List Op) → AllRows (λ a. Apart a b) left → ApartFrom b left
one-turned b [] h = tt
one-turned b (a ∷ left) h = (flip a b h.0, one-turned b left h.1)

heads : (b : Op) (right left : List Op) → AllApart left (b ∷ right) → AllRows (λ a. Apart a b) left
heads b right [] h = tt
heads b right (a ∷ left) h = (h.0.0, heads b right left h.1)

tails : (b : Op) (right left : List Op) → AllApart left (b ∷ right) → AllApart left right
tails b right [] h = tt
tails b right (a ∷ left) h = (h.0.1, tails b right left h.1)

pub turned : (left right : List Op) → AllApart left right → AllApart right left
turned left [] h = tt
turned left (b ∷ right) h = (one-turned b left (heads b right left h), turned left right (tails b right left h))

pub rows-reordered : {X : Type 0} (P : X → Type 0) {xs ys : List X} → Reorder xs ys → AllRows P xs → AllRows P ys
rows-reordered P (same xs) h = h
rows-reordered P (under x r) h = (h.0, rows-reordered P r h.1)
rows-reordered P (exchange x y xs) h = (h.1.0, (h.0, h.1.1))
rows-reordered P (joined r q) h = rows-reordered P q (rows-reordered P r h)

pairs-reordered : {xs ys : List (List Op)} → Reorder xs ys → PairsApart xs → PairsApart ys
pairs-reordered (same xs) h = h
pairs-reordered (under x r) h = (rows-reordered (AllApart x) r h.0, pairs-reordered r h.1)
pairs-reordered (exchange x y xs) h = ((turned x y h.0.0, h.1.0), (h.0.1, h.1.1))
pairs-reordered (joined r q) h = pairs-reordered q (pairs-reordered r h)

fits-reordered : (s : SchemaModel) {xs ys : List (List Op)} → Reorder xs ys → Fits s xs → Fits s ys
fits-reordered s r fits = record { ordered = fits.ordered; each = rows-reordered (Applies s) r fits.each; apart = pairs-reordered r fits.apart }

exchanged : (s : SchemaModel) (l m : List Op) (lists : List (List Op)) → Fits s (l ∷ m ∷ lists) → in_order s (l ∷ m ∷ lists) ≡ in_order s (m ∷ l ∷ lists)
exchanged s l m lists fits =
    let one = fits.each.0 in
    let two = fits.each.1.0 in
    let meet = two-lists 1 1 s one.schema two.schema l m fits.apart.0.0 fits.ordered one.makes two.makes in
    rw (one.makes, two.makes, meet.left_last, meet.right_last) refl

pub any-order : (s : SchemaModel) {xs ys : List (List Op)} → Reorder xs ys → Fits s xs → in_order s xs ≡ in_order s ys
any-order s (same xs) fits = refl
any-order s (under x {xs = xs} {ys = ys} r) fits =
    let here = fits.each.0 in
    ap (λ o. unless_fault o (λ t. in_order t xs)) here.makes
    ∙ any-order here.schema r (fits-behind s here.schema x xs fits here.makes)
    ∙ sym (ap (λ o. unless_fault o (λ t. in_order t ys)) here.makes)
any-order s (exchange x y xs) fits = exchanged s x y xs fits
any-order s (joined r q) fits = any-order s r fits ∙ any-order s q (fits-reordered s r fits)
