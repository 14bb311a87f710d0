-- Facts about tests, about rows of lists, and about those that pass a test.
use Rattle.std.proofs.{lemmas.List.take-append-drop, Common.{◌≡◌, ℕ, ◌==◌, drop, eq-eqb, Bool, true, false, List, [], ◌∷◌, filter, map, take, refl, sym, ap, subst, ◌∙◌, if◌then◌else◌}}
use Rattle.line_readers.specs.Owed.{all_owed, lines_by}
use Rattle.wsm_lists.proofs.Lists.{all-rows-map, both_rows, rows-append, rows-map, rows-parts}
use Rattle.wsm_lists.specs.Rows.{AllRows}

-- by what a test says
pub by-test : (P : Bool → Type 0) (test : Bool) → (test ≡ true → P true) → (test ≡ false → P false) → P test
by-test P true one two = one refl
by-test P false one two = two refl

pub if-either : {X : Type 0} (P : X → Type 0) (test : Bool) (a b : X) → (test ≡ true → P a) → (test ≡ false → P b) → P (if test then a else b)
if-either P test a b one two = by-test (λ t. P (if t then a else b)) test one two

-- ---- filters in either order
pub keeps : {X : Type 0} (p : X → Bool) (x : X) (xs : List X) → p x ≡ true → filter p (x ∷ xs) ≡ x ∷ filter p xs
keeps p x xs is = ap (λ test. if test then x ∷ filter p xs else filter p xs) is

pub drops : {X : Type 0} (p : X → Bool) (x : X) (xs : List X) → p x ≡ false → filter p (x ∷ xs) ≡ filter p xs
drops p x xs is = ap (λ test. if test then x ∷ filter p xs else filter p xs) is

pub filter-swap : {X : Type 0} (p q : X → Bool) (xs : List X) → filter p (filter q xs) ≡ filter q (filter p xs)
filter-swap p q [] = refl
filter-swap {X} p q (x ∷ xs) =
    let more = filter-swap p q xs in
    by-test (λ b. filter p (filter q (x ∷ xs)) ≡ filter q (if b then x ∷ filter p xs else filter p xs)) (p x)
    (λ is. by-test (λ c. filter p (if c then x ∷ filter q xs else filter q xs) ≡ (if c then x ∷ filter q (filter p xs) else filter q (filter p xs))) (q x)
    (λ own. keeps p x (filter q xs) is ∙ ap (λ (ys : List X). x ∷ ys) more) (λ other. more))
    (λ is. by-test (λ c. filter p (if c then x ∷ filter q xs else filter q xs) ≡ filter q (filter p xs)) (q x) (λ own. drops p x (filter q xs) is ∙ more) (λ other. more))

-- what holds of those that pass a test
pub filter-rows : {X : Type 0} (P Q : X → Type 0) (p : X → Bool) → ((x : X) → P x → p x ≡ true → Q x) → (xs : List X) → AllRows P xs → AllRows Q (filter p xs)
filter-rows P Q p h [] all = tt
filter-rows P Q p h (x ∷ xs) (one, all) = if-either (AllRows Q) (p x) (x ∷ filter p xs) (filter p xs) (λ is. (h x one is, filter-rows P Q p h xs all)) (λ not. filter-rows P Q p h xs all)

pub filter-phases : {X : Type 0} (P Q : X → Type 0) (p : X → Bool) → ((x : X) → P x → p x ≡ true → Q x) → (xss : List (List X)) → AllRows (AllRows P) xss → AllRows (AllRows Q) (map (λ xs. filter p xs) xss)
filter-phases P Q p h xss all = rows-map (AllRows Q) (λ xs. filter p xs) xss (all-rows-map (AllRows P) (λ xs. AllRows Q (filter p xs)) (λ xs some. filter-rows P Q p h xs some) xss all)

pub rows-filter : {X : Type 0} (P : X → Type 0) (p : X → Bool) (xs : List X) → AllRows P xs → AllRows P (filter p xs)
rows-filter P p xs all = filter-rows P P p (λ x one is. one) xs all

-- two facts about each row, in lists of lists
pub both-phases : {X : Type 0} (P Q R : X → Type 0) → ((x : X) → P x → Q x → R x) → (xss : List (List X)) → AllRows (AllRows P) xss → AllRows (AllRows Q) xss → AllRows (AllRows R) xss
both-phases P Q R h xss p q = both_rows (AllRows P) (AllRows Q) (AllRows R) (λ xs one two. both_rows P Q R h xs one two) xss p q

pub take-known : {X : Type 0} (P : X → Type 0) (n : ℕ) (xs : List X) → AllRows P xs → AllRows P (take n xs)
take-known P n xs all = (rows-parts P (take n xs) (drop n xs) (subst (AllRows P) (sym (take-append-drop n xs)) all)).0

-- what holds of each actor's lines holds of all
pub all-by : {L : Type 0} (by : L → ℕ) (IsActor : ℕ → Type 0) (P : L → Type 0) (ls : List L) → AllRows (λ l. IsActor (by l)) ls → ((a : ℕ) → IsActor a → AllRows P (lines_by by a ls)) → AllRows P ls
all-by by IsActor P [] actors each = tt
all-by by IsActor P (l ∷ ls) (actor, actors) each = (
  (subst (AllRows P) (keeps (λ x. by x == by l) l ls (eq-eqb (by l) (by l) refl)) (each (by l) actor)).0,
  all-by by IsActor P ls actors
      (λ a is. by-test (λ b. AllRows P (if b then l ∷ lines_by by a ls else lines_by by a ls) → AllRows P (lines_by by a ls)) (by l == a) (λ own all. all.1) (λ other all. all) (each a is)),
)

-- rows of rows as one
pub rows-owed : {X : Type 0} (P : X → Type 0) (xss : List (List X)) → AllRows (AllRows P) xss → AllRows P (all_owed xss)
rows-owed P [] all = tt
rows-owed P (xs ∷ xss) (one, all) = rows-append P xs (all_owed xss) one (rows-owed P xss all)

pub owed-rows : {X : Type 0} (P : X → Type 0) (xss : List (List X)) → AllRows P (all_owed xss) → AllRows (AllRows P) xss
owed-rows P [] all = tt
owed-rows P (xs ∷ xss) all = let (one, more) = rows-parts P xs (all_owed xss) all in (one, owed-rows P xss more)
