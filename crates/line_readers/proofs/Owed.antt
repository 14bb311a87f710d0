-- What is owed, as each actor sees it.
use Rattle.line_readers.proofs.Common.{[], ℕ, ◌++◌, ◌==◌, ◌∙◌, ◌∷◌, ◌≡◌, ◌≢◌, AllRows, ap, arith, Bool, due, eqb-true, false, first_by, how_many, if◌then◌else◌, length, lines_by, List, ne_eqb, None, Option, refl, same_Some, Some, subst}
use Rattle.line_readers.proofs.Common.{suc, sym, true, with_others}
use Rattle.std.proofs.lemmas.List.Elements.{filter-append}

module _ {L : Type 0} where
  pub due-many : (owed : List (List L)) → how_many (due owed) ≡ how_many owed
  due-many [] = refl
  due-many ([] ∷ phases) = let more = due-many phases in omega (arith, more)
  due-many ((l ∷ ls) ∷ phases) = refl

  -- what holds of all that is owed holds of what is due
  pub due-hold : (P : L → Type 0) (owed : List (List L)) → AllRows (AllRows P) owed → AllRows (AllRows P) (due owed)
  due-hold P [] all = tt
  due-hold P ([] ∷ phases) (none, all) = due-hold P phases all
  due-hold P ((l ∷ ls) ∷ phases) all = all

  -- nothing is due, or a line is
  pub data Due (owed : List (List L)) : Type 0 where
    nothing : due owed ≡ [] → Due owed
    some : (l : L) (ls : List L) (later : List (List L)) → due owed ≡ (l ∷ ls) ∷ later → Due owed

  pub is-due : (owed : List (List L)) → Due owed
  is-due [] = nothing refl
  is-due ([] ∷ phases) = by (is-due phases)
    where
      by : Due phases → Due ([] ∷ phases)
      by (nothing none) = nothing none
      by (some l ls later is) = some l ls later is
  is-due ((l ∷ ls) ∷ phases) = some l ls phases refl

module _ {L : Type 0} (actor_of : L → ℕ) where
  pub by-append : (a : ℕ) (xs ys : List L) → lines_by actor_of a (xs ++ ys) ≡ lines_by actor_of a xs ++ lines_by actor_of a ys
  by-append a xs ys = filter-append (λ l. actor_of l == a) xs ys

  -- a line in front, where it is an actor's and where it is another's
  pub own-first : (a : ℕ) (l : L) (ls : List L) → (actor_of l == a) ≡ true → lines_by actor_of a (l ∷ ls) ≡ l ∷ lines_by actor_of a ls
  own-first a l ls own = ap (λ test. if test then l ∷ lines_by actor_of a ls else lines_by actor_of a ls) own

  pub other-first : (a : ℕ) (l : L) (ls : List L) → (actor_of l == a) ≡ false → lines_by actor_of a (l ∷ ls) ≡ lines_by actor_of a ls
  other-first a l ls other = ap (λ test. if test then l ∷ lines_by actor_of a ls else lines_by actor_of a ls) other

  -- the first line of an actor is taken out, and those of others stay
  pub record IsFirst (a : ℕ) (phase : List L) (l : L) (others : List L) : Type 0 where
    pub own : actor_of l ≡ a
    pub first : lines_by actor_of a phase ≡ l ∷ lines_by actor_of a others
    pub stay : (b : ℕ) → b ≢ a → lines_by actor_of b others ≡ lines_by actor_of b phase
    pub fewer : length phase ≡ suc (length others)

  same_if : (b : ℕ) (x : L) (xs ys : List L) → lines_by actor_of b xs ≡ lines_by actor_of b ys → lines_by actor_of b (x ∷ xs) ≡ lines_by actor_of b (x ∷ ys)
  same_if b x xs ys same = ap (λ zs. if actor_of x == b then x ∷ zs else zs) same

  first-with : (a : ℕ) (x : L) (xs : List L) (l : L) (others : List L) → (actor_of x == a) ≡ false → IsFirst a xs l others → IsFirst a (x ∷ xs) l (x ∷ others)
  first-with a x xs l others not h = record {
    own = h.own;
    first = other-first a x xs not ∙ (h.first ∙ ap (λ zs. l ∷ zs) (sym (other-first a x others not)));
    stay = λ b other. same_if b x others xs (h.stay b other);
    fewer = ap suc h.fewer;
  }

  first-at : (a : ℕ) (x : L) (xs : List L) → (actor_of x == a) ≡ true → IsFirst a (x ∷ xs) x xs
  first-at a x xs own = record {
    own = eqb-true (actor_of x) a own;
    first = own-first a x xs own;
    stay = λ b other. sym (other-first b x xs (ne_eqb (actor_of x) b (λ is. other (sym is ∙ eqb-true (actor_of x) a own))));
    fewer = refl;
  }

  pub first-is : (a : ℕ) (phase : List L) (l : L) (others : List L) → first_by actor_of a phase ≡ Some (l, others) → IsFirst a phase l others
  first-is a [] l others is = absurd (cc (is))
  first-is a (x ∷ xs) l others is = by (actor_of x == a) refl (first_by actor_of a xs) (λ k rest same. first-is a xs k rest same) is
    where
      by : (test : Bool) → (actor_of x == a) ≡ test → (o : Option (L × List L)) → ((k : L) (rest : List L) → o ≡ Some (k, rest) → IsFirst a xs k rest) → (if test then Some (x, xs) else with_others actor_of x o) ≡ Some (l, others) → IsFirst a (x ∷ xs) l others
      by true own o more is =
          let pair = same_Some (x, xs) (l, others) is in
          let same_l : x ≡ l = ap (λ q. q.0) pair in
          let same_others : xs ≡ others = ap (λ q. q.1) pair in
          subst (λ k. IsFirst a (x ∷ xs) k others) same_l (subst (IsFirst a (x ∷ xs) x) same_others (first-at a x xs own))
      by false other None more is = absurd (cc (is))
      by false other (Some p) more is =
          let pair = same_Some (p.0, x ∷ p.1) (l, others) is in
          let same_l : p.0 ≡ l = ap (λ q. q.0) pair in
          let same_others : x ∷ p.1 ≡ others = ap (λ q. q.1) pair in
          subst (λ k. IsFirst a (x ∷ xs) k others) same_l (subst (IsFirst a (x ∷ xs) p.0) same_others (first-with a x xs p.0 p.1 other (more p.0 p.1 refl)))

  -- an actor with a line has a first one
  pub some-first : (a : ℕ) (phase : List L) (l : L) (ls : List L) → lines_by actor_of a phase ≡ l ∷ ls → (others : List L) × (first_by actor_of a phase ≡ Some (l, others))
  some-first a [] l ls is = absurd (cc (is))
  some-first a (x ∷ xs) l ls is = by (actor_of x == a) (λ more. some-first a xs l ls more) is
    where
      by : (test : Bool) → (lines_by actor_of a xs ≡ l ∷ ls → (others : List L) × (first_by actor_of a xs ≡ Some (l, others))) → (if test then x ∷ lines_by actor_of a xs else lines_by actor_of a xs) ≡ l ∷ ls
          → (others : List L) × ((if test then Some (x, xs) else with_others actor_of x (first_by actor_of a xs)) ≡ Some (l, others))
      by true more is = let same : x ≡ l = cc (is) in (xs, ap (λ k. Some (k, xs)) same)
      by false more is = let (others, first) = more is in (x ∷ others, ap (with_others actor_of x) first)

  -- what holds of all lines holds of the others
  pub others-hold : (P : L → Type 0) (a : ℕ) (phase : List L) (l : L) (others : List L) → first_by actor_of a phase ≡ Some (l, others) → AllRows P phase → AllRows P others
  others-hold P a [] l others is all = absurd (cc (is))
  others-hold P a (x ∷ xs) l others is (one, all) = by (actor_of x == a) (first_by actor_of a xs) (λ k rest same. others-hold P a xs k rest same all) is
    where
      by : (test : Bool) (o : Option (L × List L)) → ((k : L) (rest : List L) → o ≡ Some (k, rest) → AllRows P rest) → (if test then Some (x, xs) else with_others actor_of x o) ≡ Some (l, others) → AllRows P others
      by true o more same = subst (AllRows P) (ap (λ q. q.1) (same_Some (x, xs) (l, others) same)) all
      by false None more same = absurd (cc (same))
      by false (Some p) more same = subst (AllRows P) (ap (λ q. q.1) (same_Some (p.0, x ∷ p.1) (l, others) same)) (one, more p.0 p.1 refl)

  -- nor is the first line another than one of the phase
  pub first-holds : (P : L → Type 0) (a : ℕ) (phase : List L) (l : L) (others : List L) → first_by actor_of a phase ≡ Some (l, others) → AllRows P phase → P l
  first-holds P a [] l others is all = absurd (cc (is))
  first-holds P a (x ∷ xs) l others is (one, all) = by (actor_of x == a) (first_by actor_of a xs) (λ k rest same. first-holds P a xs k rest same all) is
    where
      by : (test : Bool) (o : Option (L × List L)) → ((k : L) (rest : List L) → o ≡ Some (k, rest) → P k) → (if test then Some (x, xs) else with_others actor_of x o) ≡ Some (l, others) → P l
      by true o more same = subst P (ap (λ q. q.0) (same_Some (x, xs) (l, others) same)) one
      by false None more same = absurd (cc (same))
      by false (Some p) more same = subst P (ap (λ q. q.0) (same_Some (p.0, x ∷ p.1) (l, others) same)) (more p.0 p.1 refl)
