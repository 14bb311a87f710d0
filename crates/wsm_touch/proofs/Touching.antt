-- The list of touched nodes has those that differ, and no other.
use Rattle.std.proofs.{Common.{◌≡◌, ◌≢◌, ℕ, suc, Bool, true, false, ◌&&◌, ◌||◌, not, eqb, List, [], ◌∷◌, ◌++◌, filter, refl, ap, sym, ◌∙◌, subst, inl, inr, arith, Option, Some, None, Decides}, lemmas.Bool.{cases_Bool, both_ways, and_parts}}
use Rattle.std.proofs.{lemmas.Bool.{eq-eqb, eqb-true}, lemmas.Option.same_Some}
use Rattle.std.specs.{Prelude.{is_some, Contains}, Option.option_eq}
use Rattle.wsm_lists.specs.{Rows.{AllRows, key_eq, key_lt, put_row}, declared.values.ElementKind.ElementKind}
use Rattle.wsm_lists.specs.declared.values.ElementKind.TheVariants as kind
use Rattle.wsm_lists.proofs.{ByNumber.eq_number, Lists.{all-rows-map, rows-append}, Rows.all_put}
use Rattle.wsm_schema.specs.{Flat.{FlatModel, card_at, kind_in}, Touched.{Touched, card_differs, kind_differs}, Trail.is_one_of, declared.cards.Card.Card}
use Rattle.wsm_touch.specs.{SameCards.same_card, TouchedNodes.{differs, is_touched, nodes_in, number, one_kind, put_all, same_kinds, touched_nodes}}
use Rattle.wsm_touch.proofs.EqualCards.{cards-decided}
use Rattle.wsm_walk.specs.Untouched.{Untouched}

-- ---- kinds of elements
one-decided : (k l : Option ElementKind) → Decides (option_eq one_kind k l) (k ≡ l)
one-decided None None = (λ h. refl, λ e. refl)
one-decided None (Some l) = (λ h. absurd (both_ways _ refl h), λ e. absurd (cc))
one-decided (Some k) None = (λ h. absurd (both_ways _ refl h), λ e. absurd (cc))
one-decided (Some kind.Int) (Some kind.Int) = (λ h. refl, λ e. refl)
one-decided (Some kind.Text) (Some kind.Text) = (λ h. refl, λ e. refl)
one-decided (Some kind.Int) (Some kind.Text) = (λ h. absurd (both_ways _ refl h), λ e. absurd (cc))
one-decided (Some kind.Text) (Some kind.Int) = (λ h. absurd (both_ways _ refl h), λ e. absurd (cc))

module _ (a b : FlatModel) where
  kinds-same : (ws : List ℕ) → same_kinds a b ws ≡ true → AllRows (λ d. kind_in d a.elements ≡ kind_in d b.elements) ws
  kinds-same [] h = tt
  kinds-same (w ∷ ws) h =
      let parts = and_parts (option_eq one_kind (kind_in w a.elements) (kind_in w b.elements)) (same_kinds a b ws) h in
      ((one-decided (kind_in w a.elements) (kind_in w b.elements)).0 parts.0, kinds-same ws parts.1)

  kinds-differ : (ws : List ℕ) → same_kinds a b ws ≡ false → (d : ℕ) × Contains ws d × (kind_in d a.elements ≢ kind_in d b.elements)
  kinds-differ [] h = absurd (both_ways _ h refl)
  kinds-differ (w ∷ ws) h =
      elim (cases_Bool (option_eq one_kind (kind_in w a.elements) (kind_in w b.elements))) [
        | inr other ↦ (w, (0, omega arith, refl), (λ e. both_ways _ other ((one-decided (kind_in w a.elements) (kind_in w b.elements)).1 e)))
        | inl same ↦
            let found = kinds-differ ws (rw same at h) in
            (found.0, (suc found.1.0, omega (arith, found.1.1), found.1.2), found.2)
      ]

  -- ---- one node
  touched-by : (n : ℕ) (o p : Option Card) → card_at n a.cards ≡ o → card_at n b.cards ≡ p → differs a b o p ≡ true → Touched a b n
  touched-by n None None is other h = absurd (both_ways _ refl h)
  touched-by n None (Some d) is other h = card_differs (λ e. let x : None ≡ Some d = sym is ∙ e ∙ other in absurd (cc))
  touched-by n (Some c) None is other h = card_differs (λ e. let x : Some c ≡ None = sym is ∙ e ∙ other in absurd (cc))
  touched-by n (Some c) (Some d) is other h =
      elim (cases_Bool (same_card c d)) [
        | inr apart ↦ card_differs (λ e. both_ways _ apart ((cards-decided c d).1 (same_Some c d (sym is ∙ e ∙ other))))
        | inl same ↦
            elim (cases_Bool (same_kinds a b c.writes)) [
              | inl alike ↦ absurd (both_ways _ refl (rw (same, alike) at h))
              | inr unlike ↦ let found = kinds-differ c.writes unlike in kind_differs c found.0 is found.1 found.2
            ]
      ]

  pub touched-of : (n : ℕ) → is_touched a b n ≡ true → Touched a b n
  touched-of n h = touched-by n (card_at n a.cards) (card_at n b.cards) refl refl h

  untouched-by : (n : ℕ) (o p : Option Card) → card_at n a.cards ≡ o → card_at n b.cards ≡ p → differs a b o p ≡ false → Untouched a b n
  untouched-by n None None is other h = record { card = is ∙ sym other; kinds = λ c at. let x : None ≡ Some c = sym other ∙ at in absurd (cc) }
  untouched-by n None (Some d) is other h = absurd (both_ways _ h refl)
  untouched-by n (Some c) None is other h = absurd (both_ways _ h refl)
  untouched-by n (Some c) (Some d) is other h =
      elim (cases_Bool (same_card c d && same_kinds a b c.writes)) [
        | inr apart ↦ absurd (both_ways _ (rw apart at h) refl)
        | inl same ↦
            let parts = and_parts (same_card c d) (same_kinds a b c.writes) same in
            let one : c ≡ d = (cards-decided c d).0 parts.0 in
            record {
              card = is ∙ ap Some one ∙ sym other;
              kinds = λ e at. subst (λ (x : Card). AllRows (λ d. kind_in d a.elements ≡ kind_in d b.elements) x.writes) (one ∙ same_Some d e (sym other ∙ at)) (kinds-same c.writes parts.1);
            }
      ]

  untouched-of : (n : ℕ) → is_touched a b n ≡ false → Untouched a b n
  untouched-of n h = untouched-by n (card_at n a.cards) (card_at n b.cards) refl refl h

-- ---- which numbers stand in the list
member-put : (n x : ℕ) (set : List ℕ) → is_one_of n (put_row number x set) ≡ (eqb x n || is_one_of n set)
member-put n x [] = refl
member-put n x (y ∷ ys) =
    elim (cases_Bool (key_lt (number y) (number x))) [
      | inl below ↦ rw below (ap (λ t. eqb y n || t) (member-put n x ys) ∙ swap (eqb y n) (eqb x n) (is_one_of n ys))
      | inr above ↦
          elim (cases_Bool (key_eq (number y) (number x))) [
            | inl here ↦
                let same : y ≡ x = eqb-true y x (sym (eq_number y x) ∙ here) in
                rw (above, here) (ap (λ t. t || is_one_of n ys) (twice (eqb x n)) ∙ joined (eqb x n) (eqb x n) (is_one_of n ys) ∙ ap (λ z. eqb x n || (eqb z n || is_one_of n ys)) (sym same))
            | inr away ↦ rw (above, away) refl
          ]
    ]
  where
    swap : (s t u : Bool) → (s || (t || u)) ≡ (t || (s || u))
    swap true true u = refl
    swap true false u = refl
    swap false true u = refl
    swap false false u = refl

    twice : (t : Bool) → t ≡ (t || t)
    twice true = refl
    twice false = refl

    joined : (s t u : Bool) → ((s || t) || u) ≡ (s || (t || u))
    joined true t u = refl
    joined false t u = refl

member-put_all : (n : ℕ) (ns set : List ℕ) → is_one_of n (put_all ns set) ≡ false → (is_one_of n ns ≡ false) × (is_one_of n set ≡ false)
member-put_all n [] set h = (refl, h)
member-put_all n (m ∷ ns) set h =
    let rest = member-put_all n ns (put_row number m set) h in
    let parts = neither (eqb m n) (is_one_of n set) (sym (member-put n m set) ∙ rest.1) in
    (rw parts.0 rest.0, parts.1)
  where
    neither : (s t : Bool) → (s || t) ≡ false → (s ≡ false) × (t ≡ false)
    neither true t h = absurd (both_ways _ h refl)
    neither false t h = (refl, h)

member-filter : (test : ℕ → Bool) (n : ℕ) (ns : List ℕ) → test n ≡ true → is_one_of n ns ≡ true → is_one_of n (filter test ns) ≡ true
member-filter test n [] passes h = h
member-filter test n (m ∷ ns) passes h =
    elim (cases_Bool (eqb m n)) [
      | inl here ↦ let is : test m ≡ true = ap test (eqb-true m n here) ∙ passes in rw (is, here) refl
      | inr away ↦
          let rest = member-filter test n ns passes (rw away at h) in
          elim (cases_Bool (test m)) [
            | inl stays ↦ rw (stays, away) rest
            | inr goes ↦ rw goes rest
          ]
    ]

member-left : (n : ℕ) (xs ys : List ℕ) → is_one_of n xs ≡ true → is_one_of n (xs ++ ys) ≡ true
member-left n [] ys h = absurd (both_ways _ refl h)
member-left n (x ∷ xs) ys h =
    elim (cases_Bool (eqb x n)) [
      | inl here ↦ rw here refl
      | inr away ↦ rw away (member-left n xs ys (rw away at h))
    ]

member-right : (n : ℕ) (xs ys : List ℕ) → is_one_of n ys ≡ true → is_one_of n (xs ++ ys) ≡ true
member-right n [] ys h = h
member-right n (x ∷ xs) ys h =
    elim (cases_Bool (eqb x n)) [
      | inl here ↦ rw here refl
      | inr away ↦ rw away (member-right n xs ys h)
    ]

member-card : (n : ℕ) (cards : List Card) (c : Card) → card_at n cards ≡ Some c → is_one_of n (nodes_in cards) ≡ true
member-card n [] c e = absurd (cc)
member-card n (d ∷ ds) c e =
    elim (cases_Bool (eqb d.node n)) [
      | inl here ↦ rw here refl
      | inr away ↦ rw away (member-card n ds c (rw away at e))
    ]

-- ---- what is held of all in the list
all-put_all : (P : ℕ → Type 0) (ns set : List ℕ) → AllRows P ns → AllRows P set → AllRows P (put_all ns set)
all-put_all P [] set of h = h
all-put_all P (n ∷ ns) set of h = all-put_all P ns (put_row number n set) of.1 (all_put number P n set of.0 h)

all-filter : (test : ℕ → Bool) (ns : List ℕ) → AllRows (λ n. test n ≡ true) (filter test ns)
all-filter test [] = tt
all-filter test (n ∷ ns) =
    elim (cases_Bool (test n)) [
      | inl stays ↦ rw stays (stays, all-filter test ns)
      | inr goes ↦ rw goes (all-filter test ns)
    ]

all-known : (cards : List Card) → AllRows (λ n. is_some (card_at n cards) ≡ true) (nodes_in cards)
all-known [] = tt
all-known (c ∷ cs) = (
  rw (eq-eqb c.node c.node refl) refl,
  all-rows-map (λ n. is_some (card_at n cs) ≡ true) (λ n. is_some (card_at n (c ∷ cs)) ≡ true) (λ n h. one n h) (nodes_in cs) (all-known cs),
)
  where
    one : (n : ℕ) → is_some (card_at n cs) ≡ true → is_some (card_at n (c ∷ cs)) ≡ true
    one n h = elim (cases_Bool (eqb c.node n)) [ inl here ↦ rw here refl | inr away ↦ rw away h ]

all-kept : (P : ℕ → Type 0) (test : ℕ → Bool) (ns : List ℕ) → AllRows P ns → AllRows (λ n. P n × (test n ≡ true)) (filter test ns)
all-kept P test [] h = tt
all-kept P test (n ∷ ns) h =
    elim (cases_Bool (test n)) [
      | inl stays ↦ rw stays ((h.0, stays), all-kept P test ns h.1)
      | inr goes ↦ rw goes (all-kept P test ns h.1)
    ]

-- ---- the list
module _ (a b : FlatModel) where
  abbrev absent : ℕ → Bool
  absent n = not (is_some (card_at n a.cards))

  new-touched : (n : ℕ) (o p : Option Card) → is_some p ≡ true → not (is_some o) ≡ true → differs a b o p ≡ true
  new-touched n None None known gone = absurd (both_ways _ refl known)
  new-touched n None (Some d) known gone = refl
  new-touched n (Some c) p known gone = absurd (both_ways _ refl gone)

  pub each-touched : AllRows (Touched a b) (touched_nodes a b)
  each-touched =
      all-put_all (Touched a b) (filter (is_touched a b) (nodes_in a.cards) ++ filter absent (nodes_in b.cards)) []
      (rows-append (Touched a b) (filter (is_touched a b) (nodes_in a.cards)) (filter absent (nodes_in b.cards))
      (all-rows-map (λ n. is_touched a b n ≡ true) (Touched a b) (λ n h. touched-of a b n h) (filter (is_touched a b) (nodes_in a.cards)) (all-filter (is_touched a b) (nodes_in a.cards)))
      (all-rows-map (λ n. (is_some (card_at n b.cards) ≡ true) × (absent n ≡ true)) (Touched a b)
      (λ n h. touched-of a b n (new-touched n (card_at n a.cards) (card_at n b.cards) h.0 h.1)) (filter absent (nodes_in b.cards))
      (all-kept (λ n. is_some (card_at n b.cards) ≡ true) absent (nodes_in b.cards) (all-known b.cards)))) tt

  listed : (n : ℕ) → (o p : Option Card) → card_at n a.cards ≡ o → card_at n b.cards ≡ p → is_touched a b n ≡ true → is_one_of n (filter (is_touched a b) (nodes_in a.cards) ++ filter absent (nodes_in b.cards)) ≡ true
  listed n (Some c) p is other h = member-left n (filter (is_touched a b) (nodes_in a.cards)) (filter absent (nodes_in b.cards)) (member-filter (is_touched a b) n (nodes_in a.cards) h (member-card n a.cards c is))
  listed n None (Some d) is other h =
      member-right n (filter (is_touched a b) (nodes_in a.cards)) (filter absent (nodes_in b.cards)) (member-filter absent n (nodes_in b.cards) (ap (λ o. not (is_some o)) is) (member-card n b.cards d other))
  listed n None None is other h = absurd (both_ways _ (ap (λ o. differs a b o (card_at n b.cards)) is ∙ ap (λ o. differs a b None o) other) h)

  pub others-untouched : (n : ℕ) → is_one_of n (touched_nodes a b) ≡ false → Untouched a b n
  others-untouched n h =
      elim (cases_Bool (is_touched a b n)) [
        | inr calm ↦ untouched-of a b n calm
        | inl touched ↦ absurd (both_ways _ (member-put_all n (filter (is_touched a b) (nodes_in a.cards) ++ filter absent (nodes_in b.cards)) [] h).0 (listed n (card_at n a.cards) (card_at n b.cards) refl refl touched))
      ]

-- ---- the list, set by set
put_all-append : (xs ys set : List ℕ) → put_all ys (put_all xs set) ≡ put_all (xs ++ ys) set
put_all-append [] ys set = refl
put_all-append (x ∷ xs) ys set = put_all-append xs ys (put_row number x set)

pub listed-is : (a b : FlatModel) (cards : List Card) → cards ≡ b.cards → (none one two : List ℕ) → none ≡ [] → one ≡ put_all (filter (is_touched a b) (nodes_in a.cards)) none →
    two ≡ put_all (filter (λ n. not (is_some (card_at n a.cards))) (nodes_in cards)) one → two ≡ touched_nodes a b
listed-is a b cards are none one two empty first second =
    second ∙ ap (λ cs. put_all (filter (λ n. not (is_some (card_at n a.cards))) (nodes_in cs)) one) are
    ∙ ap (λ set. put_all (filter (λ n. not (is_some (card_at n a.cards))) (nodes_in b.cards)) set) (first ∙ ap (put_all (filter (is_touched a b) (nodes_in a.cards))) empty)
    ∙ put_all-append (filter (is_touched a b) (nodes_in a.cards)) (filter (λ n. not (is_some (card_at n a.cards))) (nodes_in b.cards)) []
