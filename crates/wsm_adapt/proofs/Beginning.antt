-- With the touched nodes and those that their cards name a walk may begin.
use Rattle.wsm_adapt.proofs.Common.{[], ℕ, ◌||◌, ◌∙◌, ◌∷◌, ◌≡◌, ◌⊎◌, Aim, AllKnown, AllRows, ap, arith, Ascends, Begins, begun_row, begun_rows, Bool, both_ways, Card, card_at, cards_of, cases_Bool, cond, Confined, End, eq-eqb, eqb}
use Rattle.wsm_adapt.proofs.Common.{eqb-true, false, first, Found, Handed, HasCard, in_rank, inl, inr, is_known, is_led, is_one_of, is_pending, is_reached, is_some, IsAsKept, IsRank, item_after, item_at, item_at-put, leads_to, List}
use Rattle.wsm_adapt.proofs.Common.{list_any, Mark, mark_or, NoEdgeFrom, None, NoneOf, Option, or-true, or_left, or_right, own, place-one, rank_place, reached-keeps, reached-names, ReadsMore, refl, Regular, said, said-mark, same_Some}
use Rattle.wsm_adapt.proofs.{Common.{SchemaModel, seen, Some, Standing, Stands, subst, sym, time_by, timed_of, true, untimed, with_time}, Filtered.{any-of, known-row, passes-of, row-of}, Visiting.{known-put, shown}}
use Rattle.wsm_lists.proofs.Rows.{ascends_put}

-- ---- the rows with which it begins
module _ (cards : List Card) (known : List (ℕ × Option Mark)) where
  module _ (k : ℕ) where
    abbrev there : Option (Option Mark)
    there = Some (said (seen [] known k))

    begun-row : (n : ℕ) (o : Option Card) → card_at n cards ≡ o → (rows : List (ℕ × Option Mark)) → (item_at k (begun_row n o known rows) ≡ item_at k rows) ⊎ ((item_at k (begun_row n o known rows) ≡ there) × HasCard cards k × (n ≡ k))
    begun-row n None at rows = inl refl
    begun-row n (Some c) at rows =
        elim (cases_Bool (eqb n k)) [
          | inl same ↦
              let e : n ≡ k = eqb-true n k same in
              inr (item_at-put k (n, said (seen [] known n)) rows ∙ rw same (ap (λ x. Some (said (seen [] known x))) e), (c, ap (λ x. card_at x cards) (sym e) ∙ at), e)
          | inr away ↦ inl (item_at-put k (n, said (seen [] known n)) rows ∙ rw away refl)
        ]

    -- a node has the row that it had, or that of what is known of it
    pub begun-item : (ns : List ℕ) (rows : List (ℕ × Option Mark)) →
        (item_at k (begun_rows cards known ns rows) ≡ item_at k rows) ⊎ ((item_at k (begun_rows cards known ns rows) ≡ there) × HasCard cards k × (is_one_of k ns ≡ true))
    begun-item [] rows = inl refl
    begun-item (n ∷ ns) rows =
        elim (begun-item ns (begun_row n (card_at n cards) known rows)) [
          | inr late ↦ inr (late.0, late.1, (elim (cases_Bool (eqb n k)) [ inl same ↦ rw same refl | inr other ↦ rw other late.2 ]))
          | inl stays ↦ elim (begun-row n (card_at n cards) refl rows) [
            | inl old ↦ inl (stays ∙ old)
            | inr new ↦ inr (stays ∙ new.0, new.1, rw (eq-eqb n k new.2) refl)
          ]
        ]

    known-on : (ns : List ℕ) (rows : List (ℕ × Option Mark)) → is_known rows k ≡ true → is_known (begun_rows cards known ns rows) k ≡ true
    known-on [] rows it = it
    known-on (n ∷ ns) rows it = known-on ns (begun_row n (card_at n cards) known rows) (one (card_at n cards))
      where
        one : (o : Option Card) → is_known (begun_row n o known rows) k ≡ true
        one None = it
        one (Some c) = known-put k (n, said (seen [] known n)) rows it

    -- and a node of the net that is among them has that row
    pub begun-known : (c : Card) → card_at k cards ≡ Some c → (ns : List ℕ) (rows : List (ℕ × Option Mark)) → is_one_of k ns ≡ true → is_known (begun_rows cards known ns rows) k ≡ true
    begun-known c at [] rows among = absurd (both_ways _ refl among)
    begun-known c at (n ∷ ns) rows among =
        elim (cases_Bool (eqb n k)) [
          | inr other ↦ begun-known c at ns (begun_row n (card_at n cards) known rows) (rw other at among)
          | inl same ↦
              let e : n ≡ k = eqb-true n k same in
              known-on ns (begun_row n (card_at n cards) known rows)
              (ap (λ o. is_known (begun_row n o known rows) k) (ap (λ x. card_at x cards) e ∙ at) ∙ ap is_some (item_at-put k (n, said (seen [] known n)) rows) ∙ own_row n (said (seen [] known n)) rows same)
        ]
      where
        own_row : (n : ℕ) (x : Option Mark) (rows : List (ℕ × Option Mark)) → eqb n k ≡ true → is_some (cond (eqb n k) (Some x) (item_at k rows)) ≡ true
        own_row n x rows same = rw same refl

  pub begun-ascends : (ns : List ℕ) (rows : List (ℕ × Option Mark)) → Ascends first rows → Ascends first (begun_rows cards known ns rows)
  begun-ascends [] rows a = a
  begun-ascends (n ∷ ns) rows a = begun-ascends ns (begun_row n (card_at n cards) known rows) (one (card_at n cards))
    where
      one : (o : Option Card) → Ascends first (begun_row n o known rows)
      one None = a
      one (Some c) = ascends_put first (n, said (seen [] known n)) rows a

-- no source is among some nodes where no edge leads from these
none-among : {X : Type 0} (cards : List Card) (touched : List ℕ) (node : X → ℕ) (xs : List X) → ((m : ℕ) → is_one_of m touched ≡ true → HasCard cards m → AllRows (λ x. eqb m (node x) ≡ false) xs) → AllRows (λ x. HasCard cards (node x)) xs →
    AllRows (λ x. is_one_of (node x) touched ≡ false) xs
none-among cards touched node [] none carded = tt
none-among cards touched node (x ∷ xs) none carded = (
  elim (cases_Bool (is_one_of (node x) touched)) [
    | inr other ↦ other
    | inl it ↦ absurd (both_ways _ (none (node x) it carded.0).0 (eq-eqb (node x) (node x) refl))
  ],
  none-among cards touched node xs (λ m it has. (none m it has).1) carded.1,
)

abbrev pub names_first : List Card → List ℕ → ℕ → Bool
names_first cards touched k = is_one_of k touched || list_any (λ m. is_led (card_at m cards) k) touched

module _ (cards : List Card) (rank : List ℕ) (kept : List (ℕ × Mark)) (touched : List ℕ) (known : List (ℕ × Option Mark)) (more : ReadsMore kept [] known) (all_known : AllKnown known own touched) (keys : List ℕ)
    (handed : Handed rank (names_first cards touched) 0 [] keys) (goal : ℕ → Mark) (aim : Aim cards rank goal) (begins : Begins cards goal kept touched) where
  abbrev changes : List (ℕ × Option Mark)
  changes = begun_rows cards known touched []

  -- what is known is what is kept
  right : (n : ℕ) (o : Option Mark) → item_at n known ≡ Some o → o ≡ item_at n kept
  right n o at =
      elim (more n) [
        | inl same ↦ absurd (let q : None ≡ Some o = sym same ∙ at in cc)
        | inr came ↦ same_Some o (item_at n kept) (sym at ∙ came.1)
      ]

  known-touched : (n : ℕ) → is_one_of n touched ≡ true → is_known known n ≡ true
  known-touched n it = row-of (λ k. is_known known k ≡ true) touched n all_known it

  as-kept : (n : ℕ) → IsAsKept kept changes n
  as-kept n =
      elim (begun-item cards known n touched []) [
        | inl none ↦ ap (λ o. mark_or (item_after o (item_at n kept))) none
        | inr row ↦
            let has = known-row (item_at n known) (known-touched n row.2) in
            ap (λ o. mark_or (item_after o (item_at n kept))) row.0 ∙ said-mark (seen [] known n) ∙ shown known n has.0 has.1 ∙ ap mark_or (right n has.0 has.1)
      ]

  pending-first : (k : ℕ) (c : Card) → card_at k cards ≡ Some c → is_pending rank keys k ≡ false → names_first cards touched k ≡ false
  pending-first k c at idle = elim (cases_Bool (names_first cards touched k)) [
    | inr none ↦ none
    | inl names ↦ absurd (both_ways _ idle (handed.come k names (in_rank cards rank aim.ranked k c at) (omega arith)))
  ]

  idle-away : (k : ℕ) (c : Card) → card_at k cards ≡ Some c → is_pending rank keys k ≡ false → is_one_of k touched ≡ false
  idle-away k c at idle = elim (cases_Bool (is_one_of k touched)) [
    | inr other ↦ other
    | inl it ↦ absurd (both_ways _ (pending-first k c at idle) (or_left (is_one_of k touched) _ it))
  ]

  no-edge : (k : ℕ) (c : Card) → card_at k cards ≡ Some c → is_pending rank keys k ≡ false → (m : ℕ) → is_one_of m touched ≡ true → HasCard cards m → NoEdgeFrom m c
  no-edge k c at idle m it has =
      aim.behind m has.0 has.1 k c at (elim (cases_Bool (leads_to has.0 k)) [
        | inr none ↦ none
        | inl leads ↦
            let led : is_led (card_at m cards) k ≡ true = ap (λ o. is_led o k) has.1 ∙ leads in
            absurd (both_ways _ (pending-first k c at idle) (or_right (is_one_of k touched) _ (any-of (λ x. is_led (card_at x cards) k) touched m it led)))
      ])

  none-touched : (k : ℕ) (c : Card) → card_at k cards ≡ Some c → is_pending rank keys k ≡ false → NoneOf touched c
  none-touched k c at idle =
      let carded = begins.sources k c at in (
        none-among cards touched (λ (x : End). x.node) c.ins (λ m it has. (no-edge k c at idle m it has).0) carded.0,
        none-among cards touched (λ x. x) c.syncs_in (λ m it has. (no-edge k c at idle m it has).1) carded.1,
      )

  abbrev K : ℕ → Mark
  K n = mark_or (item_at n kept)

  pub stands-first : Stands cards rank goal kept keys (begun_rows cards known touched [])
  stands-first = record {
    front = [];
    rest = rank;
    split = refl;
    low = λ q there. omega arith;
    walked = record {
      done = λ n c at none. absurd (both_ways _ refl none);
      facts = λ n c at. ap untimed (as-kept n) ∙ begins.facts n c at;
      times = λ n c at. subst (λ m. m ≡ with_time (timed_of m) m) (sym (as-kept n)) (begins.times n);
      meets = λ n c at out idle.
          ap timed_of (as-kept n) ∙ begins.meets n c at (idle-away n c at idle) (none-touched n c at idle) ∙ ap (λ g. time_by cards g c) (λ i k. sym (as-kept k) i);
    };
    ascends = begun-ascends cards known touched [] tt;
    says = λ n o at. elim (begun-item cards known n touched []) [
      | inl none ↦ let q : None ≡ Some o = sym none ∙ at in absurd (cc)
      | inr row ↦
          let is_o : said (seen [] known n) ≡ o = same_Some (said (seen [] known n)) o (sym row.0 ∙ at) in
          (subst (λ x. x ≡ said (mark_or x)) is_o (ap said (sym (said-mark (seen [] known n)))), row.1)
    ];
  }

  pub standing-first : (found : Found) → found.known ≡ known → found.changes ≡ begun_rows cards known touched [] → found.nodes ≡ [] → Standing cards rank goal kept touched keys found
  standing-first found known_is changes_are none = record {
    stands = subst (λ l. Stands cards rank goal kept keys l) (sym changes_are) stands-first;
    known = λ n o at. ap mark_or (right n o (ap (item_at n) (sym known_is) ∙ at)) ∙ sym (as-kept-in n);
    asked = λ n it. ap (λ l. is_known l n) known_is ∙ known-touched n it;
    visited = λ n among. absurd (both_ways _ refl (subst (λ l. is_one_of n l ≡ true) none among));
    others = λ n away. as-kept-in n;
    loops = λ l e c d at ends at_e less away idle. as-kept-in l;
  }
    where
      as-kept-in : (n : ℕ) → IsAsKept kept found.changes n
      as-kept-in n = ap (λ l. seen kept l n) changes_are ∙ as-kept n

-- what is pending at first is reached
pub confined-first : (s : SchemaModel) → Regular s → (rank : List ℕ) → IsRank (cards_of s) rank → (touched keys nodes : List ℕ) → Handed rank (names_first (cards_of s) touched) 0 [] keys → nodes ≡ [] →
    Confined (cards_of s) rank (is_reached (cards_of s) rank touched) keys nodes
confined-first s regular rank is touched keys nodes handed none = record {
  pending = λ k d at there. elim (handed.only (rank_place k rank) there) [
    | inl old ↦ absurd (both_ways _ refl old)
    | inr named ↦ subst (λ x. is_reached (cards_of s) rank touched x ≡ true) (place-one rank named.0 k named.2 (in_rank (cards_of s) rank is k d at) named.3) (first named.0 d (ap (λ x. card_at x (cards_of s)) (place-one rank named.0 k named.2 (in_rank (cards_of s) rank is k d at) named.3) ∙ at) named.1)
  ];
  visited = λ n among. absurd (both_ways _ refl (subst (λ l. is_one_of n l ≡ true) none among));
}
  where
    led : (o : Option Card) (k : ℕ) → is_led o k ≡ true → (c : Card) × (o ≡ Some c) × (leads_to c k ≡ true)
    led None k it = absurd (both_ways _ refl it)
    led (Some c) k it = (c, refl, it)

    first : (k : ℕ) (d : Card) → card_at k (cards_of s) ≡ Some d → names_first (cards_of s) touched k ≡ true → is_reached (cards_of s) rank touched k ≡ true
    first k d at names =
        elim (or-true (is_one_of k touched) (list_any (λ m. is_led (card_at m (cards_of s)) k) touched) names) [
          | inl seed ↦ reached-keeps (cards_of s) rank touched k seed
          | inr leads ↦
              let m = passes-of (λ x. is_led (card_at x (cards_of s)) k) touched leads in
              let c = led (card_at m.0 (cards_of s)) k m.2 in
              reached-names s regular rank is touched m.0 c.0 c.1 (reached-keeps (cards_of s) rank touched m.0 m.1) k d at c.2
        ]
