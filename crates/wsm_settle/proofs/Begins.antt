-- Where a walk begins behind an event, and that it ends with the right changes and few reads.
use Rattle.wsm_settle.proofs.Common.{[], ℕ, ◌++◌, ◌+◌, ◌∙◌, ◌∷◌, ◌≡◌, ◌≤◌, ap, arith, Ascends, BehindNode, Bool, both_ways, Card, card_at, cards_of, cases_Bool, EndsRight, eq-eqb, eqb, eqb-true, first, FlatModel, freed, freed_rows, Handed}
use Rattle.wsm_settle.proofs.Common.{if◌then◌else◌, in_rank, inl, inr, is_one_of, IsRank, item_at, leads_to, List, loop_nodes, Mark, mark_now, mark_or, NamesInside, None, Option, place-one, place-within, put_row, rank_place, reach_size}
use Rattle.wsm_settle.proofs.Common.{reached-keeps, ReachesFew, ReadsFew, refl, Regular, repeated_by, RepeatsFew, RepeatsRight, said, SchemaModel, Some, some-one, Spent, spent-visit, spent-whole, subst, sym, trail-aim, true, visit_cost}
use Rattle.wsm_settle.proofs.{Common.Walks, Handing.get_or-place}
use Rattle.wsm_lists.proofs.{ByNumber.item_at-put, Rows.ascends_put}
use Rattle.wsm_schema.specs.declared.entries.Entry.TheVariants as entry
use Rattle.wsm_walk.specs.Reached.{reached_from}
use Rattle.wsm_walk.proofs.{Agains.{again-changes, again-stands}, Ends.{end-changes, end-stands, ended-card}, ReachedNames.{body-reached, reached-names}}

module _ (flat : FlatModel) (rank : List ℕ) (node : ℕ) where
  pub ends-right : (kept kept' : List (ℕ × Mark)) → kept' ≡ kept → (p : ℕ) (choice : Option ℕ) (m : Mark) (begun changes : List (ℕ × Option Mark)) (places : List ℕ) → m ≡ mark_or (item_at node kept) →
      begun ≡ (node, Some (record m { ended = Some p; choice = choice })) ∷ [] → BehindNode flat rank node places → Walks flat.cards rank kept' places begun [] changes → EndsRight flat rank kept node p choice changes
  ends-right kept kept' stays p choice m begun changes places mark_is begun_is handed walked s es writes t flat_is now is_whole =
      let card = ended-card s rank es p kept now node writes choice t is_whole in
      let cards : flat.cards ≡ cards_of s = ap (λ f. f.cards) flat_is in
      let hand = handed card.0 (ap (card_at node) cards ∙ card.1) (in_rank (cards_of s) rank now.ranked node card.0 card.1) in
      let begins = end-stands s rank es p kept now node writes choice t is_whole card.0 card.1 places hand in
      let first_is : begun ≡ (node, Some (record (mark_or (item_at node kept)) { ended = Some p; choice = choice })) ∷ [] =
      begun_is ∙ ap (λ (x : Mark). (node, Some (record x { ended = Some p; choice = choice })) ∷ []) mark_is in
      let walked_s : Walks (cards_of s) rank kept places begun [] changes = subst (λ rows. Walks (cards_of s) rank rows places begun [] changes) stays (subst (λ cs. Walks cs rank kept' places begun [] changes) cards walked) in
      let walked_so : Walks (cards_of s) rank kept places ((node, Some (record (mark_or (item_at node kept)) { ended = Some p; choice = choice })) ∷ []) [] changes = subst (λ b. Walks (cards_of s) rank kept places b [] changes) first_is walked_s in
      end-changes s rank es p kept now node writes choice t is_whole changes (walked_so (mark_now s rank (es ++ (p, entry.End node writes choice) ∷ [])) (trail-aim s now.regular rank now.ranked (es ++ (p, entry.End node writes choice) ∷ [])) begins)

-- a walk that begins with one read at a node, whose nodes behind it are pending
module _ (cards : List Card) (s : SchemaModel) (cards_are : cards ≡ cards_of s) (regular : Regular s) (rank : List ℕ) (is : IsRank (cards_of s) rank) where
  abbrev inside : ℕ → ℕ → Bool
  inside l k = is_one_of k (reached_from cards rank (l ∷ []))

  ranked : IsRank cards rank
  ranked = subst (λ cs. IsRank cs rank) (sym cards_are) is

  names : (l : ℕ) → NamesInside cards (inside l)
  names l = subst (λ cs. NamesInside cs (λ k. is_one_of k (reached_from cs rank (l ∷ [])))) (sym cards_are) (reached-names s regular rank is (l ∷ []))

  module _ (node : ℕ) (c : Card) (found : card_at node cards ≡ Some c) where
    pub in_place : is_one_of node rank ≡ true
    in_place = in_rank cards rank ranked node c found

    -- the node itself is to be visited
    at_node : (base : ℕ) → Spent cards rank (inside node) base base (rank_place node rank ∷ [])
    at_node base = record {
      front = [];
      rest = rank;
      split = refl;
      low = λ q there. omega arith;
      pending = λ k d at_k there.
          let same : node ≡ k = place-one rank node k in_place (in_rank cards rank ranked k d at_k) (one-of (rank_place k rank) (rank_place node rank) there) in
          subst (λ x. inside node x ≡ true) same (reached-keeps cards rank (node ∷ []) node (rw (eq-eqb node node refl) refl));
      cost = omega arith;
    }
      where
        one-of : (a b : ℕ) → is_one_of a (b ∷ []) ≡ true → b ≡ a
        one-of a b there = elim (cases_Bool (eqb b a)) [ inl same ↦ eqb-true b a same | inr other ↦ absurd (both_ways _ refl (rw other at there)) ]

    reads-one : (base reads : ℕ) → reads ≤ base + 1 → reads ≤ base + visit_cost (card_at node cards)
    reads-one base reads few = rw found (omega (arith, few))

    -- a read of its own mark is within what it reaches
    pub own-few : (base reads : ℕ) → reads ≤ base + 1 → reads ≤ base + reach_size cards rank node
    own-few base reads few =
        spent-whole cards rank ranked (inside node) (names node) base (rank_place node rank) node 0 [] base reads (place-within node rank in_place) (get_or-place node 0 rank in_place) (at_node base) (reads-one base reads few)

    -- and so is the walk that follows
    pub walk-few : (base reads reads' : ℕ) (places : List ℕ) → reads ≤ base + 1 → Handed rank (leads_to c) (rank_place node rank + 1) [] places → ReadsFew cards rank reads places reads' → reads' ≤ base + reach_size cards rank node
    walk-few base reads reads' places few handed walked =
        walked (inside node) base ranked (names node)
        (spent-visit cards rank ranked (inside node) (names node) base (rank_place node rank) node 0 [] base reads (place-within node rank in_place) (get_or-place node 0 rank in_place) (at_node base) (reads-one base reads few)
        (λ q there. absurd (both_ways _ refl there)) places (λ q h. elim (handed.only q h) [ inl old ↦ absurd (both_ways _ refl old) | inr named ↦ inr (c, found, named) ]))

-- a read of a node's own mark, and the walk that follows, are within what the node reaches
pub reaches-own : (flat : FlatModel) (rank : List ℕ) (node reads reads' : ℕ) → reads' ≤ reads + 1 → ReachesFew flat rank node reads reads'
reaches-own flat rank node reads reads' few s flat_is regular is card =
    let cards_are : flat.cards ≡ cards_of s = ap (λ f. f.cards) flat_is in
    own-few flat.cards s cards_are regular rank is node card.0 (ap (card_at node) cards_are ∙ card.1) reads reads' few

pub reaches-walk : (flat : FlatModel) (rank : List ℕ) (node reads reads' reads'' : ℕ) (places : List ℕ) → reads' ≤ reads + 1 → BehindNode flat rank node places → ReadsFew flat.cards rank reads' places reads'' → ReachesFew flat rank node reads reads''
reaches-walk flat rank node reads reads' reads'' places few handed walked s flat_is regular is card =
    let cards_are : flat.cards ≡ cards_of s = ap (λ f. f.cards) flat_is in
    let found : card_at node flat.cards ≡ Some card.0 = ap (card_at node) cards_are ∙ card.1 in
    walk-few flat.cards s cards_are regular rank is node card.0 found reads reads' reads'' places few (handed card.0 found (in_place flat.cards s cards_are regular rank is node card.0 found)) walked

-- ---- the repeat of a loop
freed-item : (e p : ℕ) (ns : List ℕ) (rows : List (ℕ × Option Mark)) (k : ℕ) → item_at k (freed_rows e p ns rows) ≡ (if is_one_of k ns then Some (said (freed e p k)) else item_at k rows)
freed-item e p [] rows k = refl
freed-item e p (n ∷ ns) rows k =
    freed-item e p ns (put_row first (n, said (freed e p n)) rows) k
    ∙ elim (cases_Bool (is_one_of k ns)) [
      | inl there ↦ elim (cases_Bool (eqb n k)) [ inl same ↦ rw (there, same) refl | inr other ↦ rw (other, there) refl ]
      | inr none ↦ rw none (item_at-put k (n, said (freed e p n)) rows ∙ elim (cases_Bool (eqb n k)) [ inl same ↦ rw same (ap (λ x. Some (said (freed e p x))) (eqb-true n k same)) | inr other ↦ rw other refl ])
    ]

freed-ascends : (e p : ℕ) (ns : List ℕ) (rows : List (ℕ × Option Mark)) → Ascends first rows → Ascends first (freed_rows e p ns rows)
freed-ascends e p [] rows h = h
freed-ascends e p (n ∷ ns) rows h = freed-ascends e p ns (put_row first (n, said (freed e p n)) rows) (ascends_put first (n, said (freed e p n)) rows h)

-- the places of the nodes of a loop
abbrev pub OfLoop : FlatModel → List ℕ → ℕ → List ℕ → Type 0
OfLoop flat rank e places = Handed rank (λ k. is_one_of k (loop_nodes flat.cards e)) 0 [] places

pub repeats-right : (flat : FlatModel) (rank : List ℕ) (kept : List (ℕ × Mark)) (e p : ℕ) (begun changes : List (ℕ × Option Mark)) (places : List ℕ) → begun ≡ freed_rows e p (loop_nodes flat.cards e) [] → OfLoop flat rank e places →
    Walks flat.cards rank kept places begun [] changes → RepeatsRight flat rank kept e p changes
repeats-right flat rank kept e p begun changes places begun_is handed walked s es writes l c flat_is now at ends partner running =
    let cards : flat.cards ≡ cards_of s = ap (λ f. f.cards) flat_is in
    let body : loop_nodes flat.cards e ≡ loop_nodes (cards_of s) e = ap (λ cs. loop_nodes cs e) cards in
    let are : (n : ℕ) → item_at n begun ≡ (if is_one_of n (loop_nodes (cards_of s) e) then Some (said (freed e p n)) else None) =
    λ n. ap (item_at n) begun_is ∙ freed-item e p (loop_nodes flat.cards e) [] n ∙ ap (λ (ns : List ℕ). if is_one_of n ns then Some (said (freed e p n)) else None) body in
    let begins =
    again-stands s rank es p kept now e l writes c at ends partner running begun (subst (Ascends first) (sym begun_is) (freed-ascends e p (loop_nodes flat.cards e) [] tt)) are places
    (λ n in_body in_rank. handed.come n (ap (is_one_of n) body ∙ in_body) in_rank (omega arith)) in
    let walked_s : Walks (cards_of s) rank kept places begun [] changes = subst (λ cs. Walks cs rank kept places begun [] changes) cards walked in
    again-changes s rank es p kept now e l writes c at ends partner running changes (walked_s (mark_now s rank (repeated_by s e p writes es)) (trail-aim s now.regular rank now.ranked (repeated_by s e p writes es)) begins)

pub repeats-few : (flat : FlatModel) (rank : List ℕ) (e reads reads' : ℕ) (places : List ℕ) → OfLoop flat rank e places → ReadsFew flat.cards rank reads places reads' → RepeatsFew flat rank e reads reads'
repeats-few flat rank e reads reads' places handed walked s l c flat_is regular is at ends partner =
    let cards : flat.cards ≡ cards_of s = ap (λ f. f.cards) flat_is in
    let is_so : IsRank flat.cards rank = subst (λ cs. IsRank cs rank) (sym cards) is in
    walked (λ k. is_one_of k (reached_from flat.cards rank (l ∷ []))) reads is_so (names flat.cards s cards regular rank is l)
    (record {
      front = [];
      rest = rank;
      split = refl;
      low = λ q there. omega arith;
      pending = λ k d at_k there. elim (handed.only (rank_place k rank) there) [
        | inl old ↦ absurd (both_ways _ refl old)
        | inr named ↦
            let same : named.0 ≡ k = place-one rank named.0 k named.2 (in_rank flat.cards rank is_so k d at_k) named.3 in
            let in_body : is_one_of k (loop_nodes (cards_of s) e) ≡ true = ap (is_one_of k) (sym (ap (λ cs. loop_nodes cs e) cards)) ∙ subst (λ x. is_one_of x (loop_nodes flat.cards e) ≡ true) same named.1 in
            ap (λ cs. is_one_of k (reached_from cs rank (l ∷ []))) cards ∙ body-reached s regular rank is l e c at ends partner k d (ap (card_at k) (sym cards) ∙ at_k) in_body
      ];
      cost = omega arith;
    })

-- pending places of the nodes of a list are those of the loop where it has the loop's nodes
pub of-loop : (flat : FlatModel) (rank : List ℕ) (e : ℕ) (nodes old new : List ℕ) → nodes ≡ loop_nodes flat.cards e → old ≡ [] → Handed rank (λ k. is_one_of k nodes) 0 old new → OfLoop flat rank e new
of-loop flat rank e nodes old new are none handed = subst (λ ns. Handed rank (λ k. is_one_of k ns) 0 [] new) are (subst (λ l. Handed rank (λ k. is_one_of k nodes) 0 l new) none handed)

-- what a card names behind its node's place
pub behind-named : (flat : FlatModel) (rank : List ℕ) (node : ℕ) (c : Card) → card_at node flat.cards ≡ Some c → (p : ℕ) → rank_place node rank ≡ p → (places : List ℕ) → Handed rank (leads_to c) (p + 1) [] places → BehindNode flat rank node places
behind-named flat rank node c found p place places handed c' found' in_rank =
    subst (λ q. Handed rank (leads_to c') (q + 1) [] places) (sym place) (subst (λ x. Handed rank (leads_to x) (p + 1) [] places) (some-one c c' (sym found ∙ found')) handed)
