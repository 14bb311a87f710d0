-- From ranks to heights, and from orders to ranks.
use Rattle.wsm_block.proofs.Common.{[], ℕ, ◌++◌, ◌<◌, ◌||◌, ◌∙◌, ◌∷◌, ◌≡◌, all-rows-card_at, all-rows-map, AllRows, ap, append_assoc, arith, Bool, both_ways, Card, card_at, card_at-node, cards_of, cases_Bool, control_edges, Edges, eqb}
use Rattle.wsm_block.proofs.Common.{false, height_in, inl, inr, is_one_of, IsOrder, IsRank, length, length-map, List, member-splits, nodes_of, None, Once, onto_seen, or_cases, or_left, or_right, Ordered, places, refl, SameNodes}
use Rattle.wsm_block.proofs.{Common.{SchemaModel, Some, subst, sym, true, twice, twice-once}, CardRows.{control-rows, rows-into, found-rows, sources-are, rows-of_sources}, Repeated.seen-behind, Upwards.{Rises, height-at, height-below}}
use Rattle.wsm_block.proofs.Upwards.{below-height}

-- ---- in a rank edges rise
module _ (cards : List Card) (rank : List ℕ) (is : IsRank cards rank) where
  rises-into : (n : ℕ) (c : Card) → card_at n cards ≡ Some c →
      AllRows (λ e. height_in rank e.node < height_in rank n) c.ins × AllRows (λ m. height_in rank m < height_in rank n) c.syncs_in
  rises-into n c found =
      let there : is_one_of n rank ≡ true = subst (λ m. is_one_of m rank ≡ true) (card_at-node n cards c found) (all-rows-card_at (λ d. is_one_of d.node rank ≡ true) n cards c is.all found) in
      let split = member-splits n rank there in
      let front : List ℕ = split.0 in
      let rest : List ℕ = split.1 in
      let top : height_in rank n ≡ length front = ap (λ r. height_in r n) split.2 ∙ height-at n front rest (is.once front rest n split.2) in
      let low : (m : ℕ) → is_one_of m front ≡ true → height_in rank m < height_in rank n =
      λ m one.
      let below : height_in rank m < length front = subst (λ r. height_in r m < length front) (sym split.2) (height-below m front (n ∷ rest) one) in
      omega (arith, below, top)
      in
      let order = is.behind front rest n c split.2 found in
      (all-rows-map _ _ (λ e one. low e.node one) c.ins order.0, all-rows-map _ _ (λ m one. low m one) c.syncs_in order.1)

  pub control-rises : twice [] (nodes_of cards) ≡ None → AllRows (Rises (height_in rank)) (control_edges cards)
  control-rises distinct =
      control-rows (Rises (height_in rank)) cards (all-rows-map (λ c. card_at c.node cards ≡ Some c) _ (λ c found. (rises-into c.node c found).0) cards (found-rows [] cards distinct))

-- ---- from heights to an order
pub twice-Once : (seen ns : List ℕ) → twice seen ns ≡ None → Once seen ns
twice-Once seen [] h = tt
twice-Once seen (n ∷ ns) h =
    elim (cases_Bool (is_one_of n seen)) [
      | inl old ↦ absurd (let bad : Some n ≡ None = rw old at h in cc)
      | inr new ↦ (new, twice-Once (n ∷ seen) ns (rw new at h))
    ]

Once-twice : (seen ns : List ℕ) → Once seen ns → twice seen ns ≡ None
Once-twice seen [] h = refl
Once-twice seen (n ∷ ns) h = rw h.0 (Once-twice (n ∷ seen) ns h.1)

module _ (edges : Edges) (rank : List ℕ) (rise : AllRows (Rises (height_in rank)) edges) where
  ordered-from : (front seen ns : List ℕ) → rank ≡ front ++ ns → ((m : ℕ) → is_one_of m (front) ≡ is_one_of m seen) → Once seen ns → Ordered edges seen ns
  ordered-from front seen [] at same once = tt
  ordered-from front seen (n ∷ ns) at same once =
      let top : height_in rank n ≡ length front = ap (λ r. height_in r n) at ∙ height-at n front ns (same n ∙ once.0) in (
        all-rows-map _ _ (λ e up to_n.
            let ends : height_in rank e.1 ≡ length front = ap (height_in rank) to_n ∙ top in
            let low : height_in rank e.0 < length front = (let up2 : height_in rank e.0 < height_in rank e.1 = up in omega (arith, ends, up2)) in
            sym (same e.0) ∙ below-height e.0 front (n ∷ ns) (subst (λ r. height_in r e.0 < length front) at low)) edges rise,
        ordered-from (front ++ n ∷ []) (n ∷ seen) ns (at ∙ sym (append_assoc front (n ∷ []) ns)) (λ m. sym (seen-behind m n front) ∙ ap (λ x. eqb n m || x) (same m)) once.1,
      )

  pub rises-ordered : Once [] rank → Ordered edges [] rank
  rises-ordered once = ordered-from [] [] rank refl (λ m. refl) once

-- ---- from an order to a rank
onto-one : (m : ℕ) (xs seen : List ℕ) → is_one_of m (onto_seen xs seen) ≡ true → (is_one_of m xs || is_one_of m seen) ≡ true
onto-one m [] seen h = h
onto-one m (x ∷ xs) seen h =
    elim (or_cases (is_one_of m xs) (is_one_of m (x ∷ seen)) (onto-one m xs (x ∷ seen) h)) [
      | inl later ↦ or_left _ _ (or_right (eqb x m) _ later)
      | inr first ↦ elim (or_cases (eqb x m) (is_one_of m seen) first) [
        | inl same ↦ or_left _ _ (or_left _ _ same)
        | inr old ↦ or_right (is_one_of m (x ∷ xs)) _ old
      ]
    ]

pub onto-rows : {X : Type 0} (Q : X → Type 0) (xs ys : List X) → AllRows Q (onto_seen xs ys) → AllRows Q xs × AllRows Q ys
onto-rows Q [] ys h = (tt, h)
onto-rows Q (x ∷ xs) ys h = let r = onto-rows Q xs (x ∷ ys) h in ((r.1.0, r.0), r.1.1)

ordered-split : (edges : Edges) (seen ns front rest : List ℕ) (n : ℕ) → Ordered edges seen ns → ns ≡ front ++ (n ∷ rest) → AllRows (λ e. e.1 ≡ n → is_one_of e.0 (onto_seen front seen) ≡ true) edges
ordered-split edges seen [] [] rest n h e = absurd (cc)
ordered-split edges seen [] (f ∷ front) rest n h e = absurd (cc)
ordered-split edges seen (m ∷ ms) [] rest n h e = let same : m ≡ n = cc in subst (λ x. AllRows (λ d. d.1 ≡ x → is_one_of d.0 seen ≡ true) edges) same h.0
ordered-split edges seen (m ∷ ms) (f ∷ front) rest n h e =
    let same : m ≡ f = cc in
    let tail : ms ≡ front ++ (n ∷ rest) = cc in
    subst (λ x. AllRows (λ d. d.1 ≡ n → is_one_of d.0 (onto_seen front (x ∷ seen)) ≡ true) edges) same (ordered-split edges (m ∷ seen) ms front rest n h.1 tail)

or-false : (x : Bool) → (x || false) ≡ true → x ≡ true
or-false x h = elim (or_cases x false h) [ inl yes_it ↦ yes_it | inr never ↦ absurd (both_ways _ refl never) ]

-- at each split the sources stand in front
pub upward : (edges : Edges) (rank : List ℕ) → IsOrder edges rank → (front rest : List ℕ) (n : ℕ) → rank ≡ front ++ (n ∷ rest) → AllRows (λ e. e.1 ≡ n → is_one_of e.0 front ≡ true) edges
upward edges rank order front rest n at =
    all-rows-map _ _ (λ e h to_n. or-false (is_one_of e.0 front) (onto-one e.0 front [] (h to_n))) edges (ordered-split edges [] rank front rest n order.ordered at)

-- and each node stands once
pub stands-once : (edges : Edges) (rank : List ℕ) → IsOrder edges rank → (front rest : List ℕ) (n : ℕ) → rank ≡ front ++ (n ∷ rest) → is_one_of n front ≡ false
stands-once edges rank order front rest n at = (twice-once [] rank front rest n (Once-twice [] rank order.once) at).0

pub order-rank : (s : SchemaModel) (rank : List ℕ) → IsOrder (onto_seen s.syncs (control_edges (cards_of s))) rank → SameNodes rank (nodes_of (cards_of s)) →
    AllRows (λ c. is_one_of c.node (nodes_of (cards_of s)) ≡ true) (cards_of s) → IsRank (cards_of s) rank
order-rank s rank order same all =
    let cards : List Card = cards_of s in
    let edges : Edges = onto_seen s.syncs (control_edges cards) in
    record {
      size = omega (arith, same.size, length-map cards (λ c. c.node));
      all = all-rows-map _ _ (λ c one. same.members c.node ∙ one) cards all;
      once = stands-once edges rank order;
      behind = λ front rest n c at found.
          let parts = onto-rows (λ e. e.1 ≡ n → is_one_of e.0 front ≡ true) s.syncs (control_edges cards) (upward edges rank order front rest n at) in (
            all-rows-map _ _ (λ e h. h refl) c.ins (rows-into (λ e. e.1 ≡ n → is_one_of e.0 front ≡ true) cards parts.1 n c found),
            subst (AllRows (λ m. is_one_of m front ≡ true)) (sym (sources-are s n (places s.start s.body s.finish) c found)) (rows-of_sources (λ m. is_one_of m front ≡ true) n s.syncs parts.0),
          );
    }
