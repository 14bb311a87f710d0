-- Where the numbers are distinct and sync edges go upwards, document order is a rank.
use Rattle.wsm_schema.proofs.Common.{[], ℕ, ◌++◌, ◌||◌, ◌∙◌, ◌∷◌, ◌≡◌, act, all-rows-map, AllRows, ap, append-nil, append_assoc, arith, Behind, branch_tails, Card, card_at, card_of, cases_Bool, End, eq-eqb, eqb, false, first_node, gate}
use Rattle.wsm_schema.proofs.Common.{inl, inr, is_one_of, IsRank, labelled, lane, Lanes, lanes_places, last_of, leaving, length, List, loop, map, no_lane, nodes_of, None, nothing, or_left, or_parts, or_right, Part, part, part_places, Parts}
use Rattle.wsm_schema.proofs.Common.{parts_places, Place, place, places, plain_end, refl, SchemaModel, Some, subst, suc, sym, true, twice}

-- ---- members
pub one_of-append : (n : ℕ) (xs ys : List ℕ) → is_one_of n (xs ++ ys) ≡ (is_one_of n xs || is_one_of n ys)
one_of-append n [] ys = refl
one_of-append n (x ∷ xs) ys =
    elim (cases_Bool (eqb x n)) [
      | inl same ↦ rw same refl
      | inr other ↦ rw other (one_of-append n xs ys)
    ]

one_of-left : (n : ℕ) (xs ys : List ℕ) → is_one_of n xs ≡ true → is_one_of n (xs ++ ys) ≡ true
one_of-left n xs ys h = one_of-append n xs ys ∙ or_left _ _ h

one_of-right : (n : ℕ) (xs ys : List ℕ) → is_one_of n ys ≡ true → is_one_of n (xs ++ ys) ≡ true
one_of-right n xs ys h = one_of-append n xs ys ∙ or_right _ _ h

one_of-here : (n : ℕ) (xs : List ℕ) → is_one_of n (n ∷ xs) ≡ true
one_of-here n xs = rw (eq-eqb n n refl) refl

-- ---- places
abbrev nodes : List Place → List ℕ
nodes ps = map (λ p. p.node) ps

nodes-append : (xs ys : List Place) → nodes (xs ++ ys) ≡ nodes xs ++ nodes ys
nodes-append [] ys = refl
nodes-append (x ∷ xs) ys = ap (λ ns. x.node ∷ ns) (nodes-append xs ys)

abbrev After : List ℕ → List Place → Type 0
After seen [] = Unit {0}
After seen (p ∷ ps) = AllRows (λ e. is_one_of e.node seen ≡ true) p.ins × After (seen ++ (p.node ∷ [])) ps

After-append : (seen : List ℕ) (xs ys : List Place) → After seen xs → After (seen ++ nodes xs) ys → After seen (xs ++ ys)
After-append seen [] ys p q = subst (λ s. After s ys) (append-nil seen) q
After-append seen (x ∷ xs) ys p q =
    (p.0, After-append (seen ++ (x.node ∷ [])) xs ys p.1 (subst (λ s. After s ys) (sym (append_assoc seen (x.node ∷ []) (nodes xs))) q))

-- the node that leaves the parts is among them, or the one that enters them
last-among : (p : Part) (from : End) (to : ℕ) → is_one_of (last_of p) (nodes (part_places p from to)) ≡ true
last-among (act n) from to = one_of-here n []
last-among (gate kind split join ls) from to =
    one_of-right join (split ∷ []) (nodes (lanes_places ls split join ++ place join _ _ _ _ ∷ []))
    (ap (is_one_of join) (nodes-append (lanes_places ls split join) _) ∙ one_of-right join (nodes (lanes_places ls split join)) (join ∷ []) (one_of-here join []))
last-among (loop start end body) from to =
    one_of-right end (start ∷ []) (nodes (parts_places body (plain_end start) end ++ place end _ _ _ _ ∷ []))
    (ap (is_one_of end) (nodes-append (parts_places body (plain_end start) end) _) ∙ one_of-right end (nodes (parts_places body (plain_end start) end)) (end ∷ []) (one_of-here end []))

leaving-among : (seen : List ℕ) (ps : Parts) (from : End) (to : ℕ) → is_one_of from.node seen ≡ true → is_one_of (leaving ps from).node (seen ++ nodes (parts_places ps from to)) ≡ true
leaving-among seen nothing from to h = one_of-left from.node seen [] h
leaving-among seen (part p ps) from to h =
    let one = part_places p from (first_node ps to) in
    let others = parts_places ps (plain_end (last_of p)) to in
    let here : is_one_of (last_of p) (seen ++ nodes one) ≡ true = one_of-right (last_of p) seen (nodes one) (last-among p from (first_node ps to)) in
    ap (λ ns. is_one_of (leaving ps (plain_end (last_of p))).node (seen ++ ns)) (nodes-append one others)
    ∙ ap (is_one_of (leaving ps (plain_end (last_of p))).node) (sym (append_assoc seen (nodes one) (nodes others)))
    ∙ leaving-among (seen ++ nodes one) ps (plain_end (last_of p)) to here

tails-among : (seen : List ℕ) (ls : Lanes) (split join : ℕ) → is_one_of split seen ≡ true → AllRows (λ e. is_one_of e.node (seen ++ nodes (lanes_places ls split join)) ≡ true) (branch_tails ls split)
tails-among seen no_lane split join h = tt
tails-among seen (lane code ps ls) split join h =
    let one = parts_places ps (labelled split code) join in
    let others = lanes_places ls split join in
    let spread : (n : ℕ) → is_one_of n (seen ++ nodes (one ++ others)) ≡ is_one_of n ((seen ++ nodes one) ++ nodes others) =
    λ n. ap (λ ns. is_one_of n (seen ++ ns)) (nodes-append one others) ∙ ap (is_one_of n) (sym (append_assoc seen (nodes one) (nodes others))) in (
      spread _ ∙ one_of-left _ (seen ++ nodes one) (nodes others) (leaving-among seen ps (labelled split code) join h),
      all-rows-map _ _ (λ e q. spread e.node ∙ q) (branch_tails ls split) (tails-among (seen ++ nodes one) ls split join (one_of-left split seen (nodes one) h)),
    )

mutual
  part-after : (p : Part) (seen : List ℕ) (from : End) (to : ℕ) → is_one_of from.node seen ≡ true → After seen (part_places p from to)
  part-after (act n) seen from to h = ((h, tt), tt)
  part-after (gate kind split join ls) seen from to h =
      let now : List ℕ = seen ++ (split ∷ []) in
      let here : is_one_of split now ≡ true = one_of-right split seen (split ∷ []) (one_of-here split []) in
      ((h, tt), After-append now (lanes_places ls split join) _ (lanes-after ls now split join here) (tails-among now ls split join here, tt))
  part-after (loop start end body) seen from to h =
      let now : List ℕ = seen ++ (start ∷ []) in
      let here : is_one_of start now ≡ true = one_of-right start seen (start ∷ []) (one_of-here start []) in
      ((h, tt), After-append now (parts_places body (plain_end start) end) _ (parts-after body now (plain_end start) end here) ((leaving-among now body (plain_end start) end here, tt), tt))

  parts-after : (ps : Parts) (seen : List ℕ) (from : End) (to : ℕ) → is_one_of from.node seen ≡ true → After seen (parts_places ps from to)
  parts-after nothing seen from to h = tt
  parts-after (part p ps) seen from to h =
      let one = part_places p from (first_node ps to) in
      After-append seen one _ (part-after p seen from (first_node ps to) h)
      (parts-after ps (seen ++ nodes one) (plain_end (last_of p)) to (one_of-right (last_of p) seen (nodes one) (last-among p from (first_node ps to))))

  lanes-after : (ls : Lanes) (seen : List ℕ) (split join : ℕ) → is_one_of split seen ≡ true → After seen (lanes_places ls split join)
  lanes-after no_lane seen split join h = tt
  lanes-after (lane code ps ls) seen split join h =
      let one = parts_places ps (labelled split code) join in
      After-append seen one _ (parts-after ps seen (labelled split code) join h)
      (lanes-after ls (seen ++ nodes one) split join (one_of-left split seen (nodes one) h))

pub places-after : (start : ℕ) (body : Parts) (finish : ℕ) → After [] (places start body finish)
places-after start body finish =
    let here : is_one_of start (start ∷ []) ≡ true = one_of-here start [] in (
      tt,
      After-append (start ∷ []) (parts_places body (plain_end start) finish) _ (parts-after body (start ∷ []) (plain_end start) finish here)
          ((leaving-among (start ∷ []) body (plain_end start) finish here, tt), tt),
    )

-- ---- cards
abbrev pub SyncsBehind : List ℕ → List Card → Type 0
SyncsBehind seen [] = Unit {0}
SyncsBehind seen (c ∷ cs) = AllRows (λ m. is_one_of m seen ≡ true) c.syncs_in × SyncsBehind (seen ++ (c.node ∷ [])) cs

pub cards-behind : (s : SchemaModel) (seen : List ℕ) (ps : List Place) → After seen ps → SyncsBehind seen (map (card_of s) ps) → Behind seen (map (card_of s) ps)
cards-behind s seen [] h k = tt
cards-behind s seen (p ∷ ps) h k = ((h.0, k.0), cards-behind s (seen ++ (p.node ∷ [])) ps h.1 k.1)

-- distinct numbers
pub twice-once : (seen ns front rest : List ℕ) (n : ℕ) → twice seen ns ≡ None → ns ≡ front ++ (n ∷ rest) → (is_one_of n front ≡ false) × (is_one_of n seen ≡ false)
twice-once seen [] [] rest n h e = absurd (cc)
twice-once seen [] (f ∷ front) rest n h e = absurd (cc)
twice-once seen (m ∷ ms) [] rest n h e =
    let same : m ≡ n = cc in (
      refl,
      elim (cases_Bool (is_one_of m seen)) [
        | inl old ↦ absurd (let bad : Some m ≡ None = rw old at h in cc)
        | inr new ↦ subst (λ x. is_one_of x seen ≡ false) same new
      ],
    )
twice-once seen (m ∷ ms) (f ∷ front) rest n h e =
    let same : m ≡ f = cc in
    let tail : ms ≡ front ++ (n ∷ rest) = cc in
    elim (cases_Bool (is_one_of m seen)) [
      | inl old ↦ absurd (let bad : Some m ≡ None = rw old at h in cc)
      | inr new ↦
          let later = twice-once (m ∷ seen) ms front rest n (rw new at h) tail in
          let parts = or_parts (eqb m n) (is_one_of n seen) later.1 in
          (ap (λ x. eqb x n || is_one_of n front) (sym same) ∙ rw (parts.0) later.0, parts.1)
    ]

-- the card at a split of the numbers
card-at-split : (seen : List ℕ) (cards : List Card) (front rest : List ℕ) (n : ℕ) (c : Card) → Behind seen cards → nodes_of cards ≡ front ++ (n ∷ rest) →
    is_one_of n front ≡ false → card_at n cards ≡ Some c →
    AllRows (λ e. is_one_of e.node (seen ++ front) ≡ true) c.ins × AllRows (λ m. is_one_of m (seen ++ front) ≡ true) c.syncs_in
card-at-split seen [] [] rest n c h e once found = absurd (cc)
card-at-split seen [] (f ∷ front) rest n c h e once found = absurd (cc)
card-at-split seen (d ∷ ds) [] rest n c h e once found =
    let here : d.node ≡ n = cc in
    let p : Some d ≡ Some c = rw (eq-eqb d.node n here) at found in
    let q : d ≡ c = cc in
    rw append-nil (subst (λ x. AllRows (λ e. is_one_of e.node seen ≡ true) x.ins × AllRows (λ m. is_one_of m seen ≡ true) x.syncs_in) q h.0)
card-at-split seen (d ∷ ds) (f ∷ front) rest n c h e once found =
    let first : d.node ≡ f = cc in
    let tail : nodes_of ds ≡ front ++ (n ∷ rest) = cc in
    let parts = or_parts (eqb f n) (is_one_of n front) once in
    let away : eqb d.node n ≡ false = ap (λ x. eqb x n) first ∙ parts.0 in
    let later = card-at-split (seen ++ (d.node ∷ [])) ds front rest n c h.1 tail parts.1 (rw away at found) in
    let same : (seen ++ (d.node ∷ [])) ++ front ≡ seen ++ (f ∷ front) = append_assoc seen (d.node ∷ []) front ∙ ap (λ x. seen ++ (x ∷ front)) first in
    subst (λ s. AllRows (λ e. is_one_of e.node s ≡ true) c.ins × AllRows (λ m. is_one_of m s ≡ true) c.syncs_in) same later

all-there : (cards : List Card) → AllRows (λ c. is_one_of c.node (nodes_of cards) ≡ true) cards
all-there [] = tt
all-there (c ∷ cs) =
    (one_of-here c.node (nodes_of cs), all-rows-map _ _ (λ d h. one_of-right d.node (c.node ∷ []) (nodes_of cs) h) cs (all-there cs))

length-nodes : (cards : List Card) → length (nodes_of cards) ≡ length cards
length-nodes [] = refl
length-nodes (c ∷ cs) = ap suc (length-nodes cs)

pub document-order : (cards : List Card) → twice [] (nodes_of cards) ≡ None → Behind [] cards → IsRank cards (nodes_of cards)
document-order cards distinct behind = record {
  size = omega (arith, length-nodes cards);
  all = all-there cards;
  once = λ front rest n e. (twice-once [] (nodes_of cards) front rest n distinct e).0;
  behind = λ front rest n c e found. card-at-split [] cards front rest n c behind e (twice-once [] (nodes_of cards) front rest n distinct e).0 found;
}
