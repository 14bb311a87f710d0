-- A front of the sync edges that has an order closes no cycle, and what the test of an order says.
use Rattle.wsm_block.proofs.Common.{[], ℕ, ◌&&◌, ◌++◌, ◌+◌, ◌-◌, ◌<◌, ◌∙◌, ◌∷◌, ◌≡◌, ◌≤◌, all-rows-map, AllRows, and_parts, ap, append_assoc, arith, Bool, both_ways, Card, cases_Bool, control_edges, cycle_in, drop, Edges, eqb, eqb-true}
use Rattle.wsm_block.proofs.Common.{false, get_or, height_in, inl, inr, is_one_of, is_some, IsOrder, leads, length, length-map, List, list_all, ltb-true, nat_lt, nodes_of, None, onto_seen, Option, refl, SameNodes, Some, subst, sym}
use Rattle.wsm_block.proofs.{Common.{sync_cycle, take, take-append-drop, true, twice}, Forward.order-rises, Growing.onto-next, Ranks.{onto-rows, rises-ordered, twice-Once}, Upwards.{Rises, leads-up}}

-- where the edges go upwards, and those of the front too, the first cycle is closed behind the front
pub skipped : (height : ℕ → ℕ) (n : ℕ) (edges front rest : Edges) → AllRows (Rises height) edges → AllRows (Rises height) front →
    sync_cycle n edges (front ++ rest) ≡ sync_cycle n (onto_seen front edges) rest
skipped height n edges [] rest up ups = refl
skipped height n edges (s ∷ ss) rest up ups =
    elim (cases_Bool (leads edges n s.1 s.0)) [
      | inl way ↦ absurd (let back : height s.1 ≤ height s.0 = leads-up height edges up n s.1 s.0 way in let step : height s.0 < height s.1 = ups.0 in omega (arith, back, step))
      | inr no_way ↦ rw no_way (skipped height n (s ∷ edges) ss rest (ups.0, up) ups.1)
    ]

pub skipped-by_order : (n : ℕ) (edges front rest : Edges) (rank : List ℕ) → IsOrder (onto_seen front edges) rank → sync_cycle n edges (front ++ rest) ≡ sync_cycle n (onto_seen front edges) rest
skipped-by_order n edges front rest rank order =
    let parts = onto-rows (Rises (height_in rank)) front edges (order-rises (onto_seen front edges) rank order) in
    skipped (height_in rank) n edges front rest parts.1 parts.0

pub onto-append : {X : Type 0} (xs ys seen : List X) → onto_seen (xs ++ ys) seen ≡ onto_seen ys (onto_seen xs seen)
onto-append [] ys seen = refl
onto-append (x ∷ xs) ys seen = onto-append xs ys (x ∷ seen)

-- ---- the test
pub none-of : {X : Type 0} (o : Option X) → is_some o ≡ false → o ≡ None
none-of None h = refl
none-of (Some x) h = absurd (both_ways true h refl)

rows-by_test : {X : Type 0} (p : X → Bool) (xs : List X) → list_all p xs ≡ true → AllRows (λ x. p x ≡ true) xs
rows-by_test p [] h = tt
rows-by_test p (x ∷ xs) h = let parts = and_parts (p x) (list_all p xs) h in (parts.0, rows-by_test p xs parts.1)

rows-onto : {X : Type 0} (Q : X → Type 0) (xs ys : List X) → AllRows Q xs → AllRows Q ys → AllRows Q (onto_seen xs ys)
rows-onto Q [] ys h k = k
rows-onto Q (x ∷ xs) ys h k = rows-onto Q xs (x ∷ ys) h.1 (h.0, k)

inside : (ns ms : List ℕ) → list_all (λ n. is_one_of n ms) ns ≡ true → (n : ℕ) → is_one_of n ns ≡ true → is_one_of n ms ≡ true
inside [] ms h n one = absurd (both_ways _ refl one)
inside (x ∷ xs) ms h n one =
    let parts = and_parts (is_one_of x ms) (list_all (λ m. is_one_of m ms) xs) h in
    elim (cases_Bool (eqb x n)) [
      | inl same ↦ ap (λ m. is_one_of m ms) (sym (eqb-true x n same)) ∙ parts.0
      | inr other ↦ inside xs ms parts.1 n (rw other at one)
    ]

all-nodes : (ns : List ℕ) (cards : List Card) → list_all (λ c. is_one_of c.node ns) cards ≡ list_all (λ n. is_one_of n ns) (nodes_of cards)
all-nodes ns [] = refl
all-nodes ns (c ∷ cs) = ap (λ rest. is_one_of c.node ns && rest) (all-nodes ns cs)

both-same : (a b : Bool) → (a ≡ true → b ≡ true) → (b ≡ true → a ≡ true) → a ≡ b
both-same true b f g = sym (f refl)
both-same false true f g = g refl
both-same false false f g = refl

pub tested-same : (ns : List ℕ) (cards : List Card) → length ns ≡ length cards → list_all (λ n. is_one_of n (nodes_of cards)) ns ≡ true → list_all (λ c. is_one_of c.node ns) cards ≡ true →
    SameNodes ns (nodes_of cards)
tested-same ns cards size one other = record {
  size = size ∙ sym (length-map cards (λ c. c.node));
  members = λ n. both-same _ _ (inside ns (nodes_of cards) one n) (inside (nodes_of cards) ns (sym (all-nodes ns cards) ∙ other) n);
}

pub tested-order : (edges front : Edges) (rank : List ℕ) → twice [] rank ≡ None →
    list_all (λ e. nat_lt (height_in rank e.0) (height_in rank e.1) && is_one_of e.1 rank) edges ≡ true →
    list_all (λ e. nat_lt (height_in rank e.0) (height_in rank e.1) && is_one_of e.1 rank) front ≡ true → IsOrder (onto_seen front edges) rank
tested-order edges front rank distinct up ups =
    let all = rows-onto (λ (e : ℕ × ℕ). (nat_lt (height_in rank e.0) (height_in rank e.1) && is_one_of e.1 rank) ≡ true) front edges (rows-by_test _ front ups) (rows-by_test _ edges up) in
    let once = twice-Once [] rank distinct in
    record {
      ordered = rises-ordered (onto_seen front edges) rank
          (all-rows-map _ _ (λ e h. ltb-true _ _ (and_parts (nat_lt (height_in rank e.0) (height_in rank e.1)) (is_one_of e.1 rank) h).0) (onto_seen front edges) all) once;
      once = once;
      ends = all-rows-map _ _ (λ e h. (and_parts (nat_lt (height_in rank e.0) (height_in rank e.1)) (is_one_of e.1 rank) h).1) (onto_seen front edges) all;
    }

-- ---- a front and the rest
module _ (cards : List Card) (syncs edges rest : Edges) (k : ℕ) (nodes : List ℕ) (is : edges ≡ onto_seen (take k syncs) (control_edges cards)) (behind : rest ≡ drop k syncs) where
  pub rest-onto : onto_seen rest edges ≡ onto_seen syncs (control_edges cards)
  rest-onto =
      ap (onto_seen rest) is ∙ ap (λ es. onto_seen es (onto_seen (take k syncs) (control_edges cards))) behind
      ∙ sym (onto-append (take k syncs) (drop k syncs) (control_edges cards)) ∙ ap (λ es. onto_seen es (control_edges cards)) (take-append-drop k syncs)

  pub rest-cycle : IsOrder edges nodes → SameNodes nodes (nodes_of cards) → sync_cycle (length nodes) edges rest ≡ cycle_in cards syncs
  rest-cycle order same =
      ap (λ n. sync_cycle n edges rest) (same.size ∙ length-map cards (λ c. c.node)) ∙ ap (λ es. sync_cycle (length cards) es rest) is
      ∙ ap (sync_cycle (length cards) (onto_seen (take k syncs) (control_edges cards))) behind
      ∙ sym (skipped-by_order (length cards) (control_edges cards) (take k syncs) (drop k syncs) nodes (subst (λ es. IsOrder es nodes) is order))
      ∙ ap (sync_cycle (length cards) (control_edges cards)) (take-append-drop k syncs)

-- the last of a front is put first
pub onto-earlier : (front edges before : Edges) (i : ℕ) (d : ℕ × ℕ) → i < length front →
    (before ++ get_or front (length front - 1 - i) d ∷ []) ++ onto_seen (take (length front - (i + 1)) front) edges ≡ before ++ onto_seen (take (length front - i) front) edges
onto-earlier front edges before i d lt =
    let k : ℕ = length front - 1 - i in
    let less : length front - (i + 1) ≡ k = omega arith in
    let more : length front - i ≡ k + 1 = omega (arith, lt) in
    append_assoc before (get_or front k d ∷ []) (onto_seen (take (length front - (i + 1)) front) edges)
    ∙ ap (λ j. before ++ get_or front k d ∷ onto_seen (take j front) edges) less
    ∙ ap (λ es. before ++ es) (sym (onto-next front edges k d (omega (arith, lt))))
    ∙ ap (λ j. before ++ onto_seen (take j front) edges) (sym more)
