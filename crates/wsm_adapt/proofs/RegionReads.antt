-- The nodes whose marks may be read, and how many they are.
use Rattle.wsm_adapt.proofs.Common.{[], ℕ, ◌++◌, ◌+◌, ◌∙◌, ◌∷◌, ◌≡◌, all-rows-map, AllAmong, AllRows, ap, arith, Bool, both_rows, Card, card_at, card_at-node, cards_of, cases_Bool, Covered, End, end_node, eq-eqb, eqb, false, gone_of}
use Rattle.wsm_adapt.proofs.Common.{HasCard, if◌then◌else◌, inl, inr, is_one_of, is_reached, is_some, length-append, List, None, one_of-front, Option, own, reached-keeps, refl, Regular, same_Some, SchemaModel, Some, sources-have_cards}
use Rattle.wsm_adapt.proofs.{Common.{SourcesAmong, subst, sym, true, unknown_in}, Filtered.{filtered, rows-of}}
use Rattle.std.specs.Prelude.{length, not}
use Rattle.wsm_adapt.specs.Bounds.{others_in, region_reads}

one_of-behind : (k : ℕ) (xs ys : List ℕ) → is_one_of k ys ≡ true → is_one_of k (xs ++ ys) ≡ true
one_of-behind k [] ys among = among
one_of-behind k (x ∷ xs) ys among = elim (cases_Bool (eqb x k)) [ inl same ↦ rw same refl | inr away ↦ rw away (one_of-behind k xs ys among) ]

module _ (inside : ℕ → Bool) where
  -- those of some nodes that are not inside
  abbrev pub others : {X : Type 0} → (X → ℕ) → List X → List ℕ
  others node [] = []
  others node (x ∷ xs) = if inside (node x) then others node xs else node x ∷ others node xs

  others-length : {X : Type 0} (node : X → ℕ) (xs : List X) → length (others node xs) ≡ others_in inside node xs
  others-length node [] = refl
  others-length node (x ∷ xs) =
      let rest = others-length node xs in
      elim (cases_Bool (inside (node x))) [ inl it ↦ rw it (omega (arith, rest)) | inr out ↦ rw out (omega (arith, rest)) ]

  others-all : {X : Type 0} (node : X → ℕ) (xs : List X) → AllRows (λ x. inside (node x) ≡ false → is_one_of (node x) (others node xs) ≡ true) xs
  others-all node [] = tt
  others-all node (x ∷ xs) = (
    (λ out. rw (out, eq-eqb (node x) (node x) refl) refl),
    all-rows-map _ _ (λ y rest out. later (node y) (rest out)) xs (others-all node xs),
  )
    where
      later : (n : ℕ) → is_one_of n (others node xs) ≡ true → is_one_of n (others node (x ∷ xs)) ≡ true
      later n among =
          elim (cases_Bool (inside (node x))) [
            | inl it ↦ rw it among
            | inr out ↦ rw out (elim (cases_Bool (eqb (node x) n)) [ inl same ↦ rw same refl | inr away ↦ rw away among ])
          ]

  -- what is read for one card, and for all that are inside
  abbrev card_nodes : Card → List ℕ
  card_nodes c = if inside c.node then c.node ∷ (others end_node c.ins ++ others own c.syncs_in) else []

  abbrev pub read_nodes : List Card → List ℕ
  read_nodes [] = []
  read_nodes (c ∷ cs) = card_nodes c ++ read_nodes cs

  nodes-length : (cards : List Card) → length (read_nodes cards) ≡ region_reads inside cards
  nodes-length [] = refl
  nodes-length (c ∷ cs) =
      let rest = nodes-length cs in
      let both = length-append (card_nodes c) (read_nodes cs) in
      let own_part : length (card_nodes c) ≡ (if inside c.node then 1 + (others_in inside end_node c.ins + others_in inside own c.syncs_in) else 0) =
      elim (cases_Bool (inside c.node)) [
        | inr out ↦ rw out refl
        | inl it ↦
            let ends = others-length end_node c.ins in
            let syncs = others-length own c.syncs_in in
            let all = length-append (others end_node c.ins) (others own c.syncs_in) in
            rw it (omega (arith, ends, syncs, all))
      ] in
      omega (arith, rest, both, own_part)

  -- a card's are among them
  card-among : (n k : ℕ) (cards : List Card) (c : Card) → card_at n cards ≡ Some c → is_one_of k (card_nodes c) ≡ true → is_one_of k (read_nodes cards) ≡ true
  card-among n k [] c at among = absurd (let q : None ≡ Some c = at in cc)
  card-among n k (b ∷ bs) c at among =
      elim (cases_Bool (eqb b.node n)) [
        | inl same ↦ one_of-front k (card_nodes b) (read_nodes bs) (subst (λ x. is_one_of k (card_nodes x) ≡ true) (sym (same_Some b c (rw same at at))) among)
        | inr away ↦ one_of-behind k (card_nodes b) (read_nodes bs) (card-among n k bs c (rw away at at) among)
      ]

module _ (s : SchemaModel) (regular : Regular s) (rank : List ℕ) (touched : List ℕ) where
  abbrev Inside : ℕ → Bool
  Inside n = is_reached (cards_of s) rank touched n

  -- all that may be read
  abbrev pub all_read : List ℕ
  all_read = gone_of (cards_of s) touched ++ read_nodes Inside (cards_of s)

  own-read : (n : ℕ) (c : Card) → card_at n (cards_of s) ≡ Some c → Inside n ≡ true → is_one_of n all_read ≡ true
  own-read n c at it =
      let node = card_at-node n (cards_of s) c at in
      let here : is_one_of n (card_nodes Inside c) ≡ true = rw (ap Inside node ∙ it) (rw (eq-eqb c.node n node) refl) in
      one_of-behind n (gone_of (cards_of s) touched) (read_nodes Inside (cards_of s)) (card-among Inside n n (cards_of s) c at here)

  source-read : {X : Type 0} (node : X → ℕ) (xs : List X) → AllRows (λ x. HasCard (cards_of s) (node x)) xs → AllRows (λ x. Inside (node x) ≡ false → is_one_of (node x) all_read ≡ true) xs → AllAmong all_read node xs
  source-read node xs carded outside =
      both_rows _ _ _ (λ x has out. elim (cases_Bool (Inside (node x))) [ inl it ↦ own-read (node x) has.0 has.1 it | inr away ↦ out away ]) xs carded outside

  sources-read : (n : ℕ) (c : Card) → card_at n (cards_of s) ≡ Some c → Inside n ≡ true → SourcesAmong all_read c
  sources-read n c at it =
      let carded = sources-have_cards s regular n c at in (
        source-read end_node c.ins carded.0 (all-rows-map (λ (x : End). Inside x.node ≡ false → is_one_of x.node (others Inside end_node c.ins) ≡ true) (λ (x : End). Inside x.node ≡ false → is_one_of x.node all_read ≡ true) (λ x there out. among x.node (one_of-front x.node (others Inside end_node c.ins) (others Inside own c.syncs_in) (there out))) c.ins (others-all Inside end_node c.ins)),
        source-read own c.syncs_in carded.1 (all-rows-map (λ (x : ℕ). Inside x ≡ false → is_one_of x (others Inside own c.syncs_in) ≡ true) (λ (x : ℕ). Inside x ≡ false → is_one_of x all_read ≡ true) (λ x there out. among x (one_of-behind x (others Inside end_node c.ins) (others Inside own c.syncs_in) (there out))) c.syncs_in (others-all Inside own c.syncs_in)),
      )
    where
      among : (k : ℕ) → is_one_of k (others Inside end_node c.ins ++ others Inside own c.syncs_in) ≡ true → is_one_of k all_read ≡ true
      among k there =
          one_of-behind k (gone_of (cards_of s) touched) (read_nodes Inside (cards_of s))
          (card-among Inside n k (cards_of s) c at (rw (ap Inside (card_at-node n (cards_of s) c at) ∙ it) (elim (cases_Bool (eqb c.node k)) [ inl same ↦ rw same refl | inr away ↦ rw away there ])))

  pub read-covered : Covered (cards_of s) Inside all_read
  read-covered = record { own = own-read; sources = sources-read }

  -- touched nodes are among them
  pub touched-read : AllAmong all_read own touched
  touched-read = rows-of (λ n. is_one_of n all_read ≡ true) touched (λ n seed. one n seed (card_at n (cards_of s)) refl)
    where
      one : (n : ℕ) → is_one_of n touched ≡ true → (o : Option Card) → card_at n (cards_of s) ≡ o → is_one_of n all_read ≡ true
      one n seed None at = one_of-front n (gone_of (cards_of s) touched) (read_nodes Inside (cards_of s)) (filtered (λ k. not (is_some (card_at k (cards_of s)))) touched n seed (ap (λ o. not (is_some o)) at))
      one n seed (Some c) at = own-read n c at (reached-keeps (cards_of s) rank touched n seed)

  pub read-length : length all_read ≡ length (gone_of (cards_of s) touched) + region_reads Inside (cards_of s)
  read-length = length-append (gone_of (cards_of s) touched) (read_nodes Inside (cards_of s)) ∙ ap (λ x. length (gone_of (cards_of s) touched) + x) (nodes-length Inside (cards_of s))

-- nothing is known at first
pub unknown-none : (ns : List ℕ) → unknown_in [] ns ≡ length ns
unknown-none [] = refl
unknown-none (n ∷ ns) = let rest = unknown-none ns in omega (arith, rest)
