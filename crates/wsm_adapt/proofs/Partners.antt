-- A loop's start and its end name each other.
use Rattle.wsm_adapt.proofs.Common.{[], ℕ, ◌++◌, ◌∙◌, ◌∷◌, ◌≡◌, ◌⊎◌, all-rows-card_at, AllRows, ap, Bool, both_ways, Card, card_at, card_at-node, card_of, cards_of, Distinct, End, eq-eqb, eqb, false, inl, inr, is_loop_end, is_loop_start}
use Rattle.wsm_adapt.proofs.Common.{List, map, NodeKind, Option, refl, Regular, rows-append, rows-map, same_Some, SchemaModel, Some, subst, sym, true}
use Rattle.wsm_schema.specs.{Ends.{first_node, last_of}, Places.{join_kind, labelled, lanes_places, part_places, parts_places, places, plain_end, split_kind}, Tree.{Gate, Lanes, Part, Parts, act, and_gate, gate, lane, loop, no_lane}}
use Rattle.wsm_schema.specs.{Tree.{nothing, part, xor_gate}, declared.places.Place.Place}

-- n is a place of that kind, with partner l
abbrev Has : (NodeKind → Bool) → ℕ → ℕ → List Place → Type 0
Has test n l [] = ⊥
Has test n l (p ∷ ps) = ((p.node ≡ n) × (test p.kind ≡ true) × (p.partner ≡ Some l)) ⊎ Has test n l ps

module _ (test : NodeKind → Bool) (n l : ℕ) where
  has-front : (xs ys : List Place) → Has test n l xs → Has test n l (xs ++ ys)
  has-front [] ys h = absurd h
  has-front (x ∷ xs) ys (inl h) = inl h
  has-front (x ∷ xs) ys (inr h) = inr (has-front xs ys h)

  has-behind : (xs ys : List Place) → Has test n l ys → Has test n l (xs ++ ys)
  has-behind [] ys h = h
  has-behind (x ∷ xs) ys h = inr (has-behind xs ys h)

  has-away : (x : ℕ) (ps : List Place) → Has test n l ps → AllRows (λ q. eqb x q.node ≡ false) ps → eqb x n ≡ false
  has-away x [] h away = absurd h
  has-away x (p ∷ ps) (inl h) away = ap (eqb x) (sym h.0) ∙ away.0
  has-away x (p ∷ ps) (inr h) away = has-away x ps h away.1

  has-card : (s : SchemaModel) (ps : List Place) → Has test n l ps → Distinct ps → (c : Card) × (card_at n (map (card_of s) ps) ≡ Some c) × (test c.kind ≡ true) × (c.partner ≡ Some l)
  has-card s [] h distinct = absurd h
  has-card s (p ∷ ps) (inl h) distinct = (card_of s p, rw (eq-eqb p.node n h.0) refl, h.1, h.2)
  has-card s (p ∷ ps) (inr h) distinct =
      let later = has-card s ps h distinct.1 in
      (later.0, rw (has-away p.node ps h distinct.0) later.1, later.2, later.3)

-- the places of a tree are among some
abbrev Among : List Place → List Place → Type 0
Among ps all = (test : NodeKind → Bool) (n l : ℕ) → Has test n l ps → Has test n l all

-- a loop's start or end is named by the one that it names
abbrev StartNamed : List Place → ℕ → NodeKind → Option ℕ → Type 0
StartNamed all node kind partner = is_loop_start kind ≡ true → (e : ℕ) → partner ≡ Some e → Has is_loop_end e node all

abbrev EndNamed : List Place → ℕ → NodeKind → Option ℕ → Type 0
EndNamed all node kind partner = is_loop_end kind ≡ true → (k : ℕ) → partner ≡ Some k → Has is_loop_start k node all

abbrev NamesBack : List Place → Place → Type 0
NamesBack all p = StartNamed all p.node p.kind p.partner × EndNamed all p.node p.kind p.partner

split-back : (all : List Place) (k : Gate) (n : ℕ) (partner : Option ℕ) → StartNamed all n (split_kind k) partner × EndNamed all n (split_kind k) partner
split-back all and_gate n partner = (λ h e q. absurd (both_ways _ refl h), λ h e q. absurd (both_ways _ refl h))
split-back all xor_gate n partner = (λ h e q. absurd (both_ways _ refl h), λ h e q. absurd (both_ways _ refl h))

join-back : (all : List Place) (k : Gate) (n : ℕ) (partner : Option ℕ) → StartNamed all n (join_kind k) partner × EndNamed all n (join_kind k) partner
join-back all and_gate n partner = (λ h e q. absurd (both_ways _ refl h), λ h e q. absurd (both_ways _ refl h))
join-back all xor_gate n partner = (λ h e q. absurd (both_ways _ refl h), λ h e q. absurd (both_ways _ refl h))

mutual
  part-back : (all : List Place) (p : Part) (from : End) (to : ℕ) → Among (part_places p from to) all → AllRows (NamesBack all) (part_places p from to)
  part-back all (act n) from to among = ((λ h e q. absurd (both_ways _ refl h), λ h e q. absurd (both_ways _ refl h)), tt)
  part-back all (gate kind split join ls) from to among =
      (split-back all kind split (Some join), rows-append _ (lanes_places ls split join) _ (lanes-back all ls split join (λ test n l h. among test n l (inr (has-front test n l (lanes_places ls split join) _ h)))) (join-back all kind join (Some split), tt))
  part-back all (loop start end body) from to among = (
    (
      λ h e q. among is_loop_end e start (inr (has-behind is_loop_end e start (parts_places body (plain_end start) end) _ (inl (same_Some end e q, refl, refl)))),
      λ h k q. absurd (both_ways _ refl h),
    ),
    rows-append _ (parts_places body (plain_end start) end) _
        (parts-back all body (plain_end start) end (λ test n l h. among test n l (inr (has-front test n l (parts_places body (plain_end start) end) _ h))))
        ((λ h e q. absurd (both_ways _ refl h), λ h k q. among is_loop_start k end (inl (same_Some start k q, refl, refl))), tt),
  )

  parts-back : (all : List Place) (ps : Parts) (from : End) (to : ℕ) → Among (parts_places ps from to) all → AllRows (NamesBack all) (parts_places ps from to)
  parts-back all nothing from to among = tt
  parts-back all (part p ps) from to among =
      rows-append _ (part_places p from (first_node ps to)) _
      (part-back all p from (first_node ps to) (λ test n l h. among test n l (has-front test n l (part_places p from (first_node ps to)) _ h)))
      (parts-back all ps (plain_end (last_of p)) to (λ test n l h. among test n l (has-behind test n l (part_places p from (first_node ps to)) _ h)))

  lanes-back : (all : List Place) (ls : Lanes) (split join : ℕ) → Among (lanes_places ls split join) all → AllRows (NamesBack all) (lanes_places ls split join)
  lanes-back all no_lane split join among = tt
  lanes-back all (lane code ps ls) split join among =
      rows-append _ (parts_places ps (labelled split code) join) _
      (parts-back all ps (labelled split code) join (λ test n l h. among test n l (has-front test n l (parts_places ps (labelled split code) join) _ h)))
      (lanes-back all ls split join (λ test n l h. among test n l (has-behind test n l (parts_places ps (labelled split code) join) _ h)))

places-back : (all : List Place) (start : ℕ) (body : Parts) (finish : ℕ) → Among (places start body finish) all → AllRows (NamesBack all) (places start body finish)
places-back all start body finish among = (
  (λ h e q. absurd (both_ways _ refl h), λ h e q. absurd (both_ways _ refl h)),
  rows-append _ (parts_places body (plain_end start) finish) _
      (parts-back all body (plain_end start) finish (λ test n l h. among test n l (inr (has-front test n l (parts_places body (plain_end start) finish) _ h))))
      ((λ h e q. absurd (both_ways _ refl h), λ h e q. absurd (both_ways _ refl h)), tt),
)

module _ (s : SchemaModel) (regular : Regular s) where
  abbrev all : List Place
  all = places s.start s.body s.finish

  named : (n : ℕ) (c : Card) → card_at n (cards_of s) ≡ Some c → StartNamed all n c.kind c.partner × EndNamed all n c.kind c.partner
  named n c at =
      subst (λ j. StartNamed all j c.kind c.partner × EndNamed all j c.kind c.partner) (card_at-node n (cards_of s) c at)
      (all-rows-card_at (λ d. StartNamed all d.node d.kind d.partner × EndNamed all d.node d.kind d.partner) n (cards_of s) c (rows-map _ (card_of s) all (places-back all s.start s.body s.finish (λ test k l h. h))) at)

  -- the node that a loop's end names is a start that names it
  pub start-of_end : (n k : ℕ) (c : Card) → card_at n (cards_of s) ≡ Some c → is_loop_end c.kind ≡ true → c.partner ≡ Some k →
      (d : Card) × (card_at k (cards_of s) ≡ Some d) × (is_loop_start d.kind ≡ true) × (d.partner ≡ Some n)
  start-of_end n k c at ends partner = has-card is_loop_start k n s all ((named n c at).1 ends k partner) regular.distinct

  -- and the other way round
  pub end-of_start : (n k : ℕ) (c : Card) → card_at k (cards_of s) ≡ Some c → is_loop_start c.kind ≡ true → c.partner ≡ Some n →
      (d : Card) × (card_at n (cards_of s) ≡ Some d) × (is_loop_end d.kind ≡ true) × (d.partner ≡ Some k)
  end-of_start n k c at starts partner = has-card is_loop_end n k s all ((named k c at).0 starts n partner) regular.distinct
