-- What the lemmas ask of a schema, each a clause of a sound one.
use Rattle.std.specs.Prelude.{◌≡◌, ℕ, true, false, List, [], ◌∷◌, Some, ◌==◌}
use Rattle.wsm_lists.specs.Rows.{AllRows}
use Rattle.wsm_schema.specs.{Tree.{Part, Parts, Lanes, act, gate, loop, nothing, part, no_lane, lane}, SchemaModel.SchemaModel, Places.{places, branch_heads}, Flat.{card_at, cards_of, loop_nodes}, Kinds.is_loop_end, Replay.has_label}
use Rattle.wsm_schema.specs.{Trail.is_one_of, declared.cards.Card.Card, declared.places.Place.Place}

-- no two places have one node
abbrev pub Distinct : List Place → Type 0
Distinct [] = Unit {0}
Distinct (p ∷ ps) = AllRows (λ q. (p.node == q.node) ≡ false) ps × Distinct ps

-- each block has a branch
abbrev mutual
  pub FullPart : Part → Type 0
  FullPart (act n) = Unit {0}
  FullPart (gate kind split join no_lane) = ⊥
  FullPart (gate kind split join (lane code ps ls)) = FullParts ps × FullLanes ls
  FullPart (loop start end body) = FullParts body

  pub FullParts : Parts → Type 0
  FullParts nothing = Unit {0}
  FullParts (part p ps) = FullPart p × FullParts ps

  pub FullLanes : Lanes → Type 0
  FullLanes no_lane = Unit {0}
  FullLanes (lane code ps ls) = FullParts ps × FullLanes ls

-- no two branches of a block have one code
abbrev mutual
  pub ApartPart : Part → Type 0
  ApartPart (act n) = Unit {0}
  ApartPart (gate kind split join ls) = ApartLanes ls join
  ApartPart (loop start end body) = ApartParts body

  pub ApartParts : Parts → Type 0
  ApartParts nothing = Unit {0}
  ApartParts (part p ps) = ApartPart p × ApartParts ps

  pub ApartLanes : Lanes → ℕ → Type 0
  ApartLanes no_lane join = Unit {0}
  ApartLanes (lane code ps ls) join = (has_label code (branch_heads ls join) ≡ false) × (ApartParts ps × ApartLanes ls join)

-- a node of the net
abbrev pub HasCard : List Card → ℕ → Type 0
HasCard cards n = (c : Card) × (card_at n cards ≡ Some c)

-- no sync edge leads into these nodes, out of them, or to l
abbrev pub SyncsApart : List (ℕ × ℕ) → List ℕ → ℕ → Type 0
SyncsApart syncs nodes l = AllRows (λ e. (is_one_of e.0 nodes ≡ is_one_of e.1 nodes) × ((e.1 == l) ≡ false)) syncs

-- what the lemmas ask: distinct nodes, blocks with branches of distinct codes, and sync edges from nodes of the net that stay within a loop
pub record Regular (s : SchemaModel) : Type 0 where
  pub distinct : Distinct (places s.start s.body s.finish)
  pub full : FullParts s.body
  pub apart : ApartParts s.body
  pub sources : AllRows (λ e. HasCard (cards_of s) e.0) s.syncs
  pub loops : (l e : ℕ) (c : Card) → card_at e (cards_of s) ≡ Some c → is_loop_end c.kind ≡ true → c.partner ≡ Some l → SyncsApart s.syncs (loop_nodes (cards_of s) e) l
