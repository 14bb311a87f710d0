-- What a refusal looks at of a node: its kind, its partner and the labels of the edges out of it. Edits of the tree leave it, but for nodes that they bring or take away.
use Rattle.wsm_commute.proofs.Common.{[], ℕ, ◌++◌, ◌==◌, ◌∙◌, ◌∷◌, ◌≡◌, act, ap, Bool, Card, card_at, card_of, cards_of, cases_Bool, End, eqb, first_node, gate, if◌then◌else◌, inl, inr, lane, Lanes, last_of, List, loop, map, no_lane}
use Rattle.wsm_commute.proofs.Common.{NodeKind, None, nothing, Option, option_map, option_or, Part, part, Parts, refl, SchemaModel, Some, sym}
use Rattle.wsm_schema.specs.{Places.{split_kind, join_kind, part_places, parts_places, lanes_places, places, place, plain_end, labelled, branch_heads, branch_tails, leaving}, declared.places.Place.Place}
use Rattle.wsm_schema.specs.declared.cards.NodeKind.TheVariants.{Start, Finish, Activity, LoopStart, LoopEnd}

pub record Look : Type 0 where
  pub node : ℕ
  pub kind : NodeKind
  pub partner : Option ℕ
  pub labels : List (Option ℕ)

abbrev pub look : ℕ → NodeKind → Option ℕ → List (Option ℕ) → Look
look node kind partner labels = record { node = node; kind = kind; partner = partner; labels = labels }

abbrev pub look_of : Card → Look
look_of c = look c.node c.kind c.partner (map (λ e. e.label) c.outs)

-- what is seen of a node in a schema
abbrev pub seen : ℕ → SchemaModel → Option Look
seen n s = option_map look_of (card_at n (cards_of s))

-- ---- the same by recursion over the tree
abbrev pub look_if : Bool → Look → Option Look
look_if test l = if test then Some l else None

abbrev pub head_labels : Lanes → List (Option ℕ)
head_labels no_lane = []
head_labels (lane code ps ls) = Some code ∷ head_labels ls

abbrev mutual
  pub part_look : ℕ → Part → Option Look
  part_look n (act node) = look_if (node == n) (look node Activity None (None ∷ []))
  part_look n (gate kind split join ls) =
      option_or (look_if (split == n) (look split (split_kind kind) (Some join) (head_labels ls)))
      (option_or (lanes_look n ls) (look_if (join == n) (look join (join_kind kind) (Some split) (None ∷ []))))
  part_look n (loop start end body) =
      option_or (look_if (start == n) (look start LoopStart (Some end) (None ∷ [])))
      (option_or (parts_look n body) (look_if (end == n) (look end LoopEnd (Some start) (None ∷ []))))

  pub parts_look : ℕ → Parts → Option Look
  parts_look n nothing = None
  parts_look n (part p ps) = option_or (part_look n p) (parts_look n ps)

  pub lanes_look : ℕ → Lanes → Option Look
  lanes_look n no_lane = None
  lanes_look n (lane code ps ls) = option_or (parts_look n ps) (lanes_look n ls)

abbrev pub tree_look : ℕ → ℕ → Parts → ℕ → Option Look
tree_look n start body finish =
    option_or (look_if (start == n) (look start Start None (None ∷ [])))
    (option_or (parts_look n body) (look_if (finish == n) (look finish Finish None [])))

-- ---- both are one
abbrev place_look : Place → Look
place_look p = look p.node p.kind p.partner (map (λ e. e.label) p.outs)

abbrev looks : ℕ → List Place → Option Look
looks n [] = None
looks n (p ∷ ps) = option_or (look_if (p.node == n) (place_look p)) (looks n ps)

or-grouped : {X : Type 0} (a b c : Option X) → option_or (option_or a b) c ≡ option_or a (option_or b c)
or-grouped (Some x) b c = refl
or-grouped None b c = refl

pub or-none : {X : Type 0} (a : Option X) → option_or a None ≡ a
or-none (Some x) = refl
or-none None = refl

looks-append : (n : ℕ) (xs ys : List Place) → looks n (xs ++ ys) ≡ option_or (looks n xs) (looks n ys)
looks-append n [] ys = refl
looks-append n (x ∷ xs) ys = ap (option_or (look_if (x.node == n) (place_look x))) (looks-append n xs ys) ∙ sym (or-grouped (look_if (x.node == n) (place_look x)) (looks n xs) (looks n ys))

labels-heads : (ls : Lanes) (join : ℕ) → map (λ e. e.label) (branch_heads ls join) ≡ head_labels ls
labels-heads no_lane join = refl
labels-heads (lane code ps ls) join = ap (λ xs. Some code ∷ xs) (labels-heads ls join)

mutual
  part-looks : (n : ℕ) (p : Part) (from : End) (to : ℕ) → looks n (part_places p from to) ≡ part_look n p
  part-looks n (act node) from to = or-none (look_if (node == n) (look node Activity None (None ∷ [])))
  part-looks n (gate kind split join ls) from to =
      let last = place join (join_kind kind) (Some split) (branch_tails ls split) (plain_end to ∷ []) in
      ap (λ xs. option_or (look_if (split == n) (look split (split_kind kind) (Some join) xs)) (looks n (lanes_places ls split join ++ last ∷ []))) (labels-heads ls join)
      ∙ ap (option_or (look_if (split == n) (look split (split_kind kind) (Some join) (head_labels ls))))
      (looks-append n (lanes_places ls split join) (last ∷ [])
      ∙ ap (λ x. option_or x (looks n (last ∷ []))) (lanes-looks n ls split join)
      ∙ ap (option_or (lanes_look n ls)) (or-none (look_if (join == n) (look join (join_kind kind) (Some split) (None ∷ [])))))
  part-looks n (loop start end body) from to =
      let last = place end LoopEnd (Some start) (leaving body (plain_end start) ∷ []) (plain_end to ∷ []) in
      ap (option_or (look_if (start == n) (look start LoopStart (Some end) (None ∷ []))))
      (looks-append n (parts_places body (plain_end start) end) (last ∷ [])
      ∙ ap (λ x. option_or x (looks n (last ∷ []))) (parts-looks n body (plain_end start) end)
      ∙ ap (option_or (parts_look n body)) (or-none (look_if (end == n) (look end LoopEnd (Some start) (None ∷ [])))))

  parts-looks : (n : ℕ) (ps : Parts) (from : End) (to : ℕ) → looks n (parts_places ps from to) ≡ parts_look n ps
  parts-looks n nothing from to = refl
  parts-looks n (part p ps) from to =
      looks-append n (part_places p from (first_node ps to)) (parts_places ps (plain_end (last_of p)) to)
      ∙ ap (λ x. option_or x (looks n (parts_places ps (plain_end (last_of p)) to))) (part-looks n p from (first_node ps to))
      ∙ ap (option_or (part_look n p)) (parts-looks n ps (plain_end (last_of p)) to)

  lanes-looks : (n : ℕ) (ls : Lanes) (split join : ℕ) → looks n (lanes_places ls split join) ≡ lanes_look n ls
  lanes-looks n no_lane split join = refl
  lanes-looks n (lane code ps ls) split join =
      looks-append n (parts_places ps (labelled split code) join) (lanes_places ls split join)
      ∙ ap (λ x. option_or x (looks n (lanes_places ls split join))) (parts-looks n ps (labelled split code) join)
      ∙ ap (option_or (parts_look n ps)) (lanes-looks n ls split join)

places-looks : (n start : ℕ) (body : Parts) (finish : ℕ) → looks n (places start body finish) ≡ tree_look n start body finish
places-looks n start body finish =
    let last = place finish Finish None (leaving body (plain_end start) ∷ []) [] in
    ap (option_or (look_if (start == n) (look start Start None (None ∷ []))))
    (looks-append n (parts_places body (plain_end start) finish) (last ∷ [])
    ∙ ap (λ x. option_or x (looks n (last ∷ []))) (parts-looks n body (plain_end start) finish)
    ∙ ap (option_or (parts_look n body)) (or-none (look_if (finish == n) (look finish Finish None []))))

found-looks : (n : ℕ) (s : SchemaModel) (ps : List Place) → option_map look_of (card_at n (map (card_of s) ps)) ≡ looks n ps
found-looks n s [] = refl
found-looks n s (p ∷ ps) = elim (cases_Bool (eqb p.node n)) [ inl here ↦ rw here refl | inr other ↦ rw other (found-looks n s ps) ]

pub seen-tree : (n : ℕ) (s : SchemaModel) → seen n s ≡ tree_look n s.start s.body s.finish
seen-tree n s = found-looks n s (places s.start s.body s.finish) ∙ places-looks n s.start s.body s.finish
