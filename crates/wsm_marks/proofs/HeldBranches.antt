-- Two nodes that are ready and not ended stand in different branches of an AND block.
use Rattle.wsm_marks.proofs.Common.{[], ℕ, ◌&&◌, ◌||◌, ◌∙◌, ◌∷◌, ◌≡◌, ◌⊎◌, act, all-rows-card_at, all-rows-map, AllRows, and_from, and_gate, and_parts, ap, ApartLanes, ApartPart, ApartParts, Bool, both_ways, branch_heads, branch_tails}
use Rattle.wsm_marks.proofs.Common.{Card, card_at, card_at-node, card_of, cards_of, cases_Bool, End, eq-eqb, eqb, eqb-true, Facts, false, first_node, flow, FullLanes, FullPart, FullParts, Gate, gate, has_label, inl, inr, is_yes, join_kind}
use Rattle.wsm_marks.proofs.Common.{labelled, lane, Lanes, lanes_apart, lanes_have, lanes_places, last_of, leaving, loop, Marking, no_lane, None, nothing, or_cases, Part, part, part_apart, part_has, part_places, Parts, parts_apart}
use Rattle.wsm_marks.proofs.{Common.{parts_have, parts_places, place, places, plain_end, refl, Regular, rows-append, rows-map, rows-parts, same_Some, SchemaModel, Solves, Some, subst, sym, true, xor_gate}, BlockFlow.{Sane, node-one, sig}}
use Rattle.wsm_marks.proofs.{BlockFlow.sig-is, HeldInside.{Held, held-at, join-silent, lanes-entered, no_true, none-flows, parts-entered, parts-nodes, parts-stay, part-stays, sig-chosen, silent-free}}
use Rattle.wsm_schema.specs.declared.cards.NodeKind.TheVariants as kind

-- two numbers that a third one is
two_same : (a b k : ℕ) → eqb a b ≡ false → eqb k a ≡ true → eqb k b ≡ true → ⊥
two_same a b k other x y = both_ways _ other (eq-eqb a b (sym (eqb-true k a x) ∙ eqb-true k b y))

both-true : (x y z : Bool) → y ≡ true → z ≡ true → (x && y && z) ≡ x
both-true true y z h k = and_from y z h k
both-true false y z h k = refl

module _ (s : SchemaModel) (f : Facts) (m : Marking) (solves : Solves (cards_of s) f m) where
  -- what is asked of two nodes: both are held, and they are not one
  record Pair (a b : ℕ) : Type 0 where
    first : Held s f m a
    second : Held s f m b
    other : eqb a b ≡ false

  -- a held node of a block is its split or stands in a branch
  in_block : (g : Gate) (split join : ℕ) (ls : Lanes) (to n : ℕ) → Sane s f m (place join (join_kind g) (Some split) (branch_tails ls split) (plain_end to ∷ [])) → Held s f m n →
      part_has (gate g split join ls) n ≡ true → (eqb split n ≡ true) ⊎ (lanes_have ls n ≡ true)
  in_block g split join ls to n sane held has =
      elim (or_cases (eqb split n || eqb join n) (lanes_have ls n) has) [
        | inl ends ↦
            elim (or_cases (eqb split n) (eqb join n) ends) [
              | inl at_split ↦ inl at_split
              | inr at_join ↦ absurd (silent-free s f m join (join_kind g) (Some split) (branch_tails ls split) (plain_end to ∷ []) sane (join-silent g) (held-at s f m join n at_join held))
            ]
        | inr inside ↦ inr inside
      ]

  -- where the split is held, no node of a branch is
  split-alone : (ls : Lanes) (split join a b : ℕ) → FullLanes ls → AllRows (Sane s f m) (lanes_places ls split join) → Held s f m a → Held s f m b → eqb split a ≡ true → lanes_have ls b ≡ true → ⊥
  split-alone ls split join a b full sane held_a held_b same inside =
      let taken = lanes-entered s f m solves ls split join b full sane inside held_b.ready in
      no_true _ ((held-at s f m split a same held_a).silent (Some taken.0)) taken.1

  -- two held nodes of a block both stand in branches
  both-inside : (g : Gate) (split join : ℕ) (ls : Lanes) (to a b : ℕ) → FullLanes ls → AllRows (Sane s f m) (lanes_places ls split join) → Sane s f m (place join (join_kind g) (Some split) (branch_tails ls split) (plain_end to ∷ [])) →
      Pair a b → part_has (gate g split join ls) a ≡ true → part_has (gate g split join ls) b ≡ true → (lanes_have ls a ≡ true) × (lanes_have ls b ≡ true)
  both-inside g split join ls to a b full sane at_join pair has_a has_b =
      elim (in_block g split join ls to a at_join pair.first has_a) [
        | inl a_split ↦
            elim (in_block g split join ls to b at_join pair.second has_b) [
              | inl b_split ↦ absurd (two_same a b split pair.other a_split b_split)
              | inr b_in ↦ absurd (split-alone ls split join a b full sane pair.first pair.second a_split b_in)
            ]
        | inr a_in ↦
            elim (in_block g split join ls to b at_join pair.second has_b) [
              | inl b_split ↦ absurd (split-alone ls split join b a full sane pair.second pair.first b_split a_in)
              | inr b_in ↦ (a_in, b_in)
            ]
      ]

  -- a held node of a loop is its end or stands in its body
  in_loop : (start end : ℕ) (body : Parts) (from : End) (n : ℕ) → Sane s f m (place start kind.LoopStart (Some end) (from ∷ []) (plain_end (first_node body end) ∷ [])) → Held s f m n →
      part_has (loop start end body) n ≡ true → (eqb end n ≡ true) ⊎ (parts_have body n ≡ true)
  in_loop start end body from n sane held has =
      elim (or_cases (eqb start n || eqb end n) (parts_have body n) has) [
        | inl ends ↦
            elim (or_cases (eqb start n) (eqb end n) ends) [
              | inl at_start ↦ absurd (silent-free s f m start kind.LoopStart (Some end) (from ∷ []) (plain_end (first_node body end) ∷ []) sane refl (held-at s f m start n at_start held))
              | inr at_end ↦ inl at_end
            ]
        | inr inside ↦ inr inside
      ]

  -- where a node of the body is held, the loop's end is not
  end-alone : (start end : ℕ) (body : Parts) (to a b : ℕ) → FullParts body → AllRows (Sane s f m) (parts_places body (plain_end start) end) →
      Sane s f m (place end kind.LoopEnd (Some start) (leaving body (plain_end start) ∷ []) (plain_end to ∷ [])) → Held s f m a → Held s f m b → eqb end a ≡ true → parts_have body b ≡ true → ⊥
  end-alone start end body to a b full sane at_end held_a held_b same inside =
      no_true (m end)
      (none-flows s f m solves _ _ (node-one s f m solves end kind.LoopEnd (Some start) (leaving body (plain_end start)) (plain_end to ∷ []) at_end tt)
      (parts-stay s f m solves body (plain_end start) end b full sane inside held_b))
      (held-at s f m end a same held_a).ready

  -- two held nodes of a loop both stand in its body
  both-in_body : (start end : ℕ) (body : Parts) (from : End) (to a b : ℕ) → FullParts body → AllRows (Sane s f m) (part_places (loop start end body) from to) → Pair a b →
      part_has (loop start end body) a ≡ true → part_has (loop start end body) b ≡ true → (parts_have body a ≡ true) × (parts_have body b ≡ true)
  both-in_body start end body from to a b full sane pair has_a has_b =
      let r = rows-parts (Sane s f m) (parts_places body (plain_end start) end) _ sane.1 in
      elim (in_loop start end body from a sane.0 pair.first has_a) [
        | inl a_end ↦
            elim (in_loop start end body from b sane.0 pair.second has_b) [
              | inl b_end ↦ absurd (two_same a b end pair.other a_end b_end)
              | inr b_in ↦ absurd (end-alone start end body to a b full r.0 r.1.0 pair.first pair.second a_end b_in)
            ]
        | inr a_in ↦
            elim (in_loop start end body from b sane.0 pair.second has_b) [
              | inl b_end ↦ absurd (end-alone start end body to b a full r.0 r.1.0 pair.second pair.first b_end a_in)
              | inr b_in ↦ (a_in, b_in)
            ]
      ]

  -- of two held nodes none stands behind the other
  none-behind : (p : Part) (ps : Parts) (from : End) (to a b : ℕ) → FullPart p → FullParts ps → AllRows (Sane s f m) (part_places p from (first_node ps to)) →
      AllRows (Sane s f m) (parts_places ps (plain_end (last_of p)) to) → Held s f m a → Held s f m b → part_has p a ≡ true → parts_have ps b ≡ true → ⊥
  none-behind p ps from to a b full_p full_ps sane_p sane_ps held_a held_b a_in b_in =
      no_true _ (part-stays s f m solves p from (first_node ps to) a full_p sane_p a_in held_a)
      (parts-entered s f m solves ps (plain_end (last_of p)) to b full_ps sane_ps b_in held_b.ready)

  -- so both stand in the first part, or both behind it
  one_part : (p : Part) (ps : Parts) (from : End) (to a b : ℕ) → FullParts (part p ps) → AllRows (Sane s f m) (parts_places (part p ps) from to) → Pair a b →
      parts_have (part p ps) a ≡ true → parts_have (part p ps) b ≡ true → (part_has p a && part_has p b) ≡ false → (parts_have ps a ≡ true) × (parts_have ps b ≡ true)
  one_part p ps from to a b full sane pair has_a has_b apart =
      let r = rows-parts (Sane s f m) (part_places p from (first_node ps to)) _ sane in
      elim (or_cases (part_has p a) (parts_have ps a) has_a) [
        | inl a_here ↦
            elim (or_cases (part_has p b) (parts_have ps b) has_b) [
              | inl b_here ↦ absurd (both_ways _ apart (and_from (part_has p a) (part_has p b) a_here b_here))
              | inr b_behind ↦ absurd (none-behind p ps from to a b full.0 full.1 r.0 r.1 pair.first pair.second a_here b_behind)
            ]
        | inr a_behind ↦
            elim (or_cases (part_has p b) (parts_have ps b) has_b) [
              | inl b_here ↦ absurd (none-behind p ps from to b a full.0 full.1 r.0 r.1 pair.second pair.first b_here a_behind)
              | inr b_behind ↦ (a_behind, b_behind)
            ]
      ]

  -- the branch of an XOR split that is taken has the code that was chosen
  abbrev ByChoice : ℕ → Type 0
  ByChoice split = (code : ℕ) → is_yes (flow (sig s f m (labelled split code))) ≡ true → f.choice split ≡ Some code

  -- of two held nodes none stands in another branch of an XOR block
  none-beside : (code : ℕ) (ps : Parts) (ls : Lanes) (split join a b : ℕ) → FullLanes (lane code ps ls) → ApartLanes (lane code ps ls) join → AllRows (Sane s f m) (lanes_places (lane code ps ls) split join) → ByChoice split →
      Held s f m a → Held s f m b → parts_have ps a ≡ true → lanes_have ls b ≡ true → ⊥
  none-beside code ps ls split join a b full apart sane chosen held_a held_b a_in b_in =
      let r = rows-parts (Sane s f m) (parts_places ps (labelled split code) join) _ sane in
      let taken = lanes-entered s f m solves ls split join b full.1 r.1 b_in held_b.ready in
      let own = chosen code (parts-entered s f m solves ps (labelled split code) join a full.0 r.0 a_in held_a.ready) in
      let same : taken.0 ≡ code = same_Some taken.0 code (sym (chosen taken.0 taken.1) ∙ own) in
      both_ways _ apart.0 (ap (λ k. has_label k (branch_heads ls join)) (sym same) ∙ taken.2)

  -- so both stand in the first branch, or both in later ones
  one_lane : (code : ℕ) (ps : Parts) (ls : Lanes) (split join a b : ℕ) → FullLanes (lane code ps ls) → ApartLanes (lane code ps ls) join → AllRows (Sane s f m) (lanes_places (lane code ps ls) split join) → ByChoice split →
      Pair a b → lanes_have (lane code ps ls) a ≡ true → lanes_have (lane code ps ls) b ≡ true → (parts_have ps a && parts_have ps b) ≡ false → (lanes_have ls a ≡ true) × (lanes_have ls b ≡ true)
  one_lane code ps ls split join a b full apart sane chosen pair has_a has_b not_both =
      elim (or_cases (parts_have ps a) (lanes_have ls a) has_a) [
        | inl a_here ↦
            elim (or_cases (parts_have ps b) (lanes_have ls b) has_b) [
              | inl b_here ↦ absurd (both_ways _ not_both (and_from (parts_have ps a) (parts_have ps b) a_here b_here))
              | inr b_later ↦ absurd (none-beside code ps ls split join a b full apart sane chosen pair.first pair.second a_here b_later)
            ]
        | inr a_later ↦
            elim (or_cases (parts_have ps b) (lanes_have ls b) has_b) [
              | inl b_here ↦ absurd (none-beside code ps ls split join b a full apart sane chosen pair.second pair.first b_here a_later)
              | inr b_later ↦ (a_later, b_later)
            ]
      ]

  -- ---- two held nodes of a tree stand in different branches of an AND block
  mutual
    part-branches : (p : Part) (from : End) (to a b : ℕ) → FullPart p → ApartPart p → AllRows (Sane s f m) (part_places p from to) → Pair a b → part_has p a ≡ true → part_has p b ≡ true → part_apart p a b ≡ true
    part-branches (act node) from to a b full apart sane pair has_a has_b = absurd (two_same a b node pair.other has_a has_b)
    part-branches (gate g split join no_lane) from to a b full apart sane pair has_a has_b = absurd full
    part-branches (gate and_gate split join (lane code ps ls)) from to a b full apart sane pair has_a has_b =
        let r = rows-parts (Sane s f m) (lanes_places (lane code ps ls) split join) _ sane.1 in
        let both = both-inside and_gate split join (lane code ps ls) to a b full r.0 r.1.0 pair has_a has_b in
        ap (lanes_apart (lane code ps ls) a b) (both-true true _ _ both.0 both.1) ∙ and-branches (lane code ps ls) split join a b full apart r.0 pair
    part-branches (gate xor_gate split join (lane code ps ls)) from to a b full apart sane pair has_a has_b =
        let r = rows-parts (Sane s f m) (lanes_places (lane code ps ls) split join) _ sane.1 in
        let both = both-inside xor_gate split join (lane code ps ls) to a b full r.0 r.1.0 pair has_a has_b in
        let chosen : ByChoice split =
        λ k h. sig-chosen (m split) (f.ended split) (f.choice split) k
        (ap (λ x. is_yes (flow x)) (sym (sig-is s f m (place split kind.XorSplit (Some join) (from ∷ []) (branch_heads (lane code ps ls) join)) sane.0 (Some k))) ∙ h) in
        xor-branches (lane code ps ls) split join a b full apart r.0 chosen pair both.0 both.1
    part-branches (loop start end body) from to a b full apart sane pair has_a has_b =
        let r = rows-parts (Sane s f m) (parts_places body (plain_end start) end) _ sane.1 in
        let both = both-in_body start end body from to a b full sane pair has_a has_b in
        parts-branches body (plain_end start) end a b full apart r.0 pair both.0 both.1

    parts-branches : (ps : Parts) (from : End) (to a b : ℕ) → FullParts ps → ApartParts ps → AllRows (Sane s f m) (parts_places ps from to) → Pair a b → parts_have ps a ≡ true → parts_have ps b ≡ true → parts_apart ps a b ≡ true
    parts-branches nothing from to a b full apart sane pair has_a has_b = absurd (both_ways _ refl has_a)
    parts-branches (part p ps) from to a b full apart sane pair has_a has_b =
        let r = rows-parts (Sane s f m) (part_places p from (first_node ps to)) _ sane in
        elim (cases_Bool (part_has p a && part_has p b)) [
          | inl both ↦
              let h = and_parts (part_has p a) (part_has p b) both in
              rw both (part-branches p from (first_node ps to) a b full.0 apart.0 r.0 pair h.0 h.1)
          | inr not_both ↦
              let behind = one_part p ps from to a b full sane pair has_a has_b not_both in
              rw not_both (parts-branches ps (plain_end (last_of p)) to a b full.1 apart.1 r.1 pair behind.0 behind.1)
        ]

    -- in branches of an AND block, where they need not stand in one branch
    and-branches : (ls : Lanes) (split join a b : ℕ) → FullLanes ls → ApartLanes ls join → AllRows (Sane s f m) (lanes_places ls split join) → Pair a b → lanes_apart ls a b true ≡ true
    and-branches no_lane split join a b full apart sane pair = refl
    and-branches (lane code ps ls) split join a b full apart sane pair =
        let r = rows-parts (Sane s f m) (parts_places ps (labelled split code) join) _ sane in
        elim (cases_Bool (parts_have ps a && parts_have ps b)) [
          | inl both ↦
              let h = and_parts (parts_have ps a) (parts_have ps b) both in
              rw both (parts-branches ps (labelled split code) join a b full.0 apart.1.0 r.0 pair h.0 h.1)
          | inr not_both ↦ rw not_both (and-branches ls split join a b full.1 apart.1.1 r.1 pair)
        ]

    -- in branches of an XOR block, where they stand in one branch
    xor-branches : (ls : Lanes) (split join a b : ℕ) → FullLanes ls → ApartLanes ls join → AllRows (Sane s f m) (lanes_places ls split join) → ByChoice split → Pair a b →
        lanes_have ls a ≡ true → lanes_have ls b ≡ true → lanes_apart ls a b false ≡ true
    xor-branches no_lane split join a b full apart sane chosen pair has_a has_b = absurd (both_ways _ refl has_a)
    xor-branches (lane code ps ls) split join a b full apart sane chosen pair has_a has_b =
        let r = rows-parts (Sane s f m) (parts_places ps (labelled split code) join) _ sane in
        elim (cases_Bool (parts_have ps a && parts_have ps b)) [
          | inl both ↦
              let h = and_parts (parts_have ps a) (parts_have ps b) both in
              rw both (parts-branches ps (labelled split code) join a b full.0 apart.1.0 r.0 pair h.0 h.1)
          | inr not_both ↦
              let later = one_lane code ps ls split join a b full apart sane chosen pair has_a has_b not_both in
              rw not_both (xor-branches ls split join a b full.1 apart.1.1 r.1 chosen pair later.0 later.1)
        ]

  -- a held node stands in the tree
  held-inside : AllRows (Sane s f m) (places s.start s.body s.finish) → (n : ℕ) (c : Card) → card_at n (cards_of s) ≡ Some c → Held s f m n → parts_have s.body n ≡ true
  held-inside sane n c at held =
      let r = rows-parts (Sane s f m) (parts_places s.body (plain_end s.start) s.finish) _ sane.1 in
      let named = card_at-node n (cards_of s) c at in
      ap (parts_have s.body) (sym named)
      ∙ all-rows-card_at (λ d. Held s f m d.node → parts_have s.body d.node ≡ true) n (cards_of s) c
      (rows-map _ (card_of s) (places s.start s.body s.finish) (
        λ h. absurd (silent-free s f m s.start kind.Start None [] (plain_end (first_node s.body s.finish) ∷ []) sane.0 refl h),
        rows-append _ (parts_places s.body (plain_end s.start) s.finish) _ (all-rows-map _ _ (λ q has h. has) _ (parts-nodes s.body (plain_end s.start) s.finish))
            (λ h. absurd (silent-free s f m s.finish kind.Finish None (leaving s.body (plain_end s.start) ∷ []) [] r.1.0 refl h), tt),
      )) at (subst (Held s f m) (sym named) held)

  -- two held nodes stand in different branches of an AND block
  pub held-branches : Regular s → AllRows (Sane s f m) (places s.start s.body s.finish) → (a b : ℕ) (c d : Card) → card_at a (cards_of s) ≡ Some c → card_at b (cards_of s) ≡ Some d →
      Held s f m a → Held s f m b → eqb a b ≡ false → parts_apart s.body a b ≡ true
  held-branches regular sane a b c d at_a at_b held_a held_b other =
      let r = rows-parts (Sane s f m) (parts_places s.body (plain_end s.start) s.finish) _ sane.1 in
      parts-branches s.body (plain_end s.start) s.finish a b regular.full regular.apart r.0 (record { first = held_a; second = held_b; other = other })
      (held-inside sane a c at_a held_a) (held-inside sane b d at_b held_b)
