-- A node that is bound to a ready one is not skipped.
use Rattle.wsm_marks.proofs.Common.{[], ℕ, ◌&&◌, ◌||◌, ◌∙◌, ◌∷◌, ◌≡◌, act, all-rows-card_at, all-rows-map, AllRows, and_gate, and_parts, ap, Bool, both_ways, branch_heads, branch_tails, Card, card_at, card_at-node, card_of, cards_of, cond}
use Rattle.wsm_marks.proofs.Common.{End, eq_of, eqb, eqb-true, Facts, false, first_node, flow, FullLanes, FullPart, FullParts, Gate, gate, inl, inr, is_and, is_no, is_some, is_yes, join_kind, labelled, lane, Lanes, lanes_bound, lanes_have}
use Rattle.wsm_marks.proofs.Common.{lanes_places, last_of, leaving, List, list_all, loop, map, Marking, no_lane, None, not, nothing, or_cases, Part, part, part_bound, part_has, part_places, Parts, parts_bound, parts_have, parts_places}
use Rattle.wsm_marks.proofs.{Common.{place, places, plain_end, refl, Regular, rows-append, rows-map, rows-parts, SchemaModel, sig_at, Solves, Some, split_kind, sym, Timed, timed_by, true, xor_gate}, BlockFlow.{Later, Sane, mark-is, no_no}}
use Rattle.wsm_marks.proofs.{BlockFlow.{node-one, node-silent, none_none, part-flow, parts-flow, sig, yes_none, yes_yes}, HeldInside.{join-silent, parts-entered, parts-nodes, split-entered}}
use Rattle.wsm_schema.specs.declared.cards.NodeKind.TheVariants as kind
use Rattle.wsm_schema.specs.declared.states.Flow.TheVariants.{Yes, No}
use Rattle.wsm_schema.specs.declared.states.Verdict.TheVariants as verdict

-- what stands behind no False is none
later-not_no : (x y : Timed) → Later x y → is_no (flow x) ≡ false → is_no (flow y) ≡ false
later-not_no _ _ none_none h = h
later-not_no _ _ (no_no t) h = h
later-not_no _ _ (yes_none t) h = refl
later-not_no _ _ (yes_yes t u le) h = refl

yes-not_no : (x : Timed) → is_yes (flow x) ≡ true → is_no (flow x) ≡ false
yes-not_no None h = refl
yes-not_no (Some (t, Yes)) h = refl
yes-not_no (Some (t, No)) h = absurd (both_ways _ refl h)

-- a start is never skipped
start-not_no : (ss : List Timed) → is_no (flow (eq_of kind.Start [] ss)) ≡ false
start-not_no ss = go (list_all is_some (map flow ss)) _ _
  where
    go : (y : Bool) (a b : ℕ) → is_no (flow (timed_by (cond y verdict.Ready verdict.Waiting) a b)) ≡ false
    go true a b = refl
    go false a b = refl

module _ (s : SchemaModel) (f : Facts) (m : Marking) (solves : Solves (cards_of s) f m) (n : ℕ) (ready : is_yes (flow (m n)) ≡ true) where
  -- a node under another name of it
  free-at : (a k : ℕ) → eqb k a ≡ true → is_no (flow (m k)) ≡ false → is_no (flow (m a)) ≡ false
  free-at a k same h = ap (λ j. is_no (flow (m j))) (sym (eqb-true k a same)) ∙ h

  -- the branches of an AND block get its split's mark
  and-goes : (g : Gate) (split join : ℕ) (from : End) (outs : List End) → Sane s f m (place split (split_kind g) (Some join) (from ∷ []) outs) → is_no (flow (m split)) ≡ false →
      is_and g ≡ true → (code : ℕ) → is_no (flow (sig s f m (labelled split code))) ≡ false
  and-goes and_gate split join from outs sane goes all code = ap (λ x. is_no (flow x)) (node-silent s f m split kind.AndSplit (Some join) (from ∷ []) outs sane refl (Some code)) ∙ goes
  and-goes xor_gate split join from outs sane goes all code = absurd (both_ways _ refl all)

  mutual
    -- of a part: where the edge that enters is not False, a node that is bound to the ready one is not skipped
    part-bound : (p : Part) (from : End) (to a : ℕ) → FullPart p → AllRows (Sane s f m) (part_places p from to) → part_has p a ≡ true → part_bound p a n ≡ true →
        is_no (flow (sig s f m from)) ≡ false → is_no (flow (m a)) ≡ false
    part-bound (act node) from to a full sane has bound goes =
        free-at a node has (later-not_no _ _ (node-one s f m solves node kind.Activity None from (plain_end to ∷ []) sane.0 tt) goes)
    part-bound (gate g split join no_lane) from to a full sane has bound goes = absurd full
    part-bound (gate g split join (lane code ps ls)) from to a full sane has bound goes =
        let r = rows-parts (Sane s f m) (lanes_places (lane code ps ls) split join) _ sane.1 in
        let first = later-not_no _ _ (split-entered s f m solves g split (Some join) from (branch_heads (lane code ps ls) join) sane.0) goes in
        elim (or_cases (eqb split a || eqb join a) (lanes_have (lane code ps ls) a) has) [
          | inl ends ↦
              elim (or_cases (eqb split a) (eqb join a) ends) [
                | inl same ↦ free-at a split same first
                | inr same ↦
                    free-at a join same
                    (ap (λ x. is_no (flow x)) (sym (node-silent s f m join (join_kind g) (Some split) (branch_tails (lane code ps ls) split) (plain_end to ∷ []) r.1.0 (join-silent g) None))
                    ∙ later-not_no _ _ (part-flow s f m solves (gate g split join (lane code ps ls)) from to full sane) goes)
              ]
          | inr inside ↦ lanes-bound g (lane code ps ls) split join a full r.0 inside bound (and-goes g split join from (branch_heads (lane code ps ls) join) sane.0 first)
        ]
    part-bound (loop start end body) from to a full sane has bound goes =
        let r = rows-parts (Sane s f m) (parts_places body (plain_end start) end) _ sane.1 in
        let first = later-not_no _ _ (node-one s f m solves start kind.LoopStart (Some end) from (plain_end (first_node body end) ∷ []) sane.0 tt) goes in
        let inner = ap (λ x. is_no (flow x)) (node-silent s f m start kind.LoopStart (Some end) (from ∷ []) (plain_end (first_node body end) ∷ []) sane.0 refl None) ∙ first in
        elim (or_cases (eqb start a || eqb end a) (parts_have body a) has) [
          | inl ends ↦
              elim (or_cases (eqb start a) (eqb end a) ends) [
                | inl same ↦ free-at a start same first
                | inr same ↦
                    free-at a end same
                    (later-not_no _ _ (node-one s f m solves end kind.LoopEnd (Some start) (leaving body (plain_end start)) (plain_end to ∷ []) r.1.0 tt)
                    (later-not_no _ _ (parts-flow s f m solves body (plain_end start) end full r.0) inner))
              ]
          | inr within ↦ parts-bound body (plain_end start) end a full r.0 within bound inner
        ]

    -- of parts in a row
    parts-bound : (ps : Parts) (from : End) (to a : ℕ) → FullParts ps → AllRows (Sane s f m) (parts_places ps from to) → parts_have ps a ≡ true → parts_bound ps a n ≡ true →
        is_no (flow (sig s f m from)) ≡ false → is_no (flow (m a)) ≡ false
    parts-bound nothing from to a full sane has bound goes = absurd (both_ways _ refl has)
    parts-bound (part p ps) from to a full sane has bound goes =
        let r = rows-parts (Sane s f m) (part_places p from (first_node ps to)) _ sane in
        let both = and_parts (part_bound p a n) (parts_bound ps a n) bound in
        elim (or_cases (part_has p a) (parts_have ps a) has) [
          | inl here ↦ part-bound p from (first_node ps to) a full.0 r.0 here both.0 goes
          | inr behind ↦ parts-bound ps (plain_end (last_of p)) to a full.1 r.1 behind both.1 (later-not_no _ _ (part-flow s f m solves p from (first_node ps to) full.0 r.0) goes)
        ]

    -- of branches: the edge into that of an AND block is not False, and that of an XOR block has the ready node, too
    lanes-bound : (g : Gate) (ls : Lanes) (split join a : ℕ) → FullLanes ls → AllRows (Sane s f m) (lanes_places ls split join) → lanes_have ls a ≡ true → lanes_bound g ls a n ≡ true →
        (is_and g ≡ true → (code : ℕ) → is_no (flow (sig s f m (labelled split code))) ≡ false) → is_no (flow (m a)) ≡ false
    lanes-bound g no_lane split join a full sane has bound goes = absurd (both_ways _ refl has)
    lanes-bound g (lane code ps ls) split join a full sane has bound goes =
        let r = rows-parts (Sane s f m) (parts_places ps (labelled split code) join) _ sane in
        let both = and_parts (is_and g || (not (parts_have ps a) || parts_have ps n)) (parts_bound ps a n && lanes_bound g ls a n) bound in
        let inner = and_parts (parts_bound ps a n) (lanes_bound g ls a n) both.1 in
        elim (or_cases (parts_have ps a) (lanes_have ls a) has) [
          | inl here ↦ parts-bound ps (labelled split code) join a full.0 r.0 here inner.0 (elim (or_cases (is_and g) _ both.0) [
            | inl all ↦ goes all code
            | inr one ↦ elim (or_cases (not (parts_have ps a)) (parts_have ps n) one) [
              | inl away ↦ absurd (both_ways _ (ap not here) away)
              | inr there ↦ yes-not_no _ (parts-entered s f m solves ps (labelled split code) join n full.0 r.0 there ready)
            ]
          ])
          | inr behind ↦ lanes-bound g ls split join a full.1 r.1 behind inner.1 goes
        ]

  -- in a whole schema
  pub bound-free : Regular s → AllRows (Sane s f m) (places s.start s.body s.finish) → (a : ℕ) (c : Card) → card_at a (cards_of s) ≡ Some c → parts_bound s.body a n ≡ true → is_no (flow (m a)) ≡ false
  bound-free regular sane a c at bound =
      let r = rows-parts (Sane s f m) (parts_places s.body (plain_end s.start) s.finish) _ sane.1 in
      let start = place s.start kind.Start None [] (plain_end (first_node s.body s.finish) ∷ []) in
      let first : is_no (flow (m s.start)) ≡ false = ap (λ x. is_no (flow x)) (mark-is s f m solves start sane.0) ∙ start-not_no (map (sig_at (cards_of s) f m None) (card_of s start).syncs_in) in
      let inner = ap (λ x. is_no (flow x)) (node-silent s f m s.start kind.Start None [] (plain_end (first_node s.body s.finish) ∷ []) sane.0 refl None) ∙ first in
      let named = card_at-node a (cards_of s) c at in
      ap (λ k. is_no (flow (m k))) (sym named)
      ∙ all-rows-card_at (λ d. parts_bound s.body d.node n ≡ true → is_no (flow (m d.node)) ≡ false) a (cards_of s) c
      (rows-map _ (card_of s) (places s.start s.body s.finish) (
        λ h. first,
        rows-append _ (parts_places s.body (plain_end s.start) s.finish) _
            (all-rows-map _ _ (λ q has h. parts-bound s.body (plain_end s.start) s.finish q.node regular.full r.0 has h inner) _ (parts-nodes s.body (plain_end s.start) s.finish)) (
              λ h. later-not_no _ _ (node-one s f m solves s.finish kind.Finish None (leaving s.body (plain_end s.start)) [] r.1.0 tt)
                  (later-not_no _ _ (parts-flow s f m solves s.body (plain_end s.start) s.finish regular.full r.0) inner),
              tt,
            ),
      )) at (ap (λ k. parts_bound s.body k n) named ∙ bound)
