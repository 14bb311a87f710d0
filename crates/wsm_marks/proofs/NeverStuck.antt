-- Where no node is activated or running, each node is completed or skipped.
use Rattle.wsm_marks.proofs.Common.{[], ℕ, ◌&&◌, ◌==◌, ◌∙◌, ◌∷◌, ◌≡◌, ◌⊎◌, act, all-rows-card_at, AllRows, and_from, and_gate, and_parts, ap, ApartLanes, ApartPart, ApartParts, Bool, both_rows, both_ways, branch_heads, branch_tails, Card}
use Rattle.wsm_marks.proofs.Common.{card_at, card_of, cards_of, cases_Bool, cond, count_by, End, eq-eqb, eq_of, eqb, eqb-true, Facts, false, first_node, Flow, flow, FullLanes, FullPart, FullParts, gate, has_label, HasCard, Idle, inl, inr}
use Rattle.wsm_marks.proofs.Common.{is_marked, is_no, is_some, is_yes, IsRank, labelled, lane, Lanes, lanes_places, last_of, leaving, List, list_all, loop, map, Marking, no_lane, NodeKind, None, nothing, Option, Part, part, part_places}
use Rattle.wsm_marks.proofs.Common.{Parts, parts_places, Place, place, places, plain_end, refl, Regular, rows-append, rows-map, rows-parts, SchemaModel, sig_at, sig_by, sig_of, Solves, Some, subst, suc, sym, Timed, timed_by, true}
use Rattle.wsm_marks.proofs.{Common.{worked_on, xor_gate}, BlockFlow.{LanesLater, Later, Sane, all_no, lanes-flow, no_no, node-silent, none-is, not_some, rows-later, sig, sig-is, yes_none, yes_yes}, Lists.eqb-swap, RankInduction.Known}
use Rattle.wsm_marks.proofs.{RankInduction.rank_induction, Sources.sources-have_cards}
use Rattle.std.proofs.lemmas.List.Sums.{length-filter}
use Rattle.wsm_schema.specs.declared.cards.NodeKind.TheVariants as kind
use Rattle.wsm_schema.specs.declared.states.Flow.TheVariants.{Yes, No}
use Rattle.wsm_schema.specs.declared.states.Verdict.TheVariants as verdict

-- whether all edges are signaled
abbrev all_marked : List Timed → Bool
all_marked ys = list_all is_some (map flow ys)

-- all False or all True; for an XOR join all False or one True
abbrev pub Settled : NodeKind → List Timed → Type 0
Settled kind.Start ys = Unit {0}
Settled kind.XorJoin ys = all_marked ys ≡ true → (list_all is_no (map flow ys) ≡ true) ⊎ (count_by is_yes (map flow ys) ≡ 1)
Settled _ ys = all_marked ys ≡ true → (list_all is_no (map flow ys) ≡ true) ⊎ (list_all is_yes (map flow ys) ≡ true)

no-decides : (r : Bool) (a b : ℕ) → is_marked (timed_by (cond r verdict.Ready verdict.Skipped) a b) ≡ true
no-decides true a b = refl
no-decides false a b = refl

-- a node all of whose edges are signaled is ready or skipped
settled-decides : (k : NodeKind) (ys ss : List Timed) → Settled k ys → all_marked ys ≡ true → all_marked ss ≡ true → is_marked (eq_of k ys ss) ≡ true
settled-decides kind.Start ys ss s a b = rw b refl
settled-decides kind.XorJoin ys ss s a b =
    elim (s a) [
      | inl no_all ↦ rw (no_all, b) (no-decides (list_all is_some (map flow ys) && (count_by is_yes (map flow ys) == 1)) _ _)
      | inr one ↦ rw (a, one, b) refl
    ]
settled-decides _ ys ss s a b =
    elim (s a) [
      | inl no_all ↦ rw (no_all, b) (no-decides (list_all is_yes (map flow ys)) _ _)
      | inr yes_all ↦ rw (yes_all, b) refl
    ]

one-settled : (x : Timed) → all_marked (x ∷ []) ≡ true → (list_all is_no (map flow (x ∷ [])) ≡ true) ⊎ (list_all is_yes (map flow (x ∷ [])) ≡ true)
one-settled None h = absurd (both_ways _ refl h)
one-settled (Some (t, Yes)) h = inr refl
one-settled (Some (t, No)) h = inl refl

all_yes : (t : ℕ) (ys : List Timed) → AllRows (Later (Some (t, Yes))) ys → all_marked ys ≡ true → list_all is_yes (map flow ys) ≡ true
all_yes t [] h a = refl
all_yes t (y ∷ ys) h a = let p = and_parts (is_marked y) _ a in and_from (is_yes (flow y)) _ (here y h.0 p.0) (all_yes t ys h.1 p.1)
  where
    here : (y : Timed) → Later (Some (t, Yes)) y → is_marked y ≡ true → is_yes (flow y) ≡ true
    here _ (yes_none _) k = absurd (both_ways _ refl k)
    here _ (yes_yes _ u le) k = refl

no_none : (y : Timed) (ys : List Timed) → y ≡ None → all_marked (y ∷ ys) ≡ true → ⊥
no_none y ys e a = both_ways _ (ap is_marked e) (and_parts (is_marked y) _ a).0

and-settled : (x : Timed) (ys : List Timed) → AllRows (Later x) ys → all_marked ys ≡ true → (list_all is_no (map flow ys) ≡ true) ⊎ (list_all is_yes (map flow ys) ≡ true)
and-settled None [] h a = inl refl
and-settled None (y ∷ ys) h a = absurd (no_none y ys (none-is y h.0) a)
and-settled (Some (t, No)) ys h a = inl (all_no t ys h)
and-settled (Some (t, Yes)) ys h a = inr (all_yes t ys h a)

goes-yes : (u : ℕ) (y : Timed) → Later (Some (u, Yes)) y → is_marked y ≡ true → (c : ℕ) (os : List (Option Flow)) → count_by is_yes os ≡ c → count_by is_yes (flow y ∷ os) ≡ suc c
goes-yes u _ (yes_none _) k c os h = absurd (both_ways _ refl k)
goes-yes u _ (yes_yes _ v le) k c os h = sym (length-filter is_yes (Some Yes ∷ os)) ∙ ap (λ n. suc n) (length-filter is_yes os ∙ h)

goes-no : (u : ℕ) (y : Timed) → Later (Some (u, No)) y → (c : ℕ) (os : List (Option Flow)) → count_by is_yes os ≡ c → count_by is_yes (flow y ∷ os) ≡ c
goes-no u _ (no_no _) c os h = h

sig_of-marked : (k : NodeKind) (x : Timed) (en choice label : Option ℕ) → is_marked x ≡ true → (worked_on k ≡ true → (t : ℕ) → x ≡ Some (t, Yes) → (u : ℕ) × (en ≡ Some u)) → is_marked (sig_of k x en choice label) ≡ true
sig_of-marked k None en choice label h idle = absurd (both_ways _ refl h)
sig_of-marked k (Some (t, No)) en choice label h idle = refl
sig_of-marked k (Some (t, Yes)) en choice label h idle =
    elim (cases_Bool (worked_on k)) [
      | inl works ↦ let r = idle works t refl in rw (works, r.1) refl
      | inr silent ↦ rw silent refl
    ]

all-marked : {X : Type 0} (g : X → Timed) (xs : List X) → AllRows (λ x. is_marked (g x) ≡ true) xs → all_marked (map g xs) ≡ true
all-marked g [] h = refl
all-marked g (x ∷ xs) h = and_from (is_marked (g x)) _ h.0 (all-marked g xs h.1)

module _ (s : SchemaModel) (f : Facts) (m : Marking) where
  -- the signals of the edges out of a block's branches
  abbrev exits : Lanes → ℕ → List Timed
  exits ls split = map (sig s f m) (branch_tails ls split)

  -- as many branches go on as have the chosen code
  chosen-count : (u choice : ℕ) (ls : Lanes) (split join : ℕ) →
      ((code : ℕ) → eqb choice code ≡ true → sig s f m (labelled split code) ≡ Some (u, Yes)) → ((code : ℕ) → eqb choice code ≡ false → sig s f m (labelled split code) ≡ Some (u, No)) →
      LanesLater s f m ls split → ApartLanes ls join → all_marked (exits ls split) ≡ true →
      count_by is_yes (map flow (exits ls split)) ≡ cond (has_label choice (branch_heads ls join)) 1 0
  chosen-count u choice no_lane split join it other h apart a = refl
  chosen-count u choice (lane code ps ls) split join it other h apart a =
      let p = and_parts (is_marked (sig s f m (leaving ps (labelled split code)))) _ a in
      let rest = chosen-count u choice ls split join it other h.1 apart.1.1 p.1 in
      elim (cases_Bool (eqb code choice)) [
        | inl same ↦
            let e : code ≡ choice = eqb-true code choice same in
            let none : has_label choice (branch_heads ls join) ≡ false = ap (λ c. has_label c (branch_heads ls join)) (sym e) ∙ apart.0 in
            let zero_rest : count_by is_yes (map flow (exits ls split)) ≡ 0 = rw none at rest in
            rw same (goes-yes u _ (subst (λ y. Later y (sig s f m (leaving ps (labelled split code)))) (it code (eq-eqb choice code (sym e))) h.0) p.0 0 (map flow (exits ls split)) zero_rest)
        | inr no_same ↦
            let apart_codes : eqb choice code ≡ false = eqb-swap code choice no_same in
            rw no_same (goes-no u _ (subst (λ y. Later y (sig s f m (leaving ps (labelled split code)))) (other code apart_codes) h.0) (cond (has_label choice (branch_heads ls join)) 1 0) (map flow (exits ls split)) rest)
      ]

  xor-settled : (split join code : ℕ) (partner : Option ℕ) (ps : Parts) (ls : Lanes) (ins : List End) → Sane s f m (place split kind.XorSplit partner ins (branch_heads (lane code ps ls) join)) →
      LanesLater s f m (lane code ps ls) split → ApartLanes (lane code ps ls) join → all_marked (exits (lane code ps ls) split) ≡ true →
      (list_all is_no (map flow (exits (lane code ps ls) split)) ≡ true) ⊎ (count_by is_yes (map flow (exits (lane code ps ls) split)) ≡ 1)
  xor-settled split join code partner ps ls ins sane h apart a = go (m split) (f.ended split) refl refl
    where
      entry : (y : Timed) (q : Option ℕ) → m split ≡ y → f.ended split ≡ q → (c : ℕ) → sig s f m (labelled split c) ≡ sig_of kind.XorSplit y q (f.choice split) (Some c)
      entry y q e1 e2 c = sig-is s f m (place split kind.XorSplit partner ins (branch_heads (lane code ps ls) join)) sane (Some c)
          ∙ ap (λ z. sig_of kind.XorSplit z (f.ended split) (f.choice split) (Some c)) e1 ∙ ap (λ z. sig_of kind.XorSplit y z (f.choice split) (Some c)) e2

      none_out : ((c : ℕ) → sig s f m (labelled split c) ≡ None) → ⊥
      none_out none = no_none (sig s f m (leaving ps (labelled split code))) (exits ls split)
          (none-is _ (subst (λ y. Later y (sig s f m (leaving ps (labelled split code)))) (none code) h.0)) a

      go : (y : Timed) (q : Option ℕ) → m split ≡ y → f.ended split ≡ q → (list_all is_no (map flow (exits (lane code ps ls) split)) ≡ true) ⊎ (count_by is_yes (map flow (exits (lane code ps ls) split)) ≡ 1)
      go None None e1 e2 = absurd (none_out (entry None None e1 e2))
      go None (Some u) e1 e2 = let r = sane.ended u e2 in absurd (not_some (r.0, Yes) (sym e1 ∙ r.1))
      go (Some (t, No)) q e1 e2 = inl (all_no t (exits (lane code ps ls) split) (rows-later s f m (Some (t, No)) (lane code ps ls) split (entry (Some (t, No)) q e1 e2) h))
      go (Some (t, Yes)) None e1 e2 = absurd (none_out (entry (Some (t, Yes)) None e1 e2))
      go (Some (t, Yes)) (Some u) e1 e2 =
          let c = sane.chosen refl u e2 in
          inr (chosen-count u c.0 (lane code ps ls) split join
          (λ k same. entry (Some (t, Yes)) (Some u) e1 e2 k ∙ (rw (c.1, same) refl)) (λ k other. entry (Some (t, Yes)) (Some u) e1 e2 k ∙ (rw (c.1, other) refl)) h apart a
          ∙ (rw c.2 refl))

  -- ---- each place of a tree
  abbrev pub SettledPlace : Place → Type 0
  SettledPlace p = Settled p.kind (map (sig s f m) p.ins)

  sig-marked : Idle (cards_of s) f m → (label : Option ℕ) (n : ℕ) → HasCard (cards_of s) n → Known (cards_of s) (λ k. is_marked (m k) ≡ true) n → is_marked (sig_at (cards_of s) f m label n) ≡ true
  sig-marked idle label n has h =
      ap (λ o. is_marked (sig_by o (m n) (f.ended n) (f.choice n) label)) has.1
      ∙ sig_of-marked has.0.kind (m n) (f.ended n) (f.choice n) label (h has.0 has.1) (idle n has.0 has.1)

  module _ (solves : Solves (cards_of s) f m) where
    mutual
      part-settled : (p : Part) (from : End) (to : ℕ) → FullPart p → ApartPart p → AllRows (Sane s f m) (part_places p from to) → AllRows SettledPlace (part_places p from to)
      part-settled (act n) from to full apart sane = (one-settled (sig s f m from), tt)
      part-settled (gate g split join no_lane) from to full apart sane = absurd full
      part-settled (gate and_gate split join (lane code ps ls)) from to full apart sane =
          let r = rows-parts (Sane s f m) (lanes_places (lane code ps ls) split join) _ sane.1 in
          let later = lanes-flow s f m solves (lane code ps ls) split join full r.0 in
          let entry = λ (c : ℕ). node-silent s f m split kind.AndSplit (Some join) (from ∷ []) (branch_heads (lane code ps ls) join) sane.0 refl (Some c) in (
            one-settled (sig s f m from),
            rows-append SettledPlace (lanes_places (lane code ps ls) split join) _ (lanes-settled (lane code ps ls) split join full apart r.0)
                (and-settled (m split) (exits (lane code ps ls) split) (rows-later s f m (m split) (lane code ps ls) split entry later), tt),
          )
      part-settled (gate xor_gate split join (lane code ps ls)) from to full apart sane =
          let r = rows-parts (Sane s f m) (lanes_places (lane code ps ls) split join) _ sane.1 in
          let later = lanes-flow s f m solves (lane code ps ls) split join full r.0 in (
            one-settled (sig s f m from),
            rows-append SettledPlace (lanes_places (lane code ps ls) split join) _ (lanes-settled (lane code ps ls) split join full apart r.0)
                (xor-settled split join code (Some join) ps ls (from ∷ []) sane.0 later apart, tt),
          )
      part-settled (loop start end body) from to full apart sane =
          let r = rows-parts (Sane s f m) (parts_places body (plain_end start) end) _ sane.1 in
          (one-settled (sig s f m from), rows-append SettledPlace (parts_places body (plain_end start) end) _ (parts-settled body (plain_end start) end full apart r.0) (one-settled (sig s f m (leaving body (plain_end start))), tt))

      parts-settled : (ps : Parts) (from : End) (to : ℕ) → FullParts ps → ApartParts ps → AllRows (Sane s f m) (parts_places ps from to) → AllRows SettledPlace (parts_places ps from to)
      parts-settled nothing from to full apart sane = tt
      parts-settled (part p ps) from to full apart sane =
          let r = rows-parts (Sane s f m) (part_places p from (first_node ps to)) _ sane in
          rows-append SettledPlace (part_places p from (first_node ps to)) _ (part-settled p from (first_node ps to) full.0 apart.0 r.0) (parts-settled ps (plain_end (last_of p)) to full.1 apart.1 r.1)

      lanes-settled : (ls : Lanes) (split join : ℕ) → FullLanes ls → ApartLanes ls join → AllRows (Sane s f m) (lanes_places ls split join) → AllRows SettledPlace (lanes_places ls split join)
      lanes-settled no_lane split join full apart sane = tt
      lanes-settled (lane code ps ls) split join full apart sane =
          let r = rows-parts (Sane s f m) (parts_places ps (labelled split code) join) _ sane in
          rows-append SettledPlace (parts_places ps (labelled split code) join) _ (parts-settled ps (labelled split code) join full.0 apart.1.0 r.0) (lanes-settled ls split join full.1 apart.1.1 r.1)

    places-settled : FullParts s.body → ApartParts s.body → AllRows (Sane s f m) (places s.start s.body s.finish) → AllRows SettledPlace (places s.start s.body s.finish)
    places-settled full apart sane =
        let r = rows-parts (Sane s f m) (parts_places s.body (plain_end s.start) s.finish) _ sane.1 in
        (tt, rows-append SettledPlace (parts_places s.body (plain_end s.start) s.finish) _ (parts-settled s.body (plain_end s.start) s.finish full apart r.0) (one-settled (sig s f m (leaving s.body (plain_end s.start))), tt))

    -- where nobody may start or end a node, each node is ready or skipped
    pub never-stuck : (rank : List ℕ) → IsRank (cards_of s) rank → Regular s → AllRows (Sane s f m) (places s.start s.body s.finish) → Idle (cards_of s) f m →
        (n : ℕ) (c : Card) → card_at n (cards_of s) ≡ Some c → is_marked (m n) ≡ true
    never-stuck rank is regular sane idle =
        rank_induction (cards_of s) rank is (λ n. is_marked (m n) ≡ true) (λ n c e ins syncs.
        let so = sources-have_cards s regular n c e in
        let control = all-marked (sig s f m) c.ins (both_rows _ _ (λ x. is_marked (sig s f m x) ≡ true) (λ x a b. sig-marked idle x.label x.node a b) c.ins so.0 ins) in
        let sync = all-marked (sig_at (cards_of s) f m None) c.syncs_in (both_rows _ _ (λ x. is_marked (sig_at (cards_of s) f m None x) ≡ true) (λ x a b. sig-marked idle None x a b) c.syncs_in so.1 syncs) in
        let settled = all-rows-card_at (λ d. Settled d.kind (map (sig s f m) d.ins)) n (cards_of s) c
        (rows-map (λ d. Settled d.kind (map (sig s f m) d.ins)) (card_of s) (places s.start s.body s.finish) (places-settled regular.full regular.apart sane)) e in
        ap is_marked (solves.meets n c e) ∙ settled-decides c.kind (map (sig s f m) c.ins) (map (sig_at (cards_of s) f m None) c.syncs_in) settled control sync)
