-- Block flow: what the edge that leaves a part signals, by what the edge that enters it does.
use Rattle.wsm_marks.proofs.Common.{[], ℕ, ◌&&◌, ◌==◌, ◌∙◌, ◌∷◌, ◌≡◌, ◌≤◌, ◌⊎◌, act, AllRows, and_gate, and_left, and_parts, and_right, ap, arith, Bool, both_ways, branch_heads, branch_tails, card_at, card_of, cards_of, cases_Bool, cond}
use Rattle.wsm_marks.proofs.Common.{count_by, End, eq-eqb, eq_of, eqb, eqb-true, Facts, false, first_node, Flow, flow, FullLanes, FullPart, FullParts, gate, greater, has_label, inl, inr, is_chosen, is_no, is_some, is_xor_split, is_yes}
use Rattle.wsm_marks.proofs.Common.{labelled, lane, Lanes, lanes_places, last_of, latest, le-ltb, leaving, List, list_all, loop, ltb-false, ltb-true, map, Marking, nat_lt, no_lane, NodeKind, None, nothing, Option, Part, part, part_places}
use Rattle.wsm_marks.proofs.Common.{Parts, parts_places, Place, place, plain_end, refl, rows-parts, SchemaModel, sig_at, sig_by, sig_of, Solves, Some, subst, sym, time, Timed, timed_by, true, worked_on, xor_gate}
use Rattle.wsm_schema.specs.declared.cards.NodeKind.TheVariants as kind
use Rattle.wsm_schema.specs.declared.states.Flow.TheVariants.{Yes, No}
use Rattle.wsm_schema.specs.declared.states.Verdict.TheVariants as verdict

-- behind nothing comes nothing, behind a False the same False, behind a True nothing or a later True
pub data Later : Timed → Timed → Type 0 where
  none_none : Later None None
  no_no : (t : ℕ) → Later (Some (t, No)) (Some (t, No))
  yes_none : (t : ℕ) → Later (Some (t, Yes)) None
  yes_yes : (t u : ℕ) → t ≤ u → Later (Some (t, Yes)) (Some (u, Yes))

-- such steps in a row are one
pub later-trans : (x y z : Timed) → Later x y → Later y z → Later x z
later-trans _ _ _ none_none none_none = none_none
later-trans _ _ _ (no_no t) (no_no _) = no_no t
later-trans _ _ _ (yes_none t) none_none = yes_none t
later-trans _ _ _ (yes_yes t u le) (yes_none _) = yes_none t
later-trans _ _ _ (yes_yes t u le) (yes_yes _ v more) = yes_yes t v (omega arith)

greater-zero : (t : ℕ) → greater t 0 ≡ t
greater-zero t = rw (le-ltb t 0 (omega arith)) refl

-- the greater of two is no less than the first
pub greater-left : (a b : ℕ) → a ≤ greater a b
greater-left a b = elim (cases_Bool (nat_lt a b)) [ inl less ↦ rw less (omega (arith, ltb-true a b less)) | inr more ↦ rw more (omega arith) ]

-- and no less than the second
pub greater-right : (a b : ℕ) → b ≤ greater a b
greater-right a b = elim (cases_Bool (nat_lt a b)) [ inl less ↦ rw less (omega arith) | inr more ↦ rw more (omega (arith, ltb-false a b more)) ]

-- ---- a node with one edge into it, which is one of these kinds
abbrev pub OneEdge : NodeKind → Type 0
OneEdge kind.Start = ⊥
OneEdge kind.XorJoin = ⊥
OneEdge _ = Unit {0}

one-yes : (t b : ℕ) (y : Bool) → Later (Some (t, Yes)) (timed_by (cond y verdict.Ready verdict.Waiting) (greater t 0) b)
one-yes t b true = yes_yes t (greater (greater t 0) b) (omega (arith, greater-left (greater t 0) b, greater-left t 0))
one-yes t b false = yes_none t

one-edge : (k : NodeKind) (x : Timed) (ss : List Timed) → OneEdge k → Later x (eq_of k (x ∷ []) ss)
one-edge kind.Start x ss i = absurd i
one-edge kind.XorJoin x ss i = absurd i
one-edge _ None ss i = none_none
one-edge _ (Some (t, No)) ss i = subst (λ n. Later (Some (t, No)) (Some (n, No))) (sym (greater-zero t)) (no_no t)
one-edge _ (Some (t, Yes)) ss i = one-yes t (latest ss) (list_all is_some (map flow ss))

-- ---- an AND join, whose edges all stand behind one signal
first_yes : (t : ℕ) (x : Timed) → Later (Some (t, Yes)) x → is_no (flow x) ≡ false
first_yes t _ (yes_none _) = refl
first_yes t _ (yes_yes _ u le) = refl

-- behind a False stands the same False
pub no-is : (t : ℕ) (y : Timed) → Later (Some (t, No)) y → y ≡ Some (t, No)
no-is t _ (no_no _) = refl

-- behind nothing stands nothing
pub none-is : (y : Timed) → Later None y → y ≡ None
none-is _ none_none = refl

later-same : (x : Timed) → Later x x
later-same None = none_none
later-same (Some (t, Yes)) = yes_yes t t (omega arith)
later-same (Some (t, No)) = no_no t

-- behind a False all are False
pub all_no : (t : ℕ) (xs : List Timed) → AllRows (Later (Some (t, No))) xs → list_all is_no (map flow xs) ≡ true
all_no t [] h = refl
all_no t (x ∷ xs) h = rw (no-is t x h.0) (all_no t xs h.1)

all_no-latest : (t : ℕ) (xs : List Timed) → AllRows (Later (Some (t, No))) xs → latest (Some (t, No) ∷ xs) ≡ t
all_no-latest t [] h = greater-zero t
all_no-latest t (x ∷ xs) h =
    let e : latest (x ∷ xs) ≡ t = ap (λ y. latest (y ∷ xs)) (no-is t x h.0) ∙ all_no-latest t xs h.1 in
    ap (greater t) e ∙ (rw (le-ltb t t (omega arith)) refl)

open-join : (t a b : ℕ) (r y : Bool) → (r ≡ true → t ≤ a) → Later (Some (t, Yes)) (timed_by (cond r (cond y verdict.Ready verdict.Waiting) (cond false verdict.Skipped verdict.Waiting)) a b)
open-join t a b true true h = yes_yes t (greater a b) (omega (arith, h refl, greater-left a b))
open-join t a b true false h = yes_none t
open-join t a b false y h = yes_none t

and-join : (x y : Timed) (ys ss : List Timed) → Later x y → AllRows (Later x) ys → Later x (eq_of kind.AndJoin (y ∷ ys) ss)
and-join _ _ ys ss none_none h = none_none
and-join _ _ ys ss (no_no t) h = rw (all_no t ys h) (subst (λ n. Later (Some (t, No)) (Some (n, No))) (sym (all_no-latest t ys h)) (no_no t))
and-join _ _ ys ss (yes_none t) h = yes_none t
and-join _ _ ys ss (yes_yes t u le) h =
    open-join t (latest (Some (u, Yes) ∷ ys)) (latest ss) (list_all is_yes (map flow ys)) (list_all is_some (map flow ss)) (λ r. omega (arith, greater-left u (latest ys)))

-- ---- an XOR join: nothing, all False, or behind an ended split
all_no-count : (xs : List (Option Flow)) → list_all is_no xs ≡ true → count_by is_yes xs ≡ 0
all_no-count [] h = refl
all_no-count (None ∷ xs) h = absurd (both_ways _ refl h)
all_no-count (Some Yes ∷ xs) h = absurd (both_ways _ refl h)
all_no-count (Some No ∷ xs) h = all_no-count xs h

xor-no : (t : ℕ) (ys ss : List Timed) → AllRows (Later (Some (t, No))) ys → eq_of kind.XorJoin (Some (t, No) ∷ ys) ss ≡ Some (t, No)
xor-no t ys ss h =
    let n : count_by is_yes (map flow ys) ≡ 0 = all_no-count (map flow ys) (all_no t ys h) in
    let r : (list_all is_some (map flow ys) && (count_by is_yes (map flow ys) == 1)) ≡ false = and_right (list_all is_some (map flow ys)) _ (rw n refl) in
    rw (r, all_no t ys h) (ap (λ x. Some (x, No)) (all_no-latest t ys h))

-- behind a signal at u
abbrev Behind : ℕ → Timed → Type 0
Behind u y = Later (Some (u, Yes)) y ⊎ Later (Some (u, No)) y

behind-time : (u : ℕ) (y : Timed) → Behind u y → is_some (flow y) ≡ true → u ≤ time y
behind-time u _ (inl (yes_none _)) h = absurd (both_ways _ refl h)
behind-time u _ (inl (yes_yes _ v le)) h = le
behind-time u _ (inr (no_no _)) h = omega arith

behind-latest : (u : ℕ) (ys : List Timed) → AllRows (Behind u) ys → list_all is_no (map flow ys) ≡ false → list_all is_some (map flow ys) ≡ true → u ≤ latest ys
behind-latest u [] h some_yes all_in = absurd (both_ways _ some_yes refl)
behind-latest u (y ∷ ys) h some_yes all_in =
    omega (arith, behind-time u y h.0 (and_parts (is_some (flow y)) _ all_in).0, greater-left (time y) (latest ys))

xor-open : (t u : ℕ) → t ≤ u → (ys ss : List Timed) → AllRows (Behind u) ys → list_all is_no (map flow ys) ≡ false → Later (Some (t, Yes)) (eq_of kind.XorJoin ys ss)
xor-open t u le ys ss h some_yes =
    rw some_yes (open-join t (latest ys) (latest ss) (list_all is_some (map flow ys) && (count_by is_yes (map flow ys) == 1)) (list_all is_some (map flow ss))
    (λ r. omega (arith, behind-latest u ys h some_yes (and_parts (list_all is_some (map flow ys)) _ r).0)))

-- ---- signals of a node
pub not_some : (x : ℕ × Flow) → (let none : Timed = None in none) ≡ Some x → ⊥
not_some x h = cc

silent-sig : (k : NodeKind) (x : Timed) (en choice label : Option ℕ) → worked_on k ≡ false → sig_of k x en choice label ≡ x
silent-sig k None en choice label h = rw h refl
silent-sig k (Some (t, Yes)) en choice label h = rw h refl
silent-sig k (Some (t, No)) en choice label h = refl

worked-sig : (k : NodeKind) (x : Timed) (en choice label : Option ℕ) → worked_on k ≡ true → is_xor_split k ≡ false →
    ((u : ℕ) → en ≡ Some u → (t : ℕ) × (x ≡ Some (t, Yes)) × (t ≤ u)) → Later x (sig_of k x en choice label)
worked-sig k None None choice label works plain sane = rw works none_none
worked-sig k None (Some u) choice label works plain sane = let r = sane u refl in absurd (not_some (r.0, Yes) r.1)
worked-sig k (Some (t, No)) en choice label works plain sane = no_no t
worked-sig k (Some (t, Yes)) None choice label works plain sane = rw works (yes_none t)
worked-sig k (Some (t, Yes)) (Some u) choice label works plain sane =
    let r = sane u refl in
    let same : t ≡ r.0 = ap time r.1 in
    rw (works, plain) (yes_yes t u (omega (arith, same, r.2)))

module _ (s : SchemaModel) (f : Facts) (m : Marking) where
  -- the timed signal of an edge of the tree
  abbrev pub sig : End → Timed
  sig x = sig_at (cards_of s) f m x.label x.node

  -- what is asked of a place: its card is there, it was ended only when ready, and a split with the code of a branch
  pub record Sane (p : Place) : Type 0 where
    pub placed : card_at p.node (cards_of s) ≡ Some (card_of s p)
    pub ended : (u : ℕ) → f.ended p.node ≡ Some u → (t : ℕ) × (m p.node ≡ Some (t, Yes)) × (t ≤ u)
    pub chosen : is_xor_split p.kind ≡ true → (u : ℕ) → f.ended p.node ≡ Some u → (code : ℕ) × (f.choice p.node ≡ Some code) × (has_label code p.outs ≡ true)

  -- the signals of the sync edges into a place
  abbrev sync_signals : Place → List Timed
  sync_signals p = map (sig_at (cards_of s) f m None) (card_of s p).syncs_in

  -- the signal of an edge from a place, by the place's kind and mark
  pub sig-is : (p : Place) → Sane p → (label : Option ℕ) → sig_at (cards_of s) f m label p.node ≡ sig_of p.kind (m p.node) (f.ended p.node) (f.choice p.node) label
  sig-is p sane label = ap (λ o. sig_by o (m p.node) (f.ended p.node) (f.choice p.node) label) sane.placed

  -- a node that is worked on, and chooses no branch, signals behind its mark
  pub node-works : (n : ℕ) (k : NodeKind) (partner : Option ℕ) (ins outs : List End) → Sane (place n k partner ins outs) → worked_on k ≡ true → is_xor_split k ≡ false → (label : Option ℕ) →
      Later (m n) (sig_at (cards_of s) f m label n)
  node-works n k partner ins outs sane works plain label =
      subst (Later (m n)) (sym (sig-is (place n k partner ins outs) sane label)) (worked-sig k (m n) (f.ended n) (f.choice n) label works plain sane.ended)

  -- a silent node hands its mark on
  pub node-silent : (n : ℕ) (k : NodeKind) (partner : Option ℕ) (ins outs : List End) → Sane (place n k partner ins outs) → worked_on k ≡ false → (label : Option ℕ) → sig_at (cards_of s) f m label n ≡ m n
  node-silent n k partner ins outs sane silent label = sig-is (place n k partner ins outs) sane label ∙ silent-sig k (m n) (f.ended n) (f.choice n) label silent

  -- the exits of a block's branches stand behind their entries
  abbrev pub LanesLater : Lanes → ℕ → Type 0
  LanesLater no_lane split = Unit {0}
  LanesLater (lane code ps ls) split = Later (sig (labelled split code)) (sig (leaving ps (labelled split code))) × LanesLater ls split

  -- all exits of a block stand behind the one signal that its branches get
  pub rows-later : (x : Timed) (ls : Lanes) (split : ℕ) → ((code : ℕ) → sig (labelled split code) ≡ x) → LanesLater ls split → AllRows (Later x) (map sig (branch_tails ls split))
  rows-later x no_lane split same h = tt
  rows-later x (lane code ps ls) split same h = (subst (λ y. Later y (sig (leaving ps (labelled split code)))) (same code) h.0, rows-later x ls split same h.1)

  rows-behind : (u : ℕ) (ls : Lanes) (split : ℕ) → ((code : ℕ) → (sig (labelled split code) ≡ Some (u, Yes)) ⊎ (sig (labelled split code) ≡ Some (u, No))) → LanesLater ls split →
      AllRows (Behind u) (map sig (branch_tails ls split))
  rows-behind u no_lane split which h = tt
  rows-behind u (lane code ps ls) split which h = (
    elim (which code) [
      | inl it ↦ inl (subst (λ y. Later y (sig (leaving ps (labelled split code)))) it h.0)
      | inr other ↦ inr (subst (λ y. Later y (sig (leaving ps (labelled split code)))) other h.0)
    ],
    rows-behind u ls split which h.1,
  )

  chosen-goes : (u choice : ℕ) (ls : Lanes) (split join : ℕ) → ((code : ℕ) → eqb choice code ≡ true → sig (labelled split code) ≡ Some (u, Yes)) → has_label choice (branch_heads ls join) ≡ true → LanesLater ls split →
      list_all is_no (map flow (map sig (branch_tails ls split))) ≡ false
  chosen-goes u choice no_lane split join which has h = absurd (both_ways _ refl has)
  chosen-goes u choice (lane code ps ls) split join which has h =
      elim (cases_Bool (eqb code choice)) [
        | inl same ↦
            let it : sig (labelled split code) ≡ Some (u, Yes) = which code (eq-eqb choice code (sym (eqb-true code choice same))) in
            and_left (is_no (flow (sig (leaving ps (labelled split code))))) _ (first_yes u _ (subst (λ y. Later y (sig (leaving ps (labelled split code)))) it h.0))
        | inr other ↦ and_right (is_no (flow (sig (leaving ps (labelled split code))))) _ (chosen-goes u choice ls split join which (rw other at has) h.1)
      ]

  xor-flow : (x : Timed) (o : Option ℕ) (split join code : ℕ) (partner : Option ℕ) (ps : Parts) (ls : Lanes) (ins : List End) (ss : List Timed) →
      Sane (place split kind.XorSplit partner ins (branch_heads (lane code ps ls) join)) → m split ≡ x → f.ended split ≡ o → LanesLater (lane code ps ls) split →
      Later x (eq_of kind.XorJoin (map sig (branch_tails (lane code ps ls) split)) ss)
  xor-flow x o split join code partner ps ls ins ss sane at_m at_end h = go x o at_m at_end
    where
      entry : (y : Timed) (q : Option ℕ) → m split ≡ y → f.ended split ≡ q → (c : ℕ) → sig (labelled split c) ≡ sig_of kind.XorSplit y q (f.choice split) (Some c)
      entry y q e1 e2 c = sig-is (place split kind.XorSplit partner ins (branch_heads (lane code ps ls) join)) sane (Some c)
          ∙ ap (λ z. sig_of kind.XorSplit z (f.ended split) (f.choice split) (Some c)) e1 ∙ ap (λ z. sig_of kind.XorSplit y z (f.choice split) (Some c)) e2

      nothing-out : ((c : ℕ) → sig (labelled split c) ≡ None) → eq_of kind.XorJoin (map sig (branch_tails (lane code ps ls) split)) ss ≡ None
      nothing-out none =
          let first : sig (leaving ps (labelled split code)) ≡ None = none-is _ (subst (λ y. Later y (sig (leaving ps (labelled split code)))) (none code) h.0) in
          ap (λ y. eq_of kind.XorJoin (y ∷ map sig (branch_tails ls split)) ss) first

      go : (y : Timed) (q : Option ℕ) → m split ≡ y → f.ended split ≡ q → Later y (eq_of kind.XorJoin (map sig (branch_tails (lane code ps ls) split)) ss)
      go None None e1 e2 = subst (Later None) (sym (nothing-out (entry None None e1 e2))) none_none
      go None (Some u) e1 e2 = let r = sane.ended u e2 in absurd (not_some (r.0, Yes) (sym e1 ∙ r.1))
      go (Some (t, No)) q e1 e2 =
          let rows = rows-later (Some (t, No)) (lane code ps ls) split (entry (Some (t, No)) q e1 e2) h in
          let first : sig (leaving ps (labelled split code)) ≡ Some (t, No) = no-is t _ rows.0 in
          subst (Later (Some (t, No))) (sym (ap (λ y. eq_of kind.XorJoin (y ∷ map sig (branch_tails ls split)) ss) first ∙ xor-no t (map sig (branch_tails ls split)) ss rows.1)) (no_no t)
      go (Some (t, Yes)) None e1 e2 = subst (Later (Some (t, Yes))) (sym (nothing-out (entry (Some (t, Yes)) None e1 e2))) (yes_none t)
      go (Some (t, Yes)) (Some u) e1 e2 =
          let r = sane.ended u e2 in
          let same : t ≡ r.0 = ap time (sym e1 ∙ r.1) in
          let le : t ≤ u = omega (arith, same, r.2) in
          let c = sane.chosen refl u e2 in
          xor-open t u le (map sig (branch_tails (lane code ps ls) split)) ss
          (rows-behind u (lane code ps ls) split (λ k. elim (cases_Bool (is_chosen (f.choice split) (Some k))) [
            | inl it ↦ inl (entry (Some (t, Yes)) (Some u) e1 e2 k ∙ (rw it refl))
            | inr other ↦ inr (entry (Some (t, Yes)) (Some u) e1 e2 k ∙ (rw other refl))
          ]) h)
          (chosen-goes u c.0 (lane code ps ls) split join (λ k same_k. entry (Some (t, Yes)) (Some u) e1 e2 k ∙ (rw (c.1, same_k) refl)) c.2 h)

  module _ (solves : Solves (cards_of s) f m) where
    -- the mark of a place, by the signals of its edges
    pub mark-is : (p : Place) → Sane p → m p.node ≡ eq_of p.kind (map sig p.ins) (sync_signals p)
    mark-is p sane = solves.meets p.node (card_of s p) sane.placed

    -- the mark of a node with one edge into it stands behind the edge's signal
    pub node-one : (n : ℕ) (k : NodeKind) (partner : Option ℕ) (from : End) (outs : List End) → Sane (place n k partner (from ∷ []) outs) → OneEdge k → Later (sig from) (m n)
    node-one n k partner from outs sane i =
        subst (Later (sig from)) (sym (mark-is (place n k partner (from ∷ []) outs) sane)) (one-edge k (sig from) (sync_signals (place n k partner (from ∷ []) outs)) i)

    -- the signal that leaves a part stands behind the one that enters it
    mutual
      pub part-flow : (p : Part) (from : End) (to : ℕ) → FullPart p → AllRows Sane (part_places p from to) → Later (sig from) (sig (plain_end (last_of p)))
      part-flow (act n) from to full sane =
          later-trans _ _ _ (node-one n kind.Activity None from (plain_end to ∷ []) sane.0 tt) (node-works n kind.Activity None (from ∷ []) (plain_end to ∷ []) sane.0 refl refl None)
      part-flow (gate g split join no_lane) from to full sane = absurd full
      part-flow (gate and_gate split join (lane code ps ls)) from to full sane =
          let r = rows-parts Sane (lanes_places (lane code ps ls) split join) _ sane.1 in
          let q = rows-parts Sane (parts_places ps (labelled split code) join) _ r.0 in
          let first = parts-flow ps (labelled split code) join full.0 q.0 in
          let others = lanes-flow ls split join full.1 q.1 in
          let entry = λ (c : ℕ). node-silent split kind.AndSplit (Some join) (from ∷ []) (branch_heads (lane code ps ls) join) sane.0 refl (Some c) in
          let rows : AllRows (Later (m split)) (map sig (branch_tails (lane code ps ls) split)) = rows-later (m split) (lane code ps ls) split entry (first, others) in
          let end : Place = place join kind.AndJoin (Some split) (branch_tails (lane code ps ls) split) (plain_end to ∷ []) in
          later-trans _ _ _ (node-one split kind.AndSplit (Some join) from (branch_heads (lane code ps ls) join) sane.0 tt)
          (subst (Later (m split)) (sym (node-silent join kind.AndJoin (Some split) (branch_tails (lane code ps ls) split) (plain_end to ∷ []) r.1.0 refl None ∙ mark-is end r.1.0))
          (and-join (m split) (sig (leaving ps (labelled split code))) (map sig (branch_tails ls split)) (sync_signals end) rows.0 rows.1))
      part-flow (gate xor_gate split join (lane code ps ls)) from to full sane =
          let r = rows-parts Sane (lanes_places (lane code ps ls) split join) _ sane.1 in
          let q = rows-parts Sane (parts_places ps (labelled split code) join) _ r.0 in
          let first = parts-flow ps (labelled split code) join full.0 q.0 in
          let others = lanes-flow ls split join full.1 q.1 in
          let end : Place = place join kind.XorJoin (Some split) (branch_tails (lane code ps ls) split) (plain_end to ∷ []) in
          later-trans _ _ _ (node-one split kind.XorSplit (Some join) from (branch_heads (lane code ps ls) join) sane.0 tt)
          (subst (Later (m split)) (sym (node-silent join kind.XorJoin (Some split) (branch_tails (lane code ps ls) split) (plain_end to ∷ []) r.1.0 refl None ∙ mark-is end r.1.0))
          (xor-flow (m split) (f.ended split) split join code (Some join) ps ls (from ∷ []) (sync_signals end) sane.0 refl refl (first, others)))
      part-flow (loop start end body) from to full sane =
          let r = rows-parts Sane (parts_places body (plain_end start) end) _ sane.1 in
          let inside = parts-flow body (plain_end start) end full r.0 in
          later-trans _ _ _ (node-one start kind.LoopStart (Some end) from (plain_end (first_node body end) ∷ []) sane.0 tt)
          (later-trans _ _ _ (subst (λ x. Later x (sig (leaving body (plain_end start)))) (node-silent start kind.LoopStart (Some end) (from ∷ []) (plain_end (first_node body end) ∷ []) sane.0 refl None) inside)
          (later-trans _ _ _ (node-one end kind.LoopEnd (Some start) (leaving body (plain_end start)) (plain_end to ∷ []) r.1.0 tt)
          (node-works end kind.LoopEnd (Some start) (leaving body (plain_end start) ∷ []) (plain_end to ∷ []) r.1.0 refl refl None)))

      pub parts-flow : (ps : Parts) (from : End) (to : ℕ) → FullParts ps → AllRows Sane (parts_places ps from to) → Later (sig from) (sig (leaving ps from))
      parts-flow nothing from to full sane = later-same (sig from)
      parts-flow (part p ps) from to full sane =
          let r = rows-parts Sane (part_places p from (first_node ps to)) _ sane in
          later-trans _ _ _ (part-flow p from (first_node ps to) full.0 r.0) (parts-flow ps (plain_end (last_of p)) to full.1 r.1)

      pub lanes-flow : (ls : Lanes) (split join : ℕ) → FullLanes ls → AllRows Sane (lanes_places ls split join) → LanesLater ls split
      lanes-flow no_lane split join full sane = tt
      lanes-flow (lane code ps ls) split join full sane =
          let r = rows-parts Sane (parts_places ps (labelled split code) join) _ sane in
          (parts-flow ps (labelled split code) join full.0 r.0, lanes-flow ls split join full.1 r.1)
