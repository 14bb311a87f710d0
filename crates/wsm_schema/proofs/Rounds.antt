-- As many rounds as there are nodes come to what one pass in the order of a rank gives.
use Rattle.wsm_schema.proofs.Common.{[], ℕ, ◌++◌, ◌<◌, ◌∙◌, ◌∷◌, ◌≡◌, all-rows-map, AllRows, ap, append_assoc, arith, Bool, both_ways, Card, card_at, cases_Bool, cond, eq-eqb, eqb, eqb-true, false, inl, inr, is_begun, is_one_of, IsRank}
use Rattle.wsm_schema.proofs.Common.{judge_of, length, length-append, List, list_any, map, map-same, NodeKind, None, Option, pass, refl, round, ruled, ruled_from, ruled_if, settle, signal_from, Some, source_signal, spot, spot_in, Spots}
use Rattle.wsm_schema.proofs.Common.{state_by, subst, suc, sym, sync_from, true, verdict_at, worked_on, zero}
use Rattle.std.specs.Fn.{iterate}
use Rattle.wsm_schema.specs.{declared.states.Spot.Spot, declared.states.Verdict.Verdict}
use Rattle.wsm_schema.specs.declared.states.Verdict.TheVariants as verdict

-- ---- lists
-- a member stands somewhere
pub member-splits : (n : ℕ) (xs : List ℕ) → is_one_of n xs ≡ true → (front rest : List ℕ) × (xs ≡ front ++ (n ∷ rest))
member-splits n [] h = absurd (both_ways _ refl h)
member-splits n (x ∷ xs) h =
    elim (cases_Bool (eqb x n)) [
      | inl same ↦ ([], xs, ap (λ y. y ∷ xs) (eqb-true x n same))
      | inr other ↦ let s = member-splits n xs (rw other at h) in (x ∷ s.0, s.1, ap (λ ys. x ∷ ys) s.2)
    ]

pub iterate-last : {A : Type 0} (h : A → A) (k : ℕ) (x : A) → iterate h (suc k) x ≡ h (iterate h k x)
iterate-last h zero x = refl
iterate-last h (suc k) x = iterate-last h k (h x)

-- ---- spots
pub node_of-spot_in : (n : ℕ) (t : Spots) → (spot_in n t).node ≡ n
node_of-spot_in n [] = refl
node_of-spot_in n (s ∷ ss) =
    elim (cases_Bool (eqb s.node n)) [
      | inl same ↦ rw same (eqb-true s.node n same)
      | inr other ↦ rw other (node_of-spot_in n ss)
    ]

-- the first card of a number has that number
pub card_at-node : (n : ℕ) (cards : List Card) (c : Card) → card_at n cards ≡ Some c → c.node ≡ n
card_at-node n [] c e = absurd (cc)
card_at-node n (d ∷ ds) c e =
    elim (cases_Bool (eqb d.node n)) [
      | inl same ↦ let p : Some d ≡ Some c = rw same at e in let q : d ≡ c = cc in subst (λ x. x.node ≡ n) q (eqb-true d.node n same)
      | inr other ↦ card_at-node n ds c (rw other at e)
    ]

-- the spots of a map over the cards
pub spot_in-map : (f : Card → Spot) → ((c : Card) → (f c).node ≡ c.node) → (n : ℕ) (cards : List Card) (c : Card) → card_at n cards ≡ Some c → spot_in n (map f cards) ≡ f c
spot_in-map f keeps n [] c e = absurd (cc)
spot_in-map f keeps n (d ∷ ds) c e =
    elim (cases_Bool (eqb d.node n)) [
      | inl same ↦ let p : Some d ≡ Some c = rw same at e in let q : d ≡ c = cc in let here : eqb (f d).node n ≡ true = rw (keeps d) same in rw here (ap f q)
      | inr other ↦ let away : eqb (f d).node n ≡ false = rw (keeps d) other in rw away (spot_in-map f keeps n ds c (rw other at e))
    ]

node_of-ruled : (cards : List Card) (t : Spots) (c : Card) → (ruled cards t c).node ≡ c.node
node_of-ruled cards t c =
    elim (is_begun c.kind (spot_in c.node t).state) as (λ b. (cond b (spot_in c.node t) (spot c.node (state_by c.kind (verdict_at cards t c)) None)).node ≡ c.node) [
      | true ↦ node_of-spot_in c.node t
      | false ↦ refl
    ]

pub spot_in-round : (cards : List Card) (t : Spots) (n : ℕ) (c : Card) → card_at n cards ≡ Some c → spot_in n (round cards t) ≡ ruled cards t c
spot_in-round cards t n c e = spot_in-map (ruled cards t) (node_of-ruled cards t) n cards c e

-- a rule begins no node
pub rule_begins_none : (kind : NodeKind) (v : Verdict) → is_begun kind (state_by kind v) ≡ false
rule_begins_none kind verdict.Waiting = refl
rule_begins_none kind verdict.Skipped = refl
rule_begins_none kind verdict.Ready =
    elim (cases_Bool (worked_on kind)) [
      | inl works ↦ rw works refl
      | inr silent ↦ rw silent silent
    ]

-- ---- what was begun stays
module _ (cards : List Card) (old : Spots) where
  pub record KeepsBegun (t : Spots) : Type 0 where
    pub begun : (n : ℕ) (c : Card) → card_at n cards ≡ Some c → is_begun c.kind (spot_in n t).state ≡ is_begun c.kind (spot_in n old).state
    pub same : (n : ℕ) (c : Card) → card_at n cards ≡ Some c → is_begun c.kind (spot_in n old).state ≡ true → spot_in n t ≡ spot_in n old

  keeps_at_first : KeepsBegun old
  keeps_at_first = record { begun = λ n c e. refl; same = λ n c e h. refl }

  -- then the rule at t is the rule that knows `old`
  ruled_is : (t : Spots) → KeepsBegun t → (n : ℕ) (c : Card) → card_at n cards ≡ Some c → ruled cards t c ≡ ruled_from cards old t c
  ruled_is t keeps n c e =
      let at_node : c.node ≡ n = card_at-node n cards c e in
      let found : card_at c.node cards ≡ Some c = ap (λ m. card_at m cards) at_node ∙ e in
      elim (cases_Bool (is_begun c.kind (spot_in c.node old).state)) [
        | inl begun_so ↦ rw (keeps.begun c.node c found, begun_so) (keeps.same c.node c found begun_so)
        | inr fresh ↦ rw (keeps.begun c.node c found, fresh) refl
      ]

  ruled_from_begun : (t : Spots) (c : Card) → is_begun c.kind (spot_in c.node old).state ≡ true → ruled_from cards old t c ≡ spot_in c.node old
  ruled_from_begun t c begun_so = rw begun_so refl

  ruled_from_state : (t : Spots) (c : Card) → is_begun c.kind (ruled_from cards old t c).state ≡ is_begun c.kind (spot_in c.node old).state
  ruled_from_state t c =
      elim (cases_Bool (is_begun c.kind (spot_in c.node old).state)) [
        | inl begun_so ↦ rw begun_so begun_so
        | inr fresh ↦ rw fresh (rule_begins_none c.kind (verdict_at cards t c))
      ]

  keeps_round : (t : Spots) → KeepsBegun t → KeepsBegun (round cards t)
  keeps_round t keeps = record {
    begun = λ n c e.
        let r : spot_in n (round cards t) ≡ ruled_from cards old t c = spot_in-round cards t n c e ∙ ruled_is t keeps n c e in
        ap (λ s. is_begun c.kind s.state) r ∙ ruled_from_state t c ∙ ap (λ m. is_begun c.kind (spot_in m old).state) (card_at-node n cards c e);
    same = λ n c e begun_so.
        let at_node = card_at-node n cards c e in
        spot_in-round cards t n c e ∙ ruled_is t keeps n c e
        ∙ ruled_from_begun t c (ap (λ m. is_begun c.kind (spot_in m old).state) at_node ∙ begun_so) ∙ ap (λ m. spot_in m old) at_node;
  }

  pub keeps_rounds : (k : ℕ) → KeepsBegun (iterate (round cards) k old)
  keeps_rounds zero = keeps_at_first
  keeps_rounds (suc k) = subst KeepsBegun (sym (iterate-last (round cards) k old)) (keeps_round _ (keeps_rounds k))

  -- the verdict goes by the signals of the sources alone
  verdict_same : (s t : Spots) (c : Card) → AllRows (λ e. signal_from cards s e ≡ signal_from cards t e) c.ins → AllRows (λ m. sync_from cards s m ≡ sync_from cards t m) c.syncs_in →
      verdict_at cards s c ≡ verdict_at cards t c
  verdict_same s t c ins syncs =
      ap (λ control. judge_of c.kind control (map (sync_from cards s) c.syncs_in)) (map-same _ _ c.ins ins)
      ∙ ap (judge_of c.kind (map (signal_from cards t) c.ins)) (map-same _ _ c.syncs_in syncs)

  ruled_from_same : (s t : Spots) (c : Card) → AllRows (λ e. signal_from cards s e ≡ signal_from cards t e) c.ins → AllRows (λ m. sync_from cards s m ≡ sync_from cards t m) c.syncs_in →
      ruled_from cards old s c ≡ ruled_from cards old t c
  ruled_from_same s t c ins syncs =
      ap (λ v. cond (is_begun c.kind (spot_in c.node old).state) (spot_in c.node old) (spot c.node (state_by c.kind v) None)) (verdict_same s t c ins syncs)

  -- a table that meets the rule at each node
  abbrev pub Meets : Spots → Type 0
  Meets h = (n : ℕ) (c : Card) → card_at n cards ≡ Some c → spot_in n h ≡ ruled_from cards old h c

  source_same : (s t : Spots) (m : ℕ) → ((c : Card) → card_at m cards ≡ Some c → spot_in m s ≡ spot_in m t) → (label : Option ℕ) →
      source_signal (card_at m cards) (spot_in m s) label ≡ source_signal (card_at m cards) (spot_in m t) label
  source_same s t m h label = go (card_at m cards) h
    where
      go : (o : Option Card) → ((c : Card) → o ≡ Some c → spot_in m s ≡ spot_in m t) → source_signal o (spot_in m s) label ≡ source_signal o (spot_in m t) label
      go None h = refl
      go (Some c) h = ap (λ x. source_signal (Some c) x label) (h c refl)

  module _ (rank : List ℕ) (is : IsRank cards rank) (h : Spots) (meets : Meets h) where
    -- after k rounds the first k nodes of the rank are as in h
    pub settled : (k : ℕ) (front rest : List ℕ) (n : ℕ) (c : Card) → rank ≡ front ++ (n ∷ rest) → card_at n cards ≡ Some c → length front < k →
        spot_in n (iterate (round cards) k old) ≡ spot_in n h
    settled zero front rest n c at e lt = absurd (omega arith)
    settled (suc k) front rest n c at e lt =
        let t : Spots = iterate (round cards) k old in
        let earlier : (m : ℕ) → is_one_of m front ≡ true → (d : Card) → card_at m cards ≡ Some d → spot_in m t ≡ spot_in m h =
        λ m in_front d found.
        let s = member-splits m front in_front in
        let where_m : rank ≡ s.0 ++ (m ∷ (s.1 ++ (n ∷ rest))) = at ∙ ap (λ f. f ++ (n ∷ rest)) s.2 ∙ append_assoc s.0 (m ∷ s.1) (n ∷ rest) in
        settled k s.0 (s.1 ++ (n ∷ rest)) m d where_m found (omega (arith, ap length s.2, length-append s.0 (m ∷ s.1)))
        in
        let order = is.behind front rest n c at e in
        ap (spot_in n) (iterate-last (round cards) k old)
        ∙ spot_in-round cards t n c e
        ∙ ruled_is t (keeps_rounds k) n c e
        ∙ ruled_from_same t h c
        (all-rows-map _ _ (λ x in_front. source_same t h x.node (earlier x.node in_front) x.label) c.ins order.0)
        (all-rows-map _ _ (λ m in_front. source_same t h m (earlier m in_front) None) c.syncs_in order.1)
        ∙ sym (meets n c e)

-- ---- the pass
abbrev has_spot : ℕ → Spots → Bool
has_spot n t = list_any (λ s. eqb s.node n) t

spot_in-append : (n : ℕ) (t : Spots) (s : Spot) → has_spot n t ≡ true → spot_in n (t ++ s ∷ []) ≡ spot_in n t
spot_in-append n [] s h = absurd (both_ways _ refl h)
spot_in-append n (x ∷ xs) s h =
    elim (cases_Bool (eqb x.node n)) [
      | inl same ↦ rw same refl
      | inr other ↦ rw other (spot_in-append n xs s (rw other at h))
    ]

spot_in-last : (n : ℕ) (t : Spots) (s : Spot) → has_spot n t ≡ false → s.node ≡ n → spot_in n (t ++ s ∷ []) ≡ s
spot_in-last n [] s h e = let here : eqb s.node n ≡ true = eq-eqb s.node n e in rw here refl
spot_in-last n (x ∷ xs) s h e =
    elim (cases_Bool (eqb x.node n)) [
      | inl same ↦ absurd (both_ways _ (rw same at h) refl)
      | inr other ↦ rw other (spot_in-last n xs s (rw other at h) e)
    ]

has_spot-append : (n : ℕ) (t : Spots) (s : Spot) → has_spot n t ≡ true → has_spot n (t ++ s ∷ []) ≡ true
has_spot-append n [] s h = absurd (both_ways _ refl h)
has_spot-append n (x ∷ xs) s h =
    elim (cases_Bool (eqb x.node n)) [
      | inl same ↦ rw same refl
      | inr other ↦ rw other (has_spot-append n xs s (rw other at h))
    ]

has_spot-last : (n : ℕ) (t : Spots) (s : Spot) → s.node ≡ n → has_spot n (t ++ s ∷ []) ≡ true
has_spot-last n [] s e = let here : eqb s.node n ≡ true = eq-eqb s.node n e in rw here refl
has_spot-last n (x ∷ xs) s e =
    elim (cases_Bool (eqb x.node n)) [
      | inl same ↦ rw same refl
      | inr other ↦ rw other (has_spot-last n xs s e)
    ]

has_no_spot-append : (n : ℕ) (t : Spots) (s : Spot) → has_spot n t ≡ false → eqb s.node n ≡ false → has_spot n (t ++ s ∷ []) ≡ false
has_no_spot-append n [] s h e = rw e refl
has_no_spot-append n (x ∷ xs) s h e =
    elim (cases_Bool (eqb x.node n)) [
      | inl same ↦ absurd (both_ways _ (rw same at h) refl)
      | inr other ↦ rw other (has_no_spot-append n xs s (rw other at h) e)
    ]

pub all-rows-card_at : (P : Card → Type 0) (n : ℕ) (cards : List Card) (c : Card) → AllRows P cards → card_at n cards ≡ Some c → P c
all-rows-card_at P n [] c h e = absurd (cc)
all-rows-card_at P n (d ∷ ds) c h e =
    elim (cases_Bool (eqb d.node n)) [
      | inl same ↦ let p : Some d ≡ Some c = rw same at e in let q : d ≡ c = cc in subst P q h.0
      | inr other ↦ all-rows-card_at P n ds c h.1 (rw other at e)
    ]

module _ (cards : List Card) (old : Spots) where
  node_of-ruled_from : (t : Spots) (c : Card) → (ruled_from cards old t c).node ≡ c.node
  node_of-ruled_from t c =
      elim (is_begun c.kind (spot_in c.node old).state) as (λ b. (cond b (spot_in c.node old) (spot c.node (state_by c.kind (verdict_at cards t c)) None)).node ≡ c.node) [
        | true ↦ node_of-spot_in c.node old
        | false ↦ refl
      ]

  pub pass-append : (front ys : List ℕ) (t : Spots) → pass cards old (front ++ ys) t ≡ pass cards old ys (pass cards old front t)
  pass-append [] ys t = refl
  pass-append (n ∷ ns) ys t = pass-append ns ys (ruled_if cards old t (card_at n cards))

  spot_stays : (m : ℕ) (o : Option Card) (t : Spots) → has_spot m t ≡ true → (spot_in m (ruled_if cards old t o) ≡ spot_in m t) × (has_spot m (ruled_if cards old t o) ≡ true)
  spot_stays m None t h = (refl, h)
  spot_stays m (Some c) t h = (spot_in-append m t (ruled_from cards old t c) h, has_spot-append m t (ruled_from cards old t c) h)

  spot_stays_all : (m : ℕ) (ns : List ℕ) (t : Spots) → has_spot m t ≡ true → spot_in m (pass cards old ns t) ≡ spot_in m t
  spot_stays_all m [] t h = refl
  spot_stays_all m (n ∷ ns) t h =
      let s = spot_stays m (card_at n cards) t h in spot_stays_all m ns (ruled_if cards old t (card_at n cards)) s.1 ∙ s.0

  has_after : (m : ℕ) (ns : List ℕ) (t : Spots) → has_spot m t ≡ true → has_spot m (pass cards old ns t) ≡ true
  has_after m [] t h = h
  has_after m (n ∷ ns) t h = has_after m ns _ (spot_stays m (card_at n cards) t h).1

  has_passed : (m : ℕ) (d : Card) (ns : List ℕ) (t : Spots) → card_at m cards ≡ Some d → is_one_of m ns ≡ true → has_spot m (pass cards old ns t) ≡ true
  has_passed m d [] t e h = absurd (both_ways _ refl h)
  has_passed m d (n ∷ ns) t e h =
      elim (cases_Bool (eqb n m)) [
        | inl same ↦
            let here : card_at n cards ≡ Some d = ap (λ x. card_at x cards) (eqb-true n m same) ∙ e in
            has_after m ns (ruled_if cards old t (card_at n cards)) (rw here (has_spot-last m t (ruled_from cards old t d) (node_of-ruled_from t d ∙ card_at-node m cards d e)))
        | inr other ↦ has_passed m d ns (ruled_if cards old t (card_at n cards)) e (rw other at h)
      ]

  not_by_other : (n m : ℕ) (o : Option Card) (t : Spots) → card_at m cards ≡ o → eqb m n ≡ false → has_spot n t ≡ false → has_spot n (ruled_if cards old t o) ≡ false
  not_by_other n m None t e other h = h
  not_by_other n m (Some c) t e other h =
      has_no_spot-append n t (ruled_from cards old t c) h (rw (node_of-ruled_from t c, card_at-node m cards c e) other)

  has_not : (n : ℕ) (ns : List ℕ) (t : Spots) → is_one_of n ns ≡ false → has_spot n t ≡ false → has_spot n (pass cards old ns t) ≡ false
  has_not n [] t h e = e
  has_not n (m ∷ ns) t h e =
      elim (cases_Bool (eqb m n)) [
        | inl same ↦ absurd (both_ways _ (rw same at h) refl)
        | inr other ↦ has_not n ns (ruled_if cards old t (card_at m cards)) (rw other at h) (not_by_other n m (card_at m cards) t refl other e)
      ]

  module _ (rank : List ℕ) (is : IsRank cards rank) where
    pub pass-meets : Meets cards old (pass cards old rank [])
    pass-meets n c e =
        let in_rank : is_one_of n rank ≡ true = subst (λ m. is_one_of m rank ≡ true) (card_at-node n cards c e) (all-rows-card_at (λ d. is_one_of d.node rank ≡ true) n cards c is.all e) in
        let s = member-splits n rank in_rank in
        let front : List ℕ = s.0 in
        let rest : List ℕ = s.1 in
        let done : Spots = pass cards old front [] in
        let next : Spots = done ++ ruled_from cards old done c ∷ [] in
        let step : pass cards old rank [] ≡ pass cards old rest next =
        ap (λ r. pass cards old r []) s.2 ∙ pass-append front (n ∷ rest) [] ∙ ap (λ o. pass cards old rest (ruled_if cards old done o)) e in
        let named : (ruled_from cards old done c).node ≡ n = node_of-ruled_from done c ∙ card_at-node n cards c e in
        let fresh : has_spot n done ≡ false = has_not n front [] (is.once front rest n s.2) refl in
        let order = is.behind front rest n c s.2 e in
        let kept : (m : ℕ) → is_one_of m front ≡ true → (d : Card) → card_at m cards ≡ Some d → spot_in m done ≡ spot_in m (pass cards old rank []) =
        λ m in_front d found.
        let has = has_passed m d front [] found in_front in
        sym (ap (spot_in m) step ∙ spot_stays_all m rest next (has_spot-append m done (ruled_from cards old done c) has) ∙ spot_in-append m done (ruled_from cards old done c) has)
        in
        ap (spot_in n) step
        ∙ spot_stays_all n rest next (has_spot-last n done (ruled_from cards old done c) named)
        ∙ spot_in-last n done (ruled_from cards old done c) fresh named
        ∙ ruled_from_same cards old done (pass cards old rank []) c
        (all-rows-map _ _ (λ x in_front. source_same cards old done (pass cards old rank []) x.node (kept x.node in_front) x.label) c.ins order.0)
        (all-rows-map _ _ (λ m in_front. source_same cards old done (pass cards old rank []) m (kept m in_front) None) c.syncs_in order.1)

    -- the settled net is that of the pass
    pub settle-is_pass : (n : ℕ) (c : Card) → card_at n cards ≡ Some c → spot_in n (settle cards old) ≡ spot_in n (pass cards old rank [])
    settle-is_pass n c e =
        let in_rank : is_one_of n rank ≡ true = subst (λ m. is_one_of m rank ≡ true) (card_at-node n cards c e) (all-rows-card_at (λ d. is_one_of d.node rank ≡ true) n cards c is.all e) in
        let s = member-splits n rank in_rank in
        settled cards old rank is (pass cards old rank []) pass-meets (length cards) s.0 s.1 n c s.2 e
        (omega (arith, is.size, ap length s.2, length-append s.0 (n ∷ s.1)))
