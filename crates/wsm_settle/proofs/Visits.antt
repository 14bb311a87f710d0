-- What a visit makes of a walk, and how visits follow one another.
use Rattle.wsm_settle.proofs.Common.{[], ℕ, ◌+◌, ◌-◌, ◌<◌, ◌∙◌, ◌∷◌, ◌≡◌, ◌≤◌, All, AllBehind, AllWithin, ap, arith, both_ways, Card, card_at, cases_Bool, eq-eqb, eq_of, eqb, eqb-true, facts_by, first, get_or, Handed, inl, inr, is_one_of}
use Rattle.wsm_settle.proofs.Common.{IsRevised, leads_to, length, List, map, Mark, None, Option, put_row, ReadsFew, refl, said, seen, sig_at, Some, Spends, Spent, spent-end, spent-visit, spent-whole, Stands, stands-new, stands-none}
use Rattle.wsm_settle.proofs.Common.{stands-same, subst, suc, sym, time_by, Timed, timed_of, times_by, true, visit_cost, Walks, with_time}
use Rattle.std.proofs.lemmas.List.Elements.{All-head, All-tail}
use Rattle.wsm_schema.proofs.Rounds.{card_at-node}

-- signals that were read one after another give the node's time
pub equation-is : (cards : List Card) (c : Card) (kept kept' : List (ℕ × Mark)) (changes : List (ℕ × Option Mark)) (control syncs : List Timed) (timed : Timed) → timed ≡ eq_of c.kind control syncs →
    control ≡ map (λ e. sig_at cards (facts_by (seen kept changes)) (times_by (seen kept changes)) e.label e.node) c.ins → kept' ≡ kept →
    syncs ≡ map (sig_at cards (facts_by (seen kept' changes)) (times_by (seen kept' changes)) None) c.syncs_in → timed ≡ time_by cards (seen kept changes) c
equation-is cards c kept kept' changes control syncs timed is control_is same syncs_is =
    let syncs_are : syncs ≡ map (sig_at cards (facts_by (seen kept changes)) (times_by (seen kept changes)) None) c.syncs_in =
    syncs_is ∙ ap (λ rows. map (sig_at cards (facts_by (seen rows changes)) (times_by (seen rows changes)) None) c.syncs_in) same in
    is ∙ (λ i. eq_of c.kind (control_is i) (syncs_are i))

-- the same time over marks that stayed
pub time-is : (cards : List Card) (c : Card) (kept kept' : List (ℕ × Mark)) (changes : List (ℕ × Option Mark)) (timed : Timed) → kept' ≡ kept → timed ≡ time_by cards (seen kept' changes) c → timed ≡ time_by cards (seen kept changes) c
time-is cards c kept kept' changes timed same is = is ∙ ap (λ rows. time_by cards (seen rows changes) c) same

pub revised-same : (cards : List Card) (c : Card) (now : ℕ → Mark) (old : Mark) (timed own : Timed) → old ≡ now c.node → timed ≡ time_by cards now c → own ≡ timed_of old → timed ≡ own → IsRevised cards now c None
revised-same cards c now old timed own old_is is own_is same = ap timed_of (sym old_is) ∙ sym own_is ∙ sym same ∙ is

pub revised-new : (cards : List Card) (c : Card) (now : ℕ → Mark) (old mark : Mark) (timed : Timed) → old ≡ now c.node → timed ≡ time_by cards now c → mark ≡ with_time timed old → IsRevised cards now c (Some mark)
revised-new cards c now old mark timed old_is is mark_is = mark_is ∙ (λ i. with_time (is i) (old_is i))

-- the same over marks that stayed
pub revised-over : (cards : List Card) (c : Card) (kept kept' : List (ℕ × Mark)) (changes : List (ℕ × Option Mark)) (o : Option Mark) → kept' ≡ kept → IsRevised cards (seen kept' changes) c o → IsRevised cards (seen kept changes) c o
revised-over cards c kept kept' changes o same is = subst (λ rows. IsRevised cards (seen rows changes) c o) same is

module _ (cards : List Card) (rank : List ℕ) (p n d : ℕ) (keys : List ℕ) (lt : p < length rank) (here : get_or rank p d ≡ n) (behind : AllBehind p keys) where
  module _ (kept : List (ℕ × Mark)) (changes : List (ℕ × Option Mark)) where
    -- a node that is none of the net's
    pub walks-none : card_at n cards ≡ None → Walks cards rank kept (p ∷ keys) changes keys changes
    walks-none none goal aim st = stands-none cards rank goal aim kept p n d keys changes lt here behind st none

    module _ (c : Card) (found : card_at n cards ≡ Some c) where
      own : c.node ≡ n
      own = card_at-node n cards c found

      -- a node that has its time
      pub walks-same : (o : Option Mark) → IsRevised cards (seen kept changes) c o → o ≡ None → Walks cards rank kept (p ∷ keys) changes keys changes
      walks-same o revised none goal aim st =
          let same : timed_of (seen kept changes c.node) ≡ time_by cards (seen kept changes) c = subst (IsRevised cards (seen kept changes) c) none revised in
          stands-same cards rank goal aim kept p n d keys changes lt here behind st c found (ap (λ k. timed_of (seen kept changes k)) (sym own) ∙ same)

      -- a node that gets another time, and hands on
      pub walks-new : (o : Option Mark) → IsRevised cards (seen kept changes) c o → (m : Mark) → o ≡ Some m → (x : Option Mark) → x ≡ said m → (changes' : List (ℕ × Option Mark)) → changes' ≡ put_row first (c.node, x) changes →
          (keys' : List ℕ) → Handed rank (leads_to c) (p + 1) keys keys' → Walks cards rank kept (p ∷ keys) changes keys' changes'
      walks-new o revised m some x x_is changes' are keys' handed goal aim st =
          let mark : m ≡ with_time (time_by cards (seen kept changes) c) (seen kept changes c.node) = subst (IsRevised cards (seen kept changes) c) some revised in
          let row : put_row first (n, said (with_time (time_by cards (seen kept changes) c) (seen kept changes n))) changes ≡ changes' =
          (λ i. put_row first (own' i, said (with_time (time_by cards (seen kept changes) c) (seen kept changes (own' i)))) changes)
          ∙ ap (λ (y : Mark). put_row first (c.node, said y) changes) (sym mark)
          ∙ ap (λ (y : Option Mark). put_row first (c.node, y) changes) (sym x_is)
          ∙ sym are in
          subst (λ l. Stands cards rank goal kept keys' l) row (stands-new cards rank goal aim kept p n d keys changes lt here behind st c found keys' handed)
        where
          own' : n ≡ c.node
          own' = sym own

  module _ (reads reads' : ℕ) where
    -- what a visit reads
    pub spends-none : card_at n cards ≡ None → reads' ≤ reads → Spends cards rank reads (p ∷ keys) reads' keys
    spends-none none few inside base is closed sp =
        spent-visit cards rank is inside closed base p n d keys reads reads' lt here sp (rw none (omega (arith, few))) behind keys (λ q h. inl h)

    module _ (c : Card) (found : card_at n cards ≡ Some c) (few : reads' ≤ reads + (1 + (length c.ins + length c.syncs_in))) where
      pub spends-same : Spends cards rank reads (p ∷ keys) reads' keys
      spends-same inside base is closed sp = spent-visit cards rank is inside closed base p n d keys reads reads' lt here sp (rw found few) behind keys (λ q h. inl h)

      pub spends-new : (keys' : List ℕ) → Handed rank (leads_to c) (p + 1) keys keys' → Spends cards rank reads (p ∷ keys) reads' keys'
      spends-new keys' handed inside base is closed sp =
          spent-visit cards rank is inside closed base p n d keys reads reads' lt here sp (rw found few) behind keys' (λ q h. elim (handed.only q h) [ inl old ↦ inl old | inr named ↦ inr (c, found, named) ])

-- ---- one visit after another
pub walks-on : (cards : List Card) (rank : List ℕ) (kept kept' : List (ℕ × Mark)) (a b b' e : List ℕ) (x y z : List (ℕ × Option Mark)) → Walks cards rank kept a x b y → b ≡ b' → kept' ≡ kept → Walks cards rank kept' b' y e z → Walks cards rank kept a x e z
walks-on cards rank kept kept' a b b' e x y z one same stays two goal aim st =
    subst (λ rows. Stands cards rank goal rows e z) stays (two goal aim (subst (λ rows. Stands cards rank goal rows b' y) (sym stays) (subst (λ l. Stands cards rank goal kept l y) same (one goal aim st))))

pub spends-on : (cards : List Card) (rank : List ℕ) (r r' r'' : ℕ) (a b b' e : List ℕ) → Spends cards rank r a r' b → b ≡ b' → Spends cards rank r' b' r'' e → Spends cards rank r a r'' e
spends-on cards rank r r' r'' a b b' e one same two inside base is closed sp = two inside base is closed (subst (Spent cards rank inside base r') same (one inside base is closed sp))

-- at the end of the walk
pub walks-end : (cards : List Card) (rank : List ℕ) (kept : List (ℕ × Mark)) (a b : List ℕ) (x y : List (ℕ × Option Mark)) → Walks cards rank kept a x b y → b ≡ [] → Walks cards rank kept a x [] y
walks-end cards rank kept a b x y one none goal aim st = subst (λ l. Stands cards rank goal kept l y) none (one goal aim st)

pub few-end : (cards : List Card) (rank : List ℕ) (r r' : ℕ) (a b : List ℕ) → Spends cards rank r a r' b → b ≡ [] → ReadsFew cards rank r a r'
few-end cards rank r r' a b one none inside base is closed sp = spent-end cards rank is inside closed base r' (subst (Spent cards rank inside base r') none (one inside base is closed sp))

-- or where a visit fails
pub few-failed : (cards : List Card) (rank : List ℕ) (r r' r'' : ℕ) (a b : List ℕ) (p n d : ℕ) (keys : List ℕ) → Spends cards rank r a r' b → b ≡ p ∷ keys → p < length rank → get_or rank p d ≡ n → r'' ≤ r' + visit_cost (card_at n cards) → ReadsFew cards rank r a r''
few-failed cards rank r r' r'' a b p n d keys one same lt here few inside base is closed sp =
    spent-whole cards rank is inside closed base p n d keys r' r'' lt here (subst (Spent cards rank inside base r') same (one inside base is closed sp)) few

-- ---- pending places
pub none-left : (xs : List ℕ) → length xs ≡ 0 → xs ≡ []
none-left [] h = refl
none-left (x ∷ xs) h = absurd (omega (arith, h))

pub behind-all : (p : ℕ) (keys : List ℕ) → All (λ y. p < y) keys → AllBehind p keys
behind-all p [] all q there = absurd (both_ways _ refl there)
behind-all p (k ∷ ks) all q there =
    elim (cases_Bool (eqb k q)) [
      | inl same ↦ subst (λ x. p < x) (eqb-true k q same) (All-head (λ y. p < y) k ks all)
      | inr other ↦ behind-all p ks (All-tail (λ y. p < y) k ks all) q (rw other at there)
    ]

pub within-head : (high p : ℕ) (keys all : List ℕ) → all ≡ p ∷ keys → AllWithin high all → p < high
within-head high p keys all same within = within p (subst (λ l. is_one_of p l ≡ true) (sym same) (rw (eq-eqb p p refl) refl))

pub within-tail : (high p : ℕ) (keys all : List ℕ) → all ≡ p ∷ keys → AllWithin high all → AllWithin high keys
within-tail high p keys all same within q there =
    within q (subst (λ l. is_one_of q l ≡ true) (sym same) (elim (cases_Bool (eqb p q)) [ inl here ↦ rw here refl | inr other ↦ rw other there ]))

-- how much of the rank is left to a walk
abbrev pub left_of : ℕ → List ℕ → ℕ
left_of high [] = 0
left_of high (q ∷ qs) = suc (high - q)

pub left-less : (high p : ℕ) (keys keys' all : List ℕ) → all ≡ p ∷ keys → p < high → AllBehind p keys' → left_of high keys' < left_of high all
left-less high p keys [] all same lt behind = subst (λ l. 0 < left_of high l) (sym same) (omega arith)
left-less high p keys (q ∷ qs) all same lt behind =
    let less : p < q = behind q (rw (eq-eqb q q refl) refl) in
    subst (λ l. suc (high - q) < left_of high l) (sym same) (omega (arith, less, lt))
