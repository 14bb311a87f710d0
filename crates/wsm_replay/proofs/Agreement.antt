-- Tables that agree are settled alike.
use Rattle.wsm_replay.proofs.Common.{[], ℕ, ◌++◌, ◌∙◌, ◌∷◌, ◌≡◌, after, ap, Bool, by_node, Card, card_at, card_at-node, cases_Bool, cond, Entry, eq_number, eqb, eqb-true, false, inl, inr, is_begun, is_some, IsRank, judge_of, key_eq, List}
use Rattle.wsm_replay.proofs.Common.{map, None, not, Option, option_or, pass, put_row, refl, row_at, row_at-put, ruled_from, ruled_if, SameRows, SameSpots, settle, settle-is_pass, Some, source_signal, Spot, spot, spot_in, Spots, state_by}
use Rattle.wsm_replay.proofs.Common.{sym, true, verdict_at}
use Rattle.wsm_schema.specs.declared.entries.Entry.TheVariants as entry
use Rattle.wsm_schema.specs.declared.states.State.TheVariants.{NotActivated}
use Rattle.wsm_schema.specs.declared.states.Verdict.{Verdict}
use Rattle.wsm_replay.specs.SpotOf.{spot_of}

-- ---- spots and rows

abbrev pub spot_or : ℕ → Option Spot → Spot
spot_or n None = spot n NotActivated None
spot_or n (Some s) = s

pub spot_in-row : (n : ℕ) (t : Spots) → spot_in n t ≡ spot_or n (row_at by_node (n, 0) t)
spot_in-row n [] = refl
spot_in-row n (s ∷ ss) =
    elim (cases_Bool (eqb s.node n)) [
      | inl same ↦ rw (eq_number s.node n, same) refl
      | inr other ↦ rw (eq_number s.node n, other) (spot_in-row n ss)
    ]

pub spot_in-rows : (a b : Spots) → SameRows a b → (n : ℕ) → spot_in n a ≡ spot_in n b
spot_in-rows a b same n = spot_in-row n a ∙ ap (spot_or n) (same n) ∙ sym (spot_in-row n b)

row_at-append : (n : ℕ) (t : Spots) (s : Spot) → row_at by_node (n, 0) (t ++ s ∷ []) ≡ option_or (row_at by_node (n, 0) t) (row_at by_node (n, 0) (s ∷ []))
row_at-append n [] s = refl
row_at-append n (x ∷ xs) s =
    elim (cases_Bool (key_eq (by_node x) (n, 0))) [
      | inl same ↦ rw same refl
      | inr other ↦ rw other (row_at-append n xs s)
    ]

-- a put that leaves a row with the same key adds what stands behind all rows
pub put-rows : (m : Spots) (s : Spot) → SameRows (cond (not (is_some (row_at by_node (by_node s) m))) (put_row by_node s m) m) (m ++ s ∷ [])
put-rows m s n =
    elim (cases_Bool (key_eq (by_node s) (n, 0))) [
      | inl same ↦ at_its_node (row_at by_node (by_node s) m) refl same (eqb-true s.node n (sym (eq_number s.node n) ∙ same))
      | inr other ↦ at_another (is_some (row_at by_node (by_node s) m)) other
    ]
    ∙ sym (row_at-append n m s)
  where
    at_its_node : (o : Option Spot) → row_at by_node (by_node s) m ≡ o → key_eq (by_node s) (n, 0) ≡ true → s.node ≡ n →
        row_at by_node (n, 0) (cond (not (is_some o)) (put_row by_node s m) m) ≡ option_or (row_at by_node (n, 0) m) (row_at by_node (n, 0) (s ∷ []))
    at_its_node None e same here =
        let none : row_at by_node (n, 0) m ≡ None = ap (λ k. row_at by_node (k, 0) m) (sym here) ∙ e in
        row_at-put by_node (n, 0) s m ∙ rw (same, none) refl
    at_its_node (Some x) e same here =
        let found : row_at by_node (n, 0) m ≡ Some x = ap (λ k. row_at by_node (k, 0) m) (sym here) ∙ e in
        rw found refl

    or_none : (o : Option Spot) → o ≡ option_or o None
    or_none None = refl
    or_none (Some x) = refl

    at_another : (b : Bool) → key_eq (by_node s) (n, 0) ≡ false →
        row_at by_node (n, 0) (cond (not b) (put_row by_node s m) m) ≡ option_or (row_at by_node (n, 0) m) (row_at by_node (n, 0) (s ∷ []))
    at_another true other = rw other (or_none (row_at by_node (n, 0) m))
    at_another false other = row_at-put by_node (n, 0) s m ∙ rw other (or_none (row_at by_node (n, 0) m))

-- ---- the rules

-- a card's verdict, by the spots of the nodes
abbrev verdict_by : List Card → Card → (ℕ → Spot) → Verdict
verdict_by cards c spots =
    judge_of c.kind (map (λ e. source_signal (card_at e.node cards) (spots e.node) e.label) c.ins) (map (λ n. source_signal (card_at n cards) (spots n) None) c.syncs_in)

module _ (cards : List Card) (old : Spots) where
  ruled_from-rows : (a b : Spots) → SameRows a b → (c : Card) → ruled_from cards old a c ≡ ruled_from cards old b c
  ruled_from-rows a b same c =
      let spots : (λ n. spot_in n a) ≡ (λ n. spot_in n b) = λ i n. spot_in-rows a b same n i in
      ap (λ v. cond (is_begun c.kind (spot_in c.node old).state) (spot_in c.node old) (spot c.node (state_by c.kind v) None)) (ap (verdict_by cards c) spots)

  pub ruled_if-rows : (a b : Spots) → SameRows a b → (o : Option Card) → SameRows (ruled_if cards old a o) (ruled_if cards old b o)
  ruled_if-rows a b same None = same
  ruled_if-rows a b same (Some c) = λ n.
      row_at-append n a (ruled_from cards old a c)
      ∙ ap (λ o. option_or o (row_at by_node (n, 0) (ruled_from cards old a c ∷ []))) (same n)
      ∙ ap (λ s. option_or (row_at by_node (n, 0) b) (row_at by_node (n, 0) (s ∷ []))) (ruled_from-rows a b same c)
      ∙ sym (row_at-append n b (ruled_from cards old b c))

  pub pass-rows : (a b : Spots) → SameRows a b → (ns : List ℕ) → SameRows (pass cards old ns a) (pass cards old ns b)
  pass-rows a b same [] = same
  pass-rows a b same (n ∷ ns) =
      pass-rows (ruled_if cards old a (card_at n cards)) (ruled_if cards old b (card_at n cards)) (ruled_if-rows a b same (card_at n cards)) ns

-- ---- the settled net, from tables with the same spots

module _ (cards : List Card) (a b : Spots) (same : SameSpots cards a b) where
  ruled_from-same : (done : Spots) (n : ℕ) (c : Card) → card_at n cards ≡ Some c → ruled_from cards a done c ≡ ruled_from cards b done c
  ruled_from-same done n c e =
      let found : card_at c.node cards ≡ Some c = ap (λ m. card_at m cards) (card_at-node n cards c e) ∙ e in
      ap (λ s. cond (is_begun c.kind s.state) s (spot c.node (state_by c.kind (verdict_at cards done c)) None)) (same c.node c found)

  ruled_if-same : (done : Spots) (n : ℕ) (o : Option Card) → card_at n cards ≡ o → ruled_if cards a done o ≡ ruled_if cards b done o
  ruled_if-same done n None e = refl
  ruled_if-same done n (Some c) e = ap (λ s. done ++ s ∷ []) (ruled_from-same done n c e)

  pass-same : (ns : List ℕ) (done : Spots) → pass cards a ns done ≡ pass cards b ns done
  pass-same [] done = refl
  pass-same (n ∷ ns) done =
      ap (pass cards a ns) (ruled_if-same done n (card_at n cards) refl) ∙ pass-same ns (ruled_if cards b done (card_at n cards))

  pub settle-same : (rank : List ℕ) → IsRank cards rank → SameSpots cards (settle cards a) (settle cards b)
  settle-same rank is n c e =
      settle-is_pass cards a rank is n c e ∙ ap (spot_in n) (pass-same rank []) ∙ sym (settle-is_pass cards b rank is n c e)

-- a table that agrees with the pass has the spots of the settled net
pub settled-rows : (cards : List Card) (rank : List ℕ) → IsRank cards rank → (old new : Spots) → SameRows new (pass cards old rank []) → SameSpots cards new (settle cards old)
settled-rows cards rank is old new same n c e = spot_in-rows new (pass cards old rank []) same n ∙ sym (settle-is_pass cards old rank is n c e)

-- ---- the net after an entry

-- the net after a spot is given
abbrev pub after_spot : List Card → Option Spot → Spots → Spots
after_spot cards None table = table
after_spot cards (Some s) table = settle cards (s ∷ table)

pub after-spot : (cards : List Card) (e : Entry) (t : Spots) → after cards e t ≡ after_spot cards (spot_of e) t
after-spot cards (entry.Start node user reads) t = refl
after-spot cards (entry.End node writes choice) t = refl
after-spot cards (entry.Again node writes) t = refl
after-spot cards (entry.Wrote writes) t = refl

same-behind : (cards : List Card) (s : Spot) (a b : Spots) → SameSpots cards a b → SameSpots cards (s ∷ a) (s ∷ b)
same-behind cards s a b same n c e =
    elim (eqb s.node n) as (λ t. cond t s (spot_in n a) ≡ cond t s (spot_in n b)) [ true ↦ refl | false ↦ same n c e ]

pub after-same : (cards : List Card) (rank : List ℕ) → IsRank cards rank → (e : Entry) (a b : Spots) → SameSpots cards a b → SameSpots cards (after cards e a) (after cards e b)
after-same cards rank is (entry.Start node user reads) a b same = settle-same cards _ _ (same-behind cards _ a b same) rank is
after-same cards rank is (entry.End node writes choice) a b same = settle-same cards _ _ (same-behind cards _ a b same) rank is
after-same cards rank is (entry.Again node writes) a b same = same
after-same cards rank is (entry.Wrote writes) a b same = same

-- a spot that is put at its place counts as one put in front
pub settle-put : (cards : List Card) (rank : List ℕ) → IsRank cards rank → (s : Spot) (t : Spots) → SameSpots cards (settle cards (put_row by_node s t)) (settle cards (s ∷ t))
settle-put cards rank is s t =
    settle-same cards (put_row by_node s t) (s ∷ t) (λ n c e. spot_in-rows (put_row by_node s t) (s ∷ t) (λ m. row_at-put by_node (m, 0) s t) n) rank is
