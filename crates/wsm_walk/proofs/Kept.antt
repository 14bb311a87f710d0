-- A table of marks, looked up by node.
use Rattle.wsm_walk.proofs.Common.{[], ℕ, ◌||◌, ◌∙◌, ◌∷◌, ◌≡◌, ap, Bool, both_ways, Card, card_at, cases_Bool, Entries, eqb, eqb-true, false, fold, if◌then◌else◌, inl, inr, is_some, item_at, item_at-put, List, list_marks, Mark, mark_by}
use Rattle.wsm_walk.proofs.Common.{mark_key, mark_or, Marking, no_mark, None, Option, put_row, refl, says_something, since, Some, sym, Timed, timed_from, timed_of, true}
use Rattle.wsm_schema.specs.declared.states.Flow.TheVariants.{Yes, No}

-- a mark of a solution tells that solution
pub timed_from-since : (x : Timed) → timed_from (since Yes x) (since No x) ≡ x
timed_from-since None = refl
timed_from-since (Some (t, Yes)) = refl
timed_from-since (Some (t, No)) = refl

pub timed_of-by : (m : Marking) (es : Entries) (n : ℕ) → timed_of (mark_by m es n) ≡ m n
timed_of-by m es n = timed_from-since (m n)

none-of : {X : Type 0} (o : Option X) → is_some o ≡ false → o ≡ None
none-of None h = refl
none-of (Some x) h = absurd (both_ways _ h refl)

neither : (a b : Bool) → (a || b) ≡ false → (a ≡ false) × (b ≡ false)
neither true b h = absurd (both_ways _ h refl)
neither false b h = (refl, h)

-- a mark that says nothing is no mark
pub silent-none : (k : Mark) → says_something k ≡ false → k ≡ no_mark
silent-none k h =
    let a = neither (is_some k.ready_at || is_some k.skipped_at || is_some k.started || is_some k.ended || is_some k.choice) (is_some k.again) h in
    let b = neither (is_some k.ready_at || is_some k.skipped_at || is_some k.started || is_some k.ended) (is_some k.choice) a.0 in
    let c = neither (is_some k.ready_at || is_some k.skipped_at || is_some k.started) (is_some k.ended) b.0 in
    let d = neither (is_some k.ready_at || is_some k.skipped_at) (is_some k.started) c.0 in
    let e = neither (is_some k.ready_at) (is_some k.skipped_at) d.0 in
    let r = none-of k.ready_at e.0 in
    let s = none-of k.skipped_at e.1 in
    let t = none-of k.started d.1 in
    let u = none-of k.ended c.1 in
    let v = none-of k.choice b.1 in
    let w = none-of k.again a.1 in
    λ i. record { ready_at = r i; skipped_at = s i; started = t i; ended = u i; choice = v i; again = w i }

module _ (mark : ℕ → Mark) (n : ℕ) where
  abbrev step : List (ℕ × Mark) → Card → List (ℕ × Mark)
  step ms c = if says_something (mark c.node) then put_row mark_key (c.node, mark c.node) ms else ms

  -- what the table tells of n stays
  stays : (cards : List Card) (ms : List (ℕ × Mark)) → mark_or (item_at n ms) ≡ mark n → mark_or (item_at n (fold step ms cards)) ≡ mark n
  stays [] ms h = h
  stays (c ∷ cs) ms h = stays cs (step ms c) (elim (cases_Bool (says_something (mark c.node))) [
    | inr silent ↦ rw silent h
    | inl says ↦ rw says (ap mark_or (item_at-put n (c.node, mark c.node) ms) ∙ elim (cases_Bool (eqb c.node n)) [ inl same ↦ rw same (ap mark (eqb-true c.node n same)) | inr other ↦ rw other h ])
  ])

  read : (cards : List Card) (ms : List (ℕ × Mark)) → item_at n ms ≡ None → (c : Card) → card_at n cards ≡ Some c → mark_or (item_at n (fold step ms cards)) ≡ mark n
  read [] ms none c at = let p : None ≡ Some c = at in absurd (cc)
  read (d ∷ ds) ms none c at =
      elim (cases_Bool (eqb d.node n)) [
        | inl same ↦ stays ds (step ms d) (elim (cases_Bool (says_something (mark d.node))) [
          | inr silent ↦ rw silent (ap mark_or none ∙ sym (silent-none (mark d.node) silent) ∙ ap mark (eqb-true d.node n same))
          | inl says ↦ rw says (ap mark_or (item_at-put n (d.node, mark d.node) ms) ∙ rw same (ap mark (eqb-true d.node n same)))
        ])
        | inr other ↦ read ds (step ms d) (elim (cases_Bool (says_something (mark d.node))) [
          | inr silent ↦ rw silent none
          | inl says ↦ rw says (item_at-put n (d.node, mark d.node) ms ∙ rw other none)
        ]) c (rw other at at)
      ]

  -- the table of all marks tells each node's mark
  pub listed-read : (cards : List Card) (c : Card) → card_at n cards ≡ Some c → mark_or (item_at n (list_marks mark cards)) ≡ mark n
  listed-read cards c at = read cards [] refl c at
