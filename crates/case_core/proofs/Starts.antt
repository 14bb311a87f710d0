-- A start that is accepted reads a value for each element that it must.
use Rattle.case_core.proofs.Common.{[], ℕ, ◌==◌, ◌∙◌, ◌∷◌, ◌≡◌, all-rows-map, AllRows, ap, Bool, both_rows, both_ways, Card, card_at, cards_of, CaseModel, cases_Bool, eq-eqb, eqb, eqb-true, Event, false, inl, inr, is_some, Kept, KeptIn}
use Rattle.case_core.proofs.Common.{List, list_any, LiveModel, map, next_case, None, Option, option_or, or_left, or_reply, or_right, pushed, reads_now, ReadsAll, refl, Reply, same_Some, Some, start_entry, start_on, start_refusal}
use Rattle.case_core.proofs.{Common.{StartsFilled, State, subst, sym, true, value_now, value_read, when_reply, with_trail}, Keeping.read-there_now}
use Rattle.case_core.specs.declared.events.Event.TheVariants as event
use Rattle.case_core.specs.declared.replies.Reply.TheVariants as reply
use Rattle.wsm_lists.specs.declared.values.Value.{Value}

-- the value that is recorded for an element that is read
recorded : (v : ℕ → Option Value) (d : ℕ) (rs : List (ℕ × Bool)) → list_any (λ q. q.0 == d) rs ≡ true → value_read d (map (λ r. (r.0, v r.0)) rs) ≡ v d
recorded v d [] h = absurd (both_ways _ refl h)
recorded v d (r ∷ rs) h =
    elim (cases_Bool (eqb r.0 d)) [
      | inl here ↦ rw here (ap v (eqb-true r.0 d here))
      | inr away ↦ rw away (recorded v d rs (rw away at h))
    ]

-- each row is among the rows
members : (rs : List (ℕ × Bool)) → AllRows (λ r. list_any (λ q. q.0 == r.0) rs ≡ true) rs
members [] = tt
members (r ∷ rs) = (
  or_left (eqb r.0 r.0) _ (eq-eqb r.0 r.0 refl),
  all-rows-map (λ q. list_any (λ p. p.0 == q.0) rs ≡ true) (λ q. list_any (λ p. p.0 == q.0) (r ∷ rs) ≡ true) (λ q h. or_right (eqb r.0 q.0) _ h) rs (members rs),
)

all-recorded : (v : ℕ → Option Value) (rs : List (ℕ × Bool)) → AllRows (λ r. r.1 ≡ true → is_some (v r.0) ≡ true) rs →
    AllRows (λ r. r.1 ≡ true → is_some (value_read r.0 (map (λ q. (q.0, v q.0)) rs)) ≡ true) rs
all-recorded v rs there =
    both_rows (λ r. list_any (λ q. q.0 == r.0) rs ≡ true) (λ r. r.1 ≡ true → is_some (v r.0) ≡ true) (λ r. r.1 ≡ true → is_some (value_read r.0 (map (λ q. (q.0, v q.0)) rs)) ≡ true)
    (λ r among have must. ap is_some (recorded v r.0 rs among) ∙ have must) rs (members rs) there

module _ (l : LiveModel) (kept : Kept l) (n user : ℕ) (roles : List ℕ) where
  -- a refusal is no start
  not-started : (a b : Bool) (s : State) (role : ℕ) (x : Reply) → option_or (when_reply a (reply.NotReady s)) (when_reply b (reply.NotAllowed role)) ≡ Some x → ReadsAll l n x
  not-started true b s role x h = subst (ReadsAll l n) (same_Some (reply.NotReady s) x h) tt
  not-started false true s role x h = subst (ReadsAll l n) (same_Some (reply.NotAllowed role) x h) tt
  not-started false false s role x h = absurd (cc)

  by-refusal : (c : Card) → card_at n (cards_of l.schema) ≡ Some c → (r : Option Reply) → start_refusal l c n roles ≡ r →
      ReadsAll l n (or_reply r l (with_trail l (pushed (start_entry l c n user) l.trail), reply.Started (reads_now l c))).1
  by-refusal c at None none = λ d found.
      let same : c ≡ d = same_Some c d (sym at ∙ found) in
      subst (λ (k : Card). AllRows (λ r. r.1 ≡ true → is_some (value_read r.0 (reads_now l c)) ≡ true) k.reads) same
      (all-recorded (value_now l) c.reads (read-there_now l kept n user c at roles none))
  by-refusal c at (Some x) some = not-started _ _ _ _ x some

  by-card : (o : Option Card) → card_at n (cards_of l.schema) ≡ o → ReadsAll l n (start_on l n user roles o).1
  by-card None at = tt
  by-card (Some c) at = by-refusal c at (start_refusal l c n roles) refl

  pub reads-all : ReadsAll l n (start_on l n user roles (card_at n (cards_of l.schema))).1
  reads-all = by-card (card_at n (cards_of l.schema)) refl

pub starts-filled : (s : CaseModel) (e : Event) → KeptIn s.live → StartsFilled s.live e (next_case s e).1
starts-filled s e kept = go s.live kept e
  where
    go : (live : Option LiveModel) → KeptIn live → (e : Event) → StartsFilled live e (next_case (record { type_no = s.type_no; live = live }) e).1
    go None kept e = tt
    go (Some l) kept (event.Create version) = tt
    go (Some l) kept (event.Start node user roles) = reads-all l kept node user roles
    go (Some l) kept (event.End node user choice writes) = tt
    go (Some l) kept (event.Withdraw node user) = tt
    go (Some l) kept (event.Change ops) = tt
    go (Some l) kept (event.Migrate version) = tt
