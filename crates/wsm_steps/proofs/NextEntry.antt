-- One entry more on a trail that replays whole.
use Rattle.std.proofs.{Common.{◌≡◌, ℕ, ◌+◌, ◌≤◌, Bool, true, false, ◌&&◌, ◌||◌, not, List, [], ◌∷◌, ◌++◌, map, refl, ap, sym, ◌∙◌, subst, arith, Option, Some, None, is_some, eqb, inl, inr, pos, negsuc}, lemmas.Bool.{cases_Bool, both_ways}}
use Rattle.std.proofs.{lemmas.Bool.{eq-eqb, le-leb}, lemmas.Slice.Eq.bytes_eq-Decides}
use Rattle.wsm_lists.specs.{Rows.AllRows, Values.{Written, same_value, same_option_value}, declared.values.ElementKind.ElementKind, declared.values.Value.Value}
use Rattle.wsm_lists.specs.declared.values.Value.TheVariants as value
use Rattle.wsm_replay.proofs.OneEntryMore.{extended, replay_of-append, value-append}
use Rattle.wsm_schema.specs.{Flat.{FlatModel, card_at}, Replay.{Outcome, whole, fails, replay_of, applicable, applicable_start, applicable_end, after, on_card, fits_reads, fits_edges, fits_choice, is_in_state}, Rules.{Spots, spot_in}}
use Rattle.wsm_schema.specs.{Trail.value_below, declared.cards.Card.Card, declared.entries.Entry.Entry}
use Rattle.wsm_schema.specs.declared.entries.Entry.TheVariants as entry
use Rattle.wsm_schema.specs.declared.states.State.TheVariants.{Activated, Running}
use Rattle.wsm_steps.specs.Whole.{is_whole}
use Rattle.wsm_trail.specs.TrailWithRoom.{Rises}

-- ---- values are the same as themselves
same-value : (v : Value) → same_value v v ≡ true
same-value (value.Int (pos n)) = rw (le-leb n n (omega arith)) refl
same-value (value.Int (negsuc n)) = rw (le-leb n n (omega arith)) refl
same-value (value.Text t) = (bytes_eq-Decides t t).1 refl

same-option : (o : Option Value) → same_option_value o o ≡ true
same-option None = refl
same-option (Some v) = same-value v

-- what a start reads now fits
reads-fit : (v : ℕ → Option Value) (rs : List (ℕ × Bool)) → AllRows (λ r. r.1 ≡ true → is_some (v r.0) ≡ true) rs → fits_reads v (map (λ r. (r.0, v r.0)) rs) rs ≡ true
reads-fit v [] there = refl
reads-fit v (r ∷ rs) there =
    elim (cases_Bool r.1) [
      | inl must ↦ rw (eq-eqb r.0 r.0 refl, same-option (v r.0), must, there.0 must, reads-fit v rs there.1) refl
      | inr may ↦ rw (eq-eqb r.0 r.0 refl, same-option (v r.0), may, reads-fit v rs there.1) refl
    ]

-- the replay with one entry that is applicable
extended-whole : (f : FlatModel) (values : ℕ → Option Value) (x : ℕ × Entry) (t : Spots) → applicable f t values x.1 ≡ true → is_whole (extended f values x (whole t)) ≡ true
extended-whole f values x t h = rw h refl

pub next-whole : (f : FlatModel) (es : List (ℕ × Entry)) (next : ℕ) (e : Entry) → Rises 1 next es → (t : Spots) → replay_of f es ≡ whole t →
    applicable f t (λ d. value_below d next es) e ≡ true → is_whole (replay_of f (es ++ (next, e) ∷ [])) ≡ true
next-whole f es next e rises t is_whole_before h =
    let values : (λ d. value_below d next (es ++ (next, e) ∷ [])) ≡ (λ d. value_below d next es) = λ i d. value-append d next next e es (omega arith) i in
    let here : applicable f t (λ d. value_below d next (es ++ (next, e) ∷ [])) e ≡ true = ap (λ v. applicable f t v e) values ∙ h in
    ap is_whole (replay_of-append f es next e rises)
    ∙ ap (λ o. is_whole (extended f (λ d. value_below d next (es ++ (next, e) ∷ [])) (next, e) o)) is_whole_before
    ∙ extended-whole f (λ d. value_below d next (es ++ (next, e) ∷ [])) (next, e) t here

-- a start of a node that is activated, with what is there to read
pub start-applies : (f : FlatModel) (t : Spots) (v : ℕ → Option Value) (n user : ℕ) (c : Card) → card_at n f.cards ≡ Some c → is_in_state (spot_in n t).state Activated ≡ true →
    AllRows (λ r. r.1 ≡ true → is_some (v r.0) ≡ true) c.reads → applicable f t v (entry.Start n user (map (λ r. (r.0, v r.0)) c.reads)) ≡ true
start-applies f t v n user c at ready there =
    ap (λ o. on_card o (λ k. applicable_start k (spot_in n t).state v (map (λ r. (r.0, v r.0)) c.reads))) at ∙ rw (ready, reads-fit v c.reads there) refl

-- an end of a node that is running
pub end-applies : (f : FlatModel) (t : Spots) (v : ℕ → Option Value) (n : ℕ) (writes : Written) (choice : Option ℕ) (c : Card) → card_at n f.cards ≡ Some c → is_in_state (spot_in n t).state Running ≡ true →
    fits_edges f.elements writes c.writes ≡ true → fits_choice c choice ≡ true → applicable f t v (entry.End n writes choice) ≡ true
end-applies f t v n writes choice c at running edges chosen =
    ap (λ o. on_card o (λ k. applicable_end f.elements k (spot_in n t).state writes choice)) at ∙ rw (running, edges, chosen) refl
