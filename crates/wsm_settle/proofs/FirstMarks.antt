-- A walk from the nodes that wait for no edge finds the marks before any entry.
use Rattle.wsm_settle.proofs.Common.{[], ℕ, ◌||◌, ◌∙◌, ◌∷◌, ◌≡◌, ap, arith, Bool, both_ways, Card, card_at, cards_of, cases_Bool, changed, End, eq_of, eqb, facts_by, false, flat_of, FlatModel, Handed, in_rank, inl, inr, is_one_of}
use Rattle.wsm_settle.proofs.Common.{is_opening, is_pending, IsRank, length, List, map, Mark, mark_now, marks_of, MarksRight, NodeKind, None, opens, Option, places_from, rank_place, refl, Regular, replay_of, same_Some, SchemaModel, seen}
use Rattle.wsm_settle.proofs.{Common.{sig_at, sig_by, Some, Spots, Stands, subst, sym, time_by, Timed, times_by, told-changes, told-stands, trail-aim, true, waits_for_none, Walks, whole}, AllPlaces.all-visited}
use Rattle.wsm_schema.specs.Kinds.{worked_on}
use Rattle.wsm_schema.specs.declared.cards.NodeKind.TheVariants.{Start, Finish, Activity, AndSplit, AndJoin, XorSplit, XorJoin, LoopStart, LoopEnd}

-- ---- before any entry no edge signals
silent : (cards : List Card) (label : Option ℕ) (n : ℕ) → sig_at cards (facts_by (seen [] [])) (times_by (seen [] [])) label n ≡ None
silent cards label n = go (card_at n cards)
  where
    go : (o : Option Card) → sig_by o None None None label ≡ None
    go None = refl
    go (Some c) = elim (cases_Bool (worked_on c.kind)) [ inl worked ↦ rw worked refl | inr passed ↦ rw passed refl ]

-- so that a node which waits for one has no time
module _ (signal : End → Timed) (none : (e : End) → signal e ≡ None) (syncs : List Timed) where
  waiting : (kind : NodeKind) (ins : List End) → waits_for_none kind ins ≡ false → eq_of kind (map signal ins) syncs ≡ None
  waiting Start ins w = absurd (both_ways _ w refl)
  waiting Finish [] w = absurd (both_ways _ w refl)
  waiting Finish (e ∷ es) w = rw (none e) refl
  waiting Activity [] w = absurd (both_ways _ w refl)
  waiting Activity (e ∷ es) w = rw (none e) refl
  waiting AndSplit [] w = absurd (both_ways _ w refl)
  waiting AndSplit (e ∷ es) w = rw (none e) refl
  waiting AndJoin [] w = absurd (both_ways _ w refl)
  waiting AndJoin (e ∷ es) w = rw (none e) refl
  waiting XorSplit [] w = absurd (both_ways _ w refl)
  waiting XorSplit (e ∷ es) w = rw (none e) refl
  waiting XorJoin [] w = absurd (both_ways _ w refl)
  waiting XorJoin (e ∷ es) w = rw (none e) refl
  waiting LoopStart [] w = absurd (both_ways _ w refl)
  waiting LoopStart (e ∷ es) w = rw (none e) refl
  waiting LoopEnd [] w = absurd (both_ways _ w refl)
  waiting LoopEnd (e ∷ es) w = rw (none e) refl

later : (a b : Bool) → b ≡ true → (a || b) ≡ true
later true b h = refl
later false b h = h

-- the card of a node tells whether it waits
opens-at : (n : ℕ) (cards : List Card) (c : Card) → card_at n cards ≡ Some c → waits_for_none c.kind c.ins ≡ true → is_opening cards n ≡ true
opens-at n [] c found w = let none : None ≡ Some c = found in absurd (cc)
opens-at n (d ∷ ds) c found w =
    elim (cases_Bool (eqb d.node n)) [
      | inl here ↦ let same : d ≡ c = same_Some d c (rw here at found) in rw (ap (λ (x : Card). waits_for_none x.kind x.ins) same ∙ w, here) refl
      | inr away ↦ later (opens n d) (is_opening ds n) (opens-at n ds c (rw away at found) w)
    ]

module _ (s : SchemaModel) (rank : List ℕ) (is : IsRank (cards_of s) rank) (t : Spots) (is_whole : replay_of (flat_of s) [] ≡ whole t) (regular : Regular s)
    (places : List ℕ) (opening : (k : ℕ) → is_opening (cards_of s) k ≡ true → is_one_of k rank ≡ true → is_one_of (rank_place k rank) places ≡ true) where
  all-stands : Stands (cards_of s) rank (mark_now s rank []) [] (places_from 0 (length rank)) []
  all-stands = told-stands s rank is [] t tt is_whole regular (places_from 0 (length rank)) (all-visited rank)

  meets : (n : ℕ) (c : Card) → card_at n (cards_of s) ≡ Some c → is_pending rank places n ≡ false → (b : Bool) → waits_for_none c.kind c.ins ≡ b → None ≡ time_by (cards_of s) (seen [] []) c
  meets n c found idle true w = absurd (both_ways _ idle (opening n (opens-at n (cards_of s) c found w) (in_rank (cards_of s) rank is n c found)))
  meets n c found idle false w =
      sym (waiting (λ e. sig_at (cards_of s) (facts_by (seen [] [])) (times_by (seen [] [])) e.label e.node) (λ e. silent (cards_of s) e.label e.node)
      (map (sig_at (cards_of s) (facts_by (seen [] [])) (times_by (seen [] [])) None) c.syncs_in) c.kind c.ins w)

  -- a walk begins with no marks, where the nodes that wait for no edge are pending
  opening-stands : Stands (cards_of s) rank (mark_now s rank []) [] places []
  opening-stands = record {
    front = [];
    rest = rank;
    split = refl;
    low = λ q there. omega arith;
    walked = record {
      done = λ n c found none. absurd (both_ways _ refl none);
      facts = λ n c found. all-stands.walked.facts n c found;
      times = λ n c found. all-stands.walked.times n c found;
      meets = λ n c found out idle. meets n c found idle (waits_for_none c.kind c.ins) refl;
    };
    ascends = all-stands.ascends;
    says = all-stands.says;
  }

-- and ends with the marks before any entry
pub opening-right : (flat : FlatModel) (rank places : List ℕ) → Handed rank (is_opening flat.cards) 0 [] places →
    (changes : List (ℕ × Option Mark)) → Walks flat.cards rank [] places [] [] changes → (rows : List (ℕ × Mark)) → rows ≡ changed changes [] → MarksRight flat rank [] rows
opening-right flat rank places handed changes walked rows rows_are s t flat_is regular ranked is_whole =
    let whole_s : replay_of (flat_of s) [] ≡ whole t = ap (λ f. replay_of f []) (sym flat_is) ∙ is_whole in
    let walked_s : Walks (cards_of s) rank [] places [] [] changes = subst (λ (f : FlatModel). Walks f.cards rank [] places [] [] changes) flat_is walked in
    let opening : (k : ℕ) → is_opening (cards_of s) k ≡ true → is_one_of k rank ≡ true → is_one_of (rank_place k rank) places ≡ true =
    λ k named in_rank_k. handed.come k (ap (λ (f : FlatModel). is_opening f.cards k) flat_is ∙ named) in_rank_k (omega arith) in
    rows_are
    ∙ told-changes s rank ranked [] t tt whole_s regular (places_from 0 (length rank)) (all-visited rank) changes
    (walked_s (mark_now s rank []) (trail-aim s regular rank ranked []) (opening-stands s rank ranked t whole_s regular places opening))
    ∙ ap (λ f. marks_of f []) (sym flat_is)
