-- Where a node is ready, each element that is sure there has a value, so each value that must be read is there.
use Rattle.wsm_marks.proofs.Common.{[], ℕ, ◌&&◌, ◌==◌, ◌||◌, ◌∙◌, ◌∷◌, ◌≡◌, ◌≤◌, ◌⊎◌, all-rows-card_at, all-rows-map, AllRows, and_parts, ap, arith, awaited, before, Bool, both_ways, Card, card_at, card_at-node, cards_of, cases_Bool, cond}
use Rattle.wsm_marks.proofs.Common.{count_by, data_fault, End, Entries, Entry, eqb-true, Facts, facts_of, false, find, fits, fits_choice, fits_edges, flat_of, Flow, flow, has_one_edge, HasCard, HasEdge, inl, inr, is_end_of, is_no}
use Rattle.wsm_marks.proofs.Common.{is_one_of, is_ready, is_skipped, is_some, is_yes, IsRank, iterate, iterate-last, latest, length, List, list_all, list_any, ltb-true, map, Marking, missing_at, NodeKind, None, none_sure, not, Option}
use Rattle.wsm_marks.proofs.Common.{or_cases, Orderly, parts_bound, refl, Regular, replay_of, RisesAfter, SchemaModel, sig_at, sig_by, sig_of, solution, Solves, Some, Spots, subst, suc, Sure, sure_at, sure_behind, sure_by, sure_by_syncs}
use Rattle.wsm_marks.proofs.{Common.{sure_of, sym, time, Timed, timed_by, true, value_below, value_in, whole, worked_on, writes_of, written_by, zero}, BlockFlow.{greater-left, greater-right, not_some, sig}, BoundSources.bound-free}
use Rattle.wsm_marks.proofs.{Cards.{on_card-true, same_card}, Causality.solved_net, FirstFailure.fits-rows, Lists.{lt-suc_self, map-map}, MarksOfTrails.whole-fits, NoFault.{no_either, no_first, no_map}, SaneTrails.{all-sane, ended-ready}}
use Rattle.wsm_marks.proofs.{SaneTrails.{found-row, position-found}, Signals.is_ready_mark, Sources.sources-have_cards, Values.{WritersWork, card-edged, card-writes, edges-write, value-later, value-of_entry, writers-work}}
use Rattle.wsm_marks.proofs.WholeTrails.{whole-orderly}
use Rattle.wsm_schema.specs.declared.cards.NodeKind.TheVariants as kind
use Rattle.wsm_schema.specs.declared.entries.Entry.TheVariants as entry
use Rattle.wsm_schema.specs.declared.states.Flow.TheVariants.{Yes, No}
use Rattle.wsm_schema.specs.declared.states.Verdict.TheVariants as verdict

-- the time of each signal is no later than the latest
times-latest : {X : Type 0} (sig : X → Timed) (xs : List X) → AllRows (λ x. time (sig x) ≤ latest (map sig xs)) xs
times-latest sig [] = tt
times-latest sig (x ∷ xs) = (
  greater-left (time (sig x)) (latest (map sig xs)),
  all-rows-map _ _ (λ y le. omega (arith, le, greater-right (time (sig x)) (latest (map sig xs)))) xs (times-latest sig xs),
)

module _ {X : Type 0} (G : Type 0) (yes sure : X → Bool) where
  -- each row that is True and sure leads to G
  abbrev Leads : List X → Type 0
  Leads xs = AllRows (λ x. yes x ≡ true → sure x ≡ true → G) xs

  -- all are True, and one is sure; one is True, and all are sure
  one-sure : (xs : List X) → list_all (λ b. b) (map yes xs) ≡ true → list_any (λ b. b) (map sure xs) ≡ true → Leads xs → G
  one-sure [] all any leads = absurd (both_ways _ refl any)
  one-sure (x ∷ xs) all any leads =
      let r = and_parts (yes x) _ all in
      elim (or_cases (sure x) _ any) [ inl it ↦ leads.0 r.0 it | inr later ↦ one-sure xs r.1 later leads.1 ]

  one-yes : (xs : List X) → list_any (λ b. b) (map yes xs) ≡ true → list_all (λ b. b) (map sure xs) ≡ true → Leads xs → G
  one-yes [] any all leads = absurd (both_ways _ refl any)
  one-yes (x ∷ xs) any all leads =
      let r = and_parts (sure x) _ all in
      elim (or_cases (yes x) _ any) [ inl it ↦ leads.0 it r.0 | inr later ↦ one-yes xs later r.1 leads.1 ]

all_yes-map : (os : List (Option Flow)) → list_all is_yes os ≡ true → list_all (λ b. b) (map is_yes os) ≡ true
all_yes-map [] h = refl
all_yes-map (o ∷ os) h = let r = and_parts (is_yes o) _ h in rw r.0 (all_yes-map os r.1)

count_yes-any : (os : List (Option Flow)) → (count_by is_yes os == 1) ≡ true → list_any (λ b. b) (map is_yes os) ≡ true
count_yes-any [] h = absurd (both_ways _ refl h)
count_yes-any (Some Yes ∷ os) h = refl
count_yes-any (Some No ∷ os) h = count_yes-any os h
count_yes-any (None ∷ os) h = count_yes-any os h

-- what is sure at a ready node is sure at, or written by, a source whose edge is True
sure-edge : {X : Type 0} (G : Type 0) (k : NodeKind) (sig : X → Timed) (sure : X → Bool) (xs : List X) → HasEdge k xs → is_ready k (map flow (map sig xs)) ≡ true → sure_by k (map sure xs) ≡ true →
    Leads G (λ x. is_yes (flow (sig x))) sure xs → G
sure-edge G kind.Start sig sure xs edge ready h leads = absurd (both_ways _ refl h)
sure-edge G kind.AndJoin sig sure xs edge ready h leads =
    one-sure G (λ x. is_yes (flow (sig x))) sure xs
    (ap (list_all (λ b. b)) (map-map is_yes (λ x. flow (sig x)) xs ∙ ap (map is_yes) (map-map flow sig xs)) ∙ all_yes-map (map flow (map sig xs)) ready) h leads
sure-edge G kind.XorJoin sig sure xs edge ready h leads =
    one-yes G (λ x. is_yes (flow (sig x))) sure xs
    (ap (list_any (λ b. b)) (map-map is_yes (λ x. flow (sig x)) xs ∙ ap (map is_yes) (map-map flow sig xs)) ∙ count_yes-any (map flow (map sig xs)) (and_parts (list_all is_some (map flow (map sig xs))) _ ready).1) h leads
sure-edge G _ sig sure [] edge ready h leads = absurd edge
sure-edge G _ sig sure (x ∷ xs) edge ready h leads = leads.0 (and_parts (is_yes (flow (sig x))) _ ready).0 (and_parts (sure x) _ h).0

-- a node that is ready since t has the signals of its control edges and of its sync edges by then
ready-time : (r s y : Bool) (a b t : ℕ) → timed_by (cond r (cond y verdict.Ready verdict.Waiting) (cond s verdict.Skipped verdict.Waiting)) a b ≡ Some (t, Yes) →
    (r ≡ true) × (a ≤ t) × (y ≡ true) × (b ≤ t)
ready-time true s true a b t h = (refl, omega (arith, greater-left a b, ap time h), refl, omega (arith, greater-right a b, ap time h))
ready-time true s false a b t h = absurd (not_some (t, Yes) h)
ready-time false true y a b t h = let p : Some No ≡ Some Yes = ap flow h in absurd (cc)
ready-time false false y a b t h = absurd (not_some (t, Yes) h)

-- sync edges that all signal by then, and one of whose sources passes a test
synced-leads : (G : Type 0) (P : ℕ → Type 0) (test : ℕ → Bool) (sync : ℕ → Timed) (t : ℕ) → ((a : ℕ) → P a → is_some (flow (sync a)) ≡ true → time (sync a) ≤ t → test a ≡ true → G) →
    (xs : List ℕ) → AllRows P xs → list_all is_some (map flow (map sync xs)) ≡ true → latest (map sync xs) ≤ t → list_any test xs ≡ true → G
synced-leads G P test sync t lead [] rows all le any = absurd (both_ways _ refl any)
synced-leads G P test sync t lead (x ∷ xs) rows all le any =
    let r = and_parts (is_some (flow (sync x))) _ all in
    elim (or_cases (test x) _ any) [
      | inl it ↦ lead x rows.0 r.0 (omega (arith, le, greater-left (time (sync x)) (latest (map sync xs)))) it
      | inr later ↦ synced-leads G P test sync t lead xs rows.1 r.1 (omega (arith, le, greater-right (time (sync x)) (latest (map sync xs)))) later
    ]

-- an edge is True where its source was ended, or is silent and ready, at that time
abbrev Sourced : NodeKind → Timed → Option ℕ → Timed → Type 0
Sourced k x en y = ((worked_on k ≡ true) × (en ≡ Some (time y))) ⊎ ((worked_on k ≡ false) × (x ≡ Some (time y, Yes)))

yes-sourced : (k : NodeKind) (x : Timed) (en choice label : Option ℕ) → is_yes (flow (sig_of k x en choice label)) ≡ true → Sourced k x en (sig_of k x en choice label)
yes-sourced k (Some (t, No)) en choice label h = absurd (both_ways _ refl h)
yes-sourced k (Some (t, Yes)) None choice label h =
    elim (cases_Bool (worked_on k)) [
      | inl works ↦ absurd (both_ways _ refl (rw works at h))
      | inr silent ↦ rw silent (inr (refl, refl))
    ]
yes-sourced k (Some (t, Yes)) (Some u) choice label h =
    elim (cases_Bool (worked_on k)) [
      | inl works ↦ rw works (inl (refl, refl))
      | inr silent ↦ rw silent (inr (refl, refl))
    ]
yes-sourced k None None choice label h =
    elim (cases_Bool (worked_on k)) [
      | inl works ↦ absurd (both_ways _ refl (rw works at h))
      | inr silent ↦ absurd (both_ways _ refl (rw silent at h))
    ]
yes-sourced k None (Some u) choice label h =
    elim (cases_Bool (worked_on k)) [
      | inl works ↦ rw works (inl (refl, refl))
      | inr silent ↦ absurd (both_ways _ refl (rw silent at h))
    ]

-- so an edge signals only then, whatever it signals, where its source is not skipped
some-sourced : (k : NodeKind) (x : Timed) (en choice label : Option ℕ) → is_no (flow x) ≡ false → is_some (flow (sig_of k x en choice label)) ≡ true → Sourced k x en (sig_of k x en choice label)
some-sourced k (Some (t, No)) en choice label free h = absurd (both_ways _ free refl)
some-sourced k (Some (t, Yes)) None choice label free h =
    elim (cases_Bool (worked_on k)) [
      | inl works ↦ absurd (both_ways _ refl (rw works at h))
      | inr silent ↦ rw silent (inr (refl, refl))
    ]
some-sourced k (Some (t, Yes)) (Some u) choice label free h =
    elim (cases_Bool (worked_on k)) [
      | inl works ↦ rw works (inl (refl, refl))
      | inr silent ↦ rw silent (inr (refl, refl))
    ]
some-sourced k None None choice label free h =
    elim (cases_Bool (worked_on k)) [
      | inl works ↦ absurd (both_ways _ refl (rw works at h))
      | inr silent ↦ absurd (both_ways _ refl (rw silent at h))
    ]
some-sourced k None (Some u) choice label free h =
    elim (cases_Bool (worked_on k)) [
      | inl works ↦ rw works (inl (refl, refl))
      | inr silent ↦ absurd (both_ways _ refl (rw silent at h))
    ]

module _ (s : SchemaModel) (regular : Regular s) (writers : WritersWork s) (es : Entries) (m : Marking) (solves : Solves (cards_of s) (facts_of es) m) (orderly : Orderly es)
    (fit : AllRows (λ e. fits (flat_of s) (facts_of es) m (λ d. value_below d e.0 es) e.0 e.1 ≡ true) es) where
  -- what a node that was ended writes is there behind its End
  written-by_end : (n u d : ℕ) (c : Card) → card_at n (cards_of s) ≡ Some c → (facts_of es).ended n ≡ Some u → is_one_of d c.writes ≡ true → is_some (value_below d (suc u) es) ≡ true
  written-by_end n u d c at h listed =
      let x = position-found (is_end_of n) es u h in
      let q = found-row (λ e. fits (flat_of s) (facts_of es) m (λ d. value_below d e.0 es) e.0 e.1 ≡ true) (is_end_of n) es (u, x.0) fit x.1 in
      value-of_entry d u (suc u) x.0 (is_end_of n) es x.1 (lt-suc_self u) (go x.0 q.0 q.1)
    where
      go : (x : Entry) → fits (flat_of s) (facts_of es) m (λ d. value_below d u es) u x ≡ true → is_end_of n x ≡ true → is_some (value_in d (written_by x)) ≡ true
      go (entry.Start node user reads) f i = absurd (both_ways _ refl i)
      go (entry.Again node writes) f i = absurd (both_ways _ refl i)
      go (entry.Wrote writes) f i = absurd (both_ways _ refl i)
      go (entry.End node writes choice) f i =
          let same : node ≡ n = eqb-true node n i in
          let r = on_card-true (card_at node (cards_of s)) _ f in
          let here : r.0 ≡ c = same_card (cards_of s) n r.0 c (ap (λ k. card_at k (cards_of s)) (sym same) ∙ r.1) at in
          edges-write s.elements d writes c.writes (subst (λ y. fits_edges s.elements writes y.writes ≡ true) here (and_parts (fits_edges s.elements writes r.0.writes) (fits_choice r.0 choice) r.2).0) listed

  -- one round of what is sure
  abbrev round : Sure → Sure
  round sure n d = sure_at s sure (card_at n (cards_of s)) d

  -- what is sure of an element after so many rounds is there where a node is ready
  abbrev Known : ℕ → ℕ → Type 0
  Known k d = (j u : ℕ) (b : Card) → card_at j (cards_of s) ≡ Some b → m j ≡ Some (u, Yes) → iterate round k none_sure j d ≡ true → is_some (value_below d (suc u) es) ≡ true

  sure-there : (k n d t : ℕ) (c : Card) → card_at n (cards_of s) ≡ Some c → m n ≡ Some (t, Yes) → iterate round k none_sure n d ≡ true → is_some (value_below d (suc t) es) ≡ true
  sure-there zero n d t c at ready h = absurd (both_ways _ refl h)
  sure-there (suc k) n d t c at ready h =
      let sure : Sure = iterate round k none_sure in
      let sig : End → Timed = λ x. sig_at (cards_of s) (facts_of es) m x.label x.node in
      let sync : ℕ → Timed = sig_at (cards_of s) (facts_of es) m None in
      let control : Bool = sure_by c.kind (map (λ x. sure_behind s sure x.node d) c.ins) in
      let by_sources : (control || sure_by_syncs s sure c d) ≡ true = ap (λ o. sure_at s sure o d) (sym at) ∙ ap (λ g. g n d) (sym (iterate-last round k none_sure)) ∙ h in
      let timely = ready-time (is_ready c.kind (map flow (map sig c.ins))) (is_skipped c.kind (map flow (map sig c.ins))) (list_all is_some (map flow (map sync c.syncs_in))) _ (latest (map sync c.syncs_in)) t (sym (solves.meets n c at) ∙ ready) in
      elim (or_cases control (sure_by_syncs s sure c d) by_sources) [
        | inl by_control ↦
            sure-edge (is_some (value_below d (suc t) es) ≡ true) c.kind sig (λ x. sure_behind s sure x.node d) c.ins (card-edged s regular n c at) timely.0 by_control
            (all-rows-map _ _ (λ x le is_true known. value-later d (suc (time (sig x))) (suc t) (omega (arith, le, timely.1)) es (source (λ j u b. sure-there k j d u b) x is_true known)) c.ins (bounded c.kind sig c.ins by_control))
        | inr by_syncs ↦
            synced-leads (is_some (value_below d (suc t) es) ≡ true) (HasCard (cards_of s)) (λ a. parts_bound s.body a c.node && sure_behind s sure a d) sync t
            (λ a card some le known. synced (λ j u b. sure-there k j d u b) a card.0 card.1 some le known)
            c.syncs_in (sources-have_cards s regular n c at).1 timely.2 timely.3 (and_parts (has_one_edge c.kind) _ by_syncs).1
      ]
    where
      -- the latest of the awaited signals
      bounded : (kd : NodeKind) (sig : End → Timed) (xs : List End) → sure_by kd (map (λ x. sure_behind s (iterate round k none_sure) x.node d) xs) ≡ true → AllRows (λ x. time (sig x) ≤ latest (awaited kd (map sig xs))) xs
      bounded kind.Start sig xs h = absurd (both_ways _ refl h)
      bounded _ sig xs h = times-latest sig xs

      -- what is sure behind a source is there when its edge signals
      behind : Known k d → (j : ℕ) (b : Card) (y : Timed) → card_at j (cards_of s) ≡ Some b → Sourced b.kind (m j) ((facts_of es).ended j) y → sure_behind s (iterate round k none_sure) j d ≡ true →
          is_some (value_below d (suc (time y)) es) ≡ true
      behind ih j b y at sourced known =
          elim sourced [
            | inl ended ↦
                let r = ended-ready s es m orderly fit j _ ended.1 in
                elim (or_cases (iterate round k none_sure j d) (writes_of s j d) known) [
                  | inl sure ↦ value-later d (suc r.0) _ (omega (arith, r.2)) es (ih j r.0 b at r.1 sure)
                  | inr writes ↦ written-by_end j _ d b at ended.1 (card-writes s regular j d b at writes)
                ]
            | inr silent ↦
                elim (or_cases (iterate round k none_sure j d) (writes_of s j d) known) [
                  | inl sure ↦ ih j _ b at silent.1 sure
                  | inr writes ↦ absurd (both_ways _ silent.0 (writers j d b at writes))
                ]
          ]

      source : Known k d → (x : End) → is_yes (flow (sig_at (cards_of s) (facts_of es) m x.label x.node)) ≡ true → sure_behind s (iterate round k none_sure) x.node d ≡ true →
          is_some (value_below d (suc (time (sig_at (cards_of s) (facts_of es) m x.label x.node))) es) ≡ true
      source ih x is_true known = go (card_at x.node (cards_of s)) refl is_true
        where
          go : (o : Option Card) → card_at x.node (cards_of s) ≡ o → is_yes (flow (sig_by o (m x.node) ((facts_of es).ended x.node) ((facts_of es).choice x.node) x.label)) ≡ true →
              is_some (value_below d (suc (time (sig_by o (m x.node) ((facts_of es).ended x.node) ((facts_of es).choice x.node) x.label))) es) ≡ true
          go None at is_true = absurd (both_ways _ refl is_true)
          go (Some b) at is_true =
              behind ih x.node b (sig_of b.kind (m x.node) ((facts_of es).ended x.node) ((facts_of es).choice x.node) x.label) at
              (yes-sourced b.kind (m x.node) ((facts_of es).ended x.node) ((facts_of es).choice x.node) x.label is_true) known

      synced : Known k d → (a : ℕ) (b : Card) → card_at a (cards_of s) ≡ Some b → is_some (flow (sig_at (cards_of s) (facts_of es) m None a)) ≡ true → time (sig_at (cards_of s) (facts_of es) m None a) ≤ t →
          (parts_bound s.body a c.node && sure_behind s (iterate round k none_sure) a d) ≡ true → is_some (value_below d (suc t) es) ≡ true
      synced ih a b at_a some le known =
          let f = facts_of es in
          let y : Timed = sig_of b.kind (m a) (f.ended a) (f.choice a) None in
          let is : sig_at (cards_of s) f m None a ≡ y = ap (λ o. sig_by o (m a) (f.ended a) (f.choice a) None) at_a in
          let r = and_parts (parts_bound s.body a c.node) _ known in
          let bound : parts_bound s.body a n ≡ true = ap (parts_bound s.body a) (sym (card_at-node n (cards_of s) c at)) ∙ r.0 in
          let free = bound-free s f m solves n (ap (λ x. is_yes (flow x)) ready) regular (all-sane s es m orderly fit regular.distinct) a b at_a bound in
          value-later d (suc (time y)) (suc t) (omega (arith, le, ap time is)) es
          (behind ih a b y at_a (some-sourced b.kind (m a) (f.ended a) (f.choice a) None free (ap (λ x. is_some (flow x)) (sym is) ∙ some)) r.1)

-- a list in which nothing is found
pub none-found : {X : Type 0} (test : X → Bool) (xs : List X) → find test xs ≡ None → AllRows (λ x. test x ≡ false) xs
none-found test [] h = tt
none-found test (x ∷ xs) h =
    elim (cases_Bool (test x)) [
      | inl it ↦ let p : Some x ≡ None = rw it at h in absurd (cc)
      | inr other ↦ (other, none-found test xs (rw other at h))
    ]

-- on a trail that replays whole each value that must be read at a node is there where the node is ready
pub read-there : (s : SchemaModel) → Regular s → data_fault s ≡ None → (rank : List ℕ) → IsRank (cards_of s) rank → (es : Entries) (t : Spots) → RisesAfter 0 es → replay_of (flat_of s) es ≡ whole t →
    (n q : ℕ) (c : Card) → card_at n (cards_of s) ≡ Some c → before q (solution (cards_of s) rank (facts_of es) n) ≡ Some Yes → AllRows (λ r. r.1 ≡ true → is_some (value_below r.0 q es) ≡ true) c.reads
read-there s regular no_fault rank is es t rises is_whole n q c at ready =
    let f : Facts = facts_of es in
    let m : Marking = solution (cards_of s) rank f in
    let orderly : Orderly es = whole-orderly (flat_of s) es t rises is_whole in
    let net = solved_net (cards_of s) rank is f in
    let fit = fits-rows (flat_of s) f m (λ d p. value_below d p es) es (whole-fits (flat_of s) rank es m net orderly t is_whole) in
    let mark = is_ready_mark q (m n) ready in
    let later : suc mark.0 ≤ q = omega (arith, ltb-true mark.0 q mark.2) in
    let faults = no_first (missing_at (sure_of s)) (cards_of s) (no_either _ _ (no_either _ _ (no_either _ _ no_fault).1).1).0 in
    let missing : missing_at (sure_of s) c ≡ None = all-rows-card_at (λ x. missing_at (sure_of s) x ≡ None) n (cards_of s) c faults at in
    let rows = none-found (λ r. r.1 && not (sure_of s c.node r.0)) c.reads (no_map _ _ missing) in
    all-rows-map _ _ (λ r none must.
    let sure : sure_of s n r.0 ≡ true = ap (λ k. sure_of s k r.0) (sym (card_at-node n (cards_of s) c at)) ∙ sure_by_clause r.1 (sure_of s c.node r.0) none must in
    value-later r.0 (suc mark.0) q later es
    (sure-there s regular (writers-work s regular no_fault) es m net.solves orderly fit (length (cards_of s)) n r.0 mark.0 c at mark.1 sure)) c.reads rows
  where
    sure_by_clause : (must sure : Bool) → (must && not sure) ≡ false → must ≡ true → sure ≡ true
    sure_by_clause true true h it = refl
    sure_by_clause true false h it = absurd (both_ways _ h refl)
    sure_by_clause false sure h it = absurd (both_ways _ refl it)
