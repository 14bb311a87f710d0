-- One visit of a walk over a change, and how visits follow one another.
use Rattle.wsm_adapt.proofs.Common.{[], ℕ, ◌++◌, ◌+◌, ◌<◌, ◌||◌, ◌∙◌, ◌∷◌, ◌≡◌, ◌≤◌, ◌⊎◌, Aim, all-rows-map, AllBehind, ap, arith, Bool, both_ways, Card, card_at, card_at-node, cases_Bool, Closed, cond, Confined, Covered, End, eq-eqb, eqb}
use Rattle.wsm_adapt.proofs.Common.{eqb-true, false, FewAmong, fewer-places, first, Found, get_or, GoesOn, Handed, HasCard, in_rank, inl, inr, is_known, is_named, is_one_of, is_pending, is_some, IsAsKept, IsRank, IsVisit, item_after}
use Rattle.wsm_adapt.proofs.Common.{item_at, item_at-put, KeepsTold, Known, leads_to, length, List, loop_end, Mark, mark_or, None, one_of-last, Option, or-true, or_left, or_right, passed-to, place-behind, place-one, put_row, rank_place}
use Rattle.wsm_adapt.proofs.Common.{ReadsFew, refl, said, same_card, same_Some, seen, Some, SpendsAmong, SpendsOn, Standing, Stands, StaysInside, subst, sym, time_by, timed_of, true, unknown_in, VisitAmong, walks-new, walks-none}
use Rattle.wsm_adapt.proofs.{Common.{walks-same, with_time}, Filtered.known-row, ReadBorder.known-stays}
use Rattle.wsm_walk.proofs.Walk.{equation-same, fresh-last}
use Rattle.wsm_settle.specs.Revised.{IsRevised}

-- a walk with more places, none before those that it had
pub stands-more : (cards : List Card) (rank : List ℕ) (goal : ℕ → Mark) (kept : List (ℕ × Mark)) (places places' : List ℕ) (changes : List (ℕ × Option Mark)) → ((q : ℕ) → is_one_of q places ≡ true → is_one_of q places' ≡ true) →
    ((q : ℕ) → is_one_of q places' ≡ true → (r : ℕ) × (is_one_of r places ≡ true) × (r ≤ q)) → Stands cards rank goal kept places changes → Stands cards rank goal kept places' changes
stands-more cards rank goal kept places places' changes stay least st = record {
  front = st.front;
  rest = st.rest;
  split = st.split;
  low = λ q there. let r = least q there in let low = st.low r.0 r.1 in let le = r.2 in omega (arith, low, le);
  walked = record {
    done = st.walked.done;
    facts = st.walked.facts;
    times = st.walked.times;
    meets = λ n c at out idle. st.walked.meets n c at out (elim (cases_Bool (is_pending rank places n)) [ inl there ↦ absurd (both_ways _ idle (stay (rank_place n rank) there)) | inr none ↦ none ]);
  };
  ascends = st.ascends;
  says = st.says;
}

-- what the marks of nodes that are known show
pub shown : (rows : List (ℕ × Option Mark)) (n : ℕ) (o : Option Mark) → item_at n rows ≡ Some o → seen [] rows n ≡ mark_or o
shown rows n o at = ap (λ x. mark_or (item_after x (item_at n []))) at

-- a row that is put changes what is seen of its node alone
pub seen-other : (kept : List (ℕ × Mark)) (rows rows' : List (ℕ × Option Mark)) (n k : ℕ) (o : Option Mark) → rows' ≡ put_row first (n, o) rows → eqb n k ≡ false → seen kept rows' k ≡ seen kept rows k
seen-other kept rows rows' n k o put away =
    let row : item_at k rows' ≡ cond (eqb n k) (Some o) (item_at k rows) = ap (item_at k) put ∙ item_at-put k (n, o) rows in
    let same : item_at k rows' ≡ item_at k rows = rw away at row in
    ap (λ x. mark_or (item_after x (item_at k kept))) same

pub known-put : (k : ℕ) (r : ℕ × Option Mark) (rows : List (ℕ × Option Mark)) → is_known rows k ≡ true → is_known (put_row first r rows) k ≡ true
known-put k r rows known =
    ap is_some (item_at-put k r rows)
    ∙ elim (cases_Bool (eqb r.0 k)) [
      | inl here ↦ ap (λ b. is_some (cond b (Some r.1) (item_at k rows))) here
      | inr away ↦ ap (λ b. is_some (cond b (Some r.1) (item_at k rows))) away ∙ known
    ]

module _ (cards : List Card) (rank : List ℕ) (is : IsRank cards rank) (p n d : ℕ) (keys : List ℕ) (lt : p < length rank) (here : get_or rank p d ≡ n) (behind : AllBehind p keys) where
  s : (skipped : List ℕ) × (more : List ℕ) × (rank ≡ skipped ++ (n ∷ more)) × (rank ≡ skipped ++ (n ∷ more)) × (length skipped ≡ p)
  s = passed-to rank [] rank p n d refl (omega arith) lt here

  own-place : rank_place n rank ≡ p
  own-place = ap (rank_place n) s.3 ∙ place-behind s.0 s.1 n (is.once s.0 s.1 n s.3) ∙ s.4

  -- another node that is not pending was not
  pub idle-before : (keys' : List ℕ) → ((q : ℕ) → is_one_of q keys ≡ true → is_one_of q keys' ≡ true) → (k : ℕ) → eqb n k ≡ false → is_pending rank keys' k ≡ false → is_pending rank (p ∷ keys) k ≡ false
  idle-before keys' stay = fewer-places cards rank is s.0 s.1 n p keys keys' s.3 s.4 stay

  first-pending : is_pending rank (p ∷ keys) n ≡ true
  first-pending = rw (own-place, eq-eqb p p refl) refl

  later : (q : ℕ) → is_one_of q keys ≡ true → is_one_of q (p ∷ keys) ≡ true
  later q there = elim (cases_Bool (eqb p q)) [ inl same ↦ rw same refl | inr other ↦ rw other there ]

  -- ---- a node that is none of the net's
  module _ (none : card_at n cards ≡ None) (f : Found) where
    other-card : (k : ℕ) (c : Card) → card_at k cards ≡ Some c → eqb n k ≡ false
    other-card k c at = elim (cases_Bool (eqb n k)) [
      | inr other ↦ other
      | inl same ↦ let q : None ≡ Some c = sym none ∙ ap (λ x. card_at x cards) (eqb-true n k same) ∙ at in absurd (cc)
    ]

    pub goes-none : (kept : List (ℕ × Mark)) → GoesOn cards rank kept (p ∷ keys) f keys f
    goes-none kept goal touched aim st = record {
      stands = walks-none cards rank p n d keys lt here behind kept f.changes none goal aim st.stands;
      known = st.known;
      asked = st.asked;
      visited = st.visited;
      others = st.others;
      loops = λ l e c b at ends at_e less out idle. st.loops l e c b at ends at_e less out (idle-before keys (λ q there. there) e (other-card e b at_e) idle);
    }

  -- ---- a node of the net, whose mark and sources are read
  module _ (c : Card) (found : card_at n cards ≡ Some c) (f g : Found) where
    own : c.node ≡ n
    own = card_at-node n cards c found

    among-visited : (k : ℕ) (kept : List (ℕ × Mark)) → IsVisit kept c f g → is_one_of k g.nodes ≡ true → (is_one_of k f.nodes ≡ true) ⊎ (n ≡ k)
    among-visited k kept v among = elim (one_of-last k f.nodes c.node (subst (λ l. is_one_of k l ≡ true) v.nodes among)) [ inl old ↦ inl old | inr same ↦ inr (sym own ∙ same) ]

    not-visited : (k : ℕ) (kept : List (ℕ × Mark)) → IsVisit kept c f g → is_one_of k g.nodes ≡ false → (is_one_of k f.nodes ≡ false) × (eqb n k ≡ false)
    not-visited k kept v out = let r = fresh-last f.nodes c.node k (subst (λ l. is_one_of k l ≡ false) v.nodes out) in (r.0, ap (λ x. eqb x k) (sym own) ∙ r.1)

    module _ (kept : List (ℕ × Mark)) (goal : ℕ → Mark) (touched : List ℕ) (aim : Aim cards rank goal) (st : Standing cards rank goal kept touched (p ∷ keys) f) (v : IsVisit kept c f g) where
      known-read : (k : ℕ) (o : Option Mark) → item_at k g.known ≡ Some o → mark_or o ≡ seen kept f.changes k
      known-read k o at =
          elim (v.more k) [
            | inl same ↦ st.known k o (sym same ∙ at)
            | inr came ↦
                let is_o : o ≡ item_at k kept = same_Some o (item_at k kept) (sym at ∙ came.1) in
                let away : is_one_of k f.nodes ≡ false = elim (cases_Bool (is_one_of k f.nodes)) [ inl it ↦ absurd (both_ways _ (ap is_some came.0) (st.visited k it)) | inr other ↦ other ] in
                ap mark_or is_o ∙ sym (st.others k away)
          ]

      sees : (k : ℕ) → is_known g.known k ≡ true → seen [] g.known k ≡ seen kept f.changes k
      sees k known = let row = known-row (item_at k g.known) known in shown g.known k row.0 row.1 ∙ known-read k row.0 row.1

      time-read : time_by cards (seen [] g.known) c ≡ time_by cards (seen kept f.changes) c
      time-read =
          equation-same cards (seen [] g.known) (seen kept f.changes) c
          (all-rows-map (λ (x : End). is_known g.known x.node ≡ true) (λ (x : End). Known cards (λ k. seen [] g.known k ≡ seen kept f.changes k) x.node) (λ x known b at. sees x.node known) c.ins v.sources.0)
          (all-rows-map (λ (x : ℕ). is_known g.known x ≡ true) (λ (x : ℕ). Known cards (λ k. seen [] g.known k ≡ seen kept f.changes k) x) (λ x known b at. sees x known) c.syncs_in v.sources.1)

      revised-read : (o : Option Mark) → IsRevised cards (seen [] g.known) c o → IsRevised cards (seen kept f.changes) c o
      revised-read None h = ap timed_of (sym (sees c.node v.own)) ∙ h ∙ time-read
      revised-read (Some m) h = h ∙ (λ i. with_time (time-read i) (sees c.node v.own i))

      as-kept : (k : ℕ) → IsAsKept kept f.changes k → IsAsKept kept g.changes k
      as-kept k h = ap (λ l. seen kept l k) v.changes ∙ h

      -- it has the time of its equation
      goes-same-at : (o : Option Mark) → IsRevised cards (seen [] g.known) c o → o ≡ None → Standing cards rank goal kept touched keys g
      goes-same-at o revised none = record {
        stands = subst (λ l. Stands cards rank goal kept keys l) (sym v.changes) (walks-same cards rank p n d keys lt here behind kept f.changes c found o (revised-read o revised) none goal aim st.stands);
        known = λ k x at. known-read k x at ∙ ap (λ l. seen kept l k) (sym v.changes);
        asked = λ k it. known-stays kept f.known g.known v.more k (st.asked k it);
        visited = λ k among. elim (among-visited k kept v among) [
          | inl old ↦ known-stays kept f.known g.known v.more k (st.visited k old)
          | inr same ↦ ap (is_known g.known) (sym same ∙ sym own) ∙ v.own
        ];
        others = λ k away. as-kept k (st.others k (not-visited k kept v away).0);
        loops = λ l e b b' at ends at_e less away idle.
            let r = not-visited e kept v away in
            as-kept l (st.loops l e b b' at ends at_e less r.0 (idle-before keys (λ q there. there) e r.1 idle));
      }

      -- it has another
      module _ (m : Mark) (h : Found) (known_is : (k : ℕ) → item_at k h.known ≡ item_at k (put_row first (c.node, said m) g.known)) (changes_are : h.changes ≡ put_row first (c.node, said m) g.changes) (nodes_are : h.nodes ≡ g.nodes) (keys' : List ℕ)
          (handed : Handed rank (λ k. is_named (loop_end c) k || leads_to c k) (p + 1) keys keys') where
        changes_were : h.changes ≡ put_row first (c.node, said m) f.changes
        changes_were = changes_are ∙ ap (λ l. put_row first (c.node, said m) l) v.changes

        other-seen : (k : ℕ) → eqb n k ≡ false → seen kept h.changes k ≡ seen kept f.changes k
        other-seen k away = seen-other kept f.changes h.changes c.node k (said m) changes_were (ap (λ x. eqb x k) own ∙ away)

        was-visited : (k : ℕ) → is_one_of k h.nodes ≡ false → (is_one_of k f.nodes ≡ false) × (eqb n k ≡ false)
        was-visited k away = not-visited k kept v (subst (λ l. is_one_of k l ≡ false) nodes_are away)

        behind' : AllBehind p keys'
        behind' q there = elim (handed.only q there) [ inl old ↦ behind q old | inr named ↦ let le = named.4 in omega (arith, le) ]

        more : Stands cards rank goal kept (p ∷ keys') f.changes
        more =
            stands-more cards rank goal kept (p ∷ keys) (p ∷ keys') f.changes
            (λ q there. elim (cases_Bool (eqb p q)) [ inl same ↦ rw same refl | inr other ↦ rw other (handed.stay q (rw other at there)) ])
            (λ q there. (p, rw (eq-eqb p p refl) refl, least q there))
            st.stands
          where
            least : (q : ℕ) → is_one_of q (p ∷ keys') ≡ true → p ≤ q
            least q there =
                elim (cases_Bool (eqb p q)) [
                  | inl same ↦ let e = eqb-true p q same in omega (arith, e)
                  | inr other ↦ let less = behind' q (rw other at there) in omega (arith, less)
                ]

        goes-new-at : IsRevised cards (seen [] g.known) c (Some m) → Standing cards rank goal kept touched keys' h
        goes-new-at revised = record {
          stands =
              walks-new cards rank p n d keys' lt here behind' kept f.changes c found (Some m) (revised-read (Some m) revised) m refl (said m) refl h.changes changes_were keys'
              (record { stay = λ q there. there; come = λ k leads in_rank far. handed.come k (or_right (is_named (loop_end c) k) (leads_to c k) leads) in_rank far; only = λ q there. inl there }) goal aim more;
          known = λ k o at. new-known k o (sym (known_is k ∙ item_at-put k (c.node, said m) g.known) ∙ at) (eqb n k) refl;
          asked = λ k it. still-known k (known-stays kept f.known g.known v.more k (st.asked k it));
          visited = λ k among. elim (among-visited k kept v (subst (λ l. is_one_of k l ≡ true) nodes_are among)) [
            | inl old ↦ still-known k (known-stays kept f.known g.known v.more k (st.visited k old))
            | inr same ↦ still-known k (ap (is_known g.known) (sym same ∙ sym own) ∙ v.own)
          ];
          others = λ k away. let r = was-visited k away in other-seen k r.1 ∙ st.others k r.0;
          loops = λ l e b b' at ends at_e less away idle.
              let r = was-visited e away in
              elim (cases_Bool (eqb n l)) [
                | inr other ↦ other-seen l other ∙ st.loops l e b b' at ends at_e less r.0 (idle-before keys' handed.stay e r.1 idle)
                | inl same ↦
                    let n_l : n ≡ l = eqb-true n l same in
                    let one : c ≡ b = same_card cards n c b found (ap (λ x. card_at x cards) n_l ∙ at) in
                    let names : is_named (loop_end c) e ≡ true = ap (λ o. is_named o e) (ap loop_end one ∙ ends) ∙ or_left (eqb e e) false (eq-eqb e e refl) in
                    let far : p + 1 ≤ rank_place e rank = (let at_n = own-place in let same_place = ap (λ x. rank_place x rank) n_l in omega (arith, at_n, same_place, less)) in
                    absurd (both_ways _ idle (handed.come e (or_left (is_named (loop_end c) e) (leads_to c e) names) (in_rank cards rank is e b' at_e) far))
              ];
        }
          where
            still-known : (k : ℕ) → is_known g.known k ≡ true → is_known h.known k ≡ true
            still-known k known = ap is_some (known_is k) ∙ known-put k (c.node, said m) g.known known

            new-known : (k : ℕ) (o : Option Mark) → cond (eqb c.node k) (Some (said m)) (item_at k g.known) ≡ Some o → (b : Bool) → eqb n k ≡ b → mark_or o ≡ seen kept h.changes k
            new-known k o at true same =
                let same' : eqb c.node k ≡ true = ap (λ x. eqb x k) own ∙ same in
                let is_o : said m ≡ o = same_Some (said m) o (rw same' at at) in
                let row : item_at k h.changes ≡ cond (eqb c.node k) (Some (said m)) (item_at k f.changes) = ap (item_at k) changes_were ∙ item_at-put k (c.node, said m) f.changes in
                let there : item_at k h.changes ≡ Some (said m) = rw same' at row in
                ap mark_or (sym is_o) ∙ sym (ap (λ x. mark_or (item_after x (item_at k kept))) there)
            new-known k o at false away =
                let away' : eqb c.node k ≡ false = ap (λ x. eqb x k) own ∙ away in
                known-read k o (rw away' at at) ∙ sym (other-seen k away)

    pub goes-same : (kept : List (ℕ × Mark)) → IsVisit kept c f g → (o : Option Mark) → IsRevised cards (seen [] g.known) c o → o ≡ None → GoesOn cards rank kept (p ∷ keys) f keys g
    goes-same kept v o revised none goal touched aim st = goes-same-at kept goal touched aim st v o revised none

    pub goes-new : (kept : List (ℕ × Mark)) → IsVisit kept c f g → (o : Option Mark) → IsRevised cards (seen [] g.known) c o → (m : Mark) → o ≡ Some m → (h : Found) → ((k : ℕ) → item_at k h.known ≡ item_at k (put_row first (c.node, said m) g.known)) →
        h.changes ≡ put_row first (c.node, said m) g.changes → h.nodes ≡ g.nodes → (keys' : List ℕ) → Handed rank (λ k. is_named (loop_end c) k || leads_to c k) (p + 1) keys keys' → GoesOn cards rank kept (p ∷ keys) f keys' h
    goes-new kept v o revised m some h known_is changes_are nodes_are keys' handed goal touched aim st =
        goes-new-at kept goal touched aim st v m h known_is changes_are nodes_are keys' handed (subst (IsRevised cards (seen [] g.known) c) some revised)

    -- ---- where it goes
    module _ (kept : List (ℕ × Mark)) (v : IsVisit kept c f g) where
      visits-inside : (inside : ℕ → Bool) → Confined cards rank inside (p ∷ keys) f.nodes → (k : ℕ) → is_one_of k g.nodes ≡ true → (inside k ≡ true) × HasCard cards k
      visits-inside inside con k among =
          elim (among-visited k kept v among) [
            | inl old ↦ con.visited k old
            | inr same ↦ (ap inside (sym same) ∙ con.pending n c found first-pending, (c, ap (λ x. card_at x cards) (sym same) ∙ found))
          ]

      pub stays-same : StaysInside cards rank (p ∷ keys) f keys g
      stays-same inside ranked closed con = record { pending = λ k b at there. con.pending k b at (later (rank_place k rank) there); visited = visits-inside inside con }

      pub stays-new : (h : Found) → h.nodes ≡ g.nodes → (keys' : List ℕ) → Handed rank (λ k. is_named (loop_end c) k || leads_to c k) (p + 1) keys keys' → StaysInside cards rank (p ∷ keys) f keys' h
      stays-new h nodes_are keys' handed inside ranked closed con =
          let in_n : inside n ≡ true = con.pending n c found first-pending in
          record {
            pending = λ k b at there. elim (handed.only (rank_place k rank) there) [
              | inl old ↦ con.pending k b at (later (rank_place k rank) old)
              | inr named ↦
                  let same : named.0 ≡ k = place-one rank named.0 k named.2 (in_rank cards rank is k b at) named.3 in
                  elim (or-true (is_named (loop_end c) named.0) (leads_to c named.0) named.1) [
                    | inl ends ↦ closed.loops n k c found (named-end (loop_end c) k (subst (λ x. is_named (loop_end c) x ≡ true) same ends)) in_n
                    | inr leads ↦ closed.names n c found in_n k b at (subst (λ x. leads_to c x ≡ true) same leads)
                  ]
            ];
            visited = λ k among. visits-inside inside con k (subst (λ l. is_one_of k l ≡ true) nodes_are among);
          }
        where
          named-end : (o : Option ℕ) (k : ℕ) → is_named o k ≡ true → o ≡ Some k
          named-end None k it = absurd (both_ways _ refl it)
          named-end (Some e) k it = elim (or-true (eqb e k) false it) [ inl same ↦ ap Some (eqb-true e k same) | inr none ↦ absurd (both_ways _ refl none) ]

    -- ---- what it reads
    asks : (inside : ℕ → Bool) (all : List ℕ) → Covered cards inside all → Confined cards rank inside (p ∷ keys) f.nodes → VisitAmong c all
    asks inside all covered con =
        let in_n : inside n ≡ true = con.pending n c found first-pending in
        (ap (λ x. is_one_of x all) own ∙ covered.own n c found in_n, covered.sources n c found in_n)

    pub spends-visit : (reads reads' : ℕ) → SpendsAmong (VisitAmong c) reads f.known reads' g.known → (h : Found) → ((all : List ℕ) → unknown_in h.known all ≤ unknown_in g.known all) → SpendsOn cards rank reads (p ∷ keys) f reads' h
    spends-visit reads reads' spent h less inside all ranked covered con =
        let a = spent all (asks inside all covered con) in
        let b = less all in
        omega (arith, a, b)

    pub few-visit : (reads reads' : ℕ) → FewAmong (VisitAmong c) reads f.known reads' → ReadsFew cards rank reads (p ∷ keys) f reads'
    few-visit reads reads' few inside all ranked closed covered con = few all (asks inside all covered con)

-- what is put is known, and what was
pub put-less : (rows : List (ℕ × Option Mark)) (r : ℕ × Option Mark) (all : List ℕ) → unknown_in (put_row first r rows) all ≤ unknown_in rows all
put-less rows r [] = omega arith
put-less rows r (n ∷ ns) =
    let rest = put-less rows r ns in
    elim (cases_Bool (is_known rows n)) [
      | inl it ↦ rw (it, known-put n r rows it) (omega (arith, rest))
      | inr none ↦ elim (cases_Bool (is_known (put_row first r rows) n)) [
        | inl it ↦ rw (none, it) (omega (arith, rest))
        | inr too ↦ rw (none, too) (omega (arith, rest))
      ]
    ]

pub keeps-put : (kept : List (ℕ × Mark)) (c : Card) (f g h : Found) (x : Option Mark) → IsVisit kept c f g → h.changes ≡ put_row first (c.node, x) g.changes → KeepsTold f h
keeps-put kept c f g h x v put n told = ap (λ l. is_known l n) (put ∙ ap (put_row first (c.node, x)) v.changes) ∙ known-put n (c.node, x) f.changes told

-- ---- one visit after another
pub goes-then : (cards : List Card) (rank : List ℕ) (kept kept' : List (ℕ × Mark)) (a b b' e : List ℕ) (x y z : Found) → GoesOn cards rank kept a x b y → b ≡ b' → kept' ≡ kept → GoesOn cards rank kept' b' y e z → GoesOn cards rank kept a x e z
goes-then cards rank kept kept' a b b' e x y z one same stays two goal touched aim st =
    subst (λ rows. Standing cards rank goal rows touched e z) stays
    (two goal touched aim (subst (λ rows. Standing cards rank goal rows touched b' y) (sym stays) (subst (λ l. Standing cards rank goal kept touched l y) same (one goal touched aim st))))

pub stays-then : (cards : List Card) (rank a b b' e : List ℕ) (x y z : Found) → StaysInside cards rank a x b y → b ≡ b' → StaysInside cards rank b' y e z → StaysInside cards rank a x e z
stays-then cards rank a b b' e x y z one same two inside ranked closed con = two inside ranked closed (subst (λ l. Confined cards rank inside l y.nodes) same (one inside ranked closed con))

-- a walk that stays inside has read one mark for each node of some that is known since
abbrev pub Spent : List Card → List ℕ → ℕ → List ℕ → Found → ℕ → Found → Type 0
Spent cards rank reads places found reads' found' =
    (inside : ℕ → Bool) (all : List ℕ) → IsRank cards rank → Closed cards inside → Covered cards inside all → Confined cards rank inside places found.nodes →
    reads' + unknown_in found'.known all ≤ reads + unknown_in found.known all

pub spent-then : (cards : List Card) (rank a b b' : List ℕ) (r r' r'' : ℕ) (x y z : Found) → Spent cards rank r a x r' y → StaysInside cards rank a x b y → b ≡ b' → SpendsOn cards rank r' b' y r'' z → Spent cards rank r a x r'' z
spent-then cards rank a b b' r r' r'' x y z one stays same two inside all ranked closed covered con =
    let before = one inside all ranked closed covered con in
    let now = two inside all ranked covered (subst (λ l. Confined cards rank inside l y.nodes) same (stays inside ranked closed con)) in
    omega (arith, before, now)

pub few-then : (cards : List Card) (rank a b b' : List ℕ) (r r' r'' : ℕ) (x y : Found) → Spent cards rank r a x r' y → StaysInside cards rank a x b y → b ≡ b' → ReadsFew cards rank r' b' y r'' → ReadsFew cards rank r a x r''
few-then cards rank a b b' r r' r'' x y one stays same two inside all ranked closed covered con =
    let before = one inside all ranked closed covered con in
    let now = two inside all ranked closed covered (subst (λ l. Confined cards rank inside l y.nodes) same (stays inside ranked closed con)) in
    omega (arith, before, now)

pub few-end : (cards : List Card) (rank a : List ℕ) (r r' : ℕ) (x y : Found) → Spent cards rank r a x r' y → ReadsFew cards rank r a x r'
few-end cards rank a r r' x y one inside all ranked closed covered con = let before = one inside all ranked closed covered con in omega (arith, before)
