-- The steps of the passes: what is sure at the next card, and the table with a row for it.
use Rattle.wsm_data.proofs.Common.{[], ℕ, ◌&&◌, ◌++◌, ◌+◌, ◌<◌, ◌||◌, ◌∙◌, ◌∷◌, ◌≡◌, add-one, all-rows-map, AllRows, and_parts, ap, Behind, Bool, both_ways, by_node, Card, card_at, card_of, cards_of, cases_Bool, drop, drop-cons, eq-eqb}
use Rattle.wsm_data.proofs.Common.{eq_means, eqb, eqb-true, false, find, first_some, get_or, has_one_edge, Holds, inl, inr, is_one_of, IsNext, IsPut, key_eq, key_lt, length, List, list_all, list_any, lt_not_eq, map, map-same, missing_at}
use Rattle.wsm_data.proofs.Common.{None, not, one_of-last, Option, option_map, option_or, parts_bound, Place, places, put_row, refl, row_at, SchemaModel, set_behind, set_of, Some, subst, suc, Sure, sure_behind, sure_by, sure_of, sym, take}
use Rattle.wsm_data.proofs.{Common.{take-append-drop, Tells, TellsAt, told_by_syncs, true, writes_of}, Elements.{eq_number, or_swap, has-there}, Firsts.{first-some, first-none}, Sure.any-same}
use Rattle.std.proofs.Math.Seq.{take-suc}
use Rattle.std.specs.{List.filter, Prelude.is_some}
use Rattle.wsm_schema.specs.declared.faults.DataFault.TheVariants.{Missing}

-- what a table tells of a card's sources is what is sure there
pub told-sure : (s : SchemaModel) (rows : List Behind) (seen : List ℕ) (c : Card) → Tells s rows seen → IsNext s seen c → TellsAt s rows c
told-sure s rows seen c tells next d =
    ap (λ bs. sure_by c.kind bs || (has_one_edge c.kind && told_by_syncs s rows c d))
    (map-same (λ e. is_one_of d (set_behind rows e.node)) (λ e. sure_behind s (sure_of s) e.node d) c.ins (all-rows-map _ _ (λ e there. tells e.node d there.0 there.1) c.ins next.behind))
    ∙ ap (λ b. sure_by c.kind (map (λ e. sure_behind s (sure_of s) e.node d) c.ins) || (has_one_edge c.kind && b))
    (any-same (λ m. parts_bound s.body m c.node && is_one_of d (set_behind rows m)) (λ m. parts_bound s.body m c.node && sure_behind s (sure_of s) m d) c.syncs_in
    (all-rows-map _ _ (λ m there. ap (λ b. parts_bound s.body m c.node && b) (tells m d there.0 there.1)) c.syncs_in next.synced))
    ∙ sym (next.solved d)

-- the reads that are missing are those of that set
pub missing-there : (s : SchemaModel) (c : Card) (set : List ℕ) → Holds set (sure_of s c.node) → missing_at (λ n d. is_one_of d set) c ≡ missing_at (sure_of s) c
missing-there s c set holds = ap (option_map (λ r. _)) (λ j. find (λ r. r.1 && not (holds r.0 j)) c.reads)

-- the elements of a node's writes
pub written-is : (n d : ℕ) (ws : List (ℕ × ℕ)) → list_any (λ w. eqb w.1 d) (filter (λ w. eqb w.0 n) ws) ≡ list_any (λ w. eqb w.0 n && eqb w.1 d) ws
written-is n d [] = refl
written-is n d (w ∷ ws) =
    elim (cases_Bool (eqb w.0 n)) [
      | inl same ↦ rw same (ap (λ b. eqb w.1 d || b) (written-is n d ws))
      | inr other ↦ rw other (written-is n d ws)
    ]

-- a row that was put is that of its node
row-here : (b : Behind) (rows : List Behind) → row_at by_node (b.node, 0) (put_row by_node b rows) ≡ Some b
row-here b [] = rw (eq_number b.node b.node, eq-eqb b.node b.node refl) refl
row-here b (x ∷ xs) =
    elim (cases_Bool (key_lt (x.node, 0) (b.node, 0))) [
      | inl below ↦ rw (below, lt_not_eq (x.node, 0) (b.node, 0) below) (row-here b xs)
      | inr not_below ↦ elim (cases_Bool (key_eq (x.node, 0) (b.node, 0))) [
        | inl same ↦ rw (not_below, same, eq_number b.node b.node, eq-eqb b.node b.node refl) refl
        | inr other ↦ rw (not_below, other, eq_number b.node b.node, eq-eqb b.node b.node refl) refl
      ]
    ]

-- the rows of other nodes stay
row-others : (b : Behind) (rows : List Behind) (n : ℕ) → eqb b.node n ≡ false → row_at by_node (n, 0) (put_row by_node b rows) ≡ row_at by_node (n, 0) rows
row-others b [] n away = rw (eq_number b.node n, away) refl
row-others b (x ∷ xs) n away =
    elim (cases_Bool (key_lt (x.node, 0) (b.node, 0))) [
      | inl below ↦ rw below (elim (cases_Bool (key_eq (x.node, 0) (n, 0))) [
        | inl same ↦ rw same refl
        | inr other ↦ rw other (row-others b xs n away)
      ])
      | inr not_below ↦ elim (cases_Bool (key_eq (x.node, 0) (b.node, 0))) [
        | inl same ↦
            let one : x.node ≡ b.node = (eq_means (x.node, 0) (b.node, 0) same).0 in
            let gone : eqb x.node n ≡ false = ap (λ k. eqb k n) one ∙ away in
            rw (not_below, same, eq_number b.node n, away, eq_number x.node n, gone) refl
        | inr other ↦ rw (not_below, other, eq_number b.node n, away) refl
      ]
    ]

-- what a put makes of a table
pub put-is : (test : ℕ → Bool) (b : Behind) (old new : List Behind) → Holds b.elements.value test → new ≡ put_row by_node b old → IsPut test b.node old new
put-is test b old new holds put = record {
  here = λ d. ap (λ rows. is_one_of d (set_behind rows b.node)) put ∙ ap (λ o. is_one_of d (set_of o)) (row-here b old) ∙ holds d;
  others = λ n away. ap (λ rows. set_behind rows n) put ∙ ap set_of (row-others b old n away);
}

-- the table with the next row tells of one node more
pub tells-next : (s : SchemaModel) (old new : List Behind) (seen : List ℕ) (node : ℕ) → Tells s old seen → IsPut (sure_behind s (sure_of s) node) node old new → Tells s new (seen ++ node ∷ [])
tells-next s old new seen node tells put n d there card =
    elim (cases_Bool (eqb node n)) [
      | inl same ↦ let here : node ≡ n = eqb-true node n same in subst (λ k. is_one_of d (set_behind new k) ≡ sure_behind s (sure_of s) k d) here (put.here d)
      | inr other ↦ ap (is_one_of d) (put.others n other) ∙ elim (one_of-last n seen node there) [
        | inl before ↦ tells n d before card
        | inr here ↦ absurd (both_ways _ other (eq-eqb node n here))
      ]
    ]

-- of a node that is none of the net it has nothing to tell
pub tells-none : (s : SchemaModel) (rows : List Behind) (seen : List ℕ) (node : ℕ) → Tells s rows seen → None ≡ card_at node (cards_of s) → Tells s rows (seen ++ node ∷ [])
tells-none s rows seen node tells none n d there card =
    elim (one_of-last n seen node there) [
      | inl before ↦ tells n d before card
      | inr here ↦ let p : None ≡ Some card.0 = none ∙ ap (λ k. card_at k (cards_of s)) here ∙ card.1 in absurd (cc)
    ]

-- the nodes of a rank up to the next one
pub seen-next : (rank : List ℕ) (i d : ℕ) → i < length rank → rank ≡ take i rank ++ get_or rank i d ∷ drop (suc i) rank
seen-next rank i d lt = sym (take-append-drop i rank) ∙ ap (λ ns. take i rank ++ ns) (drop-cons rank i d lt)

pub seen-one : (rank : List ℕ) (i d : ℕ) → i < length rank → take i rank ++ get_or rank i d ∷ [] ≡ take (i + 1) rank
seen-one rank i d lt = rw add-one (sym (take-suc rank i d lt))

-- the next row, and those that are left behind it
pub rows-step : {X : Type 0} (P : X → Type 0) (xs : List X) (i : ℕ) (x : X) → i < length xs → x ≡ get_or xs i x → AllRows P (drop i xs) → P x × AllRows P (drop (i + 1) xs)
rows-step P xs i x lt is rows =
    let split : drop i xs ≡ x ∷ drop (i + 1) xs = rw add-one (drop-cons xs i x lt ∙ ap (λ y. y ∷ drop (suc i) xs) (sym is)) in
    subst (AllRows P) split rows

-- the first answer, where the next row has one, and where it has none
pub first-found : {X Y : Type 0} (f : X → Option Y) (xs : List X) (i : ℕ) (x : X) (found all : Option Y) → i < length xs → x ≡ get_or xs i x → found ≡ f x → is_some found ≡ true → first_some f (drop i xs) ≡ all → found ≡ all
first-found f xs i x found all lt is here some rest = first-some found (f x) (first_some f (drop (suc i) xs)) here some ∙ ap (first_some f) (sym (drop-cons xs i x lt ∙ ap (λ y. y ∷ drop (suc i) xs) (sym is))) ∙ rest

pub first-left : {X Y : Type 0} (f : X → Option Y) (xs : List X) (i : ℕ) (x : X) (found all : Option Y) → i < length xs → x ≡ get_or xs i x → found ≡ f x → is_some found ≡ false → first_some f (drop i xs) ≡ all → first_some f (drop (i + 1) xs) ≡ all
first-left f xs i x found all lt is here none rest =
    rw add-one (first-none found (f x) (first_some f (drop (suc i) xs)) here none ∙ ap (first_some f) (sym (drop-cons xs i x lt ∙ ap (λ y. y ∷ drop (suc i) xs) (sym is))) ∙ rest)

-- a put by what is sure
pub put-sure : (s : SchemaModel) (node : ℕ) (set : List ℕ) (old new : List Behind) → Holds set (sure_of s node) → IsPut (λ d. is_one_of d set || writes_of s node d) node old new → IsPut (sure_behind s (sure_of s) node) node old new
put-sure s node set old new holds put = record { here = λ d. put.here d ∙ ap (λ b. b || writes_of s node d) (holds d); others = put.others }

-- where nothing is read, no read misses its value
pub nothing-read : (s : SchemaModel) (sure : Sure) → s.reads ≡ [] → None ≡ first_some (missing_at sure) (cards_of s)
nothing-read s sure none = go (places s.start s.body s.finish)
  where
    go : (ps : List Place) → None ≡ first_some (missing_at sure) (map (card_of s) ps)
    go [] = refl
    go (p ∷ ps) =
        go ps
        ∙ ap (λ o. option_or o (first_some (missing_at sure) (map (card_of s) ps)))
        (sym (ap (λ rs. option_map (λ (r : ℕ × Bool). Missing p.node r.0) (find (λ (r : ℕ × Bool). r.1 && not (sure p.node r.0)) (map (λ (r : ℕ × ℕ × Bool). (r.1, r.2)) (filter (λ r. eqb r.0 p.node) rs)))) none))

-- where all that is written is in a set, it adds nothing
pub written-there : (d : ℕ) (set : List ℕ) (ws : List (ℕ × ℕ)) → list_all (λ w. is_one_of w.1 set) ws ≡ true → is_one_of d set ≡ (is_one_of d set || list_any (λ w. eqb w.1 d) ws)
written-there d set [] all = or_swap false (is_one_of d set)
written-there d set (w ∷ ws) all =
    let parts = and_parts (is_one_of w.1 set) _ all in
    has-there d w.1 set parts.0 ∙ ap (λ b. b || eqb w.1 d) (written-there d set ws parts.1)
    ∙ or_last (is_one_of d set) (list_any (λ v. eqb v.1 d) ws) (eqb w.1 d)
  where
    or_last : (a b c : Bool) → ((a || b) || c) ≡ (a || (c || b))
    or_last true b c = refl
    or_last false true true = refl
    or_last false true false = refl
    or_last false false c = or_swap false c
