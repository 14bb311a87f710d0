-- What operations that are not refused do to the pieces of a schema.
use Rattle.wsm_ops.proofs.Common.{[], ℕ, ◌++◌, ◌∙◌, ◌∷◌, ◌≡◌, act, all-rows-map, all_rows, AllRows, and_right, ap, append-nil, at_gap, before, begins_item, behind, beside, Bool, both_rows, both_ways, by_card, Card, card_at, cards_of}
use Rattle.wsm_ops.proofs.Common.{cases_Bool, change, closing, ends_item, ends_with, eq-eqb, eqb, eqb-true, false, flat_map, flat_map-append, Gap, gap_refusal, inl, inr, is_activity, is_code, is_node, is_some, item_refusal, List, list_any}
use Rattle.wsm_ops.proofs.Common.{move_refusal, NodeKind, None, not, not-false, one_taken, opening, Option, option_map, or_parts, Part, part_pieces, Piece, put_at, refl, schema_pieces, SchemaModel, Seat, seat_at, seat_of, Some, subst, sym}
use Rattle.wsm_ops.proofs.{Common.{takes_behind, true, twice, unless_activity, with_before, with_behind, without, without_node, wrong_item}, Distinct.{IsDistinct, first_none, when_none}, PieceCards.{card-seat, card-nodes}, PieceEdits.takes}
use Rattle.wsm_ops.proofs.{PieceEdits.{putting, pieces_if, put_at-pieces, is_activity_of, kept_by, without_at-pieces}, PieceSeats.{same-flat_map, same-filter, IsSeated, all_seated, rows-filter, any-of}, PieceWraps.{begins_by, ends_by}}
use Rattle.wsm_ops.proofs.PieceWraps.{begins, ends, wrapping, change_at-pieces, schema_two_ends}
use Rattle.wsm_schema.specs.declared.cards.NodeKind.TheVariants.{Activity, AndSplit, AndJoin, XorSplit, XorJoin, LoopStart, LoopEnd}
use Rattle.wsm_ops.specs.declared.operations.Gap.TheVariants as gap
use Rattle.wsm_ops.specs.declared.pieces.Piece.TheVariants.{Node, Head}

-- ---- a card that is there and passes a test
abbrev pub Passes : (Card → Bool) → Option Card → Type 0
Passes test found = (c : Card) × (found ≡ Some c) × (test c ≡ true)

pub passes : (test : Card → Bool) (n : ℕ) (found : Option Card) → by_card test n found ≡ None → Passes test found
passes test n None h = absurd (cc)
passes test n (Some c) h = (c, refl, not-false (test c) (when_none _ _ h))

pub all_at : (s : SchemaModel) (n : ℕ) (c : Card) → IsDistinct s → card_at n (cards_of s) ≡ Some c → AllRows (IsSeated n (seat_of c)) (schema_pieces s)
all_at s n c distinct there =
    all_seated n (seat_of c) [] (schema_pieces s) (ap (twice []) (sym (card-nodes s)) ∙ distinct) (sym (card-seat n s) ∙ ap (option_map seat_of) there)

-- ---- something new at a gap
kind_in : Piece → NodeKind → NodeKind
kind_in (Node node kind partner) other = kind
kind_in (Head split code is_first) other = other

abbrev AtGap : Gap → Piece → Type 0
AtGap g p = at_gap g p ≡ takes g p

at-node : (n : ℕ) (seat : Seat) → takes_behind seat.kind ≡ true → (p : Piece) → IsSeated n seat p → AtGap (gap.After n) p
at-node n seat may (Head split code is_first) h = refl
at-node n seat may (Node node kind partner) h =
    elim (cases_Bool (eqb node n)) [
      | inl same ↦ subst (AtGap (gap.After n)) (sym (h same)) (rw may refl)
      | inr other ↦ rw other (sym (and_right (takes_behind kind) false refl))
    ]

at-head : (split code : ℕ) (p : Piece) → AtGap (gap.Head split code) p
at-head split code (Head s c is_first) = refl
at-head split code (Node node kind partner) = sym (and_right (takes_behind kind) false refl)

at-gap : (s : SchemaModel) (g : Gap) → IsDistinct s → gap_refusal (cards_of s) g ≡ None → AllRows (AtGap g) (schema_pieces s)
at-gap s (gap.Head split code) distinct free = all_rows (AtGap (gap.Head split code)) (at-head split code) (schema_pieces s)
at-gap s (gap.After n) distinct free =
    let found = passes (λ c. takes_behind c.kind) n (card_at n (cards_of s)) free in
    all-rows-map (IsSeated n (seat_of found.0)) (AtGap (gap.After n)) (at-node n (seat_of found.0) found.2) (schema_pieces s) (all_at s n found.0 distinct found.1)

put-by_rows : (g : Gap) (x : Part) (s : SchemaModel) → AllRows (AtGap g) (schema_pieces s) → behind (at_gap g) (part_pieces x) (schema_pieces s) ≡ schema_pieces (put_at g x s)
put-by_rows g x s rows =
    same-flat_map (with_behind (at_gap g) (part_pieces x)) (putting g x) (schema_pieces s)
    (all-rows-map (AtGap g) (λ p. with_behind (at_gap g) (part_pieces x) p ≡ putting g x p) (λ p h. ap (λ b. p ∷ pieces_if b (part_pieces x)) h) (schema_pieces s) rows)
    ∙ put_at-pieces g x s.start s.body s.finish

pub put-done : (g : Gap) (x : Part) (s : SchemaModel) → IsDistinct s → gap_refusal (cards_of s) g ≡ None → behind (at_gap g) (part_pieces x) (schema_pieces s) ≡ schema_pieces (put_at g x s)
put-done g x s distinct free = put-by_rows g x s (at-gap s g distinct free)

-- ---- an activity less
abbrev OnlyActivity : ℕ → Piece → Type 0
OnlyActivity n p = is_node n p ≡ is_activity_of n p

the_activity : (kind : NodeKind) → is_activity kind ≡ true → kind ≡ Activity
the_activity Activity h = refl
the_activity _ h = absurd (cc)

activity-other : (n node : ℕ) (kind : NodeKind) (partner : Option ℕ) → eqb node n ≡ false → is_activity_of n (Node node kind partner) ≡ false
activity-other n node Activity partner h = h
activity-other n node _ partner h = refl

only_activity : (n : ℕ) (seat : Seat) → is_activity seat.kind ≡ true → (p : Piece) → IsSeated n seat p → OnlyActivity n p
only_activity n seat is (Head split code is_first) h = refl
only_activity n seat is (Node node kind partner) h =
    elim (cases_Bool (eqb node n)) [
      | inl same ↦ subst (OnlyActivity n) (sym (h same ∙ ap (λ k. Node n k seat.partner) (the_activity seat.kind is))) refl
      | inr other ↦ other ∙ sym (activity-other n node kind partner other)
    ]

pub without-done : (n : ℕ) (s : SchemaModel) → IsDistinct s → unless_activity (cards_of s) n ≡ None →
    without_node n (schema_pieces s) ≡ schema_pieces (record s { body = without n s.body })
without-done n s distinct there =
    let found = passes (λ c. is_activity c.kind) n (card_at n (cards_of s)) there in
    same-filter (λ p. not (is_node n p)) (kept_by n) (schema_pieces s)
    (all-rows-map (IsSeated n (seat_of found.0)) (λ p. not (is_node n p) ≡ kept_by n p) (λ p h. ap not (only_activity n (seat_of found.0) found.2 p h)) (schema_pieces s) (all_at s n found.0 distinct found.1))
    ∙ without_at-pieces n s.start s.body s.finish

-- ---- an activity that moves
pub moved-done : (n : ℕ) (g : Gap) (s : SchemaModel) → IsDistinct s → move_refusal (cards_of s) n g ≡ None →
    behind (at_gap g) (part_pieces (act n)) (without_node n (schema_pieces s)) ≡ schema_pieces (put_at g (act n) (record s { body = without n s.body }))
moved-done n g s distinct free =
    let parts = first_none _ _ free in
    let fits = first_none _ _ parts.1 in
    let t : SchemaModel = record s { body = without n s.body } in
    let is : without_node n (schema_pieces s) ≡ schema_pieces t = without-done n s distinct parts.0 in
    ap (behind (at_gap g) (part_pieces (act n))) is
    ∙ put-by_rows g (act n) t (subst (AllRows (AtGap g)) is (rows-filter (AtGap g) (λ p. not (is_node n p)) (schema_pieces s) (at-gap s g distinct fits.1)))

-- ---- a block round an item
pub card_at-node : (n : ℕ) (cs : List Card) (c : Card) → card_at n cs ≡ Some c → c.node ≡ n
card_at-node n [] c h = absurd (cc)
card_at-node n (d ∷ ds) c h =
    elim (cases_Bool (eqb d.node n)) [
      | inl same ↦ let is : Some d ≡ Some c = rw same at h in let here : d ≡ c = cc in ap (λ e. e.node) (sym here) ∙ eqb-true d.node n same
      | inr other ↦ card_at-node n ds c (rw other at h)
    ]

begins-true : (kind : NodeKind) (n : ℕ) (partner : Option ℕ) (last : ℕ) → begins_item kind ≡ true → ends_with kind n partner last ≡ true → begins_by kind n partner (n, last) ≡ true
begins-true Activity n partner last b e = rw (eq-eqb n n refl, e) refl
begins-true AndSplit n partner last b e = rw (eq-eqb n n refl, e) refl
begins-true XorSplit n partner last b e = rw (eq-eqb n n refl, e) refl
begins-true LoopStart n partner last b e = rw (eq-eqb n n refl, e) refl
begins-true _ n partner last b e = absurd (cc)

begins-other : (kind : NodeKind) (n : ℕ) (partner : Option ℕ) (item : ℕ × ℕ) → eqb n item.0 ≡ false → begins_by kind n partner item ≡ false
begins-other Activity n partner item h = rw h refl
begins-other AndSplit n partner item h = rw h refl
begins-other XorSplit n partner item h = rw h refl
begins-other LoopStart n partner item h = rw h refl
begins-other _ n partner item h = refl

ends-other : (kind : NodeKind) (n : ℕ) (partner : Option ℕ) (item : ℕ × ℕ) → eqb n item.1 ≡ false → ends_by kind n partner item ≡ false
ends-other Activity n partner item h = and_right (eqb n item.0) _ h
ends-other AndJoin n partner item h = and_right (is_code partner item.0) _ h
ends-other XorJoin n partner item h = and_right (is_code partner item.0) _ h
ends-other LoopEnd n partner item h = and_right (is_code partner item.0) _ h
ends-other _ n partner item h = refl

ends-node : (item : ℕ × ℕ) (p : Piece) → ends item p ≡ true → is_node item.1 p ≡ true
ends-node item (Head split code is_first) h = absurd (both_ways _ refl h)
ends-node item (Node node kind partner) h =
    elim (cases_Bool (eqb node item.1)) [
      | inl same ↦ same
      | inr other ↦ absurd (both_ways _ (ends-other kind node partner item other) h)
    ]

any-begins : (item : ℕ × ℕ) (n : ℕ) (seat : Seat) (ps : List Piece) → seat_at n ps ≡ Some seat → begins item (Node n seat.kind seat.partner) ≡ true → list_any (begins item) ps ≡ true
any-begins item n seat [] there b = absurd (cc)
any-begins item n seat (Head split code is_first ∷ ps) there b = any-begins item n seat ps there b
any-begins item n seat (Node node kind partner ∷ ps) there b =
    elim (cases_Bool (eqb node n)) [
      | inl same ↦
          let found : Some (record { kind = kind; partner = partner }) ≡ Some seat = rw same at there in
          let is : record { kind = kind; partner = partner } ≡ seat = cc in
          let here : begins item (Node node kind partner) ≡ true = ap (begins item) (ap (λ m. Node m kind partner) (eqb-true node n same) ∙ ap (λ (s : Seat). Node n s.kind s.partner) is) ∙ b in
          rw here refl
      | inr other ↦ elim (cases_Bool (begins item (Node node kind partner))) [
        | inl here ↦ rw here refl
        | inr none ↦ rw none (any-begins item n seat ps (rw other at there) b)
      ]
    ]

nested : {X : Type 0} (f g : X → List X) (xs : List X) → flat_map f (flat_map g xs) ≡ flat_map (λ x. flat_map f (g x)) xs
nested f g [] = refl
nested f g (x ∷ xs) = flat_map-append f (g x) (flat_map g xs) ∙ ap (λ ys. flat_map f (g x) ++ ys) (nested f g xs)

module _ (node split join first last : ℕ) where
  abbrev item : ℕ × ℕ
  item = (first, last)

  abbrev Begins : Piece → Type 0
  Begins p = is_node first p ≡ begins item p

  abbrev Ends : Piece → Type 0
  Ends p = is_node last p ≡ ends item p

  begins-rows : (seat : Seat) → begins item (Node first seat.kind seat.partner) ≡ true → (p : Piece) → IsSeated first seat p → Begins p
  begins-rows seat b (Head s c is_first) h = refl
  begins-rows seat b (Node n kind partner) h =
      elim (cases_Bool (eqb n first)) [
        | inl same ↦ subst Begins (sym (h same)) (eq-eqb first first refl ∙ sym b)
        | inr other ↦ other ∙ sym (begins-other kind n partner item other)
      ]

  ends-rows : (seat : Seat) → ends item (Node last seat.kind seat.partner) ≡ true → (p : Piece) → IsSeated last seat p → Ends p
  ends-rows seat e (Head s c is_first) h = refl
  ends-rows seat e (Node n kind partner) h =
      elim (cases_Bool (eqb n last)) [
        | inl same ↦ subst Ends (sym (h same)) (eq-eqb last last refl ∙ sym e)
        | inr other ↦ other ∙ sym (ends-other kind n partner item other)
      ]

  -- both sides of one piece
  both_sides : (o c : Bool) (p : Piece) → eqb split last ≡ false → is_node last p ≡ c →
      flat_map (with_behind (is_node last) (closing node split join)) (pieces_if o (opening split join) ++ p ∷ []) ≡ pieces_if o (opening split join) ++ (p ∷ pieces_if c (closing node split join))
  both_sides true c p differ is = rw (differ, is, append-nil (pieces_if c (closing node split join))) refl
  both_sides false c p differ is = rw (is, append-nil (pieces_if c (closing node split join))) refl

  one_piece : (p : Piece) → eqb split last ≡ false → Begins p → Ends p →
      flat_map (with_behind (is_node last) (closing node split join)) (with_before (is_node first) (opening split join) p) ≡ wrapping item (opening split join) (closing node split join) p
  one_piece p differ b e =
      ap (λ o. flat_map (with_behind (is_node last) (closing node split join)) (pieces_if o (opening split join) ++ p ∷ [])) b
      ∙ both_sides (begins item p) (ends item p) p differ e

  split-new : (cards : List Card) → one_taken cards node split join ≡ None → is_some (card_at split cards) ≡ false
  split-new cards new = (or_parts _ _ (when_none _ _ (first_none _ _ (first_none _ _ new).1).0)).0

  differs : (cards : List Card) (d : Card) → one_taken cards node split join ≡ None → card_at last cards ≡ Some d → eqb split last ≡ false
  differs cards d new there =
      elim (cases_Bool (eqb split last)) [
        | inl same ↦ absurd (both_ways _ (split-new cards new) (ap (λ m. is_some (card_at m cards)) (eqb-true split last same) ∙ ap is_some there))
        | inr other ↦ other
      ]

  pub wrap-done : (s : SchemaModel) → IsDistinct s → one_taken (cards_of s) node split join ≡ None → item_refusal (cards_of s) first last ≡ None →
      behind (is_node last) (closing node split join) (before (is_node first) (opening split join) (schema_pieces s))
      ≡ schema_pieces (record s { body = change (first, last) (beside node split join) s.body })
  wrap-done s distinct new free = go (card_at first (cards_of s)) refl free
    where
      with_cards : (c d : Card) → card_at first (cards_of s) ≡ Some c → card_at last (cards_of s) ≡ Some d → begins_item c.kind ≡ true → ends_item c last ≡ true →
          behind (is_node last) (closing node split join) (before (is_node first) (opening split join) (schema_pieces s))
          ≡ schema_pieces (record s { body = change (first, last) (beside node split join) s.body })
      with_cards c d at_first at_last b e =
          let here : c.node ≡ first = card_at-node first (cards_of s) c at_first in
          let starts : begins item (Node first c.kind c.partner) ≡ true = begins-true c.kind first c.partner last b (ap (λ m. ends_with c.kind m c.partner last) (sym here) ∙ e) in
          let seated : seat_at first (schema_pieces s) ≡ Some (seat_of c) = sym (card-seat first s) ∙ ap (option_map seat_of) at_first in
          let some_end : list_any (ends item) (schema_pieces s) ≡ true = sym (schema_two_ends item s.start s.body s.finish) ∙ any-begins item first (seat_of c) (schema_pieces s) seated starts in
          let stops : ends item (Node last d.kind d.partner) ≡ true =
          any-of (IsSeated last (seat_of d)) (ends item) (ends item (Node last d.kind d.partner) ≡ true) (λ p h is. ap (ends item) (sym (h (ends-node item p is))) ∙ is) (schema_pieces s) (all_at s last d distinct at_last) some_end in
          let rows : AllRows (λ p. flat_map (with_behind (is_node last) (closing node split join)) (with_before (is_node first) (opening split join) p) ≡ wrapping item (opening split join) (closing node split join) p) (schema_pieces s) =
          both_rows (IsSeated first (seat_of c)) (IsSeated last (seat_of d)) _ (λ p h k. one_piece p (differs (cards_of s) d new at_last) (begins-rows (seat_of c) starts p h) (ends-rows (seat_of d) stops p k)) (schema_pieces s) (all_at s first c distinct at_first)
          (all_at s last d distinct at_last) in
          nested (with_behind (is_node last) (closing node split join)) (with_before (is_node first) (opening split join)) (schema_pieces s)
          ∙ same-flat_map (λ p. flat_map (with_behind (is_node last) (closing node split join)) (with_before (is_node first) (opening split join) p)) (wrapping item (opening split join) (closing node split join)) (schema_pieces s) rows
          ∙ change_at-pieces item node split join s.start s.body s.finish

      go : (found : Option Card) → card_at first (cards_of s) ≡ found → wrong_item (cards_of s) first last found ≡ None →
          behind (is_node last) (closing node split join) (before (is_node first) (opening split join) (schema_pieces s))
          ≡ schema_pieces (record s { body = change (first, last) (beside node split join) s.body })
      go None is bad = absurd (cc)
      go (Some c) is fits =
          let parts = first_none _ _ fits in
          let found = passes (λ _. ends_item c last) last (card_at last (cards_of s)) parts.1 in
          with_cards c found.0 is found.1 (not-false (begins_item c.kind) (when_none _ _ parts.0)) found.2

-- a gap behind a node is behind its piece
pub behind-node : (n : ℕ) (new ps : List Piece) → behind (at_gap (gap.After n)) new ps ≡ behind (is_node n) new ps
behind-node n new ps =
    same-flat_map (with_behind (at_gap (gap.After n)) new) (with_behind (is_node n) new) ps
    (all_rows (λ p. with_behind (at_gap (gap.After n)) new p ≡ with_behind (is_node n) new p) (λ p. ap (λ b. p ∷ pieces_if b new) (same_piece p)) ps)
  where
    same_piece : (p : Piece) → at_gap (gap.After n) p ≡ is_node n p
    same_piece (Node node kind partner) = refl
    same_piece (Head split code is_first) = refl
