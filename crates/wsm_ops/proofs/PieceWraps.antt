-- What a block round an item does to the pieces of a tree.
use Rattle.wsm_ops.proofs.Common.{[], ℕ, ◌&&◌, ◌++◌, ◌==◌, ◌||◌, ◌∙◌, ◌∷◌, ◌≡◌, act, and_gate, ap, append-nil, append_assoc, beside, Bool, change, change_inside, change_lanes, closing, eqb, false, flat_map, flat_map-append, gate, is_code}
use Rattle.wsm_ops.proofs.Common.{is_item, is_one_of, lane, Lanes, lanes_pieces, List, list_any, list_any-append, loop, no_lane, NodeKind, None, not, nothing, opening, Option, Part, part, part_pieces, Parts, parts_pieces, Piece, pieces}
use Rattle.wsm_ops.proofs.{Common.{refl, Some, sym, true, wrap_if, xor_gate}, PieceEdits.pieces_if}
use Rattle.wsm_schema.specs.declared.cards.NodeKind.TheVariants.{Start, Finish, Activity, AndSplit, AndJoin, XorSplit, XorJoin, LoopStart, LoopEnd}
use Rattle.wsm_ops.specs.declared.pieces.Piece.TheVariants.{Node, Head}

-- whether the item from one node to another begins with a piece, or ends with it
abbrev pub begins_by : NodeKind → ℕ → Option ℕ → ℕ × ℕ → Bool
begins_by Activity n partner item = n == item.0 && n == item.1
begins_by AndSplit n partner item = n == item.0 && is_code partner item.1
begins_by XorSplit n partner item = n == item.0 && is_code partner item.1
begins_by LoopStart n partner item = n == item.0 && is_code partner item.1
begins_by _ n partner item = false

abbrev pub ends_by : NodeKind → ℕ → Option ℕ → ℕ × ℕ → Bool
ends_by Activity n partner item = n == item.0 && n == item.1
ends_by AndJoin n partner item = is_code partner item.0 && n == item.1
ends_by XorJoin n partner item = is_code partner item.0 && n == item.1
ends_by LoopEnd n partner item = is_code partner item.0 && n == item.1
ends_by _ n partner item = false

abbrev pub begins : ℕ × ℕ → Piece → Bool
begins item (Node node kind partner) = begins_by kind node partner item
begins item (Head split code is_first) = false

abbrev pub ends : ℕ × ℕ → Piece → Bool
ends item (Node node kind partner) = ends_by kind node partner item
ends item (Head split code is_first) = false

-- the edit of each piece
abbrev pub wrapping : ℕ × ℕ → List Piece → List Piece → Piece → List Piece
wrapping item before behind p = pieces_if (begins item p) before ++ (p ∷ pieces_if (ends item p) behind)

module _ (node split join : ℕ) where
  wrap_if-pieces : (test : Bool) (p : Part) → part_pieces (wrap_if test (beside node split join) p) ≡ pieces_if test (opening split join) ++ (part_pieces p ++ pieces_if test (closing node split join))
  wrap_if-pieces true p =
      ap (λ ps. Node split AndSplit (Some join) ∷ Head split 0 true ∷ ps)
      (ap (λ ps. (ps ++ (Head split 1 true ∷ Node node Activity None ∷ [])) ++ Node join AndJoin (Some split) ∷ []) (append-nil (part_pieces p))
      ∙ append_assoc (part_pieces p) (Head split 1 true ∷ Node node Activity None ∷ []) (Node join AndJoin (Some split) ∷ []))
  wrap_if-pieces false p = sym (append-nil (part_pieces p))

-- wraps of pieces in a frame
framed : (f : Piece → List Piece) (opener closer : Piece) (inner made before behind : List Piece) → flat_map f inner ≡ made → f opener ≡ before ++ opener ∷ [] → f closer ≡ closer ∷ behind →
    flat_map f (opener ∷ (inner ++ closer ∷ [])) ≡ before ++ ((opener ∷ (made ++ closer ∷ [])) ++ behind)
framed f opener closer inner made before behind h o c =
    rw (flat_map-append f inner (closer ∷ []), h, o, c, append-nil behind)
    (append_assoc before (opener ∷ []) (made ++ (closer ∷ behind)) ∙ ap (λ ps. before ++ (opener ∷ ps)) (sym (append_assoc made (closer ∷ []) behind)))

module _ (item : ℕ × ℕ) (node split join : ℕ) where
  abbrev wraps : Piece → List Piece
  wraps = wrapping item (opening split join) (closing node split join)

  abbrev changed : Part → Part
  changed p = wrap_if (is_item item.0 item.1 p) (beside node split join) (change_inside item (beside node split join) p)

  mutual
    change_inside-pieces : (p : Part) → flat_map wraps (part_pieces p) ≡ part_pieces (changed p)
    change_inside-pieces (act n) =
        append-nil _ ∙ sym (wrap_if-pieces node split join (is_item item.0 item.1 (act n)) (act n))
    change_inside-pieces (gate and_gate s j ls) =
        framed wraps (Node s AndSplit (Some j)) (Node j AndJoin (Some s)) (lanes_pieces s [] ls) (lanes_pieces s [] (change_lanes item (beside node split join) ls))
        (pieces_if (eqb s item.0 && eqb j item.1) (opening split join)) (pieces_if (eqb s item.0 && eqb j item.1) (closing node split join)) (change_lanes-pieces s [] ls) refl refl
        ∙ sym (wrap_if-pieces node split join (eqb s item.0 && eqb j item.1) (gate and_gate s j (change_lanes item (beside node split join) ls)))
    change_inside-pieces (gate xor_gate s j ls) =
        framed wraps (Node s XorSplit (Some j)) (Node j XorJoin (Some s)) (lanes_pieces s [] ls) (lanes_pieces s [] (change_lanes item (beside node split join) ls))
        (pieces_if (eqb s item.0 && eqb j item.1) (opening split join)) (pieces_if (eqb s item.0 && eqb j item.1) (closing node split join)) (change_lanes-pieces s [] ls) refl refl
        ∙ sym (wrap_if-pieces node split join (eqb s item.0 && eqb j item.1) (gate xor_gate s j (change_lanes item (beside node split join) ls)))
    change_inside-pieces (loop s e body) =
        framed wraps (Node s LoopStart (Some e)) (Node e LoopEnd (Some s)) (parts_pieces body) (parts_pieces (change item (beside node split join) body))
        (pieces_if (eqb s item.0 && eqb e item.1) (opening split join)) (pieces_if (eqb s item.0 && eqb e item.1) (closing node split join)) (change-pieces body) refl refl
        ∙ sym (wrap_if-pieces node split join (eqb s item.0 && eqb e item.1) (loop s e (change item (beside node split join) body)))

    pub change-pieces : (ps : Parts) → flat_map wraps (parts_pieces ps) ≡ parts_pieces (change item (beside node split join) ps)
    change-pieces nothing = refl
    change-pieces (part p ps) =
        flat_map-append wraps (part_pieces p) (parts_pieces ps)
        ∙ ap (λ qs. qs ++ flat_map wraps (parts_pieces ps)) (change_inside-pieces p)
        ∙ ap (λ qs. part_pieces (changed p) ++ qs) (change-pieces ps)

    change_lanes-pieces : (s : ℕ) (seen : List ℕ) (ls : Lanes) → flat_map wraps (lanes_pieces s seen ls) ≡ lanes_pieces s seen (change_lanes item (beside node split join) ls)
    change_lanes-pieces s seen no_lane = refl
    change_lanes-pieces s seen (lane code ps ls) =
        ap (λ qs. Head s code (not (is_one_of code seen)) ∷ qs)
        (flat_map-append wraps (parts_pieces ps) (lanes_pieces s (code ∷ seen) ls)
        ∙ ap (λ qs. qs ++ flat_map wraps (lanes_pieces s (code ∷ seen) ls)) (change-pieces ps)
        ∙ ap (λ qs. parts_pieces (change item (beside node split join) ps) ++ qs) (change_lanes-pieces s (code ∷ seen) ls))

  pub change_at-pieces : (start : ℕ) (body : Parts) (finish : ℕ) → flat_map wraps (pieces start body finish) ≡ pieces start (change item (beside node split join) body) finish
  change_at-pieces start body finish =
      ap (λ qs. Node start Start None ∷ qs) (flat_map-append wraps (parts_pieces body) (Node finish Finish None ∷ []) ∙ ap (λ qs. qs ++ Node finish Finish None ∷ []) (change-pieces body))

-- ---- an item that begins ends, too
or-false : (b : Bool) → (b || false) ≡ b
or-false true = refl
or-false false = refl

turned : (a b : Bool) → (a || (b || false)) ≡ (b || (a || false))
turned true true = refl
turned true false = refl
turned false true = refl
turned false false = refl

module _ (item : ℕ × ℕ) where
  two_ends : (opener closer : Piece) (inner : List Piece) → list_any (begins item) inner ≡ list_any (ends item) inner → begins item opener ≡ ends item closer → begins item closer ≡ false → ends item opener ≡ false →
      list_any (begins item) (opener ∷ (inner ++ closer ∷ [])) ≡ list_any (ends item) (opener ∷ (inner ++ closer ∷ []))
  two_ends opener closer inner h same c o =
      rw (list_any-append (begins item) inner (closer ∷ []), list_any-append (ends item) inner (closer ∷ []), h, same, c, o)
      (turned (ends item closer) (list_any (ends item) inner))

  mutual
    part_two_ends : (p : Part) → list_any (begins item) (part_pieces p) ≡ list_any (ends item) (part_pieces p)
    part_two_ends (act n) = refl
    part_two_ends (gate and_gate s j ls) = two_ends (Node s AndSplit (Some j)) (Node j AndJoin (Some s)) (lanes_pieces s [] ls) (lanes_two_ends s [] ls) refl refl refl
    part_two_ends (gate xor_gate s j ls) = two_ends (Node s XorSplit (Some j)) (Node j XorJoin (Some s)) (lanes_pieces s [] ls) (lanes_two_ends s [] ls) refl refl refl
    part_two_ends (loop s e body) = two_ends (Node s LoopStart (Some e)) (Node e LoopEnd (Some s)) (parts_pieces body) (parts_two_ends body) refl refl refl

    parts_two_ends : (ps : Parts) → list_any (begins item) (parts_pieces ps) ≡ list_any (ends item) (parts_pieces ps)
    parts_two_ends nothing = refl
    parts_two_ends (part p ps) =
        list_any-append (begins item) (part_pieces p) (parts_pieces ps)
        ∙ rw (part_two_ends p, parts_two_ends ps) (sym (list_any-append (ends item) (part_pieces p) (parts_pieces ps)))

    lanes_two_ends : (s : ℕ) (seen : List ℕ) (ls : Lanes) → list_any (begins item) (lanes_pieces s seen ls) ≡ list_any (ends item) (lanes_pieces s seen ls)
    lanes_two_ends s seen no_lane = refl
    lanes_two_ends s seen (lane code ps ls) =
        list_any-append (begins item) (parts_pieces ps) (lanes_pieces s (code ∷ seen) ls)
        ∙ rw (parts_two_ends ps, lanes_two_ends s (code ∷ seen) ls) (sym (list_any-append (ends item) (parts_pieces ps) (lanes_pieces s (code ∷ seen) ls)))

  pub schema_two_ends : (start : ℕ) (body : Parts) (finish : ℕ) → list_any (begins item) (pieces start body finish) ≡ list_any (ends item) (pieces start body finish)
  schema_two_ends start body finish =
      list_any-append (begins item) (parts_pieces body) (Node finish Finish None ∷ [])
      ∙ rw (parts_two_ends body) (sym (list_any-append (ends item) (parts_pieces body) (Node finish Finish None ∷ [])))
