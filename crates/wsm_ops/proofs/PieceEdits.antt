-- What edits of a tree do to its pieces.
use Rattle.wsm_ops.proofs.Common.{[], ℕ, ◌&&◌, ◌++◌, ◌==◌, ◌∙◌, ◌∷◌, ◌≡◌, act, and_gate, ap, append-nil, append_assoc, Bool, both_ways, cases_Bool, eq-eqb, eqb, eqb-true, false, filter, filter-append, flat_map, flat_map-append, Gap, gate}
use Rattle.wsm_ops.proofs.Common.{head_code, if◌then◌else◌, inl, inr, is_act_of, is_behind, is_code, is_one_of, lane, Lanes, lanes_pieces, last_of, List, loop, no_lane, None, not, nothing, Option, Part, part, part_pieces, Parts}
use Rattle.wsm_ops.proofs.Common.{parts_pieces, Piece, pieces, put, put_if, put_inside, put_lanes, refl, Some, still_wanted, subst, sym, takes_behind, true, with_behind, without, without_inside, without_lanes, xor_gate}
use Rattle.wsm_schema.specs.declared.cards.NodeKind.TheVariants.{Start, Finish, Activity, AndSplit, AndJoin, XorSplit, XorJoin, LoopStart, LoopEnd}
use Rattle.wsm_ops.specs.declared.pieces.Piece.TheVariants.{Node, Head}

-- ---- something new at a gap
-- whether it is a piece behind which the gap is, and something may stand there
abbrev pub takes : Gap → Piece → Bool
takes g (Node node kind partner) = takes_behind kind && is_behind g node
takes g (Head split code is_first) = is_code (head_code g split) code && is_first

abbrev pub putting : Gap → Part → Piece → List Piece
putting g x = with_behind (takes g) (part_pieces x)

abbrev pub pieces_if : Bool → List Piece → List Piece
pieces_if test new = if test then new else []

put_if-pieces : (test : Bool) (x : Part) (ps : Parts) → parts_pieces (put_if test x ps) ≡ pieces_if test (part_pieces x) ++ parts_pieces ps
put_if-pieces true x ps = refl
put_if-pieces false x ps = refl

-- the code that is looked for behind some branches
abbrev wanted_in : Option ℕ → List ℕ → Option ℕ
wanted_in None seen = None
wanted_in (Some c) seen = if is_one_of c seen then None else Some c

eqb-flip : (a b : ℕ) → eqb a b ≡ eqb b a
eqb-flip a b =
    elim (cases_Bool (eqb a b)) [
      | inl same ↦ same ∙ sym (eq-eqb b a (sym (eqb-true a b same)))
      | inr other ↦ elim (cases_Bool (eqb b a)) [
        | inl same ↦ absurd (both_ways _ other (eq-eqb a b (sym (eqb-true b a same))))
        | inr also ↦ other ∙ sym also
      ]
    ]

wanted-here : (wanted : Option ℕ) (seen : List ℕ) (code : ℕ) → (is_code wanted code && not (is_one_of code seen)) ≡ is_code (wanted_in wanted seen) code
wanted-here None seen code = refl
wanted-here (Some c) seen code =
    elim (cases_Bool (eqb c code)) [
      | inl same ↦
          let is : c ≡ code = eqb-true c code same in
          subst (λ d. (eqb c d && not (is_one_of d seen)) ≡ is_code (wanted_in (Some c) seen) d) is
          (elim (cases_Bool (is_one_of c seen)) [
            | inl old ↦ rw (old, eq-eqb c c refl) refl
            | inr new ↦ rw (new, eq-eqb c c refl) refl
          ])
      | inr other ↦ elim (cases_Bool (is_one_of c seen)) [
        | inl old ↦ rw (old, other) refl
        | inr new ↦ rw (new, other) refl
      ]
    ]

wanted-later : (wanted : Option ℕ) (seen : List ℕ) (code : ℕ) → still_wanted (wanted_in wanted seen) code ≡ wanted_in wanted (code ∷ seen)
wanted-later None seen code = refl
wanted-later (Some c) seen code =
    elim (cases_Bool (is_one_of c seen)) [
      | inl old ↦ elim (cases_Bool (eqb code c)) [ inl same ↦ rw (old, same) refl | inr other ↦ rw (other, old) refl ]
      | inr new ↦ elim (cases_Bool (eqb code c)) [
        | inl same ↦ rw (new, same, eqb-flip c code, same) refl
        | inr other ↦ rw (other, new, eqb-flip c code, other) refl
      ]
    ]

none_seen : (wanted : Option ℕ) → wanted_in wanted [] ≡ wanted
none_seen None = refl
none_seen (Some c) = refl

-- edits of pieces in a frame
framed : (f : Piece → List Piece) (opener closer : Piece) (inner made before behind : List Piece) → flat_map f inner ≡ made → f opener ≡ opener ∷ before → f closer ≡ closer ∷ behind →
    flat_map f (opener ∷ (inner ++ closer ∷ [])) ≡ (opener ∷ ((before ++ made) ++ closer ∷ [])) ++ behind
framed f opener closer inner made before behind h o c =
    rw (flat_map-append f inner (closer ∷ []), h, o, c, append-nil behind)
    (ap (λ ps. opener ∷ ps) (ap (λ ps. before ++ ps) (sym (append_assoc made (closer ∷ []) behind)) ∙ sym (append_assoc before (made ++ closer ∷ []) behind) ∙ ap (λ ps. ps ++ behind) (sym (append_assoc before made (closer ∷ [])))))

mutual
  put_inside-pieces : (g : Gap) (x p : Part) → flat_map (putting g x) (part_pieces p) ≡ part_pieces (put_inside g x p) ++ pieces_if (is_behind g (last_of p)) (part_pieces x)
  put_inside-pieces g x (act node) = append-nil _
  put_inside-pieces g x (gate and_gate split join ls) =
      framed (putting g x) (Node split AndSplit (Some join)) (Node join AndJoin (Some split)) (lanes_pieces split [] ls) (lanes_pieces split [] (put_lanes g x (head_code g split) ls)) []
      (pieces_if (is_behind g join) (part_pieces x)) (put_lanes-pieces g x split [] (head_code g split) ls refl ∙ ap (λ w. lanes_pieces split [] (put_lanes g x w ls)) (none_seen (head_code g split))) refl refl
  put_inside-pieces g x (gate xor_gate split join ls) =
      framed (putting g x) (Node split XorSplit (Some join)) (Node join XorJoin (Some split)) (lanes_pieces split [] ls) (lanes_pieces split [] (put_lanes g x (head_code g split) ls)) []
      (pieces_if (is_behind g join) (part_pieces x)) (put_lanes-pieces g x split [] (head_code g split) ls refl ∙ ap (λ w. lanes_pieces split [] (put_lanes g x w ls)) (none_seen (head_code g split))) refl refl
  put_inside-pieces g x (loop start end body) =
      framed (putting g x) (Node start LoopStart (Some end)) (Node end LoopEnd (Some start)) (parts_pieces body) (parts_pieces (put g x body)) (pieces_if (is_behind g start) (part_pieces x))
      (pieces_if (is_behind g end) (part_pieces x)) (put-pieces g x body) refl refl
      ∙ ap (λ ps. (Node start LoopStart (Some end) ∷ (ps ++ Node end LoopEnd (Some start) ∷ [])) ++ pieces_if (is_behind g end) (part_pieces x)) (sym (put_if-pieces (is_behind g start) x (put g x body)))

  pub put-pieces : (g : Gap) (x : Part) (ps : Parts) → flat_map (putting g x) (parts_pieces ps) ≡ parts_pieces (put g x ps)
  put-pieces g x nothing = refl
  put-pieces g x (part p ps) =
      flat_map-append (putting g x) (part_pieces p) (parts_pieces ps)
      ∙ ap (λ qs. qs ++ flat_map (putting g x) (parts_pieces ps)) (put_inside-pieces g x p)
      ∙ ap (λ qs. (part_pieces (put_inside g x p) ++ pieces_if (is_behind g (last_of p)) (part_pieces x)) ++ qs) (put-pieces g x ps)
      ∙ append_assoc (part_pieces (put_inside g x p)) (pieces_if (is_behind g (last_of p)) (part_pieces x)) (parts_pieces (put g x ps))
      ∙ ap (λ qs. part_pieces (put_inside g x p) ++ qs) (sym (put_if-pieces (is_behind g (last_of p)) x (put g x ps)))

  put_lanes-pieces : (g : Gap) (x : Part) (split : ℕ) (seen : List ℕ) (wanted : Option ℕ) (ls : Lanes) → head_code g split ≡ wanted →
      flat_map (putting g x) (lanes_pieces split seen ls) ≡ lanes_pieces split seen (put_lanes g x (wanted_in wanted seen) ls)
  put_lanes-pieces g x split seen wanted no_lane h = refl
  put_lanes-pieces g x split seen wanted (lane code ps ls) h =
      let test : (is_code (head_code g split) code && not (is_one_of code seen)) ≡ is_code (wanted_in wanted seen) code = ap (λ w. is_code w code && not (is_one_of code seen)) h ∙ wanted-here wanted seen code in
      let later = put_lanes-pieces g x split (code ∷ seen) wanted ls h ∙ ap (λ w. lanes_pieces split (code ∷ seen) (put_lanes g x w ls)) (sym (wanted-later wanted seen code)) in
      let others : flat_map (putting g x) (parts_pieces ps ++ lanes_pieces split (code ∷ seen) ls) ≡ parts_pieces (put g x ps) ++ lanes_pieces split (code ∷ seen) (put_lanes g x (still_wanted (wanted_in wanted seen) code) ls) =
      flat_map-append (putting g x) (parts_pieces ps) (lanes_pieces split (code ∷ seen) ls)
      ∙ ap (λ qs. qs ++ flat_map (putting g x) (lanes_pieces split (code ∷ seen) ls)) (put-pieces g x ps)
      ∙ ap (λ qs. parts_pieces (put g x ps) ++ qs) later in
      ap (λ qs. Head split code (not (is_one_of code seen)) ∷ qs)
      (ap (λ t. pieces_if t (part_pieces x) ++ flat_map (putting g x) (parts_pieces ps ++ lanes_pieces split (code ∷ seen) ls)) test
      ∙ ap (λ qs. pieces_if (is_code (wanted_in wanted seen) code) (part_pieces x) ++ qs) others
      ∙ sym (append_assoc (pieces_if (is_code (wanted_in wanted seen) code) (part_pieces x)) (parts_pieces (put g x ps)) _)
      ∙ ap (λ qs. qs ++ lanes_pieces split (code ∷ seen) (put_lanes g x (still_wanted (wanted_in wanted seen) code) ls)) (sym (put_if-pieces (is_code (wanted_in wanted seen) code) x (put g x ps))))

-- the pieces of a schema with something new
pub put_at-pieces : (g : Gap) (x : Part) (start : ℕ) (body : Parts) (finish : ℕ) →
    flat_map (putting g x) (pieces start body finish) ≡ pieces start (put_if (is_behind g start) x (put g x body)) finish
put_at-pieces g x start body finish =
    ap (λ qs. Node start Start None ∷ qs)
    (ap (λ qs. pieces_if (is_behind g start) (part_pieces x) ++ qs) (flat_map-append (putting g x) (parts_pieces body) (Node finish Finish None ∷ []) ∙ ap (λ qs. qs ++ Node finish Finish None ∷ []) (put-pieces g x body))
    ∙ sym (append_assoc (pieces_if (is_behind g start) (part_pieces x)) (parts_pieces (put g x body)) (Node finish Finish None ∷ []))
    ∙ ap (λ qs. qs ++ Node finish Finish None ∷ []) (sym (put_if-pieces (is_behind g start) x (put g x body))))

-- ---- an activity less
abbrev pub is_activity_of : ℕ → Piece → Bool
is_activity_of n (Node node Activity partner) = node == n
is_activity_of n (Node node _ partner) = false
is_activity_of n (Head split code is_first) = false

abbrev pub kept_by : ℕ → Piece → Bool
kept_by n p = not (is_activity_of n p)

mutual
  without_inside-pieces : (n : ℕ) (p : Part) → filter (kept_by n) (part_pieces p) ≡ (if is_act_of n p then [] else part_pieces (without_inside n p))
  without_inside-pieces n (act node) = elim (cases_Bool (eqb node n)) [ inl same ↦ rw same refl | inr other ↦ rw other refl ]
  without_inside-pieces n (gate and_gate split join ls) =
      ap (λ qs. Node split AndSplit (Some join) ∷ qs) (filter-append (kept_by n) (lanes_pieces split [] ls) (Node join AndJoin (Some split) ∷ []) ∙ ap (λ qs. qs ++ Node join AndJoin (Some split) ∷ []) (without_lanes-pieces n split [] ls))
  without_inside-pieces n (gate xor_gate split join ls) =
      ap (λ qs. Node split XorSplit (Some join) ∷ qs) (filter-append (kept_by n) (lanes_pieces split [] ls) (Node join XorJoin (Some split) ∷ []) ∙ ap (λ qs. qs ++ Node join XorJoin (Some split) ∷ []) (without_lanes-pieces n split [] ls))
  without_inside-pieces n (loop start end body) =
      ap (λ qs. Node start LoopStart (Some end) ∷ qs) (filter-append (kept_by n) (parts_pieces body) (Node end LoopEnd (Some start) ∷ []) ∙ ap (λ qs. qs ++ Node end LoopEnd (Some start) ∷ []) (without-pieces n body))

  pub without-pieces : (n : ℕ) (ps : Parts) → filter (kept_by n) (parts_pieces ps) ≡ parts_pieces (without n ps)
  without-pieces n nothing = refl
  without-pieces n (part p ps) =
      filter-append (kept_by n) (part_pieces p) (parts_pieces ps)
      ∙ ap (λ qs. qs ++ filter (kept_by n) (parts_pieces ps)) (without_inside-pieces n p)
      ∙ ap (λ qs. (if is_act_of n p then [] else part_pieces (without_inside n p)) ++ qs) (without-pieces n ps)
      ∙ elim (cases_Bool (is_act_of n p)) [ inl gone ↦ rw gone refl | inr other ↦ rw other refl ]

  without_lanes-pieces : (n split : ℕ) (seen : List ℕ) (ls : Lanes) → filter (kept_by n) (lanes_pieces split seen ls) ≡ lanes_pieces split seen (without_lanes n ls)
  without_lanes-pieces n split seen no_lane = refl
  without_lanes-pieces n split seen (lane code ps ls) =
      ap (λ qs. Head split code (not (is_one_of code seen)) ∷ qs)
      (filter-append (kept_by n) (parts_pieces ps) (lanes_pieces split (code ∷ seen) ls)
      ∙ ap (λ qs. qs ++ filter (kept_by n) (lanes_pieces split (code ∷ seen) ls)) (without-pieces n ps)
      ∙ ap (λ qs. parts_pieces (without n ps) ++ qs) (without_lanes-pieces n split (code ∷ seen) ls))

pub without_at-pieces : (n start : ℕ) (body : Parts) (finish : ℕ) → filter (kept_by n) (pieces start body finish) ≡ pieces start (without n body) finish
without_at-pieces n start body finish =
    ap (λ qs. Node start Start None ∷ qs) (filter-append (kept_by n) (parts_pieces body) (Node finish Finish None ∷ []) ∙ ap (λ qs. qs ++ Node finish Finish None ∷ []) (without-pieces n body))
