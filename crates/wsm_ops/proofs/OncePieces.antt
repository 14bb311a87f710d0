-- Each gap is directly behind one piece of a schema at most.
use Rattle.wsm_ops.proofs.Common.{[], ℕ, ◌&&◌, ◌++◌, ◌+◌, ◌==◌, ◌∙◌, ◌∷◌, ◌≡◌, ◌≤◌, act, and_gate, ap, arith, at_gap, behind, Bool, both_ways, cases_Bool, eq-eqb, eqb, eqb-true, false, filter, Gap, gate, inl, inr, is_node, is_one_of}
use Rattle.wsm_ops.proofs.Common.{IsOnce, IsOutline, lane, Lanes, lanes_pieces, length, List, loop, no_lane, nodes_in, None, not, nothing, Part, part, part_pieces, Parts, parts_pieces, Piece, plain, refl, schema_pieces, SchemaModel, Some}
use Rattle.wsm_ops.proofs.{Common.{subst, sym, tree_in, true, twice, with_behind, xor_gate}, Weights.{tally, total, total-append}}
use Rattle.wsm_schema.specs.declared.cards.NodeKind.TheVariants.{Start, Finish, AndSplit, AndJoin, XorSplit, XorJoin, LoopStart, LoopEnd}
use Rattle.wsm_ops.specs.declared.operations.Gap.TheVariants as gap
use Rattle.wsm_ops.specs.declared.pieces.Piece.TheVariants.{Node, Head}

-- ---- how often a gap is found, against its node
abbrev heads : ℕ → ℕ → Piece → ℕ
heads s c p = tally (at_gap (gap.Head s c) p) 1

abbrev nodes : ℕ → Piece → ℕ
nodes s p = tally (is_node s p) 1

at_split : (e : Bool) → 0 + tally (e && true) 1 ≤ tally e 1
at_split true = omega arith
at_split false = omega arith

head-once : (s c split code : ℕ) (seen : List ℕ) →
    heads s c (Head split code (not (is_one_of code seen))) + tally (split == s && not (is_one_of c (code ∷ seen))) 1 ≤ tally (split == s && not (is_one_of c seen)) 1
head-once s c split code seen =
    elim (cases_Bool (eqb split s)) [
      | inr other ↦ rw other (omega arith)
      | inl here ↦ elim (cases_Bool (eqb c code)) [
        | inl same ↦
            let is : c ≡ code = eqb-true c code same in
            subst (λ d. heads s c (Head split d (not (is_one_of d seen))) + tally (split == s && not (is_one_of c (d ∷ seen))) 1 ≤ tally (split == s && not (is_one_of c seen)) 1) is
            (elim (cases_Bool (is_one_of c seen)) [ inl old ↦ rw (here, eq-eqb c c refl, old) (omega arith) | inr new ↦ rw (here, eq-eqb c c refl, new) (omega arith) ])
        | inr other ↦ elim (cases_Bool (eqb code c)) [
          | inl turned ↦ absurd (both_ways _ other (eq-eqb c code (sym (eqb-true code c turned))))
          | inr also ↦ rw (here, other, also) (omega arith)
        ]
      ]
    ]

module _ (s c : ℕ) where
  framed : (opener closer : Piece) (inner : List Piece) (more : ℕ) → total (heads s c) inner ≤ more + total (nodes s) inner → heads s c opener + more ≤ nodes s opener → heads s c closer ≡ 0 →
      total (heads s c) (opener ∷ (inner ++ closer ∷ [])) ≤ total (nodes s) (opener ∷ (inner ++ closer ∷ []))
  framed opener closer inner more h o e =
      let a = total-append (heads s c) inner (closer ∷ []) in
      let b = total-append (nodes s) inner (closer ∷ []) in
      omega (arith, a, b, h, o, e)

  mutual
    part-heads : (p : Part) → total (heads s c) (part_pieces p) ≤ total (nodes s) (part_pieces p)
    part-heads (act node) = omega arith
    part-heads (gate and_gate split join ls) =
        framed (Node split AndSplit (Some join)) (Node join AndJoin (Some split)) (lanes_pieces split [] ls) (tally (split == s && true) 1) (lanes-heads split [] ls) (at_split (eqb split s)) refl
    part-heads (gate xor_gate split join ls) =
        framed (Node split XorSplit (Some join)) (Node join XorJoin (Some split)) (lanes_pieces split [] ls) (tally (split == s && true) 1) (lanes-heads split [] ls) (at_split (eqb split s)) refl
    part-heads (loop start end body) =
        let inner = parts-heads body in
        framed (Node start LoopStart (Some end)) (Node end LoopEnd (Some start)) (parts_pieces body) 0 (omega (arith, inner)) (omega arith) refl

    parts-heads : (ps : Parts) → total (heads s c) (parts_pieces ps) ≤ total (nodes s) (parts_pieces ps)
    parts-heads nothing = omega arith
    parts-heads (part p ps) =
        let one = part-heads p in
        let others = parts-heads ps in
        let a = total-append (heads s c) (part_pieces p) (parts_pieces ps) in
        let b = total-append (nodes s) (part_pieces p) (parts_pieces ps) in
        omega (arith, one, others, a, b)

    lanes-heads : (split : ℕ) (seen : List ℕ) (ls : Lanes) → total (heads s c) (lanes_pieces split seen ls) ≤ tally (split == s && not (is_one_of c seen)) 1 + total (nodes s) (lanes_pieces split seen ls)
    lanes-heads split seen no_lane = omega arith
    lanes-heads split seen (lane code ps ls) =
        let one = parts-heads ps in
        let others = lanes-heads split (code ∷ seen) ls in
        let here = head-once s c split code seen in
        let a = total-append (heads s c) (parts_pieces ps) (lanes_pieces split (code ∷ seen) ls) in
        let b = total-append (nodes s) (parts_pieces ps) (lanes_pieces split (code ∷ seen) ls) in
        omega (arith, one, others, here, a, b)

  schema-heads : (t : SchemaModel) → total (heads s c) (schema_pieces t) ≤ total (nodes s) (schema_pieces t)
  schema-heads t =
      let inner = parts-heads t.body in
      framed (Node t.start Start None) (Node t.finish Finish None) (parts_pieces t.body) 0 (omega (arith, inner)) (omega arith) refl

-- ---- distinct nodes
none_more : (n : ℕ) (seen : List ℕ) (ps : List Piece) → twice seen (nodes_in ps) ≡ None → is_one_of n seen ≡ true → total (nodes n) ps ≡ 0
none_more n seen [] h old = refl
none_more n seen (Head split code is_first ∷ ps) h old = let later = none_more n seen ps h old in omega (arith, later)
none_more n seen (Node node kind partner ∷ ps) h old =
    elim (cases_Bool (is_one_of node seen)) [
      | inl again ↦ absurd (let bad : Some node ≡ None = rw again at h in cc)
      | inr new ↦ elim (cases_Bool (eqb node n)) [
        | inl same ↦ absurd (both_ways _ (ap (λ m. is_one_of m seen) (sym (eqb-true node n same)) ∙ new) old)
        | inr other ↦ let later = none_more n (node ∷ seen) ps (rw new at h) (rw other old) in rw other (omega (arith, later))
      ]
    ]

once_each : (n : ℕ) (seen : List ℕ) (ps : List Piece) → twice seen (nodes_in ps) ≡ None → total (nodes n) ps ≤ 1
once_each n seen [] h = omega arith
once_each n seen (Head split code is_first ∷ ps) h = let later = once_each n seen ps h in omega (arith, later)
once_each n seen (Node node kind partner ∷ ps) h =
    elim (cases_Bool (is_one_of node seen)) [
      | inl again ↦ absurd (let bad : Some node ≡ None = rw again at h in cc)
      | inr new ↦ elim (cases_Bool (eqb node n)) [
        | inl same ↦ let none = none_more n (node ∷ seen) ps (rw new at h) (rw same refl) in rw same (omega (arith, none))
        | inr other ↦ let later = once_each n (node ∷ seen) ps (rw new at h) in rw other (omega (arith, later))
      ]
    ]

node-total : (n : ℕ) (ps : List Piece) → total (λ q. tally (at_gap (gap.After n) q) 1) ps ≡ total (nodes n) ps
node-total n [] = refl
node-total n (Node node kind partner ∷ ps) = ap (λ k. tally (eqb node n) 1 + k) (node-total n ps)
node-total n (Head split code is_first ∷ ps) = ap (λ k. 0 + k) (node-total n ps)

schema-once : (t : SchemaModel) → twice [] (nodes_in (schema_pieces t)) ≡ None → (g : Gap) → total (λ q. tally (at_gap g q) 1) (schema_pieces t) ≤ 1
schema-once t distinct (gap.After n) = let one = once_each n [] (schema_pieces t) distinct in let same = node-total n (schema_pieces t) in omega (arith, one, same)
schema-once t distinct (gap.Head s c) = let few = schema-heads s c t in let one = once_each s [] (schema_pieces t) distinct in omega (arith, few, one)

-- ---- how many pieces pass
passing : (t : Piece → Bool) (ps : List Piece) → length (filter t ps) ≡ total (λ q. tally (t q) 1) ps
passing t [] = refl
passing t (p ∷ ps) =
    let later = passing t ps in
    elim (cases_Bool (t p)) [
      | inl is ↦ rw is (omega (arith, later))
      | inr other ↦ rw other (omega (arith, later))
    ]

pub once-of : (t : SchemaModel) (ps : List Piece) → ps ≡ schema_pieces t → twice [] (nodes_in ps) ≡ None → (g : Gap) → IsOnce (at_gap g) ps
once-of t ps is distinct g =
    let once = schema-once t (ap (λ qs. twice [] (nodes_in qs)) (sym is) ∙ distinct) g in
    let all : IsOnce (at_gap g) (schema_pieces t) = let same = passing (at_gap g) (schema_pieces t) in omega (arith, same, once) in
    subst (IsOnce (at_gap g)) (sym is) all

pub once-in : (start finish : ℕ) (ps : List Piece) → IsOutline start finish ps → (g : Gap) → IsOnce (at_gap g) ps
once-in start finish ps h = once-of (plain start finish (tree_in ps)) ps h.0 h.1

-- ---- of pieces that are left
fewer : (t keep : Piece → Bool) (ps : List Piece) → length (filter t (filter keep ps)) ≤ length (filter t ps)
fewer t keep [] = omega arith
fewer t keep (p ∷ ps) =
    let later = fewer t keep ps in
    elim (cases_Bool (keep p)) [
      | inl kept ↦ elim (cases_Bool (t p)) [
        | inl is ↦ rw (kept, is) (omega (arith, later))
        | inr other ↦ rw (kept, other) later
      ]
      | inr gone ↦ elim (cases_Bool (t p)) [
        | inl is ↦ rw (gone, is) (omega (arith, later))
        | inr other ↦ rw (gone, other) later
      ]
    ]

pub once-left : (t keep : Piece → Bool) (ps : List Piece) → IsOnce t ps → IsOnce t (filter keep ps)
once-left t keep ps once = let less = fewer t keep ps in omega (arith, less, once)

-- ---- of pieces that others were put behind
behind-least : (w : Piece → ℕ) (t : Piece → Bool) (new ps : List Piece) → total w ps ≤ total w (behind t new ps)
behind-least w t new [] = omega arith
behind-least w t new (p ∷ ps) =
    let later = behind-least w t new ps in
    let whole = total-append w (with_behind t new p) (behind t new ps) in
    omega (arith, later, whole)

pub once-before : (t u : Piece → Bool) (new ps : List Piece) → IsOnce u (behind t new ps) → IsOnce u ps
once-before t u new ps once =
    let less = behind-least (λ q. tally (u q) 1) t new ps in
    let here = passing u ps in
    let whole = passing u (behind t new ps) in
    omega (arith, less, here, whole, once)
