-- A tree is read back from its pieces.
use Rattle.wsm_ops.proofs.Common.{[], ℕ, ◌++◌, ◌∙◌, ◌∷◌, ◌≡◌, a_branch, act, and_gate, ap, append_assoc, close, empty, flat_map, flat_map-append, gate, join_kind, lane, Lanes, lanes_pieces, lanes_tokens, Levels, List, loop, no_lane, None}
use Rattle.wsm_ops.proofs.Common.{nothing, open_gate, open_loop, Part, part, part_pieces, part_tokens, Parts, parts_pieces, parts_tokens, Piece, pieces, read_onto, read_piece, read_pieces, read_token, read_tokens, refl, Some, sym, Token}
use Rattle.wsm_ops.proofs.Common.{tokens_of, tree_in, tree_of-tokens, xor_gate}
use Rattle.wsm_schema.specs.declared.cards.NodeKind.TheVariants.{Finish, LoopEnd}
use Rattle.wsm_ops.specs.declared.pieces.Piece.TheVariants.{Node}

-- tokens in front of others
read_onto-append : (xs ys : List Token) → read_tokens (xs ++ ys) ≡ read_onto xs (read_tokens ys)
read_onto-append [] ys = refl
read_onto-append (x ∷ xs) ys = ap (read_token x) (read_onto-append xs ys)

abbrev all_tokens : List Piece → List Token
all_tokens ps = flat_map tokens_of ps

read-by_tokens : (ps : List Piece) → read_pieces ps (empty, []) ≡ read_tokens (all_tokens ps)
read-by_tokens [] = refl
read-by_tokens (p ∷ ps) = ap (read_piece p) (read-by_tokens ps) ∙ sym (read_onto-append (tokens_of p) (all_tokens ps))

-- pieces in front of a last one that closes a block
closed : (xs : List Piece) (last : Piece) (ts : List Token) → tokens_of last ≡ close ∷ [] → all_tokens (xs ++ last ∷ []) ++ ts ≡ all_tokens xs ++ (close ∷ ts)
closed xs last ts h =
    ap (λ ys. ys ++ ts) (flat_map-append tokens_of xs (last ∷ []) ∙ ap (λ ys. all_tokens xs ++ (ys ++ [])) h)
    ∙ append_assoc (all_tokens xs) (close ∷ []) ts

joined : (xs ys : List Piece) (ts : List Token) → all_tokens (xs ++ ys) ++ ts ≡ all_tokens xs ++ (all_tokens ys ++ ts)
joined xs ys ts = ap (λ zs. zs ++ ts) (flat_map-append tokens_of xs ys) ∙ append_assoc (all_tokens xs) (all_tokens ys) ts

mutual
  part-tokens : (p : Part) (ts : List Token) → all_tokens (part_pieces p) ++ ts ≡ part_tokens p ts
  part-tokens (act node) ts = refl
  part-tokens (gate and_gate split join ls) ts =
      ap (λ us. open_gate and_gate split join ∷ us)
      (closed (lanes_pieces split [] ls) (Node join (join_kind and_gate) (Some split)) ts refl ∙ lanes-tokens split [] ls (close ∷ ts))
  part-tokens (gate xor_gate split join ls) ts =
      ap (λ us. open_gate xor_gate split join ∷ us)
      (closed (lanes_pieces split [] ls) (Node join (join_kind xor_gate) (Some split)) ts refl ∙ lanes-tokens split [] ls (close ∷ ts))
  part-tokens (loop start end body) ts =
      ap (λ us. open_loop start end ∷ us)
      (closed (parts_pieces body) (Node end LoopEnd (Some start)) ts refl ∙ parts-tokens body (close ∷ ts))

  parts-tokens : (ps : Parts) (ts : List Token) → all_tokens (parts_pieces ps) ++ ts ≡ parts_tokens ps ts
  parts-tokens nothing ts = refl
  parts-tokens (part p ps) ts =
      joined (part_pieces p) (parts_pieces ps) ts ∙ part-tokens p (all_tokens (parts_pieces ps) ++ ts) ∙ ap (part_tokens p) (parts-tokens ps ts)

  lanes-tokens : (split : ℕ) (seen : List ℕ) (ls : Lanes) (ts : List Token) → all_tokens (lanes_pieces split seen ls) ++ ts ≡ lanes_tokens ls ts
  lanes-tokens split seen no_lane ts = refl
  lanes-tokens split seen (lane code ps ls) ts =
      ap (λ us. a_branch code ∷ us)
      (joined (parts_pieces ps) (lanes_pieces split (code ∷ seen) ls) ts
      ∙ parts-tokens ps (all_tokens (lanes_pieces split (code ∷ seen) ls) ++ ts)
      ∙ ap (parts_tokens ps) (lanes-tokens split (code ∷ seen) ls ts))

-- the tree of a schema's pieces
pub tree_in-pieces : (start : ℕ) (body : Parts) (finish : ℕ) → tree_in (pieces start body finish) ≡ body
tree_in-pieces start body finish =
    ap (λ s. s.0.items) (read-by_tokens (pieces start body finish) ∙ ap read_tokens (flat_map-append tokens_of (parts_pieces body) (Node finish Finish None ∷ []) ∙ parts-tokens body []))
    ∙ tree_of-tokens body

-- a piece less at the end is one more that is read
pub read-last : (ps : List Piece) (p : Piece) (levels : Levels) → read_pieces (ps ++ p ∷ []) levels ≡ read_pieces ps (read_piece p levels)
read-last [] p levels = refl
read-last (q ∷ ps) p levels = ap (read_piece q) (read-last ps p levels)
