-- What the outline of a draft says of its schema.
use Rattle.wsm_ops.proofs.Common.{[], ℕ, ◌∙◌, ◌≡◌, ap, card_at, cards_of, has_branch, has_head, IsOutline, List, nodes_in, None, option_map, Piece, pieces, schema_pieces, SchemaModel, seat_at, seat_of, sym, tree_in, twice}
use Rattle.wsm_ops.proofs.{Distinct.IsDistinct, PieceReading.tree_in-pieces, PieceCards.{card-seat, card-nodes, head-branch}}

-- the pieces of a schema with distinct nodes are an outline of it
pub outline-of : (s : SchemaModel) (ps : List Piece) → IsDistinct s → ps ≡ schema_pieces s → IsOutline s.start s.finish ps
outline-of s ps distinct is =
    let body : tree_in ps ≡ s.body = ap tree_in is ∙ tree_in-pieces s.start s.body s.finish in
    (is ∙ ap (λ b. pieces s.start b s.finish) (sym body), ap (λ qs. twice [] (nodes_in qs)) is ∙ ap (twice []) (sym (card-nodes s)) ∙ distinct)

pub body-of : (s : SchemaModel) (ps : List Piece) → ps ≡ schema_pieces s → tree_in ps ≡ s.body
body-of s ps is = ap tree_in is ∙ tree_in-pieces s.start s.body s.finish

-- the schema that a draft shows has distinct nodes
pub shown-distinct : (s : SchemaModel) (ps : List Piece) → ps ≡ schema_pieces s → twice [] (nodes_in ps) ≡ None → IsDistinct s
shown-distinct s ps is once = ap (twice []) (card-nodes s ∙ ap nodes_in (sym is)) ∙ once

pub shown-seat : (n : ℕ) (view s : SchemaModel) (ps : List Piece) → view ≡ s → ps ≡ schema_pieces view → seat_at n ps ≡ option_map seat_of (card_at n (cards_of s))
shown-seat n view s ps same is = ap (seat_at n) is ∙ sym (card-seat n view) ∙ ap (λ t. option_map seat_of (card_at n (cards_of t))) same

pub shown-branch : (n code : ℕ) (view s : SchemaModel) (ps : List Piece) → view ≡ s → ps ≡ schema_pieces view → twice [] (nodes_in ps) ≡ None →
    has_head n code ps ≡ has_branch code (card_at n (cards_of s))
shown-branch n code view s ps same is once =
    ap (has_head n code) is ∙ head-branch n code view (shown-distinct view ps is once) ∙ ap (λ t. has_branch code (card_at n (cards_of t))) same
