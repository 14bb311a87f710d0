-- What an edit of its pieces makes of the schema that a draft shows.
use Rattle.wsm_ops.proofs.Common.{[], ℕ, ◌∙◌, ◌≡◌, act, ap, at_gap, before, behind, beside, cards_of, change, closing, effect, Gap, gap_refusal, is_node, IsOnce, IsOutline, List, new_part, nodes_in, None, Op, opening, part_pieces, Piece}
use Rattle.wsm_ops.proofs.{Common.{put_at, refl, refusal, schema_pieces, SchemaModel, subst, sym, tree_in, twice, unless_activity, without, without_node}, Distinct.{IsDistinct, first_none, step-distinct}, PieceCards.card-nodes}
use Rattle.wsm_ops.proofs.{PieceEffects.{put-done, without-done, moved-done, wrap-done, behind-node}, OncePieces.{once-of, once-before}, Shown.{shown-distinct, outline-of, body-of}}
use Rattle.wsm_ops.specs.{Putting.put_op, declared.insertions.New.New}
use Rattle.wsm_ops.specs.declared.operations.Gap.TheVariants.{After}
use Rattle.wsm_ops.specs.declared.operations.Op.TheVariants as op
use Rattle.wsm_ops.specs.declared.insertions.New.TheVariants as new

-- pieces that are an outline of a schema
abbrev pub Makes : List Piece → SchemaModel → Type 0
Makes ps t = IsOutline t.start t.finish ps × (tree_in ps ≡ t.body)

makes : (ps : List Piece) (t : SchemaModel) → ps ≡ schema_pieces t → IsDistinct t → Makes ps t
makes ps t is distinct = (outline-of t ps distinct is, body-of t ps is)

same-nodes : (s t : SchemaModel) → schema_pieces s ≡ schema_pieces t → IsDistinct s → IsDistinct t
same-nodes s t same distinct = ap (twice []) (card-nodes t ∙ ap nodes_in (sym same) ∙ sym (card-nodes s)) ∙ distinct

put-distinct : (s : SchemaModel) (g : Gap) (x : New) → IsDistinct s → refusal s (put_op x g) ≡ None → IsDistinct (put_at g (new_part x) s)
put-distinct s g (new.Activity node) distinct free = same-nodes (effect s (op.InsertSerial node 0 g)) (put_at g (act node) s) refl (step-distinct s (op.InsertSerial node 0 g) distinct free)
put-distinct s g (new.Choice node split join) distinct free =
    same-nodes (effect s (op.InsertConditional node 0 split join g)) (put_at g (new_part (new.Choice node split join)) s) refl (step-distinct s (op.InsertConditional node 0 split join g) distinct free)

put-gap : (s : SchemaModel) (g : Gap) (x : New) → refusal s (put_op x g) ≡ None → gap_refusal (cards_of s) g ≡ None
put-gap s g (new.Activity node) free = (first_none _ _ free).1
put-gap s g (new.Choice node split join) free = (first_none _ _ free).1

-- pieces that open a block have each gap once, since those of the whole block do
module _ (view s : SchemaModel) (same : view ≡ s) (ps : List Piece) (is : ps ≡ schema_pieces view) (once : twice [] (nodes_in ps) ≡ None) where
  pub opened-once : (node role split join first last : ℕ) → refusal s (op.InsertParallel node role split join first last) ≡ None → IsOnce (at_gap (After last)) (before (is_node first) (opening split join) ps)
  opened-once node role split join first last free =
      let distinct = shown-distinct view ps is once in
      let o : Op = op.InsertParallel node role split join first last in
      let fits : refusal view o ≡ None = ap (λ t. refusal t o) same ∙ free in
      let parts = first_none _ _ fits in
      let t : SchemaModel = record view { body = change (first, last) (beside node split join) view.body } in
      let opened : List Piece = before (is_node first) (opening split join) (schema_pieces view) in
      let whole : behind (at_gap (After last)) (closing node split join) opened ≡ schema_pieces t = behind-node last (closing node split join) opened ∙ wrap-done node split join first last view distinct parts.0 parts.1 in
      let made : IsDistinct t = same-nodes (effect view o) t refl (step-distinct view o distinct fits) in
      let all : IsOnce (at_gap (After last)) (behind (at_gap (After last)) (closing node split join) opened) = once-of t _ whole (ap (λ qs. twice [] (nodes_in qs)) whole ∙ ap (twice []) (sym (card-nodes t)) ∙ made) (After last) in
      subst (λ qs. IsOnce (at_gap (After last)) (before (is_node first) (opening split join) qs)) (sym is) (once-before (at_gap (After last)) (at_gap (After last)) (closing node split join) opened all)

module _ (view s : SchemaModel) (same : view ≡ s) (ps qs : List Piece) (is : ps ≡ schema_pieces view) (once : twice [] (nodes_in ps) ≡ None) where
  pub put-made : (g : Gap) (x : New) → refusal s (put_op x g) ≡ None → qs ≡ behind (at_gap g) (part_pieces (new_part x)) ps → Makes qs (put_at g (new_part x) view)
  put-made g x free made =
      let distinct = shown-distinct view ps is once in
      let fits : refusal view (put_op x g) ≡ None = ap (λ t. refusal t (put_op x g)) same ∙ free in
      makes qs (put_at g (new_part x) view) (made ∙ ap (behind (at_gap g) (part_pieces (new_part x))) is ∙ put-done g (new_part x) view distinct (put-gap view g x fits)) (put-distinct view g x distinct fits)

  pub without-made : (n : ℕ) → unless_activity (cards_of s) n ≡ None → qs ≡ without_node n ps → Makes qs (record view { body = without n view.body })
  without-made n there made =
      let distinct = shown-distinct view ps is once in
      let fits : unless_activity (cards_of view) n ≡ None = ap (λ t. unless_activity (cards_of t) n) same ∙ there in
      let t : SchemaModel = record view { body = without n view.body } in
      makes qs t (made ∙ ap (without_node n) is ∙ without-done n view distinct fits) (same-nodes (effect view (op.DeleteActivity n)) t refl (step-distinct view (op.DeleteActivity n) distinct fits))

  pub moved-made : (n : ℕ) (g : Gap) (rest : List Piece) → refusal s (op.MoveActivity n g) ≡ None → rest ≡ without_node n ps → qs ≡ behind (at_gap g) (part_pieces (act n)) rest →
      Makes qs (put_at g (act n) (record view { body = without n view.body }))
  moved-made n g rest free less made =
      let distinct = shown-distinct view ps is once in
      let fits : refusal view (op.MoveActivity n g) ≡ None = ap (λ t. refusal t (op.MoveActivity n g)) same ∙ free in
      makes qs (put_at g (act n) (record view { body = without n view.body })) (made ∙ ap (behind (at_gap g) (part_pieces (act n))) (less ∙ ap (without_node n) is) ∙ moved-done n g view distinct fits)
      (step-distinct view (op.MoveActivity n g) distinct fits)

  pub wrap-made : (node role split join first last : ℕ) → refusal s (op.InsertParallel node role split join first last) ≡ None →
      qs ≡ behind (at_gap (After last)) (closing node split join) (before (is_node first) (opening split join) ps) → Makes qs (record view { body = change (first, last) (beside node split join) view.body })
  wrap-made node role split join first last free made =
      let distinct = shown-distinct view ps is once in
      let o : Op = op.InsertParallel node role split join first last in
      let fits : refusal view o ≡ None = ap (λ t. refusal t o) same ∙ free in
      let parts = first_none _ _ fits in
      let t : SchemaModel = record view { body = change (first, last) (beside node split join) view.body } in
      makes qs t
      (made ∙ behind-node last (closing node split join) (before (is_node first) (opening split join) ps)
      ∙ ap (λ rs. behind (is_node last) (closing node split join) (before (is_node first) (opening split join) rs)) is
      ∙ wrap-done node split join first last view distinct parts.0 parts.1)
      (same-nodes (effect view o) t refl (step-distinct view o distinct fits))
