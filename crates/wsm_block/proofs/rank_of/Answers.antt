use Rattle.wsm_block.proofs.{Common.{◌∙◌, ◌≡◌, ap, cards_of, control_edges, cycle_fault, cycle_in, EndAmong, IfErr, IfOk, IsBlockFault, IsOrder, nodes_of, None, SchemaModel, subst, sym}, FirstFault.{nodes-distinct, ends-there}}
use Rattle.wsm_block.proofs.{DocumentStart.document-start, RanksOfSchemas.{if-both, order-rank_of}}
use Rattle.wsm_block.proofs.rank_of.Goals as goal

pub grown_rank-requires-clause-order : goal.grown_rank-requires-clause-order
grown_rank-requires-clause-order c =
    subst (λ cs. IsOrder (control_edges cs) (nodes_of cs)) (ap (λ f. f.cards) (sym c.requires.flat)) (document-start c.args.schema.now (nodes-distinct c.args.schema.now c.requires.shape))

pub grown_rank-requires-clause-ends : goal.grown_rank-requires-clause-ends
grown_rank-requires-clause-ends c =
    let s : SchemaModel = c.args.schema.now in
    let syncs : c.as_slice.result.now ≡ s.syncs = c.as_slice.ensures.rows ∙ ap (λ v. v.syncs) c.schema.view_is in
    subst (λ cs. EndAmong (nodes_of cs) c.as_slice.result.now) (ap (λ f. f.cards) (sym c.requires.flat))
    (subst (EndAmong (nodes_of (cards_of s))) (sym syncs) (ends-there s c.requires.shape))

pub returns-clause-sound : goal.returns-clause-sound
returns-clause-sound c =
    let syncs : c.as_slice.result.now ≡ c.args.schema.now.syncs = c.as_slice.ensures.rows ∙ ap (λ v. v.syncs) c.schema.view_is in
    let same : cycle_in c.args.flat.now.cards c.as_slice.result.now ≡ cycle_fault c.args.schema.now =
    ap (λ f. cycle_in f.cards c.as_slice.result.now) c.requires.flat ∙ ap (cycle_in (cards_of c.args.schema.now)) syncs in
    subst (λ fault. IfOk c.grown_rank.result (λ rank. fault ≡ None)) same c.grown_rank.ensures.none

pub returns-clause-rank : goal.returns-clause-rank
returns-clause-rank c =
    let syncs : c.as_slice.result.now ≡ c.args.schema.now.syncs = c.as_slice.ensures.rows ∙ ap (λ v. v.syncs) c.schema.view_is in
    if-both _ _ _ (order-rank_of c.args.schema.now c.args.flat.now.cards c.as_slice.result.now (ap (λ f. f.cards) c.requires.flat) syncs) c.grown_rank.result c.grown_rank.ensures.order
    c.grown_rank.ensures.same

pub returns-clause-fault : goal.returns-clause-fault
returns-clause-fault c =
    let syncs : c.as_slice.result.now ≡ c.args.schema.now.syncs = c.as_slice.ensures.rows ∙ ap (λ v. v.syncs) c.schema.view_is in
    let same : cycle_in c.args.flat.now.cards c.as_slice.result.now ≡ cycle_fault c.args.schema.now =
    ap (λ f. cycle_in f.cards c.as_slice.result.now) c.requires.flat ∙ ap (cycle_in (cards_of c.args.schema.now)) syncs in
    subst (λ fault. IfErr c.grown_rank.result (λ refusal. IsBlockFault fault refusal)) same c.grown_rank.ensures.fault
