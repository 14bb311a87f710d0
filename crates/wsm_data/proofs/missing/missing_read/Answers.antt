use Rattle.wsm_data.proofs.{Common.{[], ◌∙◌, ◌≡◌, all-rows-map, AllRows, ap, cards_of, first_some, FlatModel, HasEdge, IfOk-weaker, missing_at, nodes_of, None, SchemaModel, subst, sure_of, sym, TellsAt, twice}, Firsts.distinct-nodes}
use Rattle.wsm_data.proofs.{Pass.{nothing-read, told-sure}, Sure.all-next}
use Rattle.wsm_data.proofs.missing.missing_read.Goals as goal

pub returns-then-is_empty : goal.returns-then-is_empty
returns-then-is_empty c = nothing-read c.args.schema.now (sure_of c.args.schema.now) (ap (λ (m : SchemaModel). m.reads) (sym c.schema.view_is) ∙ c.is_empty.ensures.0 c.if-is_empty.true)

pub of-requires-clause-distinct : goal.of-requires-clause-distinct
of-requires-clause-distinct c = ap (λ (f : FlatModel). twice [] (nodes_of f.cards)) c.requires.flat ∙ distinct-nodes c.args.schema.now c.requires.blocks

pub first_missing-requires : goal.first_missing-requires
first_missing-requires c =
    let s = c.args.schema.now in
    let all : c.cards.result.now ≡ cards_of s = c.cards.ensures ∙ ap (λ (f : FlatModel). f.cards) c.requires.flat in
    let rows : AllRows (λ k. HasEdge k.kind k.ins × TellsAt s c.in_ok-table.table k) (cards_of s) =
    all-rows-map _ _ (λ k next. (next.edged, told-sure s c.in_ok-table.table c.args.rank.now k c.in_ok-table.ensures next)) (cards_of s) (all-next s c.args.rank.now c.requires.rank c.requires.blocks) in
    subst (λ m. AllRows (λ k. HasEdge k.kind k.ins × TellsAt m c.in_ok-table.table k) c.cards.result.now) (sym c.in_ok-enclosures.ensures)
    (subst (AllRows (λ k. HasEdge k.kind k.ins × TellsAt s c.in_ok-table.table k)) (sym all) rows)

pub returns : goal.returns
returns c =
    let s = c.args.schema.now in
    let all : c.cards.result.now ≡ cards_of s = c.cards.ensures ∙ ap (λ (f : FlatModel). f.cards) c.requires.flat in
    IfOk-weaker c.first_missing.result (λ found. found ≡ first_some (missing_at (sure_of c.in_ok-enclosures.enclosures)) c.cards.result.now) (λ found. found ≡ first_some (missing_at (sure_of s)) (cards_of s))
    (λ found is. is ∙ ap (λ m. first_some (missing_at (sure_of m)) c.cards.result.now) c.in_ok-enclosures.ensures ∙ ap (first_some (missing_at (sure_of s))) all) c.first_missing.ensures
