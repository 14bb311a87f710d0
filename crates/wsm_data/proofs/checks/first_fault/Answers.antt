use Rattle.wsm_data.proofs.{Common.{[], ◌∙◌, ◌≡◌, ap, cards_of, data_fault, FlatModel, IfOk-weaker, nodes_of, parallel_writes, sym, twice}, Clauses.{read-clause, write-clause}, Firsts.{first-some, first-none, distinct-nodes}}
use Rattle.wsm_data.proofs.checks.first_fault.Goals as goal

pub unknown_read-found-requires : goal.unknown_read-found-requires
unknown_read-found-requires c = ap (λ (f : FlatModel). twice [] (nodes_of f.cards)) c.requires.flat ∙ distinct-nodes c.args.schema.now c.requires.blocks

pub unknown_write-found-requires : goal.unknown_write-found-requires
unknown_write-found-requires c = ap (λ (f : FlatModel). twice [] (nodes_of f.cards)) c.requires.flat ∙ distinct-nodes c.args.schema.now c.requires.blocks

pub returns-then-is_some : goal.returns-then-is_some
returns-then-is_some c =
    let read = read-clause c.args.schema.now _ c.args.flat.now c.requires.flat c.schema.view_is _ _ c.as_slice.ensures.rows c.unknown_read-found.ensures in
    first-some c.unknown_read-found.result _ _ read (sym c.is_some.ensures ∙ c.if-is_some.true)

pub returns-then-is_some-2 : goal.returns-then-is_some-2
returns-then-is_some-2 c =
    let read = read-clause c.args.schema.now _ c.args.flat.now c.requires.flat c.schema.view_is _ _ c.as_slice.ensures.rows c.unknown_read-found.ensures in
    let write = write-clause c.args.schema.now _ c.args.flat.now c.requires.flat c.schema.view_is _ _ c.as_slice-2.ensures.rows c.unknown_write-found.ensures in
    first-some c.unknown_write-found.result _ _ write (sym c.is_some-2.ensures ∙ c.if-is_some-2.true)
    ∙ first-none c.unknown_read-found.result _ _ read (sym c.is_some.ensures ∙ c.if-is_some.false)

pub returns-then-is_some-3 : goal.returns-then-is_some-3
returns-then-is_some-3 c =
    let read = read-clause c.args.schema.now _ c.args.flat.now c.requires.flat c.schema.view_is _ _ c.as_slice.ensures.rows c.unknown_read-found.ensures in
    let write = write-clause c.args.schema.now _ c.args.flat.now c.requires.flat c.schema.view_is _ _ c.as_slice-2.ensures.rows c.unknown_write-found.ensures in
    first-some c.in_ok-found.found _ _ c.in_ok-found.ensures (sym c.is_some-3.ensures ∙ c.if-is_some-3.true)
    ∙ first-none c.unknown_write-found.result _ _ write (sym c.is_some-2.ensures ∙ c.if-is_some-2.false)
    ∙ first-none c.unknown_read-found.result _ _ read (sym c.is_some.ensures ∙ c.if-is_some.false)

pub returns : goal.returns
returns c =
    let s = c.args.schema.now in
    let read = read-clause s _ c.args.flat.now c.requires.flat c.schema.view_is _ _ c.as_slice.ensures.rows c.unknown_read-found.ensures in
    let write = write-clause s _ c.args.flat.now c.requires.flat c.schema.view_is _ _ c.as_slice-2.ensures.rows c.unknown_write-found.ensures in
    let all =
    first-none c.in_ok-found.found _ (parallel_writes s (cards_of s)) c.in_ok-found.ensures (sym c.is_some-3.ensures ∙ c.if-is_some-3.false)
    ∙ first-none c.unknown_write-found.result _ _ write (sym c.is_some-2.ensures ∙ c.if-is_some-2.false)
    ∙ first-none c.unknown_read-found.result _ _ read (sym c.is_some.ensures ∙ c.if-is_some.false)
    in
    IfOk-weaker c.parallel_writes.result (λ found. found ≡ parallel_writes s (cards_of s)) (λ found. found ≡ data_fault s) (λ found is. is ∙ all) c.parallel_writes.ensures
