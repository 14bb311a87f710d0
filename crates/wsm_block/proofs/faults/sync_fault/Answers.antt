use Rattle.wsm_block.proofs.{Common.{◌∙◌, ◌≡◌, ap, Card, end_fault, List, loop_fault, place_fault, SchemaModel, sym}, FirstFault.{or-first, or-later}}
use Rattle.wsm_block.proofs.faults.sync_fault.Goals as goal

pub returns-then-is_some : goal.returns-then-is_some
returns-then-is_some c =
    let s : SchemaModel = c.args.schema.now in
    let cards : List Card = c.args.flat.now.cards in
    let syncs : c.as_slice-syncs.result.now ≡ s.syncs = c.as_slice-syncs.ensures.rows ∙ ap (λ (v : SchemaModel). v.syncs) c.schema.view_is in
    or-first c.end_fault-fault.result (end_fault cards s.syncs) _ (c.end_fault-fault.ensures ∙ ap (end_fault cards) syncs) (sym c.is_some.ensures ∙ c.if-is_some.true)

pub returns-then-is_some-2 : goal.returns-then-is_some-2
returns-then-is_some-2 c =
    let s : SchemaModel = c.args.schema.now in
    let cards : List Card = c.args.flat.now.cards in
    let syncs : c.as_slice-syncs.result.now ≡ s.syncs = c.as_slice-syncs.ensures.rows ∙ ap (λ (v : SchemaModel). v.syncs) c.schema.view_is in
    let place : c.place_fault-fault.result ≡ place_fault s.body s.syncs =
    c.place_fault-fault.ensures ∙ ap (λ (v : SchemaModel). place_fault v.body c.as_slice-syncs.result.now) c.in_ok-enclosures.ensures ∙ ap (place_fault s.body) syncs in
    or-first c.place_fault-fault.result (place_fault s.body s.syncs) (loop_fault s.body s.syncs) place (sym c.is_some-2.ensures ∙ c.if-is_some-2.true)
    ∙ or-later c.end_fault-fault.result (end_fault cards s.syncs) _ (c.end_fault-fault.ensures ∙ ap (end_fault cards) syncs) (sym c.is_some.ensures ∙ c.if-is_some.false)

pub returns : goal.returns
returns c =
    let s : SchemaModel = c.args.schema.now in
    let cards : List Card = c.args.flat.now.cards in
    let syncs : c.as_slice-syncs.result.now ≡ s.syncs = c.as_slice-syncs.ensures.rows ∙ ap (λ (v : SchemaModel). v.syncs) c.schema.view_is in
    let place : c.place_fault-fault.result ≡ place_fault s.body s.syncs =
    c.place_fault-fault.ensures ∙ ap (λ (v : SchemaModel). place_fault v.body c.as_slice-syncs.result.now) c.in_ok-enclosures.ensures ∙ ap (place_fault s.body) syncs in
    let inside : c.loop_fault.result ≡ loop_fault s.body s.syncs =
    c.loop_fault.ensures ∙ ap (λ (v : SchemaModel). loop_fault v.body c.as_slice-syncs.result.now) c.in_ok-enclosures.ensures ∙ ap (loop_fault s.body) syncs in
    inside ∙ or-later c.place_fault-fault.result (place_fault s.body s.syncs) (loop_fault s.body s.syncs) place (sym c.is_some-2.ensures ∙ c.if-is_some-2.false)
    ∙ or-later c.end_fault-fault.result (end_fault cards s.syncs) _ (c.end_fault-fault.ensures ∙ ap (end_fault cards) syncs) (sym c.is_some.ensures ∙ c.if-is_some.false)
