use Rattle.wsm_ops.proofs.{Common.{◌∙◌, ap, IsOutline, SchemaModel, subst, sym}, Shown.{outline-of, body-of}}
use Rattle.wsm_ops.proofs.drafts.Draft.of.Goals as goal

pub invariant_of-result : goal.invariant_of-result
invariant_of-result c =
    let P : SchemaModel → Type 0 = λ s. IsOutline s.start s.finish c.in_ok-of.field-0 in
    subst P (sym c.schema.view_is) (outline-of c.args.schema.now c.in_ok-of.field-0 c.requires (c.in_ok-of.ensures ∙ c.deref.ensures.value ∙ c.in_ok-pieces_of.ensures))

pub returns : goal.returns
returns c =
    rw (
      body-of c.args.schema.now c.in_ok-of.field-0 (c.in_ok-of.ensures ∙ c.deref.ensures.value ∙ c.in_ok-pieces_of.ensures) ∙ ap (λ (s : SchemaModel). s.body) (sym c.schema.view_is),
      c.in_ok-copy.ensures,
      c.in_ok-copy-2.ensures,
      c.in_ok-copy-3.ensures,
      c.in_ok-copy-4.ensures,
      c.in_ok-copy-5.ensures,
    ) c.schema.view_is
