use Rattle.store_form.proofs.{Common.{◌++◌, ◌∙◌, ap, Ascends, both, edges_bytes, first, FitsEach, FitsPair, IsNumber, kind_bytes, listed, on_ok_weaker, SchemaModel, subst, u32, u32_u32}, Puts.put-third, SchemaForms.only_first}
use Rattle.store_form.proofs.schemas.put_tables.Goals as goal

pub returns-clause-bytes : goal.returns-clause-bytes
returns-clause-bytes c =
    let s = c.schema.inside in
    on_ok_weaker c.put_edges.result
    (λ wrote.
    put-third c.args.out.now.items c.put_table.new.out.items c.put_table-2.new.out.items c.put_edges.new.out.items
    (listed u32_u32 s.syncs) (listed (λ e. u32 e.0 ++ kind_bytes e.1) s.elements) (edges_bytes c.args.schema.now) c.in_ok-put_table.ensures.bytes c.in_ok-put_table-2.ensures.bytes wrote
    ∙ ap (λ (m : SchemaModel). c.args.out.now.items ++ (listed u32_u32 m.syncs ++ (listed (λ e. u32 e.0 ++ kind_bytes e.1) m.elements ++ edges_bytes c.args.schema.now))) c.schema.view_is)
    c.put_edges.ensures.bytes

pub returns-clause-fits : goal.returns-clause-fits
returns-clause-fits c =
    let elements = c.in_ok-put_table-2.ensures.fits in
    on_ok_weaker c.put_edges.result
    (λ fits. (
      subst (λ (m : SchemaModel). FitsEach FitsPair m.syncs × Ascends both m.syncs) c.schema.view_is c.in_ok-put_table.ensures.fits,
      subst (λ (m : SchemaModel). FitsEach (λ e. IsNumber e.0) m.elements × Ascends first m.elements) c.schema.view_is
          ((elements.0.0, only_first (λ e. IsNumber e.0) c.schema.inside.elements elements.0.1), elements.1),
      fits,
    ))
    c.put_edges.ensures.fits
