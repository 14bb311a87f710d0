use Rattle.store_form.proofs.{Common.{◌++◌, ◌∙◌, ap, edges_bytes, FitsEach, FitsEdges, FitsPair, flag, HasRoles, listed, on_ok_weaker, SchemaModel, subst, u32, u32_u32}, Puts.put-third}
use Rattle.store_form.proofs.schemas.put_edges.Goals as goal

pub returns-clause-bytes : goal.returns-clause-bytes
returns-clause-bytes c =
    let s = c.schema.inside in
    on_ok_weaker c.put_list.result
    (λ wrote.
    put-third c.args.out.now.items c.put_table.new.out.items c.put_table-2.new.out.items c.put_list.new.out.items
    (listed (λ r. u32 r.0 ++ (u32 r.1 ++ flag r.2)) s.reads) (listed u32_u32 s.writes) (listed u32_u32 s.roles) c.in_ok-put_table.ensures.bytes c.in_ok-put_table-2.ensures.bytes
    (wrote ∙ ap (λ rows. c.put_table-2.new.out.items ++ listed u32_u32 rows) c.as_slice.ensures.rows)
    ∙ ap (λ (m : SchemaModel). c.args.out.now.items ++ edges_bytes m) c.schema.view_is)
    c.put_list.ensures.bytes

pub returns-clause-fits : goal.returns-clause-fits
returns-clause-fits c =
    on_ok_weaker c.put_list.result
    (λ fits.
    subst FitsEdges c.schema.view_is (
      c.in_ok-put_table.ensures.fits,
      c.in_ok-put_table-2.ensures.fits,
      (subst (FitsEach FitsPair) c.as_slice.ensures.rows fits, subst HasRoles c.as_slice.ensures.rows c.as_slice.ensures.roles),
    ))
    c.put_list.ensures.fits
