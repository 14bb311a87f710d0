use Rattle.store_form.proofs.{Common.{◌++◌, ◌∙◌, ◌∷◌, ap, listed, on_ok_weaker, op_bytes, payload, schema_bytes, sym, u32}, Puts.put-then}
use Rattle.store_form.proofs.events.put_stored.Goals as goal

pub returns-in_ok-put_tagged-in-Define-clause-bytes : goal.returns-in_ok-put_tagged-in-Define-clause-bytes
returns-in_ok-put_tagged-in-Define-clause-bytes c =
    let out = c.args.out.now.items in
    on_ok_weaker c.put_schema.result
    (λ wrote.
    put-then out c.put_tagged.new.out.items c.put_schema.new.out.items (1 ∷ (u32 c.args.caller ++ u32 c.in-Define.type_no)) (schema_bytes c.in-Define.schema)
    c.in_ok-put_tagged-in-Define.ensures.bytes wrote
    ∙ ap (λ e. out ++ payload c.args.caller e) (sym c.in-Define.is))
    c.put_schema.ensures.bytes

pub returns-in_ok-put_tagged-in-Install-clause-bytes : goal.returns-in_ok-put_tagged-in-Install-clause-bytes
returns-in_ok-put_tagged-in-Install-clause-bytes c =
    let out = c.args.out.now.items in
    let tagged = c.put_tagged-in-Install.new.out.items in
    on_ok_weaker c.put_list.result
    (λ wrote.
    put-then out tagged c.put_list.new.out.items (2 ∷ (u32 c.args.caller ++ u32 c.in-Install.type_no)) (listed op_bytes c.in-Install.ops) c.in_ok-put_tagged-in-Install.ensures.bytes
    (wrote ∙ ap (λ rows. tagged ++ listed op_bytes rows) c.as_slice.ensures)
    ∙ ap (λ e. out ++ payload c.args.caller e) (sym c.in-Install.is))
    c.put_list.ensures.bytes
