use Rattle.store_form.proofs.{Common.{◌++◌, ◌∙◌, ◌∷◌, ap, case_bytes, FitsEach, FitsEvent, FitsId, FitsValue, id_bytes, IsNumber, listed, on_ok_weaker, optional, subst, sym, u16, u32, value_bytes}, Puts.{put-then, put-third}}
use Rattle.store_form.proofs.events.put_event.Goals as goal

pub returns-in_ok-put_tagged-in-Start-clause-bytes : goal.returns-in_ok-put_tagged-in-Start-clause-bytes
returns-in_ok-put_tagged-in-Start-clause-bytes c =
    let out = c.args.out.now.items in
    on_ok_weaker c.put_list.result
    (λ wrote.
    put-then out c.put_tagged.new.out.items c.put_list.new.out.items
    (5 ∷ (u32 c.args.caller ++ (id_bytes c.args.case ++ (u32 c.in-Start.node ++ u32 c.in-Start.user)))) (listed u32 c.in-Start.roles) c.in_ok-put_tagged-in-Start.ensures.bytes
    (wrote ∙ ap (λ rows. c.put_tagged.new.out.items ++ listed u32 rows) c.as_slice.ensures)
    ∙ ap (λ e. out ++ case_bytes c.args.caller c.args.case e) (sym c.in-Start.is))
    c.put_list.ensures.bytes

pub returns-in_ok-put_list-in-End-clause-bytes : goal.returns-in_ok-put_list-in-End-clause-bytes
returns-in_ok-put_list-in-End-clause-bytes c =
    let out = c.args.out.now.items in
    let tagged = c.put_tagged-in-End.new.out.items in
    on_ok_weaker c.put.result
    (λ wrote.
    put-third out tagged c.put_list-in-End.new.out.items c.put.new.out.items
    (6 ∷ (u32 c.args.caller ++ (id_bytes c.args.case ++ (u32 c.in-End.node ++ u32 c.in-End.user)))) (listed (λ w. u32 w.0 ++ value_bytes w.1) c.in-End.writes) (optional u16 c.in-End.choice)
    c.in_ok-put_tagged-in-End.ensures.bytes
    (c.in_ok-put_list-in-End.ensures.bytes ∙ ap (λ rows. tagged ++ listed (λ w. u32 w.0 ++ value_bytes w.1) rows) c.as_slice-in-End.ensures) wrote
    ∙ ap (λ e. out ++ case_bytes c.args.caller c.args.case e) (sym c.in-End.is))
    c.put.ensures.bytes

pub returns-in_ok-put_list-in-End-clause-fits : goal.returns-in_ok-put_list-in-End-clause-fits
returns-in_ok-put_list-in-End-clause-fits c =
    let ids = c.in_ok-put_tagged-in-End.ensures.fits in
    on_ok_weaker c.put.result
    (λ choice.
    subst (λ e. FitsId c.args.case × FitsEvent e) (sym c.in-End.is) (
      ids.1.0,
      (
        ids.1.1.0,
        ids.1.1.1,
        subst (FitsEach (λ w. IsNumber w.0 × FitsValue w.1)) c.as_slice-in-End.ensures c.in_ok-put_list-in-End.ensures.fits,
        choice,
      ),
    ))
    c.put.ensures.fits
