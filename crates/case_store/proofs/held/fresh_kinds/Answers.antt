use Rattle.case_store.proofs.{Common.{◌++◌, ◌∙◌, ap, drop_more, fresh_kinds, sym}, Cells.one-more}
use Rattle.case_store.proofs.held.fresh_kinds.Goals as goal

pub loop-type_no-preserved : goal.loop-type_no-preserved
loop-type_no-preserved c =
    let l = c.loop-type_no in
    one-more l.kinds.items c.push.new.self.items _ c.in_ok-push.ensures.items c.fresh_kind.ensures
    (ap (λ cs. l.kinds.items ++ fresh_kinds l.type_no cs) (sym (drop_more c.args.counts.now l.type_no 0 c.loop-type_no-test.true)) ∙ l.invariant)
