use Rattle.case_store.proofs.{Common.{[], ◌++◌, ◌+◌, ◌-◌, ◌∙◌, ◌≡◌, ap, arith, not_created, replicate, suc, sym}, Cells.one-more}
use Rattle.case_store.proofs.held.add_cases.Goals as goal

pub loop-preserved : goal.loop-preserved
loop-preserved c =
    let l = c.loop in
    let left : c.args.count - l.counter ≡ suc (c.args.count - (l.counter + 1)) = omega arith in
    one-more l.cases.items c.push.new.self.items _ c.in_ok-push.ensures.items c.fresh_case.ensures
    (ap (λ n. l.cases.items ++ replicate n (record { machine = not_created c.args.type_no; journal = [] })) (sym left) ∙ l.invariant)
