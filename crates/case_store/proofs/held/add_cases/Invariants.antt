use Rattle.case_store.proofs.Common.{[], ◌++◌, ◌-◌, ◌≡◌, not_created, replicate}
use Rattle.case_store.proofs.held.add_cases.Given as goal

abbrev pub invariant-loop : goal.invariant-loop
invariant-loop l =
    l.cases.items ++ replicate (l.count - l.counter) (record { machine = not_created l.type_no; journal = [] })
    ≡ l.fn.cases.items ++ replicate l.count (record { machine = not_created l.type_no; journal = [] })
