use Rattle.case_store.proofs.{Common.{◌≡◌, ◌≤◌, AllByRecursion, ap, arith, fresh_cases, length, starts_of, subst, sym}, Cells.{length-fresh, starts-within}}
use Rattle.case_store.proofs.held.HeldCells.new.Goals as goal

pub invariant_of-result : goal.invariant_of-result
invariant_of-result c =
    let counts = c.args.counts.now in
    let out = c.in_ok-fresh_cases.field-0.items in
    let starts : c.in_ok-starts_of.field-0.items ≡ starts_of counts = c.in_ok-starts_of.ensures in
    let cases : out ≡ fresh_cases 0 counts = c.in_ok-fresh_cases.ensures in
    subst (AllByRecursion (λ s. s ≤ length out)) (sym starts) (starts-within 0 counts (length out) (omega (arith, ap length cases, length-fresh 0 counts)))
