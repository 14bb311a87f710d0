use Rattle.case_store.proofs.Common.{◌++◌, ◌+◌, ◌≡◌, drop, starts_from, sum}
use Rattle.case_store.proofs.held.starts_of.Given as goal

abbrev pub invariant-loop-count : goal.invariant-loop-count
invariant-loop-count l =
    (l.starts.items ++ starts_from l.start (drop l.count-index l.counts) ≡ starts_from 0 l.counts) × (l.start + sum (drop l.count-index l.counts) ≡ sum l.counts)
