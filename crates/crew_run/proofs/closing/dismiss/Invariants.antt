use Rattle.crew_run.proofs.Common.{◌+◌, ◌≡◌, ◌≤◌, all_joined, AllRows, desk_view, into_iter_items, into_iter_len, IsDeskOf, length}
use Rattle.crew_run.proofs.closing.dismiss.Given as goal

abbrev pub invariant-loop-worker : goal.invariant-loop-worker
invariant-loop-worker l =
    let rest = into_iter_items l.worker-iterator in
    record {
      left : into_iter_len l.worker-iterator ≡ length rest;
      desk : IsDeskOf l.server l.first;
      desks : AllRows (λ w. IsDeskOf l.server w.desk) rest;
      number : (desk_view l.first).number ≡ 0;
      few : (desk_view l.first).taken + length rest ≤ 33;
      joined : all_joined (desk_view l.fn.first) l.fn.crew.items ≡ all_joined (desk_view l.first) rest;
    }
