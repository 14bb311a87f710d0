use Rattle.std.proofs.Common.{◌≡◌, drop, fold, filter}
use Rattle.case_writes.specs.Writes.{number_key, is_wrong}
use Rattle.wsm_lists.specs.Rows.{put_row}
use Rattle.case_writes.proofs.add_wrong_edges.Given as goal

abbrev pub invariant-loop-element : goal.invariant-loop-element
invariant-loop-element l =
    fold (λ sorted n. put_row number_key n sorted) l.wrong (filter (is_wrong l.flat.elements l.edges l.writes) (drop l.element-index l.edges))
    ≡ fold (λ sorted n. put_row number_key n sorted) l.fn.wrong (filter (is_wrong l.flat.elements l.edges l.writes) l.edges)
