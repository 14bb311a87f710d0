use Rattle.std.proofs.Common.{◌≡◌, drop, fold, filter, map}
use Rattle.case_writes.specs.Writes.{number_key, is_wrong}
use Rattle.wsm_lists.specs.Rows.{put_row}
use Rattle.case_writes.proofs.add_wrong_writes.Given as goal

abbrev pub invariant-loop-write : goal.invariant-loop-write
invariant-loop-write l =
    fold (λ sorted n. put_row number_key n sorted) l.wrong (filter (is_wrong l.flat.elements l.edges l.writes) (map (λ w. w.0) (drop l.write-index l.writes)))
    ≡ fold (λ sorted n. put_row number_key n sorted) l.fn.wrong (filter (is_wrong l.flat.elements l.edges l.writes) (map (λ w. w.0) l.writes))
