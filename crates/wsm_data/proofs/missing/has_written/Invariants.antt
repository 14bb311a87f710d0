use Rattle.wsm_data.proofs.Common.{◌≡◌, drop, is_one_of, list_all}
use Rattle.wsm_data.proofs.missing.has_written.Given as goal

abbrev pub invariant-loop-write : goal.invariant-loop-write
invariant-loop-write l = list_all (λ w. is_one_of w.1 l.set) (drop l.write-index l.writes) ≡ list_all (λ w. is_one_of w.1 l.set) l.writes
