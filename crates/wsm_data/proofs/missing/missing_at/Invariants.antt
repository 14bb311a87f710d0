use Rattle.wsm_data.proofs.Common.{◌&&◌, ◌≡◌, drop, find, is_one_of, not}
use Rattle.wsm_data.proofs.missing.missing_at.Given as goal

abbrev pub invariant-loop-read : goal.invariant-loop-read
invariant-loop-read l = find (λ r. r.1 && not (is_one_of r.0 l.sure)) (drop l.read-index l.read-items) ≡ find (λ r. r.1 && not (is_one_of r.0 l.sure)) l.card.reads
