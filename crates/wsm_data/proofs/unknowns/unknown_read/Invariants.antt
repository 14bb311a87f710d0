use Rattle.wsm_data.proofs.Common.{◌≡◌, drop, first_some, IfSome, is_worked_on_in, true, unknown_in}
use Rattle.wsm_data.proofs.unknowns.unknown_read.Given as goal

abbrev pub invariant-loop-read : goal.invariant-loop-read
invariant-loop-read l = record {
  rest : first_some (λ r. unknown_in l.flat r.0 r.1) (drop l.read-index l.reads) ≡ first_some (λ r. unknown_in l.flat r.0 r.1) l.reads;
  last : IfSome l.last (λ n. is_worked_on_in l.flat.cards n ≡ true);
}
