use Rattle.wsm_data.proofs.Common.{◌≡◌, drop, first_some, IfSome, is_worked_on_in, true, unknown_in}
use Rattle.wsm_data.proofs.unknowns.unknown_write.Given as goal

abbrev pub invariant-loop-write : goal.invariant-loop-write
invariant-loop-write l = record {
  rest : first_some (λ r. unknown_in l.flat r.0 r.1) (drop l.write-index l.writes) ≡ first_some (λ r. unknown_in l.flat r.0 r.1) l.writes;
  last : IfSome l.last (λ n. is_worked_on_in l.flat.cards n ≡ true);
}
