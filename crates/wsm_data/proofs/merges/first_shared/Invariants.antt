use Rattle.wsm_data.proofs.Common.{◌+◌, ◌-◌, ◌≡◌, drop, find, InOrder, is_one_of, length}
use Rattle.wsm_data.proofs.merges.first_shared.Given as goal

abbrev pub invariant-both : goal.invariant-both
invariant-both l = record {
  rest : find (λ d. is_one_of d (drop l.j l.others)) (drop l.i l.elements) ≡ find (λ d. is_one_of d l.others) l.elements;
  first : InOrder (drop l.i l.elements);
  second : InOrder (drop l.j l.others);
}

abbrev pub decreases-both : goal.decreases-both
decreases-both l = (length l.elements - l.i) + (length l.others - l.j)
