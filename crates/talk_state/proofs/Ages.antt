-- A case that nobody has called is not older than others.
use Rattle.talk_state.proofs.Common.{[], ◌++◌, ◌+◌, ◌∷◌, ◌≤◌, arith, CaseDecl, ClosedCase, List, uncalled}
use Rattle.script_run.proofs.Aging.{oldest-uncalled}
use Rattle.script_run.specs.Oldest.{oldest}

oldest-behind : (cs : List ClosedCase) (c : ClosedCase) → oldest (cs ++ c ∷ []) ≤ oldest cs + oldest (c ∷ [])
unfolding oldest
oldest-behind [] c = omega arith
oldest-behind (x ∷ xs) c = let more = oldest-behind xs c in omega (arith, more)

pub oldest-declared : (cs : List ClosedCase) (d : CaseDecl) → oldest (cs ++ uncalled d ∷ []) ≤ oldest cs
oldest-declared cs d = omega (arith, oldest-behind cs (uncalled d), oldest-uncalled (d ∷ []))
