use Rattle.turn_loop.proofs.Common.{ℕ, ◌-◌, ◌<◌, ◌≤◌, Bool, IsRest, length, List, Works}
use Rattle.turn_loop.proofs.working.work_items.Given as goal

abbrev pub invariant-items : goal.invariant-items
invariant-items g l = record {
  within : l.done ≤ length l.bytes;
  some : 0 < length l.text.items → 0 < l.done;
  works : (first : Bool) (ps : List (List ℕ)) (begun : List ℕ) → g.E.Responder.holds l.initial.responder first ps begun → IsRest g.E.Responder.rules.ends begun → Works g.E.Responder.rules g.E.Responder.holds first ps begun l.bytes l.responder l.text.items l.group l.done;
}

abbrev pub decreases-items : goal.decreases-items
decreases-items g l = length l.bytes - l.done
