use Rattle.unit_run.proofs.{Common.{◌≡◌, call_case, take}, Placed.changed_all}
use Rattle.unit_run.proofs.runs.UnitRun.on_each.Given as goal

abbrev pub invariant-loop-place : goal.invariant-loop-place
invariant-loop-place l = record {
  kinds : l.self-inside.1.0.kinds.items ≡ l.initial.self-inside.1.0.kinds.items;
  cases : l.self-inside.1.0.cases.items ≡ changed_all (call_case l.caller l.event) l.initial.self-inside.1.0.cases.items (take l.place-index l.place-items);
}
