use Rattle.script_run.proofs.Common.{◌≡◌, call_case, each_of, take}
use Rattle.script_run.proofs.calls.Working.on_each.Given as goal

abbrev pub invariant-loop-place : goal.invariant-loop-place
invariant-loop-place l = record {
  kinds : l.self.kinds.items ≡ l.initial.self.kinds.items;
  cases : l.self.cases.items ≡ each_of l.type_no l.many (call_case l.caller l.event) (take l.place l.script.file.now.cases) l.initial.self.cases.items;
}
