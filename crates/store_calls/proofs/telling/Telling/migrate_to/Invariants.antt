use Rattle.std.proofs.Common.{◌≡◌, ◌++◌, drop}
use Rattle.store_calls.specs.Calls.{migrations}
use Rattle.store_calls.proofs.telling.Telling.migrate_to.Given as goal

abbrev pub invariant-loop-decl : goal.invariant-loop-decl
invariant-loop-decl l = record {
  kinds : l.self.kinds.items ≡ l.initial.self.kinds.items;
  calls : l.self.calls.items ++ migrations l.caller l.type_no l.many l.number (drop l.decl-index l.cases) ≡ l.initial.self.calls.items ++ migrations l.caller l.type_no l.many l.number l.cases;
}
