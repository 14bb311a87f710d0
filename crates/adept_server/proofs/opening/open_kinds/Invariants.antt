use Rattle.adept_server.proofs.{Common.{◌+◌, ◌-◌, ◌≡◌, ◌≤◌, length, not_defined, vec_capacity, vec_len}, Founding.AreMade}
use Rattle.adept_server.proofs.opening.open_kinds.Given as goal

abbrev pub invariant-loop-type_no : goal.invariant-loop-type_no
invariant-loop-type_no l = record {
  many : length l.kinds.items ≡ l.type_no;
  made : AreMade not_defined l.kinds.items;
  room : vec_len l.kinds + (l.count - l.type_no) ≤ vec_capacity l.kinds;
}
