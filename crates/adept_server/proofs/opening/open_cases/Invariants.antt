use Rattle.adept_server.proofs.{Common.{◌+◌, ◌-◌, ◌≡◌, ◌≤◌, length, not_created, uncounted, vec_capacity, vec_len}, Founding.AreMade}
use Rattle.adept_server.proofs.opening.open_cases.Given as goal

abbrev pub invariant-loop-place : goal.invariant-loop-place
invariant-loop-place l = record {
  many : length l.cases.items ≡ l._place;
  made : AreMade (λ i. uncounted (not_created l.type_no)) l.cases.items;
  room : vec_len l.cases + (l.count - l._place) ≤ vec_capacity l.cases;
}
