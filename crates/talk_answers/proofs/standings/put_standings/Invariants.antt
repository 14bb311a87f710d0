use Rattle.talk_answers.proofs.Common.{ℕ, ◌++◌, ◌≡◌, Gives, iter_rest, List, side_by_side, standing, zip_first, zip_second}
use Rattle.talk_answers.proofs.standings.put_standings.Given as goal

abbrev pub invariant-loop-decl : goal.invariant-loop-decl
invariant-loop-decl g l = record {
  sent : List ℕ;
  gives : Gives g.K.Sink.written g.K.Sink.faults l.ok l.well l.initial.sink l.sink sent;
  whole : sent ++ side_by_side (standing l.file) (iter_rest (zip_first l.decl-iterator)) (iter_rest (zip_second l.decl-iterator)) ≡ side_by_side (standing l.file) l.decls l.cases;
}
