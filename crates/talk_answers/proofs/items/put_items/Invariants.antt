use Rattle.talk_answers.proofs.Common.{ℕ, ◌++◌, ◌≡◌, case_items, Gives, iter_rest, List, side_by_side, zip_first, zip_second}
use Rattle.talk_answers.proofs.items.put_items.Given as goal

abbrev pub invariant-loop-decl : goal.invariant-loop-decl
invariant-loop-decl g l = record {
  sent : List ℕ;
  gives : Gives g.K.Sink.written g.K.Sink.faults l.ok l.well l.initial.sink l.sink sent;
  whole : sent ++ side_by_side (case_items l.file l.actor) (iter_rest (zip_first l.decl-iterator)) (iter_rest (zip_second l.decl-iterator)) ≡ side_by_side (case_items l.file l.actor) l.decls l.cases;
}
