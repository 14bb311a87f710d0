use Rattle.report_text.proofs.Common.{ℕ, ◌++◌, ◌≡◌, Gives, iter_rest, kinds_text, List, zip_first, zip_second}
use Rattle.report_text.proofs.report.put_kinds.Given as goal

abbrev pub invariant-loop-decl : goal.invariant-loop-decl
invariant-loop-decl g l = record {
  sent : List ℕ;
  gives : Gives g.K.Sink.written g.K.Sink.faults l.ok l.well l.initial.sink l.sink sent;
  whole : sent ++ kinds_text l.file (iter_rest (zip_first l.decl-iterator)) (iter_rest (zip_second l.decl-iterator)) ≡ kinds_text l.file l.types l.kinds;
}
