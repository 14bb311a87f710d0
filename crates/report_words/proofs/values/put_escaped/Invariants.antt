use Rattle.std.proofs.Common.{◌≡◌, ℕ, List, ◌++◌, length}
use Rattle.std.specs.List.{flat_map}
use Rattle.adept_io.specs.Written.{Gives}
use Rattle.report_words.specs.Words.{escaped}
use Rattle.report_words.proofs.values.put_escaped.Given as goal

abbrev pub invariant-loop-at : goal.invariant-loop-at
invariant-loop-at g l = record {
  sent : List ℕ;
  gives : Gives g.K.Sink.written g.K.Sink.faults l.ok l.well l.initial.sink l.sink sent;
  whole : sent ++ flat_map escaped l.rest ≡ flat_map escaped l.text;
}

abbrev pub decreases-loop-at : goal.decreases-loop-at
decreases-loop-at g l = length l.rest
