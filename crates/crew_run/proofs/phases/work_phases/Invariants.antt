use Rattle.crew_run.proofs.Common.{AreFew, AreTraces, desk_view, IsAlong, IsCalledOf, IsCrew, KnowsTypes, length, List, take, Trace}
use Rattle.crew_run.proofs.phases.work_phases.Given as goal

abbrev pub invariant-loop-lines : goal.invariant-loop-lines
invariant-loop-lines g l = record {
  crew : IsCrew l.server l.file l.first l.crew;
  knows : KnowsTypes (length l.file.types) (desk_view l.first);
  called : IsCalledOf l.server l.called;
  along : (traces : List Trace) × AreTraces l.file (take l.lines-index l.file.phases) traces × AreFew l.file l.lines-index traces × IsAlong l.file (length l.file.types) traces (desk_view l.first) l.crew;
}
