use Rattle.crew_run.proofs.Common.{Defines, desk_view, IsDeskOf, KnowsTypes}
use Rattle.crew_run.proofs.definitions.define_types.Given as goal

abbrev pub invariant-loop-type_no : goal.invariant-loop-type_no
invariant-loop-type_no g l = record {
  desk : IsDeskOf l.server l.desk;
  defines : Defines l.types l.type_no (desk_view l.fn.desk) (desk_view l.desk);
  known : KnowsTypes l.type_no (desk_view l.desk);
}
