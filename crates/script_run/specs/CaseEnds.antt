-- A case at the end of a run, and the calls that were made of it.
use Rattle.std.specs.Prelude.{List}
use Rattle.case_core.specs.CaseModel.{CaseModel}
use Rattle.script_run.specs.Entries.{CaseEntry}

pub record CaseEnd : Type 0 where
  pub machine : CaseModel
  pub journal : List CaseEntry
