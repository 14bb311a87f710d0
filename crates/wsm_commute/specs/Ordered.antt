-- The lists of a schema.
use Rattle.wsm_lists.specs.{Rows.Ascends, Keys.{both, first, first_two}}
use Rattle.wsm_schema.specs.SchemaModel.{SchemaModel}

-- each ascends by its key
pub record IsOrdered (s : SchemaModel) : Type 0 where
  pub syncs : Ascends both s.syncs
  pub elements : Ascends first s.elements
  pub reads : Ascends first_two s.reads
  pub writes : Ascends both s.writes
  pub roles : Ascends first s.roles
