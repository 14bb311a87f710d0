-- The values that a script line writes.
use Rattle.std.specs.Prelude.{ℕ, List, []}
use Rattle.file_model.specs.declared.files.Act.{Act}
use Rattle.file_model.specs.declared.files.Act.TheVariants as act
use Rattle.wsm_lists.specs.declared.values.Value.{Value}

abbrev pub act_writes : Act → List (ℕ × Value)
act_writes (act.End id node choice writes) = writes
act_writes _ = []
