-- The only write that is left, behind one that was found.
use Rattle.std.proofs.Common.{Option, Some, None}
use Rattle.case_writes.specs.Writes.{only, only_value}
use Rattle.wsm_lists.specs.{Values.Written, declared.values.Value.Value}

abbrev pub only_after : Option Value → Written → Option Value
only_after None ws = only_value ws
only_after (Some v) ws = only v ws
