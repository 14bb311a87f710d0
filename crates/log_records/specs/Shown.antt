-- The fields of a record as contracts see them: without where they lie in memory.
use Rattle.log_records.specs.Forms as forms
use Rattle.log_records.specs.declared.cells.Cells.{Cells}

abbrev pub shown_cells : Cells → forms.Cells
shown_cells c = record { case = c.case.now; kind = c.kind.now; node = c.node.now; user = c.user.now; choice = c.choice.now; writes = c.writes.now }
