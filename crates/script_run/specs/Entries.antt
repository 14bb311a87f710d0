-- Calls of cases and of types, as journals have them.
use Rattle.std.specs.Prelude.{ℕ}
use Rattle.case_core.specs.{CaseModel.CaseModel, Instances.CountedCase, declared.events.Event.Event, declared.replies.Reply.Reply, declared.views.View.View}
use Rattle.turn_cell.specs.declared.journal.Entry.{Entry}
use Rattle.type_core.specs.{KindModel.KindModel, declared.events.KindEvent.KindEvent, declared.replies.KindReply.KindReply}

abbrev pub CaseEntry : Type 0
CaseEntry = Entry CountedCase Event Reply View CaseModel

abbrev pub KindEntry : Type 0
KindEntry = Entry KindModel KindEvent KindReply ℕ KindModel
