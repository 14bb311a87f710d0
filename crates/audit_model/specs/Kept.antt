-- What is shown of values stands in one line: of events, of replies, and of what a case keeps.
use Rattle.std.specs.Prelude.{ℕ, Option, IfSome}
use Rattle.audit_model.specs.Common.{AllRows, CaseModel, Event, IsOneLineValue, IsOneLineWrite, LiveModel, Reply, TrailModel, Value, written, written_by}
use Rattle.wsm_schema.specs.declared.entries.Entry.{Entry}
use Rattle.case_core.specs.declared.replies.Reply.TheVariants as reply

-- what a reply shows of values
abbrev pub IsOneLineRead : ℕ × Option Value → Type 0
IsOneLineRead r = IfSome r.1 IsOneLineValue

abbrev pub ShowsOneLine : Reply → Type 0
ShowsOneLine (reply.Started reads) = AllRows IsOneLineRead reads
ShowsOneLine _ = Unit {0}

-- an event writes values in one line
abbrev pub WritesValues : Event → Type 0
WritesValues e = AllRows IsOneLineWrite (written e)

-- a case keeps such
abbrev pub KeptEntry : ℕ × Entry → Type 0
KeptEntry e = AllRows IsOneLineWrite (written_by e.1)

abbrev pub KeptTrail : TrailModel → Type 0
KeptTrail t = AllRows KeptEntry t.entries

abbrev pub KeptLive : LiveModel → Type 0
KeptLive l = KeptTrail l.trail

abbrev pub KeptCase : CaseModel → Type 0
KeptCase s = IfSome s.live KeptLive
