-- What became of the migrations in a journal.
use Rattle.std.specs.{Prelude.{ℕ, Bool, true, false, ◌&&◌}, List.count_by}
use Rattle.case_core.specs.{declared.events.Event.Event, declared.replies.Reply.Reply}
use Rattle.case_core.specs.declared.events.Event.TheVariants as event
use Rattle.case_core.specs.declared.replies.Reply.TheVariants as reply
use Rattle.script_run.specs.{Entries.CaseEntry, declared.runs.ClosedCase.ClosedCase}
use Rattle.report_words.specs.declared.totals.Fate.{Fate}
use Rattle.report_words.specs.declared.totals.Fate.TheVariants as fate

-- a change may be blocked, too, and is no migration
abbrev pub is_migration : Event → Bool
is_migration (event.Migrate version) = true
is_migration _ = false

abbrev pub says_migrated : Reply → Bool
says_migrated (reply.Migrated number) = true
says_migrated _ = false

abbrev pub says_blocked : Reply → Bool
says_blocked (reply.Blocked position entry) = true
says_blocked _ = false

abbrev pub says_overlap : Reply → Bool
says_overlap (reply.Overlap name) = true
says_overlap _ = false

abbrev pub says : Fate → Reply → Bool
says fate.Migrated r = says_migrated r
says fate.Blocked r = says_blocked r
says fate.Overlap r = says_overlap r

-- whether the entry is a migration with that fate
unfoldable pub has_fate : Fate → CaseEntry → Bool
has_fate f e = is_migration e.event && says f e.reply

-- the migrations of a case with that fate
abbrev pub with_fate : Fate → ClosedCase → ℕ
with_fate f c = count_by (has_fate f) c.journal
