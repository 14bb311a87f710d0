-- Calls that are tried, and a type that is put back.
use Rattle.std.specs.Prelude.{ℕ, ◌+◌, ◌-◌, Bool, true, false, length, take, slice_get, Option, Some, None, option_map}
use Rattle.case_core.specs.{Machine.next_case, declared.events.Event.Event}
use Rattle.script_run.specs.{Calls.changed_at, Entries.{CaseEntry, KindEntry}, declared.runs.ClosedCase.ClosedCase, declared.runs.ClosedKind.ClosedKind, declared.runs.Run.Run}
use Rattle.type_core.specs.{Machine.next_kind, declared.events.KindEvent.KindEvent, declared.replies.KindReply.KindReply}
use Rattle.type_core.specs.declared.replies.KindReply.TheVariants as kind_reply
use Rattle.unit_run.specs.declared.tries.KindBefore.{KindBefore}

-- the entry that a call would add to a journal, behind its place there
abbrev pub next_kind_entry : ℕ → KindEvent → ClosedKind → ℕ × KindEntry
next_kind_entry caller e k = (length k.journal + 1, record { caller = caller; event = e; reply = (next_kind k.machine e).1 })

abbrev pub next_case_entry : ℕ → Event → ClosedCase → ℕ × CaseEntry
next_case_entry caller e c = (length c.journal + 1, record { caller = caller; event = e; reply = (next_case c.machine e).1 })

-- a type before a call, and one that is as it was before
abbrev pub before_of : ClosedKind → KindBefore
before_of k = record { machine = k.machine; calls = length k.journal }

abbrev pub kind_before : ℕ → Run → Option KindBefore
kind_before t r = option_map before_of (slice_get r.kinds t)

abbrev pub restored : KindBefore → ClosedKind → ClosedKind
restored b k = record { machine = b.machine; journal = take b.calls k.journal }

abbrev pub put_back_kind : ℕ → Option KindBefore → Run → Run
put_back_kind t None r = r
put_back_kind t (Some b) r = record { kinds = changed_at (restored b) t r.kinds; cases = r.cases }

-- whether a call, and the last call of a type, was answered that a version is installed
abbrev pub is_install : KindReply → Bool
is_install (kind_reply.Installed number) = true
is_install _ = false

abbrev pub is_installed : Option KindEntry → Bool
is_installed None = false
is_installed (Some e) = is_install e.reply

abbrev pub was_installed_in : Option ClosedKind → Bool
was_installed_in None = false
was_installed_in (Some k) = is_installed (slice_get k.journal (length k.journal - 1))

abbrev pub was_installed : ℕ → Run → Bool
was_installed t r = was_installed_in (slice_get r.kinds t)
