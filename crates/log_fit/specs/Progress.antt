-- A case of a log while its records are taken.
use Rattle.std.specs.Prelude.{ℕ, ◌+◌, Option, Some, None, if◌then◌else◌}
use Rattle.case_core.specs.{CaseModel.CaseModel, declared.replies.Reply.Reply}
use Rattle.file_words.specs.Lines.{Bytes}
use Rattle.log_fit.specs.{Fit.{answered, goes_on, opened}, declared.fits.CaseFit.CaseFit}
use Rattle.log_records.specs.declared.records.LogEvent.{LogEvent}
use Rattle.wsm_sound.specs.VersionModel.{VersionModel}

-- its name and state, how many records it had, how many of these fit, and what was answered to the one that did not
pub record ProgressModel : Type 0 where
  pub name : Bytes
  pub machine : CaseModel
  pub events : ℕ
  pub fits : ℕ
  pub next : Option Reply

abbrev pub opened_row : VersionModel → Bytes → ProgressModel
opened_row v name = record { name = name; machine = opened v; events = 0; fits = 0; next = None }

-- a record more, with what was answered to it
abbrev pub tried : ProgressModel → CaseModel × Reply → ProgressModel
tried p step =
    if goes_on step.1 then record p { machine = step.0; events = p.events + 1; fits = p.fits + 1 }
    else record p { machine = step.0; events = p.events + 1; next = Some step.1 }

-- behind a refusal none is tried
abbrev pub reach_from : VersionModel → ProgressModel → LogEvent → Option Reply → ProgressModel
reach_from v p e None = tried p (answered v p.machine e)
reach_from v p e (Some r) = record p { events = p.events + 1 }

abbrev pub reach : VersionModel → ProgressModel → LogEvent → ProgressModel
reach v p e = reach_from v p e p.next

abbrev pub fit_of : ProgressModel → CaseFit
fit_of p = record { case = p.name; events = p.events; fits = p.fits; next = p.next }
