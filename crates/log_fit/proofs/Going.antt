-- A case whose records are taken one after another goes as far as the answers to its events tell.
use Rattle.log_fit.proofs.Common.{[], ℕ, ◌+◌, ◌∙◌, ◌∷◌, ◌≡◌, accepted, answered, ap, arith, Bool, Bytes, case_fit, CaseFit, false, fit_of, fold, goes_on, if◌then◌else◌, length, List, None, not, opened, opened_row, Option, ProgressModel}
use Rattle.log_fit.proofs.Common.{reach, refl, refusal, replies, Reply, Some, suc, true, VersionModel}
use Rattle.case_core.specs.CaseModel.{CaseModel}
use Rattle.log_records.specs.declared.records.LogEvent.{LogEvent}

module _ (v : VersionModel) (name : Bytes) where
  -- a case that goes on, and one that stopped
  abbrev going : CaseModel → ℕ → ℕ → ProgressModel
  going s events fits = record { name = name; machine = s; events = events; fits = fits; next = None }

  abbrev stopped : CaseModel → ℕ → ℕ → Reply → ProgressModel
  stopped s events fits r = record { name = name; machine = s; events = events; fits = fits; next = Some r }

  same_fit : (a b c d : ℕ) (next : Option Reply) → a ≡ b → c ≡ d → ◌≡◌ {A = CaseFit} (record { case = name; events = a; fits = c; next = next }) (record { case = name; events = b; fits = d; next = next })
  same_fit a b c d next e f = rw (e, f) refl

  still : (s : CaseModel) (events fits : ℕ) (r : Reply) (es : List LogEvent) → fit_of (fold (reach v) (stopped s events fits r) es) ≡ record { case = name; events = events + length es; fits = fits; next = Some r }
  still s events fits r [] = same_fit events (events + 0) fits fits (Some r) (omega arith) refl
  still s events fits r (e ∷ es) = still s (events + 1) fits r es ∙ same_fit (events + 1 + length es) (events + suc (length es)) fits fits (Some r) (omega arith) refl

  gone : (s : CaseModel) (events fits : ℕ) (es : List LogEvent)
      → fit_of (fold (reach v) (going s events fits) es) ≡ record { case = name; events = events + length es; fits = fits + accepted (replies v s es); next = refusal (replies v s es) }
  gone s events fits [] = same_fit events (events + 0) fits (fits + 0) None (omega arith) (omega arith)
  gone s events fits (e ∷ es) = either (goes_on (answered v s e).1) (answered v s e) (gone (answered v s e).0 (events + 1) (fits + 1) es) (still (answered v s e).0 (events + 1) fits (answered v s e).1 es)
    where
      -- whether the first event is accepted or not
      either : (b : Bool) (step : CaseModel × Reply)
          → fit_of (fold (reach v) (going step.0 (events + 1) (fits + 1)) es) ≡ record { case = name; events = events + 1 + length es; fits = fits + 1 + accepted (replies v step.0 es); next = refusal (replies v step.0 es) }
          → fit_of (fold (reach v) (stopped step.0 (events + 1) fits step.1) es) ≡ record { case = name; events = events + 1 + length es; fits = fits; next = Some step.1 }
          → fit_of (fold (reach v) (if b then going step.0 (events + 1) (fits + 1) else stopped step.0 (events + 1) fits step.1) es)
          ≡ record { case = name; events = events + suc (length es); fits = fits + (if b then suc (accepted (replies v step.0 es)) else 0); next = (if not b then Some step.1 else refusal (replies v step.0 es)) }
      either true step more end = more ∙ same_fit (events + 1 + length es) (events + suc (length es)) (fits + 1 + accepted (replies v step.0 es)) (fits + suc (accepted (replies v step.0 es))) (refusal (replies v step.0 es)) (omega arith) (omega arith)
      either false step more end = end ∙ same_fit (events + 1 + length es) (events + suc (length es)) fits (fits + 0) (Some step.1) (omega arith) (omega arith)

  -- from the start
  pub as_told : (es : List LogEvent) → fit_of (fold (reach v) (opened_row v name) es) ≡ case_fit v name es
  as_told es = gone (opened v) 0 0 es ∙ same_fit (0 + length es) (length es) (0 + accepted (replies v (opened v) es)) (accepted (replies v (opened v) es)) (refusal (replies v (opened v) es)) (omega arith) (omega arith)
