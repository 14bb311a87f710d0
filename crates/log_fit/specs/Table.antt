-- How far the cases of a log go, as CSV.
use Rattle.std.specs.Prelude.{ℕ, List, ◌++◌, flat_map, Option, Some, None, codes, decimal}
use Rattle.case_core.specs.declared.replies.Reply.{Reply}
use Rattle.case_core.specs.declared.replies.Reply.TheVariants as reply
use Rattle.file_model.specs.declared.files.File.{File}
use Rattle.file_words.specs.Lines.{Bytes}
use Rattle.log_fit.specs.declared.fits.CaseFit.{CaseFit}
use Rattle.report_text.specs.Journals.{reply_text}

-- the holder that an answer tells
abbrev pub holder : Reply → Option ℕ
holder (reply.NotHolder user) = Some user
holder _ = None

-- an answer as a report has it, but with a holder's number
abbrev pub text_by : Bytes → Option ℕ → Bytes
text_by reported (Some user) = codes "not-holder " ++ decimal user
text_by reported None = reported

abbrev pub answer_text : File → Reply → Bytes
answer_text f r = text_by (reply_text f r) (holder r)

abbrev pub next_text : File → Option Reply → Bytes
next_text f None = codes ""
next_text f (Some r) = answer_text f r

abbrev pub fit_line : File → CaseFit → Bytes
fit_line f c = c.case ++ (codes "," ++ (decimal c.events ++ (codes "," ++ (decimal c.fits ++ (codes "," ++ (next_text f c.next ++ codes "\n"))))))

abbrev pub table : File → List CaseFit → Bytes
table f fits = codes "case,events,fits,next\n" ++ flat_map (fit_line f) fits
