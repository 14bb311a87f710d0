-- The lines of journals as they are printed, without their line feeds, and whose call a line shows.
use Rattle.std.specs.Prelude.{ℕ, ◌+◌, Bool, List, [], ◌∷◌, ◌++◌, length, take, Option, Some, None, if◌then◌else◌, bytes_eq, codes}
use Rattle.audit_model.specs.Common.{ActorDecl, Bytes, CaseEntry, event_text, File, kind_event_text, kind_reply_text, KindEntry, line_start, reply_text}

abbrev pub shown_line : File → ℕ → ℕ → Bytes → Bytes → Bytes
shown_line f k caller event reply = line_start f k caller ++ (event ++ (codes " -> " ++ reply))

abbrev pub kind_shown : File → ℕ → KindEntry → Bytes
kind_shown f k e = shown_line f k e.caller (kind_event_text e.event) (kind_reply_text f e.reply)

abbrev pub case_shown : File → ℕ → CaseEntry → Bytes
case_shown f k e = shown_line f k e.caller (event_text f e.event) (reply_text f e.reply)

-- whether a line begins so
abbrev pub begins : Bytes → Bytes → Bool
begins front line = bytes_eq (take (length front) line) front

-- the actor, of those from a number on, whose call with number k a line shows
abbrev pub caller_from : File → ℕ → Bytes → ℕ → List ActorDecl → Option ℕ
caller_from f k line a [] = None
caller_from f k line a (d ∷ ds) = if begins (line_start f k a) line then Some a else caller_from f k line (a + 1) ds

abbrev pub caller_in : File → ℕ → Bytes → Option ℕ
caller_in f k line = caller_from f k line 1 f.actors
