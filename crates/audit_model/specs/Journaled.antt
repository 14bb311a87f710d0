-- How far a journal is gone along, of a type or of a case.
use Rattle.std.specs.Prelude.{◌≡◌, ◌==◌, Bool, length, ℕ, ◌+◌, ◌*◌, ◌≤◌, suc, true, false, List, ◌∷◌, ◌++◌, drop, map, Option, Some, None, option_map}
use Rattle.audit_model.specs.Common.{Bytes, Followed, followed, left_of, same_front, age, AreTurns, case_after, case_line, case_reply, CaseModel, ClosedCase, ClosedKind, CountedCase, Entry, Event, File, Follows, front_of, kind_after}
use Rattle.audit_model.specs.{Common.{kind_line, kind_reply, KindEvent, KindModel, KindReply, Line, queue_of, Reaches, Reader, Reply, rest_journal, with_entries}, Asked.{actor_of, Asked, case_event_of, kind_event_of, line_of}}
use Rattle.audit_model.specs.{Kept.KeptCase, Printed.{caller_in, case_shown, kind_shown}, ReportReader.{case_reader, in_row, kind_reader}}
use Rattle.case_core.specs.declared.views.View.{View}

-- ---- what is found of a report, piece by piece
-- A piece was followed: the place moved as far as the text is the piece, and it is told whether all of it stands there.
abbrev pub FollowedBy : Bytes → Followed → Followed → Bool → Type 0
FollowedBy piece old new stands = (new ≡ followed piece old) × (stands ≡ (same_front piece (left_of old) == length piece))

-- ---- how far a journal is gone along, of a type or of a case
-- a machine with its journal, as who reads its lines has them: what the lines of the script are to it, whose each is and which event, and
-- how an entry is shown, and printed
pub record Journaled (M E R W S L C : Type 0) : Type 0 where
  pub file : File
  pub machine : C → S
  pub journal : C → List (Entry M E R W S)
  pub after : S → E → S
  pub reply : S → E → R
  pub line : Asked → L
  pub lines : List Asked → List L
  pub phases : List (List Asked) → List (List L)
  pub actor : L → ℕ
  pub event : L → Option E
  pub shown : ℕ → Entry M E R W S → Bytes
  pub printed : ℕ → Entry M E R W S → Bytes

abbrev pub owed_lines : List (List Asked) → List (List Line)
owed_lines owed = map (map line_of) owed

-- a type reads lines without what was told, a case with it
abbrev pub kinds : File → Journaled KindModel KindEvent KindReply ℕ KindModel Line ClosedKind
kinds f = record {
  file = f;
  machine = λ k. k.machine;
  journal = λ k. k.journal;
  after = kind_after;
  reply = kind_reply;
  line = line_of;
  lines = map line_of;
  phases = owed_lines;
  actor = λ l. l.actor;
  event = kind_event_of;
  shown = kind_shown f;
  printed = kind_line f;
}

abbrev pub cases : File → Journaled CountedCase Event Reply View CaseModel Asked ClosedCase
cases f = record {
  file = f;
  machine = λ c. c.machine;
  journal = λ c. c.journal;
  after = case_after;
  reply = case_reply;
  line = λ l. l;
  lines = λ ls. ls;
  phases = λ ps. ps;
  actor = actor_of;
  event = case_event_of f;
  shown = case_shown f;
  printed = case_line f;
}

module _ {M E R W S L C : Type 0} (j : Journaled M E R W S L C) where
  -- the reader of what is owed to a machine as it stands
  abbrev pub rest : C → List (List L) → Reader (List (Entry M E R W S) × S)
  rest c owed = rest_journal j.after j.reply j.actor j.event (caller_in j.file) j.shown (length (j.journal c) + 1) (j.machine c) owed

  abbrev pub behind_them : List (Entry M E R W S) → List (Entry M E R W S) × S → List (Entry M E R W S) × S
  behind_them es made = with_entries j.after j.reply j.actor j.event (caller_in j.file) j.shown es made

  -- its journal grew by entries whose lines were gone along
  abbrev pub GrowsTo : C → Followed → C → Followed → (List (List L) → List (List L)) → (List (List L) → List (List L)) → Type 0
  GrowsTo from old to new owed more = (es : List (Entry M E R W S)) × (j.journal to ≡ j.journal from ++ es)
      × ((later : List (List L)) → Reaches (rest from (owed later)) old (rest to (more later)) new (behind_them es))

  -- the line that stands there is wrong
  abbrev pub StopsAt : C → Followed → Followed → (List (List L) → List (List L)) → Type 0
  StopsAt from old new owed = (later : List (List L)) → Follows (rest from (owed later)) old new None

  -- a line was judged, where this is owed in the phase
  abbrev pub LineJudged : C → Followed → C → Followed → List (List Asked) → List Asked → Bool → Type 0
  LineJudged from old to new queues phase true = (others : List Asked) × (length phase ≡ suc (length others)) × AreTurns actor_of (length j.file.actors) queues others
      × GrowsTo from old to new (λ later. j.lines phase ∷ later) (λ later. j.lines others ∷ later)
  LineJudged from old to new queues phase false = StopsAt from old new (λ later. j.lines phase ∷ later)

  -- a phase was
  abbrev pub PhaseJudged : C → Followed → C → Followed → List Asked → Bool → Type 0
  PhaseJudged from old to new phase true = GrowsTo from old to new (λ later. j.lines phase ∷ later) (λ later. later)
  PhaseJudged from old to new phase false = StopsAt from old new (λ later. j.lines phase ∷ later)

  -- so many lines of the phase were
  abbrev pub InPhase : C → Followed → C → Followed → List (List Asked) → List Asked → ℕ → Type 0
  InPhase from old to new queues phase n = (others : List Asked) × (length others + n ≡ length phase) × AreTurns actor_of (length j.file.actors) queues others
      × GrowsTo from old to new (λ later. j.lines phase ∷ later) (λ later. j.lines others ∷ later)

  -- so many phases were
  abbrev pub InPhases : C → Followed → C → Followed → List (List Asked) → ℕ → Type 0
  InPhases from old to new owed n = GrowsTo from old to new (λ later. j.phases owed ++ later) (λ later. j.phases (drop n owed) ++ later)

-- whose next line it is, where a text shows a caller
abbrev pub next_of : List (List Asked) → Option ℕ → Option (ℕ × Asked)
next_of queues None = None
next_of queues (Some a) = option_map (λ l. (a, l)) (front_of (queue_of queues a))

-- what the case keeps of values stands in one line, and it is no older than so many lines make it
abbrev pub IsSteady : ClosedCase → Type 0
IsSteady c = KeptCase c.machine × (age c.machine ≤ 768 * length c.journal)

-- so many of a row were gone along, of the types, and of the cases
abbrev pub InRow : {D A : Type 0} → (ℕ → D → Reader A) → List D → Followed → Followed → List A → ℕ → Type 0
InRow one ds old new xs n = Reaches (in_row one 0 ds) old (in_row one n (drop n ds)) new (λ more. xs ++ more)

abbrev pub InKinds : File → Followed → Followed → List ClosedKind → ℕ → Type 0
InKinds f old new ks n = InRow (kind_reader f) f.types old new ks n

abbrev pub InCases : File → List (List Asked) → Followed → Followed → List ClosedCase → ℕ → Type 0
InCases f phases old new cs n = InRow (λ n d. case_reader f phases d) f.cases old new cs n
