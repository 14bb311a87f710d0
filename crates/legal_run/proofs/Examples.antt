-- A small run that is legal, and runs beside it that are not.
use Rattle.legal_run.proofs.Common.{[], ◌++◌, ◌∙◌, ◌∷◌, ◌≡◌, ap, AreTraces, arith, calls_of, calls_of_case, case_after, CaseEntry, CaseId, ClosedCase, ClosedKind, codes, done_by, entry, File, IsActor, IsWorkable, kind_after, KindEntry}
use Rattle.legal_run.proofs.{Common.{Legal, length, Line, List, not_created, not_defined, refl, Run, serial, state_after, subst, take, Trace, VersionModel}, Serial.serial-legal}
use Rattle.file_facts.proofs.Workable.{file-workable}
use Rattle.std.specs.Str.{is_utf8, chars}
use Rattle.wsm_schema.specs.{SchemaModel.{SchemaModel, plain}, Tree.{nothing, part}}
use Rattle.wsm_schema.specs.Tree.{act as activity}
use Rattle.wsm_sound.specs.{Faults.fault_of, Versions.first_version}
use Rattle.case_core.specs.declared.events.Event.TheVariants as event
use Rattle.case_core.specs.declared.replies.Reply.TheVariants as reply
use Rattle.file_model.specs.declared.files.Act.TheVariants as act
use Rattle.type_core.specs.declared.events.KindEvent.TheVariants as kind_event
use Rattle.type_core.specs.declared.replies.KindReply.TheVariants as kind_reply

-- In the first phase Ann creates the case, in the second Bob starts its node.
abbrev schema : SchemaModel
schema = plain 0 1 (part (activity 2) nothing)

abbrev the_case : CaseId
the_case = record { type_no = 0; place = 0 }

abbrev creation : Line
creation = record { at = 9; order = 1; actor = 1; act = act.Create the_case }

abbrev start : Line
start = record { at = 11; order = 2; actor = 2; act = act.Start the_case 2 }

abbrev a_file : File
a_file = record {
  format = 1;
  nodes = codes "start" ∷ codes "finish" ∷ codes "A" ∷ [];
  elements = [];
  roles = [];
  types = record { name = codes "t"; schema = schema } ∷ [];
  actors = record { name = codes "ann"; roles = [] } ∷ record { name = codes "bob"; roles = [] } ∷ [];
  cases = record { name = codes "c"; id = the_case } ∷ [];
  phases = (creation ∷ []) ∷ (start ∷ []) ∷ [];
}

abbrev version : VersionModel
version = first_version 0 schema

-- ---- a legal run
abbrev kind_journal : List KindEntry
kind_journal = entry 0 (kind_event.Define schema) kind_reply.Defined ∷ entry 1 kind_event.Newest (kind_reply.Is version) ∷ []

abbrev case_journal : List CaseEntry
case_journal = entry 1 (event.Create version) reply.Created ∷ entry 2 (event.Start 2 2 []) (reply.Started []) ∷ []

abbrev closed_kind : ClosedKind
closed_kind = record { machine = state_after kind_after (not_defined 0) kind_journal; journal = kind_journal }

abbrev case_with : List CaseEntry → ClosedCase
case_with journal = record { machine = state_after case_after (not_created 0) journal; journal = journal }

abbrev run_with : List CaseEntry → Run
run_with journal = record { kinds = closed_kind ∷ []; cases = case_with journal ∷ [] }

-- the file can be worked, and the run is its serial run
is_workable : IsWorkable a_file
unfolding is_utf8 chars lib.Utf8.encode fault_of
is_workable = file-workable (codes "adept 1\ntype t\nact A\nend\ncase c t\nactor ann\nactor bob\nphase\nann create c\nphase\nbob start c A\n") a_file refl

pub is_serial : serial a_file ≡ run_with case_journal
unfolding fault_of
is_serial = refl

pub is_legal : Legal a_file (run_with case_journal)
is_legal = subst (Legal a_file) is_serial (serial-legal a_file is_workable)

-- ---- runs that are not
abbrev creation_entry : CaseEntry
creation_entry = entry 1 (event.Create version) reply.Created

ann : IsActor a_file 1
ann = (omega arith, omega arith)

bob : IsActor a_file 2
bob = (omega arith, omega arith)

-- by whatever traces, Ann makes one call of the case, in the first phase, and Bob one in the second
record AreDone (ts : List Trace) : Type 0 where
  created : length (calls_of_case the_case (done_by 1 (take 1 ts))) ≡ 1
  none : done_by 2 (take 1 ts) ≡ []
  started : length (calls_of_case the_case (done_by 2 ts)) ≡ 1

are_done : (ts : List Trace) → AreTraces a_file a_file.phases ts → AreDone ts
are_done [] k = absurd k
are_done (u ∷ []) k = absurd k.1
are_done (u ∷ w ∷ x ∷ ts) k = absurd k.1.1
are_done (u ∷ w ∷ []) k =
    let (zs, ws, both, one, two) = k.0 1 ann in
    let waits : u 2 ≡ [] = k.0 2 bob in
    let (xs, ys, all, start, end) = k.1.0 2 bob in
    record { created = rw (both, one.2, two) refl; none = rw waits refl; started = rw (waits, all, start.1, end) refl }

-- an entry dropped: Bob's start
pub start_dropped : Legal a_file (run_with (creation_entry ∷ [])) → ⊥
start_dropped k =
    let c = k.cases 0 (record { name = codes "c"; id = the_case }) (case_with (creation_entry ∷ [])) refl refl in
    let none : 0 ≡ length (calls_of_case the_case (done_by 2 k.traces)) = ap length (c.calls.whole 2 bob) in
    let one = (are_done k.traces k.of_lines).started in
    omega arith

-- the phases in the other order: each reply is the machine's, and each call was made
abbrev turned : List CaseEntry
turned = entry 2 (event.Start 2 2 []) reply.NoCase ∷ creation_entry ∷ []

pub phases_turned : Legal a_file (run_with turned) → ⊥
phases_turned k =
    let c = k.cases 0 (record { name = codes "c"; id = the_case }) (case_with turned) refl refl in
    let b = c.calls.behind 1 (omega arith) in
    begins b.0 b.1.0 b.1.1 (b.2 1 ann) (b.2 2 bob)
  where
    begins : (start rest : List CaseEntry) → start ++ rest ≡ turned → calls_of 1 start ≡ calls_of_case the_case (done_by 1 (take 1 k.traces)) → calls_of 2 start ≡ calls_of_case the_case (done_by 2 (take 1 k.traces)) → ⊥
    begins [] rest e one two = let some = (are_done k.traces k.of_lines).created in let none : 0 ≡ length (calls_of_case the_case (done_by 1 (take 1 k.traces))) = ap length one in omega arith
    begins (x ∷ start) rest e one two =
        let is : x ≡ entry 2 (event.Start 2 2 []) reply.NoCase = cc (e) in
        let none : calls_of_case the_case (done_by 2 (take 1 k.traces)) ≡ [] = ap (calls_of_case the_case) (are_done k.traces k.of_lines).none in
        let some : calls_of 2 (entry 2 (event.Start 2 2 []) reply.NoCase ∷ start) ≡ [] = subst (λ y. calls_of 2 (y ∷ start) ≡ []) is (two ∙ none) in
        cc (some)
