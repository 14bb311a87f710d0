-- The names that most contracts and proofs of the crate cite, passed on from one place. Declares nothing.
pub use Rattle.adept_io.specs.Written.{Gives}
pub use Rattle.audit_model.specs.Asked.{actor_of, and_told, Asked, asked_lines, asked_phases, asks, case_event_of, first_of, IsModest, kind_event_in, left_to_tell, owed_case, owed_kind, rest_of, Telling, told_at, told_by, told_in, told_to}
pub use Rattle.audit_model.specs.{Asked.version_for, Common.{actor_name, ActorDecl, age, AllRows, and_then, ArePlaced, AreTurns, behind_front, Bytes, caller_text, calls_of, cards_of, case_after, case_among, case_head, case_line}}
pub use Rattle.audit_model.specs.Common.{case_reply, case_totals, CaseDecl, CaseEntry, CaseId, CaseModel, Cells, cells_of, changed_at, changed_where, ClosedCase, ClosedKind, CountedCase, CutLines, defined, each_among, end_text, ending}
pub use Rattle.audit_model.specs.Common.{entry, feeds, File, file, FileRefusal, filled, first_line, Followed, Follows, front_line, front_of, has_case, has_id, has_kind, how_many, is_among, is_case, IsAuditable, IsFirstWrong, IsKnown}
pub use Rattle.audit_model.specs.Common.{IsWorkable, kind_after, kind_among, kind_line, kind_reply, KindEntry, left_of, Line, line_start, lines_of, migration_totals, not_defined, numbered_from, one_added, one_left, one_taken, passed}
pub use Rattle.audit_model.specs.{Common.{program, put_back, queue_in, queue_of, Reader, Run, summary, Tells, type_head, TypeDecl, uncalled, VersionModel, weight, with_line, with_lines}, Journaled.{cases, FollowedBy, GrowsTo, InCases}}
pub use Rattle.audit_model.specs.{Journaled.{InKinds, InPhase, InPhases, IsSteady, kinds, LineJudged, next_of, owed_lines, PhaseJudged, StopsAt}, Printed.{begins, caller_from, caller_in, kind_shown}, ReportReader.case_journal}
pub use Rattle.audit_model.specs.{ReportReader.{case_reader, cases_behind, cases_reader, defined_line, journal_of, kind_journal, kind_reader, kinds_reader, report_reader, telling}, Reports.IsReport}
pub use Rattle.case_audit.specs.Asking.{all_told, all_turns, asked_by, asked_in, asked_of, deques_of, journal_told, left_by, left_in, next_version, no_queues, none_told, Queues, queues_of, script_by, script_of, shown_of, told_versions}
pub use Rattle.case_audit.specs.{Asking.{with_told, with_turn, with_version}, Callers.{begins_with_word, named_from}, Endings.{EndsAudit, IsRefused, IsVerdictOn, TellsBytes, TellsOne, TellsReport}, Owing.{called_case, calls_decl, calls_in}}
pub use Rattle.case_audit.specs.{Owing.{calls_number, case_put, declared_at, given, kind_put, moved_type, numbered_of, numbers, owed_of, put_line, put_where}, Parts.{before_report, begins_report, file_length, file_part, is_too_long}}
pub use Rattle.case_audit.specs.{Parts.{most_bytes, most_in_file, most_in_report, report_part}, Sections.{AreOwed, AreSections, CanJudge, HasScript, IsCaseAt, IsModestOwed, IsModestScript, IsSection}, Statuses.{end_status, of_file}}
pub use Rattle.case_audit.specs.Pieces.{piece_text}
pub use Rattle.case_audit.specs.Verdicts.{CanAudit, IsJudged, IsRead, IsVerdict, verdict_text}
