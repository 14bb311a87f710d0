-- The names that most proofs of the crate cite, passed on from one place. Declares nothing.
pub use Rattle.adept_io.proofs.Sent.{gives_then}
pub use Rattle.audit_facts.proofs.Auditable.{file-auditable}
pub use Rattle.audit_model.proofs.{JournalRight.{line-judged, next-is, without-call, without-event}, Lists.{by-test, if-either}, Modest.{called-rows, case-light, few-asked, few-filled, file-modest, front-row, kind-light, kind-owed}}
pub use Rattle.audit_model.proofs.{Modest.{steady-begun, steady-on, taken-rows, turns-rows}, Phases.{line-on, line-stops, phase-begun, phase-on, phase-stops, phase-whole, phases-begun, phases-whole}, Readable.{case-stopped, case-whole}}
pub use Rattle.audit_model.proofs.{Readable.{cases-readable, kind-stopped, kind-whole, kinds-readable, line-writes}, Rows.{given-follows, given-stops, given-then, given-wrong, row-begun, row-on, row-read, row-stops}, Texts.end-ends}
pub use Rattle.audit_model.proofs.Texts.{ends-behind, EndsLine, head-ends, header-ends, kind-line, summary-ends}
pub use Rattle.case_audit.specs.Common.{actor_name, actor_of, ActorDecl, all_told, all_turns, AllRows, and_then, and_told, AreOwed, ArePlaced, AreSections, AreTurns, Asked, asked_by, asked_in, asked_lines, asked_of, asked_phases, asks}
pub use Rattle.case_audit.specs.Common.{before_report, begins, begins_report, begins_with_word, behind_front, Bytes, called_case, caller_from, caller_in, caller_text, calls_decl, calls_in, calls_number, calls_of, CanAudit, cards_of}
pub use Rattle.case_audit.specs.Common.{case_among, case_head, case_journal, case_put, case_reader, case_reply, case_totals, CaseDecl, CaseEntry, CaseId, CaseModel, cases, cases_behind, cases_reader, Cells, cells_of, changed_at}
pub use Rattle.case_audit.specs.Common.{changed_where, ClosedCase, ClosedKind, CountedCase, CutLines, declared_at, defined, defined_line, deques_of, each_among, end_text, ending, EndsAudit, entry, feeds, File, file, file_length, file_part}
pub use Rattle.case_audit.specs.Common.{FileRefusal, filled, first_line, first_of, Followed, FollowedBy, Follows, front_line, front_of, given, GrowsTo, has_case, has_id, has_kind, HasScript, how_many, InCases, InKinds, InPhase, InPhases}
pub use Rattle.case_audit.specs.Common.{is_among, is_case, is_too_long, IsAuditable, IsCaseAt, IsFirstWrong, IsJudged, IsKnown, IsModest, IsModestOwed, IsModestScript, IsRead, IsRefused, IsReport, IsSection, IsSteady, IsVerdict}
pub use Rattle.case_audit.specs.Common.{IsVerdictOn, IsWorkable, journal_of, journal_told, kind_among, kind_journal, kind_put, kind_reader, kind_reply, kind_shown, KindEntry, kinds, kinds_reader, left_by, left_in, left_of, left_to_tell}
pub use Rattle.case_audit.specs.Common.{Line, line_start, LineJudged, lines_of, migration_totals, most_bytes, most_in_file, most_in_report, moved_type, named_from, next_of, next_version, no_queues, none_told, not_defined, numbered_from}
pub use Rattle.case_audit.specs.Common.{numbered_of, numbers, one_added, one_left, one_taken, owed_case, owed_kind, owed_lines, owed_of, passed, PhaseJudged, program, put_back, put_line, put_where, queue_in, queue_of, Queues, queues_of}
pub use Rattle.case_audit.specs.Common.{Reader, report_part, report_reader, rest_of, Run, script_by, script_of, shown_of, StopsAt, summary, Telling, telling, Tells, TellsBytes, TellsOne, TellsReport, told_at, told_by, told_in, told_to}
pub use Rattle.case_audit.specs.{Common.{told_versions, type_head, TypeDecl, uncalled, verdict_text, version_for, VersionModel, with_line, with_lines, with_told, with_turn, with_version}, declared.asked.AskedLine.AskedLine}
pub use Rattle.case_audit.specs.{declared.owed.Owed.Owed, declared.owed.PhaseCalls.PhaseCalls, declared.sections.Section.Section}
pub use Rattle.file_facts.proofs.Workable.{file-workable}
pub use Rattle.line_followers.proofs.{Numbered.{numbered-filled, numbered-lines}, Reaching.{follows-mapped, follows-stopped, follows-then}, Turns.{get-other, get-set, set-many, turn-added, turn-foreign}}
pub use Rattle.std.proofs.Common.{[], ℕ, ◌&&◌, ◌++◌, ◌+◌, ◌-◌, ◌<◌, ◌==◌, ◌||◌, ◌∙◌, ◌∷◌, ◌≡◌, ◌≢◌, ◌≤◌, add-one, ap, append-nil, append_assoc, arith, Bool, codes, cond, decimal, drop, eq-eqb, eqb-true, Err, false, filter, fold, get_or}
pub use Rattle.std.proofs.Common.{IfOk, IfSome, if◌then◌else◌, inl, inr, is_some, IsSome, length, length-append, List, map, MatchOption, nat_lt, ne_eqb, None, Ok, OnOk, Option, option_map, option_to_list, refl, replicate, Result, rules}
pub use Rattle.std.proofs.{Common.{set, slice_get, slice_set, Some, subst, suc, sym, take, true, Vec, zero}, Crossing.{crosses, frees}, lemmas.Bool.{and_right, cases_Bool, le-ltb, leb-true, lt-ltb}, lemmas.List.{drop_all, drop_more}}
pub use Rattle.std.proofs.{lemmas.List.{length-map, length-replicate, length-take-le, map-append, map-set, nil_from_length, set-get_or, set_past, take_more}, lemmas.List.FromFn.length-range_with_len, lemmas.Option.same_Some}
pub use Rattle.std.proofs.{lemmas.Option.{slice_get-get_or, slice_get_past}, lemmas.Result.{IfOk-weaker, on_ok_weaker}}
pub use Rattle.std.specs.List.{AllZip, list_all, position_from, range_with_len}
