-- The names that most proofs of the crate cite, passed on from one place. Declares nothing.
pub use Rattle.audit_model.specs.Common.{Act, actor_name, ActorDecl, after_space, all_owed, AllRows, and_then, AreCallsOf, AreCallsOfLines, AreOf, ArePlaced, AreTraces, AreTurns, asked, asked_among, assigned, behind_front, block_words}
pub use Rattle.audit_model.specs.Common.{Bytes, Call, call_of, call_writes, caller_text, calls_of, calls_of_case, calls_of_kind, card_at, case_after, case_event_in, case_head, case_line, case_reply, case_text, case_totals, CaseDecl}
pub use Rattle.audit_model.specs.Common.{CaseEntry, CaseId, CaseModel, cases_of_type, cases_text, Cells, cells_in, cells_of, change_with, changed, changed_by, choice_text, ClosedCase, ClosedKind, created_on, cut_by, cut_entry, CutLines}
pub use Rattle.audit_model.specs.Common.{data_words, defined, done, done_by, element, element_is, element_text, end_on, end_refusal, end_text, ended, ended_reply, ended_trail, ending, Entry, entry, entry_text, escaped, Event, event_on}
pub use Rattle.audit_model.specs.Common.{event_text, failed_at, Fault, fault_text, fault_words, File, filled, first_by, first_line, FIRST_NAMED_ROLE, first_wrong, flat_of, Followed, followed, Follows, front_of, has_case, has_id, has_kind}
pub use Rattle.audit_model.specs.Common.{HasCalls, hold_refusal, how_many, is_case, is_escaped, is_finished, is_install, is_one_of, IsActor, IsAuditable, IsDeclared, IsFirstWrong, IsKnown, IsKnownAct, IsKnownCall, IsLegal}
pub use Rattle.audit_model.specs.Common.{IsLegalCase, IsLegalKind, IsLive, IsName, IsNamed, IsOneLine, IsOneLineValue, IsOneLineWrite, IsPlain, IsSound, IsWorkable, item_text, items_line, journal, journal_line, key_eq, key_lt, kind_after}
pub use Rattle.audit_model.specs.Common.{kind_event_in, kind_event_text, kind_line, kind_reply, kind_reply_text, kind_text, KindEntry, KindEvent, KindModel, KindReply, kinds_text, later_or, left_of, Legal, letter, limit_word, Line}
pub use Rattle.audit_model.specs.Common.{line_start, lines_by, lines_in, lines_of, listed_element, LiveModel, loop_nodes, mapped, marking_line, migrate_live, migrate_refusal, migrate_with, migrated, misfit, Name, name_or, named}
pub use Rattle.audit_model.specs.Common.{newest_of, node, node_and_element, node_and_node, node_text, not_created, not_defined, number, numbered, of_case, of_kind, one_taken, onto_lines, or_reply, overlap_reply, plain}
pub use Rattle.audit_model.specs.Common.{position_text, program, pushed, put_first, put_row, queue_of, Reaches, read_text, Reader, reads_now, repeats, replay_of_case, Reply, reply_text, rest_journal, role_name, role_text, roles_of, Run}
pub use Rattle.audit_model.specs.Common.{said, same_front, SchemaModel, shown, side_by_side, start_entry, start_on, start_refusal, state_after, state_line, summary, taken, text, told, told_each, Trace, TrailModel, type_head}
pub use Rattle.audit_model.specs.Common.{type_text, TypeDecl, Value, value_below, value_in, value_now, value_or_none, value_text, values_line, version_event, VersionModel, weight, when_reply, why_node, why_word, with_fate, with_live}
pub use Rattle.audit_model.specs.{Common.{with_others, with_trail, withdraw_on, Word, word_text, WritesOneLine, Written, written_by, wrong_choice, wrong_reply, wrote}, Asked.{actor_of, and_told, Asked, asked_lines, asked_phases, asks}}
pub use Rattle.audit_model.specs.Asked.{calls_case, calls_kind, case_event_of, first_of, IsModest, IsModestLine, kind_event_of, left_to_tell, line_of, owed_case, owed_kind, rest_of, Telling, told_at, told_by, told_in, version_for}
pub use Rattle.audit_model.specs.{Journaled.{behind_them, cases, FollowedBy, GrowsTo, InPhase, InPhases, InRow, IsSteady, Journaled, kinds, LineJudged, next_of, PhaseJudged, rest, StopsAt}, Kept.{IsOneLineRead, KeptCase, KeptEntry}}
pub use Rattle.audit_model.specs.{Kept.{KeptLive, KeptTrail, ShowsOneLine, WritesValues}, Printed.{begins, caller_from, caller_in, case_shown, kind_shown, shown_line}, ReportReader.{case_journal, case_made, case_reader, cases_behind}}
pub use Rattle.audit_model.specs.{ReportReader.{cases_reader, defined_line, given, in_row, journal_of, kind_behind, kind_journal, kind_reader, kinds_reader, report_reader, telling}, Reports.IsReport}
pub use Rattle.file_facts.proofs.Cases.{ids-distinct, row-at}
pub use Rattle.legal_run.proofs.{OnMachines.{calls_of_case-append, calls_of_kind-append}, Places.there-as, Told.{each-all, each-kind, entry_if, some-at, some-other}}
pub use Rattle.line_calls.proofs.Facts.{asked-known, case-light, cells-same, kind-light, kind_event-same, known-call, known-light, plain-call, writes-same}
pub use Rattle.line_followers.proofs.{Dues.{AreSame, filled-many, same-follows, same-journal}, Reaching.{follows-done, follows-mapped, follows-on, follows-stopped, follows-then, reaches-here, reaches-on}, Rests.{phase-over, reaches-last}}
pub use Rattle.line_followers.proofs.Rests.{reaches-same, rest-differs, rest-done, rest-line, rest-on, rest-wrong}
pub use Rattle.line_readers.proofs.{Answers.{Answers, answers, answers-whole, Fit, IsWhole}, Journals.{IsGood, journal-live, journal-takes, lines_from, mapped-live, mapped-takes, takes-journal, takes-mapped}}
pub use Rattle.line_readers.proofs.{Lines.cut-together, Owed.{by-append, first-is}, Sequences.{expected-live, expected-takes, takes-expected, takes-then, then-live, then-takes}, Taking.Takes}
pub use Rattle.std.proofs.{lemmas.Bool.{and_from, and_parts, cases_Bool, or_cases}, lemmas.List.{drop_all, drop_more, length-map, take-map}, lemmas.List.Elements.{filter-append, All-from_recursion, recursion_from_All}}
pub use Rattle.std.proofs.{lemmas.List.Sums.{count_by_more_no, count_by_more_yes, sum_by-cons}, lemmas.Option.{get_or_from_slice_get, same_Some, slice_get-map, slice_get_cases, slice_get_within}}
pub use Rattle.std.specs.{Fmt.{digit_glyph, digits_onto, signed_decimal}, List.{list_all, list_any}, Option.option_or}
pub use Rattle.type_core.proofs.Versions.{by-event, newest-told, sound-defined}
pub use Rattle.wsm_lists.proofs.Lists.{all-rows-map, all_rows, rows-append, rows-map}
pub use Rattle.audit_model.proofs.Lists.{all-by, by-test, if-either, keeps, drops, filter-swap, filter-rows, filter-phases, owed-rows, rows-filter, rows-owed, both-phases, take-known}
