-- The names of files, machines, readers and texts that most statements of an audit cite, passed on from one place. Declares nothing.
pub use Rattle.audit_facts.specs.Facts.{IsAuditable, IsName, IsNamed, IsOneLineValue, IsOneLineWrite, WritesOneLine}
pub use Rattle.case_core.specs.{Ages.age, CaseModel.{CaseModel, created_on, is_finished, LiveModel, not_created, replay_of_case, state_of, value_now}, Instances.CountedCase, Machine.{case_after, case_reply, change_with, changed, end_on}}
pub use Rattle.case_core.specs.Machine.{end_refusal, ended_reply, ended_trail, event_on, failed_at, hold_refusal, holder_of, may_work, migrate_live, migrate_refusal, migrate_with, migrated, misfit, or_reply, overlap_reply, overlap_with}
pub use Rattle.case_core.specs.{Machine.{reads_now, repeats, start_entry, start_on, start_refusal, taken, when_reply, with_live, with_trail, withdraw_on, wrong_reply}, declared.events.Event.Event, declared.replies.Reply.Reply}
pub use Rattle.fault_words.specs.FaultWords.{after_space, block_words, data_words, element, fault_text, fault_words, limit_word, name_or, named, node, number, said, why_node, why_word, Word, word_text}
pub use Rattle.file_facts.specs.Facts.{ArePlaced, IsDeclared, IsKnown, IsKnownAct, IsSound, IsWorkable, lines_in}
pub use Rattle.file_limits.specs.declared.TheConstants.{FIRST_NAMED_ROLE, MAX_FILE_BYTES}
pub use Rattle.file_model.specs.{CaseCounts.{cases_of_type, has_id, is_among}, Outcomes.Tells, Reading.file, declared.files.Act.Act, declared.files.ActorDecl.ActorDecl, declared.files.CaseDecl.CaseDecl, declared.files.File.File}
pub use Rattle.file_model.specs.{declared.files.Line.Line, declared.files.TypeDecl.TypeDecl, declared.refusals.FileRefusal.FileRefusal}
pub use Rattle.file_words.specs.Lines.{Bytes, CutLines, front_line, lines_of, one_left, onto_lines, put_first}
pub use Rattle.legal_run.specs.{Legal.{AreTraces, done_by, HasCalls, IsActor, IsLegalCase, IsLegalKind, Legal, Trace}, LineCalls.{AreCallsOf, AreCallsOfLines, AreOf, asked, Call, calls_of_case, calls_of_kind, of_case, of_kind, told}}
pub use Rattle.legal_run.specs.LineCalls.{told_each}
pub use Rattle.line_calls.specs.{Calls.{asked_among, call_of, call_weight, case_among, case_event_in, cells_in, cells_of, each_among, has_case, has_kind, is_case, kind_among, kind_event_in, version_event}, Files.roles_of, Known.call_writes}
pub use Rattle.line_calls.specs.{Known.{is_install, IsKnownCall, IsPlain, written}, declared.calls.Cells.Cells}
pub use Rattle.line_followers.specs.{Filled.filled, Follows.{Follows, left_of, passed, Reaches}, Numbered.{numbered_from, with_line, with_lines}, Rests.{rest_journal, with_entries}, Turns.{AreTurns, behind_front, front_of, one_added}}
pub use Rattle.line_followers.specs.Turns.{one_taken, queue_in, queue_of}
pub use Rattle.line_readers.specs.{FirstWrong.{ended, first_wrong, IsFirstWrong}, Journals.{journal, shown}, Owed.{all_owed, first_by, how_many, lines_by, with_others}, Readers.{and_then, done, ending, expected, IsLive, IsOneLine, mapped}}
pub use Rattle.line_readers.specs.Readers.{Reader}
pub use Rattle.report_text.specs.{Ends.{end_text, item_text, items_line, marking_line, state_line, values_line}, Journals.{case_line, choice_text, entry_text, event_text, journal_line, kind_event_text, kind_line, kind_reply_text}}
pub use Rattle.report_text.specs.{Journals.{line_start, numbered, position_text, reply_text, wrong_choice}, Report.{case_head, case_text, cases_text, first_line, kind_text, kinds_text, side_by_side, summary, text, type_head}}
pub use Rattle.report_words.specs.{Migrations.with_fate, Totals.{case_totals, migration_totals}, Words.{actor_name, assigned, caller_text, element_is, element_text, escaped, is_escaped, letter, listed_element, node_and_element}}
pub use Rattle.report_words.specs.Words.{node_and_node, node_text, read_text, role_name, role_text, type_text, value_or_none, value_text}
pub use Rattle.script_run.specs.{Calls.{answered_version, changed_at, changed_where, put_back}, Entries.{CaseEntry, KindEntry}, Serial.{defined, program, uncalled}, declared.runs.ClosedCase.ClosedCase, declared.runs.ClosedKind.ClosedKind}
pub use Rattle.script_run.specs.declared.runs.Run.{Run}
pub use Rattle.text_follower.specs.Followed.{feeds, Followed, followed, same_front}
pub use Rattle.turn_cell.specs.{History.{calls_of, entry, IsLegal, state_after}, declared.journal.Entry.Entry}
pub use Rattle.type_core.specs.{KindModel.{KindModel, not_defined}, Machine.{kind_after, kind_reply, newest_of, weight}, declared.events.KindEvent.KindEvent, declared.replies.KindReply.KindReply}
pub use Rattle.wsm_foot.specs.declared.names.Name.{Name}
pub use Rattle.wsm_lists.specs.{Rows.{AllRows, key_eq, key_lt, put_row}, Values.{value_in, Written}, declared.values.Value.Value}
pub use Rattle.wsm_schema.specs.{Flat.{card_at, cards_of, flat_of, loop_nodes}, SchemaModel.{plain, SchemaModel}, Trail.{cut_by, cut_entry, is_one_of, later_or, pushed, TrailModel, value_below, written_by, wrote}}
pub use Rattle.wsm_sound.specs.{Faults.changed_by, VersionModel.VersionModel, declared.faults.Fault.Fault, declared.versions.CaseId.CaseId}
