-- The names that most proofs of the crate cite, passed on from one place. Declares nothing.
pub use Rattle.adept_io.proofs.Sent.{gives_then}
pub use Rattle.file_model.specs.{Reading.file_of, Room.count_of_names, declared.files.CaseDecl.CaseDecl, declared.files.File.File, declared.files.Line.Line, declared.files.TypeDecl.TypeDecl, declared.refusals.Refused.Refused}
pub use Rattle.file_model.specs.declared.states.Contents.{Contents}
pub use Rattle.file_units.specs.{Facts.IsReady, Taking.{Refuses, said_effort, Says, SaysBehind, SaysCase, SaysLine, SaysType}, Units.{no_units, said_line, settled, unit_read}, declared.held.Said.Said}
pub use Rattle.file_words.specs.Lines.{Bytes}
pub use Rattle.line_calls.specs.Calls.{call_of, cells_of}
pub use Rattle.report_text.specs.Report.{text}
pub use Rattle.report_words.proofs.Rows.{gives_as}
pub use Rattle.script_run.specs.{Calls.{acted, call_case, call_kind, called, changed_at, changed_where, each_of, newest, on_kind, put_back, told_to, worked}, Oldest.oldest, Serial.{defined, uncalled}, declared.runs.ClosedCase.ClosedCase}
pub use Rattle.script_run.specs.declared.runs.Run.{Run}
pub use Rattle.std.proofs.Common.{[], ℕ, ◌*◌, ◌++◌, ◌+◌, ◌-◌, ◌<◌, ◌^◌, ◌∙◌, ◌∷◌, ◌≡◌, ◌≢◌, ◌≤◌, ap, append-nil, append_assoc, arith, Bool, drop, Err, false, if◌then◌else◌, length, List, map, None, Ok, OnOk, Option, refl, Result, rules}
pub use Rattle.std.proofs.{Common.{Some, subst, suc, sym, take, true}, Math.Seq.{drop-append-add, drop-append_seam, drop-length, take-append_seam, take-length}, lemmas.Bool.{and_parts, le-ltb, lt-ltb, ltb-true}, lemmas.List.drop_min}
pub use Rattle.std.proofs.lemmas.List.{length-append, length-drop, length-map, length-set, map-append}
pub use Rattle.std.specs.Prelude.{◌&&◌, codes, flat_map, fold, IfSome, nat_lt, not, option_map, slice_get}
pub use Rattle.store_disk.specs.Image.{all_framed, framed}
pub use Rattle.talk_answers.specs.{Entries.{entries, if_there, kind_entry}, Lines.{no_line, ok_line, quoted}}
pub use Rattle.talk_questions.specs.Shown.{shown_asking, shown_question, shown_trial}
pub use Rattle.talk_rules.specs.Units.{fits, header, takes}
pub use Rattle.talk_state.specs.Answers.{answer_asked, answer_asking, answer_by, answer_known, answer_moved, answer_read, answer_tried, asked_text, called_text, case_part, entries_of, entries_read, held_rules, kind_installed, line_answer}
pub use Rattle.talk_state.specs.{Answers.{move_answer, moved_text, question_answer, type_part, unit_answer, what_if, within}, Held.{called_by, declared_behind, Held, held_after, held_behind, held_by, held_in, line_worked, nothing_held}}
pub use Rattle.talk_state.specs.{Held.{placed_in, placing_of, run_behind, with_unit}, States.{Holds, IsSound, State}, Telling.{known_in, told}, Working.{CanDefine, CanTry, CanWork, case_placed, kind_placed, last_of, said_called}}
pub use Rattle.talk_state.specs.Working.{said_worked, with_last}
pub use Rattle.unit_run.specs.{Runs.{no_run, Placing, types_of, with_case, with_kind}, Tries.{kind_before, put_back_kind, was_installed}}
