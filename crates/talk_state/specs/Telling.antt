-- What is told of a state.
use Rattle.std.specs.Prelude.{[], ◌++◌, drop, Option, Some, None, option_map}
use Rattle.file_words.specs.Lines.{Bytes}
use Rattle.file_names.specs.Names.{place_of}
use Rattle.file_model.specs.{Reading.file_of, Scripting.actor_in, declared.states.Contents.Contents}
use Rattle.report_text.specs.Report.{text}
use Rattle.talk_answers.specs.{Lines.quoted, Standings.{actors_text, all_standings, items, standings_of, types_text}}
use Rattle.talk_questions.specs.Questions as question
use Rattle.talk_state.specs.{Answers.{case_part, entries_of, type_part}, States.State, declared.questions.Asked.Asked}
use Rattle.talk_state.specs.declared.questions.Asked.TheVariants as ask

-- what is asked for, where the names are known
abbrev pub known_in : Contents → question.Asked → Option Asked
known_in c question.report = Some ask.Report
known_in c (question.of_type n) = option_map ask.«Type» (place_of c.types.names n)
known_in c (question.of_case n) = option_map ask.Case (place_of c.cases.names n)
known_in c question.cases = Some ask.Cases
known_in c (question.cases_of n) = option_map ask.CasesOf (place_of c.types.names n)
known_in c question.items = Some ask.Items
known_in c (question.items_of n) = option_map ask.ItemsOf (actor_in n c)
known_in c question.types = Some ask.Types
known_in c question.actors = Some ask.Actors
known_in c question.count = Some ask.Count
known_in c question.last = Some ask.Last
known_in c question.lines = Some ask.Lines

-- and the lines that are told of it
abbrev pub told : State → Asked → Bytes
told s ask.Report = text (file_of s.contents) s.placing.run
told s (ask.«Type» t) = type_part (file_of s.contents) s.placing.run t
told s (ask.Case place) = case_part (file_of s.contents) s.placing.run place
told s ask.Cases = all_standings (file_of s.contents) s.placing
told s (ask.CasesOf t) = standings_of (file_of s.contents) s.placing t
told s ask.Items = items (file_of s.contents) None s.placing
told s (ask.ItemsOf a) = items (file_of s.contents) (Some a) s.placing
told s ask.Types = types_text (file_of s.contents) s.placing
told s ask.Actors = actors_text (file_of s.contents)
told s ask.Count = []
told s ask.Last = quoted (drop s.last s.bytes) ++ entries_of (file_of s.contents) s.placing s.called
told s ask.Lines = quoted s.bytes
