-- What is written of a file whose types are sound and of its installs.
use Rattle.std.specs.Prelude.{List, ◌++◌, flat_map, codes, decimal}
use Rattle.file_words.specs.Lines.{Bytes}
use Rattle.file_model.specs.{declared.files.File.File, declared.files.TypeDecl.TypeDecl}
use Rattle.report_text.specs.Journals.{kind_reply_text}
use Rattle.report_words.specs.Words.{type_text}
use Rattle.script_run.specs.declared.runs.Verdict.{Verdict}

-- the first version of a type
abbrev pub sound_line : TypeDecl → Bytes
sound_line d = codes "type " ++ (d.name ++ codes " 1 sound\n")

-- what a type answers to a line of the file
abbrev pub verdict_head : File → Verdict → Bytes
verdict_head f v = codes "line " ++ (decimal v.at ++ ((codes " " ++ type_text f v.type_no) ++ codes " "))

abbrev pub verdict_line : File → Verdict → Bytes
verdict_line f v = verdict_head f v ++ (kind_reply_text f v.reply ++ codes "\n")

abbrev pub check_text : File → List Verdict → Bytes
check_text f verdicts = flat_map sound_line f.types ++ flat_map (verdict_line f) verdicts
