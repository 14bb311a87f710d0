-- Where a file may end.
use Rattle.std.specs.Prelude.{◌≡◌, Ok, Err}
use Rattle.file_words.specs.Lines.{Bytes}
use Rattle.file_model.specs.{Steps.at_place, Reading.{file_of, finished}, declared.refusals.Why.Why, declared.states.Contents.Contents, declared.states.Section.Section}

-- a file may end there, whatever its contents are
abbrev pub MayEnd : Section → Bytes → Type 0
MayEnd place left = (c : Contents) → finished (at_place place c) left ≡ Ok (file_of c)

abbrev pub MayNotEnd : Section → Bytes → Why → Type 0
MayNotEnd place left why = (c : Contents) → finished (at_place place c) left ≡ Err (why, c)
