-- The names that most proofs of the crate cite, passed on from one place. Declares nothing.
pub use Rattle.file_model.specs.{Outcomes.Stops, Reading.{file_up_to, fitting, read_from, step_in}, Room.count_of_names, Steps.{at_place, Step}, Typing.{fits_in, typed}}
pub use Rattle.file_words.specs.{Lines.{Bytes, CutLines, front_line, lines_of, onto_lines, put_first, without_return}, Shown.shown, Words.{behind, cuts, fields, is_word, onto_fields, words_of}}
pub use Rattle.std.proofs.{Common.{[], ℕ, ◌*◌, ◌+◌, ◌-◌, ◌==◌, ◌∙◌, ◌∷◌, ◌≡◌, ◌≤◌, ap, arith, Bool, false, filter, length, List, None, Ok, Option, rules, Some, subst, sym, take, true}, lemmas.List.{length-map, length-take}}
pub use Rattle.std.specs.{Borrow.Bor, Prelude.{IfErr, IfOk, IfSome, if◌then◌else◌, slice_index}}
