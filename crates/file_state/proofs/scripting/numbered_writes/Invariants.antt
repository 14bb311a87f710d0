use Rattle.std.proofs.Common.{◌≡◌, ◌++◌, length, map, drop}
use Rattle.wsm_lists.specs.Rows.{AllRows}
use Rattle.file_model.specs.{Room.HasRoom, ShortForms.IsShortWrite, Scripting.{with_elements, numbered}}
use Rattle.file_words.specs.Shown.{shown_pair}
use Rattle.file_state.proofs.scripting.numbered_writes.Given as goal

abbrev pub invariant-loop-word : goal.invariant-loop-word
invariant-loop-word l = record {
  noted : with_elements (map shown_pair (drop l.word-index l.words)) l.contents ≡ with_elements (map shown_pair l.words) l.initial.contents;
  short : AllRows IsShortWrite (map shown_pair (drop l.word-index l.words));
  room : HasRoom (length (drop l.word-index l.words)) l.contents;
  writes : l.writes ++ numbered (map shown_pair (drop l.word-index l.words)) l.contents ≡ numbered (map shown_pair l.words) l.initial.contents;
}
