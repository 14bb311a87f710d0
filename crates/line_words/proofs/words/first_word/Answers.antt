use Rattle.std.proofs.Common.{sym, rules}
use Rattle.file_words.proofs.WordSplits.{first_word_split}
use Rattle.line_words.proofs.words.first_word.Goals as goal

pub returns : goal.returns
returns c = rw (sym c.without_blanks-rest.ensures.same, c.split_at.ensures.front, c.split_at.ensures.back, c.word_end.ensures.end) (first_word_split c.without_blanks-rest.result.now c.without_blanks-rest.ensures.word (search rules))
