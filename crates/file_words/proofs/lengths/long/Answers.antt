use Rattle.std.proofs.Common.{sym, arith}
use Rattle.file_words.proofs.WordLengths.{short_is_right}
use Rattle.file_words.proofs.lengths.long.Goals as goal

pub returns-then-word-le-MAX_NAME : goal.returns-then-word-le-MAX_NAME
returns-then-word-le-MAX_NAME c = sym (short_is_right c.args.word.now (omega arith))
