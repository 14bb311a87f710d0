use Rattle.std.proofs.Common.{sym}
use Rattle.file_words.proofs.LineSplits.{no_line, a_line}
use Rattle.file_words.proofs.lines.first_line.Goals as goal

pub returns-in-empty-clause-split : goal.returns-in-empty-clause-split
returns-in-empty-clause-split c = no_line c.args.bytes.now c.split_at.result.1.now (rw (sym c.line_end.ensures.end) c.split_at.ensures.back) c.in-empty.len_below

pub returns-in-len1-up-clause-split : goal.returns-in-len1-up-clause-split
returns-in-len1-up-clause-split c =
    a_line c.args.bytes.now c.split_at.result.0.now c.split_at.result.1.now (rw (sym c.line_end.ensures.end) c.split_at.ensures.front) (rw (sym c.line_end.ensures.end) c.split_at.ensures.back) c.in-len1-up.len_at_least
