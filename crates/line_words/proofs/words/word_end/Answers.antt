use Rattle.std.proofs.Common.{◌≡◌, ◌∙◌, sym, arith}
use Rattle.file_words.specs.Words.{bare_end}
use Rattle.file_words.proofs.WordSplits.{bare_first, bare_whole}
use Rattle.line_words.proofs.words.word_end.Goals.{else-front-line-via-then-front-line+else-line-front-eq34, else-front-line-via-else-front-line}
use Rattle.line_words.proofs.words.word_end.Goals as goal

pub returns-then-line-front-eq34-clause-end : goal.returns-then-line-front-eq34-clause-end
returns-then-line-front-eq34-clause-end c = c.quoted_end.ensures.end ∙ rw c.bare_end-front.ensures.end (bare_first c.args.line.now)

pub returns-else-front-line-clause-end : goal.returns-else-front-line-clause-end
returns-else-front-line-clause-end c =
    let is : c.bare_end-front.result ≡ bare_end c.args.line.now = c.bare_end-front.ensures.end in
    elim c.else-front-line.branch [
      | else-front-line-via-then-front-line+else-line-front-eq34 w ↦ is ∙ sym (bare_whole c.args.line.now (λ _ same. (rw is at w.if-line-front-eq34.false) same))
      | else-front-line-via-else-front-line w ↦ is ∙ sym (bare_whole c.args.line.now (λ lt _. absurd (omega arith)))
    ]
