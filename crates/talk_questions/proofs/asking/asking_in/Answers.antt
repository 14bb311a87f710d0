use Rattle.std.proofs.Common.{◌≡◌, ◌<◌, true, false, length, sym, ◌∙◌, arith, rules}
use Rattle.file_words.specs.{Lines.{front_line, lines_of, without_return}, Words.{is_skipped, words_of}}
use Rattle.talk_questions.proofs.{Asked.{found, passed}, LineBytes.line-within}
use Rattle.talk_questions.proofs.asking.asking_in.Goals as goal

pub returns-then-not-is_skipped-clause-asking : goal.returns-then-not-is_skipped-clause-asking
returns-then-not-is_skipped-clause-asking c =
    let split : lines_of c.loop-line.rest.now ≡ front_line c.in-Some.line.now (lines_of c.in-Some.more.now) = search rules in
    let says : is_skipped (words_of (without_return c.in-Some.line.now)) ≡ false = search rules in
    sym (found c.loop-line.rest.now c.in-Some.line.now c.in-Some.more.now split says) ∙ c.loop-line.invariant.asking

pub returns-then-not-is_skipped-clause-short : goal.returns-then-not-is_skipped-clause-short
returns-then-not-is_skipped-clause-short c =
    let split : lines_of c.loop-line.rest.now ≡ front_line c.in-Some.line.now (lines_of c.in-Some.more.now) = search rules in
    let less : length c.in-Some.more.now < length c.loop-line.rest.now = search rules in
    let short = c.loop-line.invariant.short in
    (short, omega (arith, short, line-within c.loop-line.rest.now c.in-Some.line.now c.in-Some.more.now split), omega (arith, short, less))

pub loop-line-preserved : goal.loop-line-preserved
loop-line-preserved c =
    let split : lines_of c.loop-line.rest.now ≡ front_line c.in-Some.line.now (lines_of c.in-Some.more.now) = search rules in
    let skipped : is_skipped (words_of (without_return c.in-Some.line.now)) ≡ true = search rules in
    let less : length c.in-Some.more.now < length c.loop-line.rest.now = search rules in
    let short = c.loop-line.invariant.short in
    record {
      asking = sym (passed c.loop-line.rest.now c.in-Some.line.now c.in-Some.more.now split skipped) ∙ c.loop-line.invariant.asking;
      short = omega (arith, short, less);
    }
