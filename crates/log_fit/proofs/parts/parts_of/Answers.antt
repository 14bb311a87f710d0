use Rattle.log_fit.proofs.{Common.{◌≡◌, codes, false, front_line, is, lines_of, rules, true, without_return}, Parting.{found, passed}}
use Rattle.log_fit.proofs.parts.parts_of.Goals as goal

pub returns-then-eq-clause-parts : goal.returns-then-eq-clause-parts
returns-then-eq-clause-parts c =
    let cut : lines_of c.loop-line.rest.now ≡ front_line c.in-Some.line.now (lines_of c.in-Some.more.now) = c.in-Some.ensures.split in
    let same : is (codes "log") (without_return c.in-Some.line.now) ≡ true = search rules in
    rw c.split_at.ensures.front (found c.args.input.now c.loop-line.rest.now c.loop-line.invariant c.in-Some.line.now c.in-Some.more.now cut same)

pub loop-line-preserved : goal.loop-line-preserved
loop-line-preserved c =
    let cut : lines_of c.loop-line.rest.now ≡ front_line c.in-Some.line.now (lines_of c.in-Some.more.now) = c.in-Some.ensures.split in
    let other : is (codes "log") (without_return c.in-Some.line.now) ≡ false = search rules in
    passed c.args.input.now c.loop-line.rest.now c.loop-line.invariant c.in-Some.line.now c.in-Some.more.now cut other
