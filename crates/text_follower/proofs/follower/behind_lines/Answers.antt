use Rattle.std.proofs.Common.{◌≡◌, drop, ap, ◌∙◌, arith}
use Rattle.text_follower.proofs.Fronts.{no_line}
use Rattle.text_follower.specs.Followed.{behind_lines}
use Rattle.text_follower.proofs.follower.behind_lines.Goals as goal

pub returns-after-loop-left-clause-place : goal.returns-after-loop-left-clause-place
returns-after-loop-left-clause-place c =
    let rest = drop c.loop-left.place c.args.bytes.now in
    let wanted : c.loop-left.left ≡ 0 = omega (arith, c.loop-left-test.false) in
    let none : behind_lines c.loop-left.left rest ≡ 0 = ap (λ n. behind_lines n rest) wanted ∙ no_line rest in
    let so_far = c.loop-left.invariant.place in
    omega (arith, so_far, none)
