use Rattle.turn_loop.proofs.{Common.{◌++◌, ◌∙◌, ap, arith, take}, Kept.kept-more}
use Rattle.turn_loop.proofs.begun.Begun.extend.Goals as goal

pub returns : goal.returns
returns c =
    let kept = c.self.inside.bytes.items in
    c.in_ok-extend_from_slice.ensures.items ∙ ap (λ f. kept ++ f) c.split_at.ensures.front
    ∙ kept-more 8388609 c.min.result kept c.args.bytes.now c.self.invariant (omega (arith, c.min.ensures, c.len.ensures))
    ∙ ap (λ l. take 8388609 (l ++ c.args.bytes.now)) c.self.view_is
