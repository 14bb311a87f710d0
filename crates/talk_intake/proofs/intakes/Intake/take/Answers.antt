use Rattle.std.proofs.Common.{◌≤◌, ◌++◌, ◌∙◌, ap, length, subst, sym, take, Option, ℕ}
use Rattle.std.specs.Prelude.{IfSome}
use Rattle.talk_intake.proofs.Ends.{item_within, same_taken, take_taken}
use Rattle.talk_intake.proofs.intakes.Intake.take.Goals as goal

pub invariant_of-self-in_default : goal.invariant_of-self-in_default
invariant_of-self-in_default c =
    let before = c.self.inside.scanner in
    let front = c.front_of.result.now in
    c.in_default.ensures ∙ ap (λ l. take 8388609 (l ++ front)) c.self.invariant ∙ take_taken 8388609 before front
    ∙ ap (λ l. take 8388609 (before ++ l)) (c.front_of.ensures ∙ sym (same_taken c.scan-end.result c.args.bytes.now))
    ∙ ap (take 8388609) (sym c.scan-end.ensures.bytes)

pub returns-clause-within : goal.returns-clause-within
returns-clause-within c =
    subst (λ (o : Option ℕ). IfSome o (λ n. n ≤ length c.args.bytes.now)) (sym c.scan-end.ensures.end) (item_within c.self.inside.scanner c.args.bytes.now)
