use Rattle.std.proofs.{Common.{◌≡◌, ◌∙◌, ◌≤◌, length, arith, subst, sym}, lemmas.List.take_all}
use Rattle.talk_intake.proofs.intakes.Intake.bytes.Goals as goal

pub returns : goal.returns
returns c short =
    let within : length c.self.inside.scanner ≤ 8388608 = subst (λ l. length l ≤ 8388608) (sym c.self.view_is) short in
    c.as_slice.ensures ∙ c.self.invariant ∙ take_all 8388609 c.self.inside.scanner (omega (arith, within)) ∙ c.self.view_is
