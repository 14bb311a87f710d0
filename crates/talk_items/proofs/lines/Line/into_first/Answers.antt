use Rattle.talk_items.proofs.{Common.{◌≡◌, arith, take, words}, Fronts.four_told}
use Rattle.std.proofs.lemmas.Grind.{common_steps}
use Rattle.talk_items.proofs.lines.Line.into_first.Goals as goal

pub returns : goal.returns
returns c =
    let first : c.into_first.result.items ≡ take 4 (words c.args.self) = grind (arith, common_steps) in
    four_told c.into_first.result.items (words c.args.self) first
