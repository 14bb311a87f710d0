use Rattle.talk_items.proofs.{Common.{IsScan, map, subst, sym}, Scanned.part-scanned}
use Rattle.talk_items.proofs.scanner.Scanner.begin_line.Goals as goal

pub invariant_of-self : goal.invariant_of-self
invariant_of-self c =
    let i = c.self.inside in
    let bytes = map (λ p. p.0) i.bytes.items in
    subst (λ l. IsScan l i.place i.first i.counted c.longer-self-inside.result c.extend.new.self) (sym c.note.ensures)
    (part-scanned bytes i.place i.first i.counted i.len i.line c.args.part.now c.longer-self-inside.result c.extend.new.self c.self.invariant c.requires c.longer-self-inside.ensures c.extend.ensures)
