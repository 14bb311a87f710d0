use Rattle.turn_loop.proofs.Common.{ap, arith, Consumes-nil, inl, length, length-drop, length-take, refl, take}
use Rattle.turn_loop.proofs.waiting.Waiting.fill.Goals as goal

pub returns-then-self-clause-filled : goal.returns-then-self-clause-filled
returns-then-self-clause-filled g c =
    let i = c.self.inside in
    inl
    (record {
      some = λ none.
          omega (arith, ap length none, ap (λ w. length w.bytes) c.self.view_is, length-drop i.from (take i.to i.bytes.items), length-take i.to i.bytes.items, c.self.invariant, c.if-self.true);
      same = refl;
      kept = Consumes-nil (g.S.Source.left c.args.source.now);
    })
