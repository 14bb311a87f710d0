use Rattle.store_form.proofs.{Common.{◌-◌, ◌≡◌, many_at}, Loops.with_front}
use Rattle.store_form.proofs.lists.read_many.Given as goal

abbrev pub invariant-loop : goal.invariant-loop
invariant-loop g l = with_front l.items.items (many_at g.T.Part.reading (l.count - l.counter) l.rest) ≡ many_at g.T.Part.reading l.count l.from
