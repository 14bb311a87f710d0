use Rattle.crew_run.proofs.{Common.{[], ℕ, ◌+◌, ◌-◌, ◌<◌, ◌∙◌, ◌∷◌, ◌≡◌, ap, arith, cut-at, drop, drop_of_length-le, get_or, IsKnown, length, length-set, refl, subst, TakesLine, Worker}, LineByLine.{IsAmong, crew-first, crew-last, crew-next, roles-at}}
use Rattle.adept_actor.proofs.Lines.{row-next}
use Rattle.crew_run.proofs.in_order.work_in_order.Goals as goal

pub loop-line-init : goal.loop-line-init
loop-line-init g c = record {
  many = c.forget_faults.auto.crew;
  among = crew-first c.args.server.now c.args.file.now c.args.lines.now c.args.crew.now c.forget_faults.new.crew c.forget_faults.ensures c.requires.ready;
}

pub loop-line-preserved : goal.loop-line-preserved
loop-line-preserved g c =
    let s = c.args.server.now in
    let f = c.args.file.now in
    let lines = c.args.lines.now in
    let k = c.loop-line.line-index in
    let l = c.line-item.result in
    let n = l.actor - 1 in
    let x = get_or c.loop-line.crew n c.index-crew-index.result in
    let y = c.take_line.new.worker in
    let left = drop (k + 1) lines in
    let split : drop k lines ≡ l ∷ left = cut-at c.as_slice-line-items.result.now lines k l c.as_slice-line-items.ensures c.loop-line-test.true c.line-item.is in
    let known : IsKnown (length f.types) (length f.actors) f.cases l = row-next (IsKnown (length f.types) (length f.actors) f.cases) lines left k l split c.requires.known in
    let actor : l.actor ≡ n + 1 = omega (arith, known.from_1) in
    let within : n < length c.args.crew.now = omega (arith, known.from_1, known.actor, c.requires.actors) in
    let roles = roles-at f c.as_slice.result.now (n + 1) n c.index-as_slice-index.result c.as_slice.ensures refl (omega (arith, within, c.requires.actors)) in
    let before = subst (λ ls. (i : ℕ) (d : Worker) → i < length c.args.crew.now → IsAmong s f lines ls (get_or c.args.crew.now i d) (get_or c.loop-line.crew i d)) split c.loop-line.invariant.among in
    record {
      many = length-set c.loop-line.crew n y ∙ c.loop-line.invariant.many;
      among =
          crew-next s f lines c.args.crew.now c.loop-line.crew l left k n x y split c.requires.ready actor c.loop-line.invariant.many within (ap (λ d. get_or c.loop-line.crew n d) c.index-crew-index.is) c.take_line.ensures.desk
          (subst (λ rs. TakesLine rs l x y x.fault) roles c.take_line.ensures.taken) before;
    }

pub returns : goal.returns
returns g c =
    let s = c.args.server.now in
    let f = c.args.file.now in
    let lines = c.args.lines.now in
    let ended : drop c.loop-line.line-index lines ≡ [] = drop_of_length-le lines (omega (arith, c.loop-line-test.false, ap length c.as_slice-line-items.ensures)) in
    crew-last s f lines c.args.crew.now c.loop-line.crew (λ i d low. subst (λ ls. IsAmong s f lines ls (get_or c.args.crew.now i d) (get_or c.loop-line.crew i d)) ended (c.loop-line.invariant.among i d low))
