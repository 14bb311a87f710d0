use Rattle.unit_run.proofs.{Common.{◌+◌, ◌<◌, ◌∙◌, ◌≡◌, ◌≤◌, ap, arith, call_case, changed_at, get_or, IsOf, length, oldest, oldest-each_of, on_each, Placing, refl, subst, sym, take, take_all, weight, young-at}, Called.each-called}
use Rattle.unit_run.proofs.{Called.of_parts, Each.{all-called, one_more, still-there}, Placed.changed_all}
use Rattle.unit_run.proofs.runs.UnitRun.on_each.Goals as goal

pub loop-place-init : goal.loop-place-init
loop-place-init c = record { kinds = refl; cases = refl }

pub on_case_at-requires : goal.on_case_at-requires
on_case_at-requires c =
    let f = c.args._file.now in
    let cs = c.self.inside.run.cases.items in
    let of : IsOf f.cases (record { run = of_parts c.self.inside.run.kinds.items cs; placed = c.self.inside.places }) = subst (IsOf f.cases) (sym c.self.view_is) c.requires.of in
    let items = c.first_of_kind-place-items.result.now in
    let i = c.loop-place.place-index in
    let low : i < length items = omega (arith, c.loop-place-test.true) in
    let same = ap (λ (p : Placing). p.run.cases) c.self.view_is in
    let still = still-there c.args.type_no c.args.many (call_case c.args.caller c.args.event.now) f.cases cs c.self.inside.places.types of.types of.placed of.many items c.first_of_kind-place-items.ensures i low in
    rw (c.in_ok-event.ensures, c.loop-place.invariant.cases, still)
    (young-at cs (get_or items i 0) (weight c.args.event.now) 4000000000 (subst (λ xs. oldest xs + weight c.args.event.now ≤ 4000000000) (sym same) c.requires.age))

pub loop-place-preserved : goal.loop-place-preserved
loop-place-preserved c =
    let cs = c.self.inside.run.cases.items in
    let items = c.first_of_kind-place-items.result.now in
    let i = c.loop-place.place-index in
    let low : i < length items = omega (arith, c.loop-place-test.true) in
    let g = call_case c.args.caller c.args.event.now in
    let called : c.on_case_at.new.self.cases.items ≡ changed_at g (get_or items i 0) c.loop-place.self-inside.1.0.cases.items = rw c.in_ok-event.ensures at c.in_ok-on_case_at.ensures.cases in
    record {
      kinds = c.in_ok-on_case_at.ensures.kinds ∙ c.loop-place.invariant.kinds;
      cases = called ∙ (ap (changed_at g (get_or items i 0)) c.loop-place.invariant.cases ∙ sym (one_more g cs items i low));
    }

pub returns-clause-run : goal.returns-clause-run
returns-clause-run c =
    let f = c.args._file.now in
    let cs = c.self.inside.run.cases.items in
    let p : Placing = record { run = of_parts c.self.inside.run.kinds.items cs; placed = c.self.inside.places } in
    let of : IsOf f.cases p = subst (IsOf f.cases) (sym c.self.view_is) c.requires.of in
    let items = c.first_of_kind-place-items.result.now in
    let ended : take c.loop-place.place-index items ≡ items = take_all c.loop-place.place-index items (omega (arith, c.loop-place-test.false)) in
    let k = c.loop-place.invariant in
    let new = c.loop-place.self-inside.1.0 in
    let called = k.cases ∙ ap (changed_all (call_case c.args.caller c.args.event.now) cs) (ended ∙ c.first_of_kind-place-items.ensures) in
    subst (λ (q : Placing). of_parts new.kinds.items new.cases.items ≡ on_each f c.args.caller c.args.type_no c.args.many c.args.event.now q.run) c.self.view_is
    (each-called f c.args.caller c.args.type_no c.args.many c.args.event.now p new.kinds.items new.cases.items of k.kinds called)

pub returns-clause-age : goal.returns-clause-age
returns-clause-age c =
    let f = c.args._file.now in
    let cs = c.self.inside.run.cases.items in
    let of : IsOf f.cases (record { run = of_parts c.self.inside.run.kinds.items cs; placed = c.self.inside.places }) = subst (IsOf f.cases) (sym c.self.view_is) c.requires.of in
    let items = c.first_of_kind-place-items.result.now in
    let g = call_case c.args.caller c.args.event.now in
    let ended : take c.loop-place.place-index items ≡ items = take_all c.loop-place.place-index items (omega (arith, c.loop-place-test.false)) in
    let called = c.loop-place.invariant.cases ∙ (ap (changed_all g cs) (ended ∙ c.first_of_kind-place-items.ensures)
    ∙ all-called c.args.type_no c.args.many g f.cases cs c.self.inside.places.types of.types of.placed of.many) in
    let old : oldest cs ≡ oldest c.args.self.now.run.cases = ap (λ (p : Placing). oldest p.run.cases) c.self.view_is in
    let more = oldest-each_of c.args.type_no c.args.many c.args.caller c.args.event.now f.cases cs in
    rw called (omega (arith, more, old))
