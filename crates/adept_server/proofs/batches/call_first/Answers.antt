use Rattle.adept_server.proofs.{Common.{◌∙◌, ◌≤◌, ap, arith, length, length-passes, length-take-le, min, sym}, Fronts.{front-of, front-put, first_called, others-stay}}
use Rattle.adept_server.proofs.batches.call_first.Goals as goal

pub slice_bounds-all-end-2 : goal.slice_bounds-all-end-2
slice_bounds-all-end-2 g c = omega (arith, c.min-first.ensures, length-passes c.args.cells.now c.args.passes.now c.requires.cells)

pub slice_bounds-all-end-3 : goal.slice_bounds-all-end-3
slice_bounds-all-end-3 g c = sym (length-take-le c.min-first.result c.args.passes.now (omega (arith, c.min-first.ensures, length-passes c.args.cells.now c.args.passes.now c.requires.cells)))

pub all-requires-clause-cells : goal.all-requires-clause-cells
all-requires-clause-cells g c κs within = front-of c.min-first.result c.args.cells.now c.args.passes.now c.requires.cells

pub returns-clause-cells : goal.returns-clause-cells
returns-clause-cells g c = front-put c.min-first.result c.args.cells.now c.args.passes.now c.all.new.passes c.requires.cells c.all.ensures.cells

pub returns-clause-ok : goal.returns-clause-ok
returns-clause-ok g c =
    let is = c.min-first.ensures ∙ ap (λ n. min c.args.many n) (sym (length-passes c.args.cells.now c.args.passes.now c.requires.cells)) in
    let within : c.min-first.result ≤ length c.args.passes.now = omega (arith, is) in
    let even = c.all.auto.passes ∙ length-take-le c.min-first.result c.args.passes.now within in
    first_called g.M.Machine.after g.M.Machine.reply c.args.event.now (λ (a : _). a.items.items) c.all.result c.args.many c.min-first.result c.args.passes.now c.all.new.passes is even c.all.ensures.ok

pub returns-clause-others : goal.returns-clause-others
returns-clause-others g c =
    let is = c.min-first.ensures ∙ ap (λ n. min c.args.many n) (sym (length-passes c.args.cells.now c.args.passes.now c.requires.cells)) in
    let within : c.min-first.result ≤ length c.args.passes.now = omega (arith, is) in
    let even = c.all.auto.passes ∙ length-take-le c.min-first.result c.args.passes.now within in
    others-stay c.args.many c.min-first.result c.args.passes.now c.all.new.passes is even
