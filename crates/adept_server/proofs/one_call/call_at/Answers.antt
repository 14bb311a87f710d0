use Rattle.adept_server.proofs.Common.{◌<◌, ◌≡◌, arith, HasRoom, IfErr-weaker, length, length-passes, pass_at, refl, rules, slice_get, slice_get-get_or, slice_get_read, slice_index_or, Some, subst, sym, view_of}
use Rattle.adept_server.proofs.Called.{passes-of_set, called_once, calls_one, set-view}
use Rattle.adept_server.proofs.one_call.call_at.Goals as goal

pub bounds-cells-index : goal.bounds-cells-index
bounds-cells-index g c = omega (arith, length-passes c.args.cells.now c.args.passes.now c.requires.cells)

pub call-requires-clause-cell : goal.call-requires-clause-cell
call-requires-clause-cell g c = λ κs within.
    let there : slice_get c.args.cells.now c.args.index ≡ Some c.index-cells-index.result = slice_get_read c.args.cells.now (length c.args.cells.now) c.args.index c.index-cells-index.result refl (omega (arith, length-passes c.args.cells.now c.args.passes.now c.requires.cells)) c.index-cells-index.is in
    pass_at c.args.cells.now c.args.passes.now c.requires.cells c.args.index c.index-cells-index.result c.index-passes-index.result there

pub returns-clause-cells : goal.returns-clause-cells
returns-clause-cells g c =
    let there : slice_get c.args.cells.now c.args.index ≡ Some c.index-cells-index.result = slice_get_read c.args.cells.now (length c.args.cells.now) c.args.index c.index-cells-index.result refl (omega (arith, length-passes c.args.cells.now c.args.passes.now c.requires.cells)) c.index-cells-index.is in
    passes-of_set c.args.cells.now c.args.passes.now c.requires.cells c.args.index c.index-cells-index.result c.call.new.pass there c.call.ensures.cell

pub returns-clause-called : goal.returns-clause-called
returns-clause-called g c =
    let there = slice_get-get_or c.args.passes.now c.args.index c.index-passes-index.result c.requires.there in
    let before = slice_index_or c.args.passes.now c.args.index c.index-passes-index.result in
    let k = c.call.ensures in
    calls_one g.M.Machine.after g.M.Machine.reply c.args.event.now c.args.passes.now c.args.index before c.call.new.pass c.call.result there
    (called_once g.M.Machine.after g.M.Machine.reply c.args.event.now (view_of before) (view_of c.call.new.pass) c.call.result k.stays k.ok k.err k.room k.full k.memory)

pub returns-clause-memory : goal.returns-clause-memory
returns-clause-memory g c =
    let here = set-view c.args.passes.now c.args.index c.call.new.pass c.requires.there in
    IfErr-weaker c.call.result _ _ (λ f room is. subst HasRoom (sym here) (room is)) c.call.ensures.memory

pub offset_bounds-cells-index : goal.offset_bounds-cells-index
offset_bounds-cells-index g c =
    let few : c.args.index < length c.args.cells.now = omega (arith, length-passes c.args.cells.now c.args.passes.now c.requires.cells) in
    search rules
