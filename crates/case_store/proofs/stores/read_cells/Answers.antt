use Rattle.case_store.proofs.{Common.{◌^◌, ◌∙◌, ◌≤◌, IsSettled, length, refused, Says, subst, sym}, Folds.{gate-there, opens, says}}
use Rattle.std.proofs.lemmas.Result.{err_from_is_err_and}
use Rattle.case_store.proofs.stores.read_cells.Goals as goal

pub read-requires-clause-gate : goal.read-requires-clause-gate
read-requires-clause-gate g c = gate-there (g.D.Disk.content c.args.disk.now) c.deref.result.now (c.deref.ensures.value ∙ c.in_ok-image.ensures.bytes)

pub read-requires-clause-within : goal.read-requires-clause-within
read-requires-clause-within g c = subst (λ b. length b ≤ 2 ^ 30) (sym c.deref.ensures.value) c.in_ok-image.ensures.within

pub returns-in_err-cells-clause-refused : goal.returns-in_err-cells-clause-refused
returns-in_err-cells-clause-refused g c =
    let before = g.D.Disk.content c.args.disk.now in
    let shown = c.deref.ensures.value in
    let e = c.in_err-cells.field-0.0 in
    let told : Says c.args.cases.now before (refused e c.open_image.new.disk) =
    says c.args.cases.now before c.deref.result.now e c.open_image.new.disk (shown ∙ c.in_ok-image.ensures.bytes) (subst (λ b. length b ≤ 2 ^ 30) (sym shown) c.in_ok-image.ensures.within) c.in_err-cells.ensures.damaged in
    let p = err_from_is_err_and c.from_residual-in_err-cells.result c.from_residual-in_err-cells.ensures.1 in
    rw (p.1, p.2) told

pub returns-clause-opened : goal.returns-clause-opened
returns-clause-opened g c =
    let k = g.D.Disk in
    let shown = c.deref.ensures.value in
    let new = c.open_image.new.disk in
    let cells = c.in_ok-cells in
    opens k.content k.may_leave c.args.cases.now c.args.disk.now new c.deref.result.now cells.cells.0 cells.cells.1 (subst (IsSettled k.content k.may_leave new) (sym shown) c.in_ok-image.ensures.settled)
    (shown ∙ c.in_ok-image.ensures.bytes) (subst (λ b. length b ≤ 2 ^ 30) (sym shown) c.in_ok-image.ensures.within) cells.ensures.ends cells.ensures.young

pub returns-clause-bytes : goal.returns-clause-bytes
returns-clause-bytes g c = c.in_ok-image.ensures.settled.gives ∙ c.in_ok-image.ensures.bytes
