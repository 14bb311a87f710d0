use Rattle.file_units.proofs.{Common.{[], ◌++◌, ◌∷◌, ◌≡◌, Begins, Bytes, length, List, None, rules, slice_get, Some, subst, sym}, Mirror.{begins-all, begins-next}}
use Rattle.file_units.proofs.shown.add_names.Goals as goal

pub loop-name-preserved : goal.loop-name-preserved
loop-name-preserved c =
    let next : Some c.in-Some.name.now ≡ slice_get c.args.table.now (length c.loop-name.names) = search rules in
    let name : c.in_ok-of_word.field-0 ≡ c.in-Some.name.now = c.in_ok-of_word.ensures in
    let same : c.push.new.self ≡ c.loop-name.names ++ c.in-Some.name.now ∷ [] = rw (name) at c.in_ok-push.ensures.ok in
    subst (λ (l : List Bytes). Begins l c.args.table.now) (sym same) (begins-next c.loop-name.names c.args.table.now c.in-Some.name.now c.loop-name.invariant next)

pub returns : goal.returns
returns c =
    let none : None ≡ slice_get c.args.table.now (length c.loop-name.names) = search rules in
    begins-all c.loop-name.names c.args.table.now c.loop-name.invariant none
