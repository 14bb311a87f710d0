use Rattle.report_text.proofs.Common.{ℕ, ◌++◌, ◌≡◌, flat_map, Gives, gives_then, List, subst, value_now_text}
use Rattle.std.proofs.Common.{codes}
use Rattle.report_text.proofs.ends.put_values_line.Goals as goal
use Rattle.wsm_lists.specs.declared.values.ElementKind.{ElementKind}

pub returns : goal.returns
returns g c =
    let live = c.args.live.now in
    let same : c.as_slice-elements.result.now ≡ live.schema.elements = cc in
    let P : List (ℕ × ElementKind) → Type 0 = λ elements. Gives g.K.Sink.written g.K.Sink.faults c.args.ok c.put.result c.args.sink.now c.put.new.sink (codes "values" ++ (flat_map (value_now_text c.args.file.now live) elements ++ codes "\n")) in
    subst P same
    (gives_then _ _ _ _ _ _ _ _ _ _ c.put-ok.ensures
    (gives_then _ _ _ _ _ _ _ _ _ _ c.put_values-ok.ensures c.put.ensures))
