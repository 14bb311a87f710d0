use Rattle.report_text.proofs.Common.{◌++◌, ◌≡◌, flat_map, Gives, gives_then, List, mark_text, subst}
use Rattle.std.proofs.Common.{codes}
use Rattle.report_text.proofs.ends.put_marking_line.Goals as goal
use Rattle.wsm_schema.specs.{Flat.cards_of, declared.cards.Card.Card}

pub returns : goal.returns
returns g c =
    let live = c.args.live.now in
    let same : c.cards.result.now ≡ cards_of live.schema = cc in
    let P : List Card → Type 0 = λ cards. Gives g.K.Sink.written g.K.Sink.faults c.args.ok c.put.result c.args.sink.now c.put.new.sink (codes "marking" ++ (flat_map (mark_text c.args.file.now live) cards ++ codes "\n")) in
    subst P same
    (gives_then _ _ _ _ _ _ _ _ _ _ c.put-ok.ensures
    (gives_then _ _ _ _ _ _ _ _ _ _ c.put_marks-ok.ensures c.put.ensures))
