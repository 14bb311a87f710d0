use Rattle.report_text.proofs.{Common.{◌++◌, ◌∙◌, ap, append-nil, either_empty_from_Zip, gives_as, gives_then, iter_rest, kind_text, sym, Zip-more, zip_first, zip_second}, NumberedRows.{side_by_side-ended, side_by_side-next}}
use Rattle.report_text.proofs.report.put_kinds.Goals as goal

pub loop-decl-preserved : goal.loop-decl-preserved
loop-decl-preserved g c =
    let part = kind_text c.args.file.now in
    let sent = c.loop-decl.invariant.sent in
    let more = Zip-more c.loop-decl.decl-iterator c.next.new.self c.next.result (c.in-Some.decl, c.in-Some.kind) c.in-Some.is c.next.ensures.steps in
    record {
      sent = sent ++ part c.in-Some.decl.now c.in-Some.kind.now;
      gives = gives_then _ _ _ _ _ _ _ _ _ _ c.loop-decl.invariant.gives c.put_kind-well.ensures;
      whole = side_by_side-next part _ _ _ _ c.in-Some.decl.now c.in-Some.kind.now sent _ more.0 more.1 c.loop-decl.invariant.whole;
    }

pub returns : goal.returns
returns g c =
    let sent = c.loop-decl.invariant.sent in
    let ended = either_empty_from_Zip c.loop-decl.decl-iterator c.next.new.self c.next.result c.in-None.is c.next.ensures.steps in
    let left = side_by_side-ended (kind_text c.args.file.now) (iter_rest (zip_first c.loop-decl.decl-iterator)) (iter_rest (zip_second c.loop-decl.decl-iterator)) ended in
    gives_as _ _ _ _ _ _ _ _ c.loop-decl.invariant.gives (sym (append-nil sent) ∙ ap (λ t. sent ++ t) (sym left) ∙ c.loop-decl.invariant.whole)
