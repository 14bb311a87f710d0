use Rattle.talk_answers.proofs.Common.{[], ◌++◌, ◌∙◌, ap, append-nil, append_assoc, CutLines, Gives, gives_nothing, gives_then, quoted, quoted_line, refl, subst, sym}
use Rattle.std.proofs.Common.{flat_map}
use Rattle.talk_answers.proofs.lines.put_quoted.Goals as goal

pub loop-line-init : goal.loop-line-init
loop-line-init g c = ([], gives_nothing _ _ _ _, refl)

pub loop-line-preserved : goal.loop-line-preserved
loop-line-preserved g c =
    let line = c.in-Some.line.now in
    let more = c.in-Some.more.now in
    let (front, written, whole) = c.loop-line.invariant in
    let split = ap (λ (cut : CutLines). flat_map quoted_line cut.ended) c.in-Some.ensures.split in (
      front ++ quoted_line line,
      gives_then _ _ _ _ _ _ _ _ front (quoted_line line) written c.put_quoted_line-well.ensures,
      append_assoc front (quoted_line line) (quoted more) ∙ (sym (ap (λ bs. front ++ bs) split) ∙ whole),
    )

pub returns : goal.returns
returns g c =
    let (front, written, whole) = c.loop-line.invariant in
    let none = ap (λ (cut : CutLines). flat_map quoted_line cut.ended) c.in_default.ensures.split in
    let all = sym (append-nil front) ∙ (sym (ap (λ bs. front ++ bs) none) ∙ whole) in
    subst (Gives g.K.Sink.written g.K.Sink.faults c.args.ok c.loop-line.well c.args.sink.now c.loop-line.sink) all written
