use Rattle.wsm_settle.proofs.{Common.{◌∙◌, ◌≡◌, awaited, End, map, None, refl, seen, signal_by, sym, time_by, Timed}, Results.if_ok, Visits.equation-is, Waiting.{all-of, awaited-all, awaited-none, lacks-of}}
use Rattle.wsm_settle.proofs.equations.equation_of_all.Goals as goal

pub returns-in-None-clause-timed : goal.returns-in-None-clause-timed
returns-in-None-clause-timed g c =
    let card = c.args.card.now in
    let mark = seen (g.M.MarkReads.kept c.args.marks.now) (g.R.MarkRows.rows c.args.changes.now) in
    let f = (λ (e : End). signal_by c.args.flat.now.cards mark e.label e.node) in
    sym (awaited-none f card.kind card.ins (map (signal_by c.args.flat.now.cards mark None) card.syncs_in)
    (lacks-of _ (map f (awaited card.kind card.ins)) _ c.in-None.is c.in_ok-control_signals.ensures.signals))

pub returns-in_ok-syncs-in-Some-clause-timed : goal.returns-in_ok-syncs-in-Some-clause-timed
returns-in_ok-syncs-in-Some-clause-timed g c =
    let cards = c.args.flat.now.cards in
    let card = c.args.card.now in
    let kept = g.M.MarkReads.kept c.args.marks.now in
    let changes = (g.R.MarkRows.rows c.args.changes.now) in
    let syncs = c.deref-in-Some.result.now in
    if_ok _ (λ (timed : Timed). timed ≡ time_by cards (seen kept changes) card)
    (λ timed is.
    equation-is cards card kept (g.M.MarkReads.kept c.control_signals.new.marks) changes (map (λ (e : End). signal_by cards (seen kept changes) e.label e.node) card.ins) syncs timed
    (is ∙ awaited-all (λ (e : End). signal_by cards (seen kept changes) e.label e.node) card.kind card.ins c.deref.result.now syncs (c.deref.ensures.value ∙ all-of _ (map (λ (e : End). signal_by cards (seen kept changes) e.label e.node) (awaited card.kind card.ins)) _ _ c.in-Some.is c.in_ok-control_signals.ensures.signals))
    refl c.control_signals.ensures.same (c.deref-in-Some.ensures.value ∙ c.in_ok-syncs-in-Some.ensures.signals))
    c.equation_of.result c.equation_of.ensures
