use Rattle.wsm_settle.proofs.{Common.{◌≡◌, rules, seen}, Visits.{revised-new, revised-same}}
use Rattle.wsm_settle.proofs.walks.revise.Goals as goal

pub returns-then-eq-clause-mark : goal.returns-then-eq-clause-mark
returns-then-eq-clause-mark g c =
    let same : c.in_ok-timed.timed ≡ c.time_of.result = search rules in
    revised-same c.args.flat.now.cards c.args.card.now (seen (g.M.MarkReads.kept c.args.marks.now) (g.R.MarkRows.rows c.args.changes.now)) c.args.mark.now c.in_ok-timed.timed c.time_of.result c.requires c.in_ok-timed.ensures.timed c.time_of.ensures same

pub returns-clause-mark : goal.returns-clause-mark
returns-clause-mark g c =
    revised-new c.args.flat.now.cards c.args.card.now (seen (g.M.MarkReads.kept c.args.marks.now) (g.R.MarkRows.rows c.args.changes.now)) c.args.mark.now c.set_time.new.mark c.in_ok-timed.timed c.requires c.in_ok-timed.ensures.timed c.set_time.ensures
