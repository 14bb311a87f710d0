use Rattle.wsm_settle.proofs.{Common.{◌∙◌, ◌≡◌, ap, first, get_or, if◌then◌else◌, Mark, None, Option, option_copied, put_row, rules, slice_index, Some, sym, WalksOne}, AllPlaces.{one-new, one-none, one-same}, Visits.revised-over}
use Rattle.wsm_settle.proofs.Results.{on_ok}
use Rattle.wsm_settle.proofs.walks.revise_at.Goals as goal

pub returns-in-None-clause-walked : goal.returns-in-None-clause-walked
returns-in-None-clause-walked g c =
    one-none c.args.flat.now.cards c.args.rank.now c.args.place (slice_index c.nodes.result.now c.args.place) 0 c.requires (ap (λ l. get_or l c.args.place 0) (sym c.nodes.ensures)) (g.M.MarkReads.kept c.args.marks.now) c.args.changes.now
    (sym c.card.ensures ∙ ap option_copied c.in-None.is)

pub returns-then-not-branch-clause-walked : goal.returns-then-not-branch-clause-walked
returns-then-not-branch-clause-walked g c =
    let kept = g.M.MarkReads.kept c.args.marks.now in
    let o : Option Mark = if c.in_ok-revise-in-Some.field-0 then Some c.revise.new.mark else None in
    let none : o ≡ None = search rules in
    one-same c.args.flat.now.cards c.args.rank.now c.args.place (slice_index c.nodes.result.now c.args.place) 0 c.requires (ap (λ l. get_or l c.args.place 0) (sym c.nodes.ensures)) kept c.args.changes.now
    c.in-Some.card.now (sym c.card.ensures ∙ ap option_copied c.in-Some.is) o
    (revised-over c.args.flat.now.cards c.in-Some.card.now kept (g.M.MarkReads.kept c.mark_at-mark.new.marks) c.args.changes.now o c.mark_at-mark.ensures.same c.in_ok-revise-in-Some.ensures.mark) none

pub returns-else-not-branch-clause-walked : goal.returns-else-not-branch-clause-walked
returns-else-not-branch-clause-walked g c =
    let kept = g.M.MarkReads.kept c.args.marks.now in
    let o : Option Mark = if c.in_ok-revise-in-Some.field-0 then Some c.revise.new.mark else None in
    let some : o ≡ Some c.revise.new.mark = search rules in
    on_ok (c.set.new.self ≡ put_row first (c.in-Some.card.now.node, c.said.result) c.args.changes.now) (WalksOne c.args.flat.now.cards c.args.rank.now kept c.args.place c.args.changes.now c.set.new.self)
    (λ are.
    one-new c.args.flat.now.cards c.args.rank.now c.args.place (slice_index c.nodes.result.now c.args.place) 0 c.requires (ap (λ l. get_or l c.args.place 0) (sym c.nodes.ensures)) kept c.args.changes.now
    c.in-Some.card.now (sym c.card.ensures ∙ ap option_copied c.in-Some.is) o
    (revised-over c.args.flat.now.cards c.in-Some.card.now kept (g.M.MarkReads.kept c.mark_at-mark.new.marks) c.args.changes.now o c.mark_at-mark.ensures.same c.in_ok-revise-in-Some.ensures.mark)
    c.revise.new.mark some c.said.result c.said.ensures c.set.new.self are)
    c.set.result c.set.ensures.ok
