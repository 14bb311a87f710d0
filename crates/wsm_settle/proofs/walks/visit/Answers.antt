use Rattle.wsm_settle.proofs.{Common.{◌+◌, ◌∙◌, ◌∷◌, ◌≡◌, AllWithin, ap, arith, get_or, Handed, if◌then◌else◌, leads_to, length, Mark, None, Option, option_copied, rules, slice_index, Some, Spends, sym, Walks}, Handing.handed-within}
use Rattle.wsm_settle.proofs.{Results.on_ok, Visits.{revised-over, spends-new, spends-same, walks-new, walks-none, walks-same}}
use Rattle.wsm_settle.proofs.walks.visit.Goals as goal

pub returns-in-None-clause-walked : goal.returns-in-None-clause-walked
returns-in-None-clause-walked g c =
    let n = slice_index c.nodes.result.now c.args.place in
    walks-none c.args.flat.now.cards c.args.rank.now c.args.place n 0 c.args.pending.now.keys c.requires.place (ap (λ l. get_or l c.args.place 0) (sym c.nodes.ensures)) c.requires.behind
    (g.M.MarkReads.kept c.args.marks.now) c.args.changes.now (sym c.card.ensures ∙ ap option_copied c.in-None.is)

pub returns-then-not-branch-clause-walked : goal.returns-then-not-branch-clause-walked
returns-then-not-branch-clause-walked g c =
    let n = slice_index c.nodes.result.now c.args.place in
    let kept = g.M.MarkReads.kept c.args.marks.now in
    let o : Option Mark = if c.in_ok-revise-in-Some.field-0 then Some c.revise.new.mark else None in
    let none : o ≡ None = search rules in
    walks-same c.args.flat.now.cards c.args.rank.now c.args.place n 0 c.args.pending.now.keys c.requires.place (ap (λ l. get_or l c.args.place 0) (sym c.nodes.ensures)) c.requires.behind
    kept c.args.changes.now c.in-Some.card.now (sym c.card.ensures ∙ ap option_copied c.in-Some.is) o
    (revised-over c.args.flat.now.cards c.in-Some.card.now kept (g.M.MarkReads.kept c.mark_at-mark.new.marks) c.args.changes.now o c.mark_at-mark.ensures.same c.in_ok-revise-in-Some.ensures.mark) none

pub returns-then-not-branch-clause-spent : goal.returns-then-not-branch-clause-spent
returns-then-not-branch-clause-spent g c =
    let n = slice_index c.nodes.result.now c.args.place in
    spends-same c.args.flat.now.cards c.args.rank.now c.args.place n 0 c.args.pending.now.keys c.requires.place (ap (λ l. get_or l c.args.place 0) (sym c.nodes.ensures)) c.requires.behind
    (g.M.MarkReads.reads c.args.marks.now) (g.M.MarkReads.reads c.revise.new.marks) c.in-Some.card.now (sym c.card.ensures ∙ ap option_copied c.in-Some.is) (omega (arith, c.mark_at-mark.ensures.count, c.revise.ensures.count))

pub returns-in_ok-set-in-Some-clause-walked : goal.returns-in_ok-set-in-Some-clause-walked
returns-in_ok-set-in-Some-clause-walked g c =
    let n = slice_index c.nodes.result.now c.args.place in
    let kept = g.M.MarkReads.kept c.args.marks.now in
    let o : Option Mark = if c.in_ok-revise-in-Some.field-0 then Some c.revise.new.mark else None in
    let some : o ≡ Some c.revise.new.mark = search rules in
    on_ok (Handed c.args.rank.now (leads_to c.in-Some.card.now) (c.args.place + 1) c.args.pending.now.keys c.hand_on.new.pending.keys)
    (Walks c.args.flat.now.cards c.args.rank.now kept (c.args.place ∷ c.args.pending.now.keys) c.args.changes.now c.hand_on.new.pending.keys c.set.new.self)
    (λ handed.
    walks-new c.args.flat.now.cards c.args.rank.now c.args.place n 0 c.args.pending.now.keys c.requires.place (ap (λ l. get_or l c.args.place 0) (sym c.nodes.ensures)) c.requires.behind
    kept c.args.changes.now c.in-Some.card.now (sym c.card.ensures ∙ ap option_copied c.in-Some.is) o
    (revised-over c.args.flat.now.cards c.in-Some.card.now kept (g.M.MarkReads.kept c.mark_at-mark.new.marks) c.args.changes.now o c.mark_at-mark.ensures.same c.in_ok-revise-in-Some.ensures.mark)
    c.revise.new.mark some c.said.result c.said.ensures c.set.new.self c.in_ok-set-in-Some.ensures.ok c.hand_on.new.pending.keys handed)
    c.hand_on.result c.hand_on.ensures.handed

pub returns-in_ok-set-in-Some-clause-spent : goal.returns-in_ok-set-in-Some-clause-spent
returns-in_ok-set-in-Some-clause-spent g c =
    let n = slice_index c.nodes.result.now c.args.place in
    on_ok (Handed c.args.rank.now (leads_to c.in-Some.card.now) (c.args.place + 1) c.args.pending.now.keys c.hand_on.new.pending.keys)
    (Spends c.args.flat.now.cards c.args.rank.now (g.M.MarkReads.reads c.args.marks.now) (c.args.place ∷ c.args.pending.now.keys) (g.M.MarkReads.reads c.revise.new.marks) c.hand_on.new.pending.keys)
    (λ handed.
    spends-new c.args.flat.now.cards c.args.rank.now c.args.place n 0 c.args.pending.now.keys c.requires.place (ap (λ l. get_or l c.args.place 0) (sym c.nodes.ensures)) c.requires.behind
    (g.M.MarkReads.reads c.args.marks.now) (g.M.MarkReads.reads c.revise.new.marks) c.in-Some.card.now (sym c.card.ensures ∙ ap option_copied c.in-Some.is) (omega (arith, c.mark_at-mark.ensures.count, c.revise.ensures.count)) c.hand_on.new.pending.keys handed)
    c.hand_on.result c.hand_on.ensures.handed

pub returns-in_ok-set-in-Some-clause-within : goal.returns-in_ok-set-in-Some-clause-within
returns-in_ok-set-in-Some-clause-within g c =
    on_ok (Handed c.args.rank.now (leads_to c.in-Some.card.now) (c.args.place + 1) c.args.pending.now.keys c.hand_on.new.pending.keys) (AllWithin (length c.args.rank.now) c.hand_on.new.pending.keys)
    (λ handed. handed-within c.args.rank.now (c.args.place + 1) (leads_to c.in-Some.card.now) c.args.pending.now.keys c.hand_on.new.pending.keys handed c.requires.within)
    c.hand_on.result c.hand_on.ensures.handed
