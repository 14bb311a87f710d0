use Rattle.case_core.proofs.{Common.{◌∙◌, ◌≡◌, ap, card_at, cards_of, Kept, LiveModel, None, option_copied, pushed, reads_now, Remarks, rules, Some, start_refusal, subst, sym, with_trail}, Keeping.kept-start}
use Rattle.wsm_schema.specs.declared.entries.Entry.TheVariants.{Start}
use Rattle.case_core.proofs.live.Live.start.Goals as goal

pub append-requires-clause-kept : goal.append-requires-clause-kept
append-requires-clause-kept g c =
    let l : LiveModel = c.of-case.result in
    let at : card_at c.args.node (cards_of l.schema) ≡ Some c.in-Some.card.now = sym c.card.ensures.card ∙ ap option_copied c.in-Some.is in
    let refused : c.start_refusal.result ≡ None = search rules in
    let none : start_refusal l c.in-Some.card.now c.args.node c.args.roles.now ≡ None = sym c.start_refusal.ensures.refusal ∙ refused in
    let reads : c.in_ok-reads.reads ≡ reads_now l c.in-Some.card.now = c.in_ok-reads.ensures in
    subst (λ (k : LiveModel). Kept (with_trail k (pushed (Start c.args.node c.args.user c.in_ok-reads.reads) k.trail))) c.of-case.ensures
    (subst (λ r. Kept (with_trail l (pushed (Start c.args.node c.args.user r) l.trail))) (sym reads)
    (kept-start l c.card.ensures.kept c.args.node c.args.user c.in-Some.card.now at c.args.roles.now none))

pub append-requires-clause-marks : goal.append-requires-clause-marks
append-requires-clause-marks g c =
    let l : LiveModel = c.of-case.result in
    let at : card_at c.args.node (cards_of l.schema) ≡ Some c.in-Some.card.now = sym c.card.ensures.card ∙ ap option_copied c.in-Some.is in
    let refused : c.start_refusal.result ≡ None = search rules in
    let none : start_refusal l c.in-Some.card.now c.args.node c.args.roles.now ≡ None = sym c.start_refusal.ensures.refusal ∙ refused in
    let reads : c.in_ok-reads.reads ≡ reads_now l c.in-Some.card.now = c.in_ok-reads.ensures in
    subst (λ (k : LiveModel). Remarks k (pushed (Start c.args.node c.args.user c.in_ok-reads.reads) k.trail) c.in_ok-changes.changes) c.of-case.ensures
    (c.in_ok-changes.ensures.changes c.args.user c.in_ok-reads.reads
    (subst (λ r. Kept (with_trail l (pushed (Start c.args.node c.args.user r) l.trail))) (sym reads)
    (kept-start l c.card.ensures.kept c.args.node c.args.user c.in-Some.card.now at c.args.roles.now none)))
