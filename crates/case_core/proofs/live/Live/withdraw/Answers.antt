use Rattle.case_core.proofs.Common.{◌∙◌, ◌≡◌, ap, card_at, cards_of, hold_refusal, Kept, length, LiveModel, None, option_copied, Remarks, rules, Some, starts_of, subst, sym, with_trail, withdrawn}
use Rattle.case_core.proofs.Keeping.{held-running, kept-withdrawn, one-held}
use Rattle.case_core.proofs.live.Live.withdraw.Goals as goal

pub withdraw_changes-requires-clause-runs : goal.withdraw_changes-requires-clause-runs
withdraw_changes-requires-clause-runs g c =
    let l : LiveModel = c.of-case.result in
    let at : card_at c.args.node (cards_of l.schema) ≡ Some c.in-Some.card.now = sym c.card.ensures.card ∙ ap option_copied c.in-Some.is in
    let refused : c.hold_refusal.result ≡ None = search rules in
    let none : hold_refusal l c.args.node c.args.user ≡ None = sym c.hold_refusal.ensures.refusal ∙ refused in
    record { card = c.in-Some.card.now; found = at; running = held-running l c.card.ensures.kept c.args.node c.args.user c.in-Some.card.now at none }

pub drop_start-requires-clause-one : goal.drop_start-requires-clause-one
drop_start-requires-clause-one g c =
    let l : LiveModel = c.of-case.result in
    let at : card_at c.args.node (cards_of l.schema) ≡ Some c.in-Some.card.now = sym c.card.ensures.card ∙ ap option_copied c.in-Some.is in
    let refused : c.hold_refusal.result ≡ None = search rules in
    let none : hold_refusal l c.args.node c.args.user ≡ None = sym c.hold_refusal.ensures.refusal ∙ refused in
    subst (λ (k : LiveModel). length (starts_of c.args.node k.trail.entries) ≡ 1) c.of-case.ensures (one-held l c.card.ensures.kept c.args.node c.args.user c.in-Some.card.now at none)

pub drop_start-requires-clause-kept : goal.drop_start-requires-clause-kept
drop_start-requires-clause-kept g c =
    let l : LiveModel = c.of-case.result in
    let at : card_at c.args.node (cards_of l.schema) ≡ Some c.in-Some.card.now = sym c.card.ensures.card ∙ ap option_copied c.in-Some.is in
    let refused : c.hold_refusal.result ≡ None = search rules in
    let none : hold_refusal l c.args.node c.args.user ≡ None = sym c.hold_refusal.ensures.refusal ∙ refused in
    subst (λ (k : LiveModel). Kept (with_trail k (withdrawn c.args.node k.trail))) c.of-case.ensures (kept-withdrawn l c.card.ensures.kept c.args.node c.args.user c.in-Some.card.now at none)

pub drop_start-requires-clause-marks : goal.drop_start-requires-clause-marks
drop_start-requires-clause-marks g c = subst (λ (k : LiveModel). Remarks k (withdrawn c.args.node k.trail) c.in_ok-changes.changes) c.of-case.ensures c.in_ok-changes.ensures.changes
