use Rattle.case_core.proofs.Common.{◌∙◌, ◌≡◌, ap, by_element, card_at, cards_of, end_refusal, false, Kept, LiveModel, None, option_copied, pushed, Remarks, repeated_trail, repeats, rules, RunsLoop, Some, subst, sym, true, with_trail}
use Rattle.case_core.proofs.{Keeping.{kept-end, kept-repeat}, Marked.runs-loop}
use Rattle.wsm_schema.specs.declared.entries.Entry.TheVariants.{End}
use Rattle.case_core.proofs.live.Live.end.Goals as goal

pub repeat-requires-clause-kept : goal.repeat-requires-clause-kept
repeat-requires-clause-kept g c =
    let l : LiveModel = c.of-case.result in
    let at : card_at c.args.node (cards_of l.schema) ≡ Some c.in-Some.card.now = sym c.card.ensures.card ∙ ap option_copied c.in-Some.is in
    let refused : c.in_ok-refusal.field-0 ≡ None = search rules in
    let none : end_refusal l c.in-Some.card.now c.args.node c.args.user c.args.writes.now c.args.choice ≡ None = sym c.in_ok-refusal.ensures.refusal ∙ refused in
    let writes : c.in_ok-writes.writes ≡ by_element c.args.writes.now = c.in_ok-writes.ensures in
    let goes_on : repeats c.in-Some.card.now c.args.choice ≡ true = search rules in
    subst (λ (k : LiveModel). Kept (with_trail k (repeated_trail k c.args.node c.in_ok-writes.writes))) c.of-case.ensures
    (subst (λ w. Kept (with_trail l (repeated_trail l c.args.node w))) (sym writes)
    (kept-repeat l c.card.ensures.kept c.args.node c.args.user c.in-Some.card.now at c.args.writes.now c.args.choice none goes_on))

pub repeat-requires-clause-running : goal.repeat-requires-clause-running
repeat-requires-clause-running g c =
    let l : LiveModel = c.of-case.result in
    let at : card_at c.args.node (cards_of l.schema) ≡ Some c.in-Some.card.now = sym c.card.ensures.card ∙ ap option_copied c.in-Some.is in
    let refused : c.in_ok-refusal.field-0 ≡ None = search rules in
    let none : end_refusal l c.in-Some.card.now c.args.node c.args.user c.args.writes.now c.args.choice ≡ None = sym c.in_ok-refusal.ensures.refusal ∙ refused in
    let goes_on : repeats c.in-Some.card.now c.args.choice ≡ true = search rules in
    subst (λ (k : LiveModel). RunsLoop k c.args.node) c.of-case.ensures
    (runs-loop l c.card.ensures.kept c.args.node c.args.user c.in-Some.card.now at c.args.writes.now c.args.choice none goes_on)

pub append-requires-clause-kept : goal.append-requires-clause-kept
append-requires-clause-kept g c =
    let l : LiveModel = c.of-case.result in
    let at : card_at c.args.node (cards_of l.schema) ≡ Some c.in-Some.card.now = sym c.card.ensures.card ∙ ap option_copied c.in-Some.is in
    let refused : c.in_ok-refusal.field-0 ≡ None = search rules in
    let none : end_refusal l c.in-Some.card.now c.args.node c.args.user c.args.writes.now c.args.choice ≡ None = sym c.in_ok-refusal.ensures.refusal ∙ refused in
    let writes : c.in_ok-writes.writes ≡ by_element c.args.writes.now = c.in_ok-writes.ensures in
    let leaves : repeats c.in-Some.card.now c.args.choice ≡ false = search rules in
    subst (λ (k : LiveModel). Kept (with_trail k (pushed (End c.args.node c.in_ok-writes.writes c.args.choice) k.trail))) c.of-case.ensures
    (subst (λ w. Kept (with_trail l (pushed (End c.args.node w c.args.choice) l.trail))) (sym writes)
    (kept-end l c.card.ensures.kept c.args.node c.args.user c.in-Some.card.now at c.args.writes.now c.args.choice none leaves))

pub append-requires-clause-marks : goal.append-requires-clause-marks
append-requires-clause-marks g c =
    let l : LiveModel = c.of-case.result in
    let at : card_at c.args.node (cards_of l.schema) ≡ Some c.in-Some.card.now = sym c.card.ensures.card ∙ ap option_copied c.in-Some.is in
    let refused : c.in_ok-refusal.field-0 ≡ None = search rules in
    let none : end_refusal l c.in-Some.card.now c.args.node c.args.user c.args.writes.now c.args.choice ≡ None = sym c.in_ok-refusal.ensures.refusal ∙ refused in
    let writes : c.in_ok-writes.writes ≡ by_element c.args.writes.now = c.in_ok-writes.ensures in
    let leaves : repeats c.in-Some.card.now c.args.choice ≡ false = search rules in
    subst (λ (k : LiveModel). Remarks k (pushed (End c.args.node c.in_ok-writes.writes c.args.choice) k.trail) c.in_ok-changes.changes) c.of-case.ensures
    (c.in_ok-changes.ensures.changes c.in_ok-writes.writes
    (subst (λ w. Kept (with_trail l (pushed (End c.args.node w c.args.choice) l.trail))) (sym writes)
    (kept-end l c.card.ensures.kept c.args.node c.args.user c.in-Some.card.now at c.args.writes.now c.args.choice none leaves)))
