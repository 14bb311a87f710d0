use Rattle.case_core.proofs.{Common.{◌∙◌, ap, LiveModel, Some, sym}, KeptItems.{none-holds, some-holds}}
use Rattle.case_core.specs.declared.replies.Reply.TheVariants as reply
use Rattle.case_core.proofs.live_of.LiveOf.hold_refusal.Goals as goal

pub returns-in-None-clause-refusal : goal.returns-in-None-clause-refusal
returns-in-None-clause-refusal g c =
    let l : LiveModel = c.args.self.now in
    ap (λ s. Some (reply.NotRunning s)) c.state_read.ensures.state ∙ none-holds l c.base.ensures.kept c.args.node c.args.user (sym c.holder.ensures.holder ∙ c.in-None.is)

pub returns-in-Some-clause-refusal : goal.returns-in-Some-clause-refusal
returns-in-Some-clause-refusal g c =
    let l : LiveModel = c.args.self.now in
    c.not_holder.ensures ∙ some-holds l c.base.ensures.kept c.args.node c.args.user c.in-Some.holder (sym c.holder.ensures.holder ∙ c.in-Some.is)
