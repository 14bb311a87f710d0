use Rattle.case_core.proofs.{Common.{[], IsTimedOn, Live, rules, SchemaModel, subst, TrailModel}, Opened.opened-live}
use Rattle.wsm_settle.specs.declared.timing.TimedMarks.TheVariants as timed
use Rattle.case_core.proofs.live.Live.new.Goals as goal

pub returns-clause-kept : goal.returns-clause-kept
returns-clause-kept c =
    let live : Live = record { base = c.in_ok-share-in-Whole.field-0; own = c.new.result; now = c.in_ok-now.now; marks = c.in-Whole.marks; items = c.in_ok-items-in-Whole.items } in
    let told : IsTimedOn c.in_ok-now.now.value [] (timed.Whole c.in-Whole.marks) =
    subst (λ (s : SchemaModel). IsTimedOn s [] (timed.Whole c.in-Whole.marks)) c.deref.ensures
    (subst (IsTimedOn c.deref.result.now []) c.in-Whole.is
    (subst (λ (t : TrailModel). IsTimedOn c.deref.result.now t.entries c.in_ok-timed_on.field-0) c.new-trail.ensures c.in_ok-timed_on.ensures.marks)) in
    opened-live c.args.version.now live (search rules) (search rules) (search rules) (search rules) told (search rules)
