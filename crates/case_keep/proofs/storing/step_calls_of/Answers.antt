use Rattle.case_keep.proofs.{Common.{◌∙◌, ◌≡◌, AreKnown, calls, fresh, IsStore, on_ok_weaker, payloads, starts_of, subst, sym}, Stepped.{none-stepped, same-run}}
use Rattle.case_keep.proofs.storing.step_calls_of.Goals as goal
use Rattle.store_runs.proofs.Folded.{file-calls}

pub returns-in_err-told-clause-any_moment : goal.returns-in_err-told-clause-any_moment
returns-in_err-told-clause-any_moment g c =
    let k = g.D.Disk in
    none-stepped k.content k.may_leave k.moment k.left_since g.met.D.Disk.only_now g.counts c.args.store.now (payloads c.args.file.now) c.requires.1.1.1.1.1.0

pub step_groups-requires : goal.step_groups-requires
step_groups-requires g c κs within =
    let f = c.args.file.now in
    let told : c.deref.result.now ≡ calls f = c.deref.ensures.value ∙ c.in_ok-told.ensures.calls in
    let known : AreKnown (starts_of g.counts) (fresh g.counts) (calls f) =
    subst (λ n. AreKnown (starts_of n) (fresh n) (calls f)) (sym c.requires.1.1.1.0) (file-calls f c.requires.1.1.0) in
    (search, (subst (AreKnown (starts_of g.counts) (fresh g.counts)) (sym told) known, (c.requires.1.1.1.1.0, (c.requires.1.1.1.1.1.0, (c.requires.1.1.1.1.1.1.0, c.requires.1.1.1.1.1.1.1)))))

pub returns-clause-serial : goal.returns-clause-serial
returns-clause-serial g c =
    let k = g.D.Disk in
    let f = c.args.file.now in
    let told : c.deref.result.now ≡ calls f = c.deref.ensures.value ∙ c.in_ok-told.ensures.calls in
    on_ok_weaker c.step_groups.result
    (λ all.
    same-run k.content k.may_leave f c.requires.1.1.0 g.counts c.step_groups.new.store c.requires.1.1.1.0 (subst (IsStore k.content k.may_leave g.counts c.step_groups.new.store) told all))
    c.step_groups.ensures.all
