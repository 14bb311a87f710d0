use Rattle.case_keep.proofs.{Common.{◌^◌, ◌≤◌, calls, HoldsRun, IfErr-weaker, IfOk-at_ok, IsPlayFault, IsStored, length, on_ok_weaker, payloads, Tells}, Outcomes.{fault-is, second-faults, second-full, stored-list}, Stepped.run-again}
use Rattle.case_keep.proofs.playing.play_file.Goals as goal

pub returns-in-Ok-clause-run : goal.returns-in-Ok-clause-run
returns-in-Ok-clause-run g c =
    let k = g.D.Disk in
    let f = c.args.file.now in
    let mid = c.store_over-disk.result.0 in
    let run : HoldsRun k.content k.may_leave f mid = IfOk-at_ok (λ _. HoldsRun k.content k.may_leave f mid) c.in-Ok.is c.store_over-disk.ensures.run in
    on_ok_weaker c.keep_file_within-reported.result (λ stored. run-again k.content k.may_leave f mid c.keep_file_within-reported.new.disk run stored) c.keep_file_within-reported.ensures.all

pub returns-in-Ok-clause-run_unwritten : goal.returns-in-Ok-clause-run_unwritten
returns-in-Ok-clause-run_unwritten g c unwritten =
    let k = g.D.Disk in
    let f = c.args.file.now in
    let mid = c.store_over-disk.result.0 in
    let run : HoldsRun k.content k.may_leave f mid = IfOk-at_ok (λ _. HoldsRun k.content k.may_leave f mid) c.in-Ok.is c.store_over-disk.ensures.run in
    run-again k.content k.may_leave f mid c.keep_file_within-reported.new.disk run (c.keep_file_within-reported.ensures.unwritten unwritten)

pub returns-in-Ok-clause-causes : goal.returns-in-Ok-clause-causes
returns-in-Ok-clause-causes g c =
    let k = g.D.Disk in
    let f = c.args.file.now in
    let mid = c.store_over-disk.result.0 in
    let stored : IsStored k.content k.may_leave mid (payloads f) = IfOk-at_ok (λ _. IsStored k.content k.may_leave mid (payloads f)) c.in-Ok.is c.store_over-disk.ensures.all in
    let within : length (k.content mid) ≤ 2 ^ 30 = IfOk-at_ok (λ _. length (k.content mid) ≤ 2 ^ 30) c.in-Ok.is c.store_over-disk.ensures.within in
    let list = stored-list k.content k.may_leave mid (payloads f) stored in
    IfErr-weaker c.keep_file_within-reported.result (λ e. Tells c.args.limit (calls f) (k.content mid) e) (λ e. IsPlayFault e)
    (λ e told. second-faults c.args.limit (calls f) (k.content mid) e list within told) c.keep_file_within-reported.ensures.refused

pub returns-in-Ok-clause-full : goal.returns-in-Ok-clause-full
returns-in-Ok-clause-full g c full =
    let k = g.D.Disk in
    let f = c.args.file.now in
    let mid = c.store_over-disk.result.0 in
    let stored : IsStored k.content k.may_leave mid (payloads f) = IfOk-at_ok (λ _. IsStored k.content k.may_leave mid (payloads f)) c.in-Ok.is c.store_over-disk.ensures.all in
    let list = stored-list k.content k.may_leave mid (payloads f) stored in
    absurd (second-full c.args.limit (calls f) (k.content mid) list
    (fault-is c.keep_file_within-reported.result (λ e. Tells c.args.limit (calls f) (k.content mid) e) c.keep_file_within-reported.ensures.refused full))
