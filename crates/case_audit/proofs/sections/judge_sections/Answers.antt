use Rattle.case_audit.proofs.{Common.{AllZip, crosses, IfOk, IfOk-weaker, IsSection, range_with_len, subst}, CaseSections.sections-zipped, Sent.{file-sync, line-sync, section-send, version-sync}}
use denote.Param.Send.{sendable}
use Rattle.case_audit.proofs.sections.judge_sections.Goals as goal

pub each_below-requires-send-T : goal.each_below-requires-send-T
each_below-requires-send-T g c κs = search (section-send, sendable, crosses) depth 40 fits 5000

pub each_below-requires-send-F : goal.each_below-requires-send-F
each_below-requires-send-F g c κs _ = search (file-sync, line-sync, version-sync, sendable, crosses) depth 40 fits 5000

pub each_below-requires-sync-F : goal.each_below-requires-sync-F
each_below-requires-sync-F g c κs _ = search (file-sync, line-sync, version-sync, sendable, crosses) depth 40 fits 5000

pub returns : goal.returns
returns g c =
    let f = c.args.file.now in
    let owed = c.args.owed.now in
    let text = c.args.text.now in
    IfOk-weaker c.each_below.result _ _ (λ v h.
    sections-zipped f owed text v.items (subst (λ n. AllZip (λ i r. IfOk r (IsSection f owed text i)) (range_with_len 0 n) v.items) c.requires.starts h)) c.each_below.ensures
