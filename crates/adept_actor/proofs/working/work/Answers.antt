use Rattle.adept_actor.proofs.{Common.{[], ◌+◌, ◌∙◌, ◌≡◌, ap, arith, CallFault, CanWork, cut-at, desk_view, drop, drop_of_length-le, Err, IsErrAnd, length, None, Ok, Result, Some, subst, sym, WorksLines}, Lines.{IsAmong, among-first, way-last, way-on, way-over}}
use Rattle.std.specs.Result.{result_err}
use Rattle.adept_actor.proofs.working.work.Goals.{then-line-number+in_ok-work_line, else-line-number}
use Rattle.adept_actor.proofs.working.work.Goals as goal

err-is : {A : Type 0} (r : Result A CallFault) (f : CallFault) → IsErrAnd r (λ g. g ≡ f) → result_err r ≡ Some f
err-is (Ok a) f same = absurd same
err-is (Err g) f same = ap Some same

pub loop-line-init : goal.loop-line-init
loop-line-init g c = among-first c.args.server.now c.args.roles.now c.args.lines.now c.args.desk.now c.requires.desk c.requires.able

pub work_line-requires-clause-able : goal.work_line-requires-clause-able
work_line-requires-clause-able g c κs within =
    let lines = c.args.lines.now in
    let i = c.loop-line.line-index in
    let split = cut-at c.as_slice-line-items.result.now lines i c.line-item.result c.as_slice-line-items.ensures c.loop-line-test.true c.line-item.is in
    (subst (CanWork (desk_view c.loop-line.desk)) split c.loop-line.invariant.able).0 (c.if-line-number.true ∙ c.number.ensures)

pub returns-in_err-work_line-clause-worked : goal.returns-in_err-work_line-clause-worked
returns-in_err-work_line-clause-worked g c =
    let s = c.args.server.now in
    let roles = c.args.roles.now in
    let lines = c.args.lines.now in
    let i = c.loop-line.line-index in
    let v = desk_view c.args.desk.now in
    let d = c.loop-line.desk in
    let l = c.line-item.result in
    let fault = c.in_err-work_line.field-0.0 in
    let split = cut-at c.as_slice-line-items.result.now lines i l c.as_slice-line-items.ensures c.loop-line-test.true c.line-item.is in
    let k = subst (λ ls. IsAmong s roles lines v ls d) split c.loop-line.invariant in
    let begun = way-on s roles lines v l (drop (i + 1) lines) d i c.work_line.new.desk (Some fault) split k (c.if-line-number.true ∙ (c.number.ensures ∙ k.number)) c.in_err-work_line.ensures.desk c.in_err-work_line.ensures.worked in
    subst (λ o. WorksLines roles lines o v (desk_view c.work_line.new.desk)) (sym (err-is c.from_residual.result fault c.from_residual.ensures.1)) begun.1

pub loop-line-preserved : goal.loop-line-preserved
loop-line-preserved g c =
    let s = c.args.server.now in
    let roles = c.args.roles.now in
    let lines = c.args.lines.now in
    let i = c.loop-line.line-index in
    let v = desk_view c.args.desk.now in
    let d = c.loop-line.desk in
    let l = c.line-item.result in
    let left = drop (i + 1) lines in
    let split = cut-at c.as_slice-line-items.result.now lines i l c.as_slice-line-items.ensures c.loop-line-test.true c.line-item.is in
    let k = subst (λ ls. IsAmong s roles lines v ls d) split c.loop-line.invariant in
    elim c.if-line-number.branch [
      | then-line-number+in_ok-work_line w ↦
          subst (IsAmong s roles lines v left) (sym w.desk-is)
          (way-on s roles lines v l left d i w.work_line.new.desk None split k (w.if-line-number.true ∙ (c.number.ensures ∙ k.number)) w.in_ok-work_line.ensures.desk w.in_ok-work_line.ensures.worked)
      | else-line-number w ↦ subst (IsAmong s roles lines v left) (sym w.desk-is) (way-over s roles lines v l left d None k (λ own. w.if-line-number.false (own ∙ sym (c.number.ensures ∙ k.number))))
    ]

pub returns-clause-worked : goal.returns-clause-worked
returns-clause-worked g c =
    let lines = c.args.lines.now in
    let v = desk_view c.args.desk.now in
    let ended : drop c.loop-line.line-index lines ≡ [] = drop_of_length-le lines (omega (arith, c.loop-line-test.false, ap length c.as_slice-line-items.ensures)) in
    (way-last c.args.server.now c.args.roles.now lines v c.loop-line.desk None (subst (λ ls. IsAmong c.args.server.now c.args.roles.now lines v ls c.loop-line.desk) ended c.loop-line.invariant)).1
