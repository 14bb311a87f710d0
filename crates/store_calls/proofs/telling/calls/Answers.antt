use Rattle.std.proofs.{Common.{◌≡◌, ◌∙◌, ap, fold, subst, sym}, lemmas.List.at_drop_all}
use Rattle.std.specs.List.{AllByRecursion}
use Rattle.store_calls.specs.Calls.{told_file, told_of, told_phase}
use Rattle.store_room.specs.Room.{IsPayable}
use Rattle.store_calls.proofs.Payable.{payable_calls}
use Rattle.store_calls.proofs.telling.calls.Goals as goal

pub returns-clause-payable : goal.returns-clause-payable
returns-clause-payable c =
    let l = c.loop-lines in
    let f = c.args.file.now in
    let same : told_of l.telling ≡ told_file f =
    sym (at_drop_all (fold (told_phase f) (told_of l.telling)) c.as_slice-lines-items.result.now l.lines-index c.loop-lines-test.false) ∙ l.invariant.told in
    subst (AllByRecursion IsPayable) (sym (ap (λ s. s.calls) same)) (payable_calls f c.requires.workable)
