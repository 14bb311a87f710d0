use Rattle.turn_rows.proofs.{Common.{◌-◌, ◌≡◌, length}, Meetings.HaveMetBefore}
use Rattle.turn_rows.proofs.meeting.meet_called.Given as goal

abbrev pub invariant-loop-place : goal.invariant-loop-place
invariant-loop-place g l =
    let m = g.M.Machine in
    record {
      even : (length l.fn.one ≡ length l.cells) × (length l.fn.two ≡ length l.cells) × (length l.one ≡ length l.cells) × (length l.two ≡ length l.cells);
      met : HaveMetBefore m.after m.reply l.called l.place l.cells l.fn.one l.fn.two l.one l.two;
    }

abbrev pub decreases-loop-place : goal.decreases-loop-place
decreases-loop-place g l = length l.cells - l.place
