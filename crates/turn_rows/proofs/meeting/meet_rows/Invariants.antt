use Rattle.turn_rows.proofs.{Common.{◌≡◌, length}, Meetings.HaveMetUpTo}
use Rattle.turn_rows.proofs.meeting.meet_rows.Given as goal

abbrev pub invariant-loop-place : goal.invariant-loop-place
invariant-loop-place g l =
    let m = g.M.Machine in
    record {
      even : (length l.fn.one ≡ length l.cells) × (length l.fn.two ≡ length l.cells) × (length l.one ≡ length l.cells) × (length l.two ≡ length l.cells);
      met : HaveMetUpTo m.after m.reply l.place l.cells l.fn.one l.fn.two l.one l.two;
    }
