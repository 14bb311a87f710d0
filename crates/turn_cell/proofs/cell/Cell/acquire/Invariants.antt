use Rattle.turn_cell.proofs.Common.{[], ◌≡◌, None, Stays, view_at}
use Rattle.turn_cell.specs.declared.seat_view.Phase.TheVariants.{Idle}
use Rattle.turn_cell.proofs.cell.Cell.acquire.Given as goal

abbrev pub invariant-loop : goal.invariant-loop
invariant-loop g l =
    (l.seat.me.0.phase ≡ Idle) × (l.seat.me.1 ≡ []) × Stays (view_at l.initial.seat.table_id None l.initial.seat.me.0) (view_at l.seat.table_id None l.seat.me.0) × (l.seat.me.0.seen ≡ l.initial.seat.me.0.seen) × (l.seat.me.0.own_calls ≡ l.initial.seat.me.0.own_calls)
