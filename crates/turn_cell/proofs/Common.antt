-- The names that most proofs of the crate cite, passed on from one place. Declares nothing.
pub use Rattle.atomic_table.proofs.Lists.{at_set, at_snoc, exchanged, set_else}
pub use Rattle.atomic_table.specs.Table.{Act, Allows, carried_after, Final, gives, Joins, keeps, opening, rest, Seen, Splits, State, step, stepped, takes, Valid}
pub use Rattle.std.proofs.Common.{[], ℕ, ⊎_elim, ◌*◌, ◌++◌, ◌+◌, ◌<◌, ◌∙◌, ◌∷◌, ◌≡◌, ◌≢◌, ◌≤◌, ◌⊎◌, All, Any, ap, append_assoc, arith, Bool, drop, eq-eqb, eqb, false, get_or, if◌then◌else◌, inl, inr, le_refl, length, length-append, List}
pub use Rattle.std.proofs.{Common.{ltb, ne_eqb, None, Option, refl, Result, set, Some, subst, suc, sym, true, zero}, Math.Seq.drop-append_seam, lemmas.List.{append-nil, append_cancel_left}}
pub use Rattle.turn_cell.specs.{History.{calls_of, entry, IsLegal, IsLegalFrom, IsStateAfter, state_after}, Passes.{Calls, IsClosed, PassView, Stays, view_at, view_of}, Rule.{acquired, AreCalls, carried_log, committed, first, Fits}}
pub use Rattle.turn_cell.specs.Rule.{FitsPass, has_slot, has_turn, heard, is_live, is_pass, IsHeld, IsKept, IsYoung, joined, longer, note_of, observed, one_if, owns, passes, released, Seated, shorter, slots, spent, split_from, split_off}
pub use Rattle.turn_cell.specs.{Rule.{times, took_out, total, turns}, declared.guarded.Guarded.Guarded, declared.journal.Entry.Entry, declared.seat_view.Phase.Phase, declared.seat_view.SeatView.SeatView}
