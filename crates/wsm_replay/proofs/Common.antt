-- The names that most proofs of the crate cite, passed on from one place. Declares nothing.
pub use Rattle.std.proofs.Common.{[], ℕ, ◌&&◌, ◌++◌, ◌+◌, ◌<◌, ◌||◌, ◌∙◌, ◌∷◌, ◌≡◌, ◌≢◌, ◌≤◌, ◌⊎◌, add-one, ap, arith, Bool, cond, drop, drop-cons, drop_of_length-le, eqb, false, fold, get_or, inl, inr, length, List, map, None, not, Option}
pub use Rattle.std.proofs.{Common.{refl, slice_index, Some, subst, suc, sym, take, true}, lemmas.Bool.{and_right, both_ways, cases_Bool, eq-eqb, eqb-true, le-ltb}, lemmas.Result.IfOk-weaker}
pub use Rattle.std.specs.Option.{is_some, option_copied, option_or}
pub use Rattle.wsm_lists.proofs.ByNumber.{eq_number, row_at-put}
pub use Rattle.wsm_lists.specs.{Rows.{AllRows, Ascends, key_eq, put_row, row_at}, declared.values.Value.Value}
pub use Rattle.wsm_replay.specs.{Answer.answer, SameSpots.{IsMarking, SameRows, SameSpots}}
pub use Rattle.wsm_schema.proofs.Rounds.{all-rows-card_at, card_at-node, node_of-spot_in, settle-is_pass}
pub use Rattle.wsm_schema.specs.{Flat.{card_at, FlatModel}, Pass.{pass, ruled_from, ruled_if}, Rank.IsRank, Replay.{after, applicable, applicable_end, applicable_start, fails, fits_edges, fits_reads, has_label, is_in_state, on_card}}
pub use Rattle.wsm_schema.specs.{Replay.{Outcome, partner_completed, replay_from, replay_of, whole}, Rules.{by_node, is_begun, judge_of, marking_of, settle, source_signal, spot, spot_in, Spots, state_by, verdict_at}, Trail.is_one_of}
pub use Rattle.wsm_schema.specs.{Trail.value_below, declared.cards.Card.Card, declared.entries.Entry.Entry, declared.states.Spot.Spot}
pub use Rattle.wsm_trail.proofs.{LastWrite.{below-append, value_before}, Rising.{rises-le, rises-parts}}
pub use Rattle.wsm_trail.specs.{EntryAt.value_noted, LastWrites.{noted_entries, noted_entry}, TrailWithRoom.Rises}
