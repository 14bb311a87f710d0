-- The names that most proofs of the crate cite, passed on from one place. Declares nothing.
pub use Rattle.case_core.specs.{Ages.{age, live_age, weight}, CaseModel.{CaseModel, created_on, is_finished, LiveModel, not_created, on_schema, replay_of_case, shown_after, shown_spots, state_of, value_now}, Instances.{CountedCase, IsKept}}
pub use Rattle.case_core.specs.{Instances.{IsLive, live_in}, Kept.{IsOnceEach, Kept, KeptIn, marks_in}, KeptItems.{ChangesItems, entries_with, held_in, item_by, item_for, item_then, KeepsItems, MakesItems, RenewsItems, TellsItems}}
pub use Rattle.case_core.specs.{KeptItems.{user_from, user_in, user_then, with_item, work_item}, Machine.{case_after, change_live, change_with, end_on, end_refusal, ended_reply, ended_trail, entry_or, event_on, failed_at, hold_refusal}}
pub use Rattle.case_core.specs.Machine.{holder_of, migrate_live, migrate_refusal, migrate_with, migrated, misfit, next_case, or_reply, overlap_reply, overlap_with, reads_now, repeated_trail, repeats, start_entry, start_on, start_refusal}
pub use Rattle.case_core.specs.{Machine.{taken, user_of, when_reply, with_live, with_trail, withdraw_on, wrong_reply}, Promises.{AreLastWrites, goes_on, has_work, HasStart, HolderStarted, is_held, IsFair, IsFilled, NamesEntry}}
pub use Rattle.case_core.specs.{Promises.{NamesEntryIn, ReadsAll, StartedWhereRunning, StartsFilled, value_read}, Remarks.{AgainRemarks, EndRemarks, IsAdaptedTo, IsTimedOn, Moves, Remarks, Runs, RunsLoop, started_in, StartRemarks, user_at}}
pub use Rattle.case_core.specs.{Rounds.{first_seen, lesser, seen_before}, Shown.{held_by, item_in, item_of, items_at, items_in, items_of, shown_holder, shown_live, shown_state_of, values_of}, declared.events.Event.Event}
pub use Rattle.case_core.specs.{declared.live.Live.Live, declared.replies.Reply.Reply}
pub use Rattle.case_writes.specs.Writes.{by_element, number_key, wrong_elements}
pub use Rattle.std.proofs.Common.{[], ℕ, ◌*◌, ◌++◌, ◌+◌, ◌<◌, ◌^◌, ◌||◌, ◌∙◌, ◌∷◌, ◌≡◌, ◌≢◌, ◌≤◌, ap, arith, Bool, cond, drop, drop_of_length-le, eqb, Err, false, filter, flat_map, fold, get_or, IfOk, inl, inr, is_some, length}
pub use Rattle.std.proofs.{Common.{length-append, List, map, None, not, Ok, Option, refl, Result, rules, Some, subst, suc, sym, true, zero}, lemmas.Bool.{and_parts, both_ways, cases_Bool, eq-eqb, eqb-true, ltb-false, ltb-true, ne_eqb}}
pub use Rattle.std.proofs.{lemmas.Bool.{or_cases, or_left, or_parts, or_right}, lemmas.List.{drop_more, length-map}, lemmas.Option.same_Some, lemmas.Result.IfOk-weaker}
pub use Rattle.std.specs.{List.{cons_option, list_any}, Option.{option_copied, option_or}, Prelude.{◌==◌, filter_map, find, if◌then◌else◌, nat_lt, option_map}}
pub use Rattle.wsm_adapt.specs.Adapted.{AdaptsRight, IsAdapted, marks_to_read, TellsTouched}
pub use Rattle.wsm_foot.specs.{Foot.{all_changes, is_among, least, least_overlap}, declared.names.Name.Name}
pub use Rattle.wsm_items.specs.{WorkItems.{IsOfNode, item_node}, declared.work_items.Item.Item}
pub use Rattle.wsm_lists.proofs.{ByNumber.{ascends-change, item_at-above, item_at-changed, item_at-put, items-same, lt_number}, Lists.{all-rows-map, all_rows, both_rows, rows-append, rows-parts}, Rows.{all_put, ascends_drop, ascends_put}}
pub use Rattle.wsm_lists.proofs.Rows.{lt_from, lt_means}
pub use Rattle.wsm_lists.specs.{ByNumber.{change_row, changed, item_after, item_at}, Keys.{both, first}, Rows.{AllRows, Ascends, key_lt, put_row}, Values.{value_in, Written}}
pub use Rattle.wsm_marks.proofs.{LastMarking.{running-held, whole-trail, WholeTrail}, NoFault.{no_either, no_when, not_false}, ReadyValues.{activated-values, running-begun}, SaneTrails.{found-row, position-found}}
pub use Rattle.wsm_marks.proofs.{SoundSchemas.sound-regular, WholeTrails.whole-orderly}
pub use Rattle.wsm_marks.specs.{Fits.{InOrder, Orderly, RisesAfter}, Timed.early}
pub use Rattle.wsm_ops.specs.{Apply.{applied, applied_from, effect, refusal, unless_refused}, declared.operations.Op.Op}
pub use Rattle.wsm_replay.proofs.OneEntryMore.{marking_of-spots}
pub use Rattle.wsm_schema.proofs.Rounds.{card_at-node, node_of-spot_in}
pub use Rattle.wsm_schema.specs.{Flat.{card_at, card_of, cards_of, flat_of, FlatModel, loop_nodes}, Kinds.{is_loop_end, worked_on}, Marks.{facts_of, is_again_of, is_end_of, is_start_of, mark_of, marks_of, position_of}, Places.branch_heads}
pub use Rattle.wsm_schema.specs.{Places.{branch_tails, join_kind, labelled, lanes_places, part_places, parts_places, place, places, plain_end, split_kind}, Rank.IsRank, Replay.{fails, fits_choice, is_in_state, Outcome, replay_of, whole}}
pub use Rattle.wsm_schema.specs.{Rules.{by_node, marking_of, settle, spot, spot_in, Spots}, SchemaModel.SchemaModel, Sound.{block_fault, control_edges, leads, nodes_of, Sound, sync_cycle}, Trail.{cut_by, cut_entry, is_one_of, no_trail}}
pub use Rattle.wsm_schema.specs.{Trail.{pushed, TrailModel, value_below, wrote}, declared.cards.Card.Card, declared.entries.Entry.Entry, declared.marks.Mark.Mark, declared.places.Place.Place, declared.states.Spot.Spot}
pub use Rattle.wsm_schema.specs.declared.states.State.{State}
pub use Rattle.wsm_settle.specs.{Events.{EndsRight, RepeatsRight, StartsRight, WithdrawsRight}, Timing.IsTimed}
pub use Rattle.wsm_sound.proofs.{InARow.applied-in_a_row, NoFaults.{change_none, is_sound, taken_parts}}
pub use Rattle.wsm_sound.specs.{Faults.{changed_by, fault_of}, Flattened.IsChecked, VersionModel.VersionModel, Versions.ops_after, declared.faults.Fault.Fault}
pub use Rattle.wsm_steps.proofs.{Markings.{IsSpotOf, marking-rows, spot-among}, Positions.{last-below, rises-after}}
pub use Rattle.wsm_steps.specs.Whole.{again_once, agains_once, has_again, is_whole}
pub use Rattle.wsm_trail.proofs.{LastWrite.{all_values-ascend, value_in-all_values}, Rising.{rises-ascends, rises-le, rises_push}}
pub use Rattle.wsm_trail.specs.{Cuts.StaysBelow, EntryAt.entry_at, Withdrawn.{starts_of, withdrawn, without_start}}
pub use Rattle.wsm_walk.proofs.{KeptStates.{spot-kept, spot-unmarked, start-found, started-kept}, Listed.ascends-listed, OneMore.{kept-item, kept-mark}, WithdrawnTrails.{find-without, start-gone, withdrawn-whole}}
pub use Rattle.wsm_walk.specs.{Current.{Current, mark_now}, FirstBad.AtMostOne, Kept.{mark_or, no_mark}, Listed.listed, MarkStates.mark_spot, Spent.reach_size}
