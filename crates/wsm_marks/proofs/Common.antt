-- The names that most proofs of the crate cite, passed on from one place. Declares nothing.
pub use Rattle.std.proofs.Common.{[], ℕ, ◌&&◌, ◌++◌, ◌+◌, ◌<◌, ◌||◌, ◌∙◌, ◌∷◌, ◌≡◌, ◌≤◌, ◌⊎◌, ap, append-nil, append_assoc, arith, Bool, cond, eqb, false, fold, inl, inr, length, length-append, List, map, None, not, Option, refl, Some}
pub use Rattle.std.proofs.{Common.{subst, suc, sym, true, zero}, Math.Bool.or-false, lemmas.Bool.{and_from, and_left, and_parts, and_right, both_ways, cases_Bool, eq-eqb, eqb-false, eqb-true, le-ltb, lt-ltb, ltb-false, ltb-true, ne_eqb}}
pub use Rattle.std.proofs.{lemmas.Bool.{not-true, not_from_false, or_cases, or_left, or_parts, or_right}, lemmas.Option.same_Some}
pub use Rattle.std.specs.{Fn.iterate, List.{cons_option, list_all, list_any}, Prelude.{◌==◌, count_by, filter, find, if◌then◌else◌, is_some, nat_lt, option_map}}
pub use Rattle.wsm_lists.proofs.Lists.{all-rows-map, all_rows, both_rows, map-same, rows-append, rows-map, rows-parts}
pub use Rattle.wsm_lists.specs.{Rows.{AllRows, put_row}, Values.{value_in, Written}, declared.values.Value.Value}
pub use Rattle.wsm_marks.specs.{Fits.{Ends, first_misfit, fits, Fresh, InOrder, last_position, Orderly, partner_done, Quiet, RisesAfter, Tells, Told}, Loops.{Cleared, cut_entries, HasEdge, Inner, is_inside, LoopOf}, MarkBy.{mark_by, since}}
pub use Rattle.wsm_marks.specs.{Regions.{Closed, is_of, misfit_in, Region}, Schemas.{ApartLanes, ApartPart, ApartParts, Distinct, FullLanes, FullPart, FullParts, HasCard, Regular, SyncsApart}, Solving.{put_eq, solution, solve}}
pub use Rattle.wsm_marks.specs.{Solving.solve_inside, Timed.{awaited, before, begun_or, below, early, ended_signal, Entries, eq_at, eq_of, flow, greater, Idle, InTime, is_marked, IsBelow, KeptSpots, latest, Marking, sig_at, sig_by, sig_of}}
pub use Rattle.wsm_marks.specs.Timed.{Solves, spot_before, time, Timed, timed_by, verdict_of}
pub use Rattle.wsm_schema.proofs.Rounds.{all-rows-card_at, card_at-node, iterate-last, keeps_rounds, KeepsBegun, Meets, member-splits, rule_begins_none, settled, spot_in-map, spot_in-round}
pub use Rattle.wsm_schema.specs.{Ends.{first_node, last_of}, Flat.{card_at, card_of, cards_of, flat_of, FlatModel, from_node, loop_from, loop_nodes, loop_start, up_to_node}, Kinds.{is_activity, is_loop_end, is_xor_split, worked_on}}
pub use Rattle.wsm_schema.specs.Marks.{choice_of, Facts, facts_of, first_at, history_from, history_of, is_again_of, is_end_of, is_out, is_start_of, is_up, list_marks, mark_key, mark_of, marks_of, position_of, says_something}
pub use Rattle.wsm_schema.specs.{Places.{branch_heads, branch_tails, join_kind, labelled, lanes_places, leaving, part_places, parts_places, place, places, plain_end, split_kind}, Rank.IsRank, Replay.{after, applicable, fails, fits_choice}}
pub use Rattle.wsm_schema.specs.{Replay.{fits_edges, fits_reads, has_label, is_in_state, on_card, Outcome, partner_completed, replay_from, replay_of, whole}, Rules.{is_begun, is_chosen, is_no, is_ready, is_skipped, is_yes, judge_of, round}}
pub use Rattle.wsm_schema.specs.{Rules.{ruled, settle, signal_from, signal_of, source_signal, spot, spot_in, Spots, state_by, sync_from, verdict_at}, SchemaModel.{plain, SchemaModel}, Sound.{block_fault, codes_of, data_fault, first_some}}
pub use Rattle.wsm_schema.specs.Sound.{has_one_edge, is_act_in, is_and, is_worked_on_in, lanes_apart, lanes_block_fault, lanes_bound, lanes_have, lanes_loop, missing_at, nodes_of, none_sure, parallel_write, parallel_writes, part_apart}
pub use Rattle.wsm_schema.specs.Sound.{part_block_fault, part_bound, part_has, part_loop, parts_apart, parts_block_fault, parts_bound, parts_have, parts_loop, same_option, Sure, sure_at, sure_behind, sure_by, sure_by_syncs, sure_of, synced}
pub use Rattle.wsm_schema.specs.{Sound.{twice, unknown, when, writes_of}, Trail.{cut_entry, is_one_of, later_or, value_below, written_by}, Tree.{act, and_gate, Gate, gate, lane, Lanes, loop, no_lane, nothing, Part, part, Parts, xor_gate}}
pub use Rattle.wsm_schema.specs.{declared.cards.Card.Card, declared.cards.End.End, declared.cards.NodeKind.NodeKind, declared.entries.Entry.Entry, declared.places.Place.Place, declared.states.Flow.Flow, declared.states.Spot.Spot}
pub use Rattle.wsm_schema.specs.{declared.states.State.State, declared.states.Verdict.Verdict}
