-- The names that most proofs of the crate cite, passed on from one place. Declares nothing.
pub use Rattle.std.proofs.Common.{[], ℕ, ◌&&◌, ◌++◌, ◌+◌, ◌-◌, ◌<◌, ◌||◌, ◌∙◌, ◌∷◌, ◌≡◌, ◌≤◌, ◌⊎◌, ap, append-nil, append_assoc, arith, Bool, Contains, eqb, false, inl, inr, length, length-append, List, ltb, map, None, not, Option, refl}
pub use Rattle.std.proofs.{Common.{Some, subst, suc, sym, true, zero}, lemmas.Bool.{and_parts, both_ways, cases_Bool, eq-eqb, eqb-true, le-ltb, lt-ltb, ltb-false, ltb-true, or_left, or_right}}
pub use Rattle.std.specs.{List.{fold, list_any}, Prelude.{◌==◌, filter, find, get_or, if◌then◌else◌, is_some, nat_lt, option_map}}
pub use Rattle.wsm_lists.proofs.{ByNumber.{ascends-changed, item_at-changed, item_at-put, items-same}, Lists.{all-rows-map, all_rows, both_rows, rows-append, rows-map, rows-parts}, Rows.{ascends_put, eq_from, eq_means}}
pub use Rattle.wsm_lists.specs.{ByNumber.{changed, item_after, item_at}, Keys.first, Rows.{AllRows, Ascends, key_eq, put_row, row_at}, Values.{same_option_value, value_in, Written}, declared.values.ElementKind.ElementKind}
pub use Rattle.wsm_lists.specs.declared.values.Value.{Value}
pub use Rattle.wsm_marks.proofs.{Cards.{on_card-same, on_card-true, placed-rows, same_card}, Causality.{solved_net, TimedNet}, LastMarking.{running-held, told-early, whole-trail, WholeTrail}, Lists.{eqb-swap, one_of-front, one_of-last}}
pub use Rattle.wsm_marks.proofs.{Lists.one_of-middle, MarksOfTrails.{marks-are, whole-fits, whole-marks}, RankInduction.{in_rank, Known, rank_induction}, Remark.{closed-bordered, remark, starts-change_none}, Repeats.loop-of_schema}
pub use Rattle.wsm_marks.proofs.{Repeats.repeat-whole, Signals.{before-in_time, is_ready_mark}, Solutions.{eq_at-same, eq_of-same, solution-solves}, Sources.sources-have_cards, Telling.{find-last, trail-ends}, WholeTrails.whole-orderly}
pub use Rattle.wsm_marks.specs.{Fits.{Ends, first_misfit, fits, InOrder, last_position, Orderly, partner_done, RisesAfter}, Loops.{Cleared, cut_entries, Inner, LoopOf}, MarkBy.{mark_by, since}, Regions.{Closed, is_of, misfit_in, Region}}
pub use Rattle.wsm_marks.specs.{Schemas.{HasCard, Regular}, Solving.{solution, solve_inside}, Timed.{before, early, Entries, flow, Marking, sig_at, sig_by, time, Timed}}
pub use Rattle.wsm_schema.proofs.Rounds.{all-rows-card_at, card_at-node, member-splits}
pub use Rattle.wsm_schema.specs.{Flat.{card_at, card_of, cards_of, flat_of, FlatModel, from_node, kind_in, loop_nodes, up_to_node}, Kinds.{is_loop_end, worked_on}, Marks.{choice_of, Facts, facts_of, first_at, history_from, is_again_of}}
pub use Rattle.wsm_schema.specs.{Marks.{is_end_of, is_out, is_start_of, is_up, list_marks, mark_key, mark_of, marks_of, position_of, says_something}, Rank.IsRank, Replay.{after, applicable, fails, fits_edges, fits_reads, is_in_state}}
pub use Rattle.wsm_schema.specs.{Replay.{is_of_kind, on_card, Outcome, replay_from, replay_of, whole}, Rules.{is_yes, settle, spot, spot_in, Spots}, SchemaModel.SchemaModel, Trail.{is_one_of, later_or, value_below, written_by}}
pub use Rattle.wsm_schema.specs.{declared.cards.Card.Card, declared.cards.End.End, declared.entries.Entry.Entry, declared.marks.Mark.Mark}
pub use Rattle.wsm_trail.specs.{EntryAt.entry_at, TrailWithRoom.Rises, Withdrawn.without_start}
pub use Rattle.wsm_walk.specs.{Current.{Current, mark_now}, FirstBad.{AtMostOne, bad_at, first_bad, least, lesser}, Kept.{mark_or, no_mark, timed_from, timed_of}, Listed.{listed, said, seen}, MarkStates.mark_spot, RankPlaces.AllBehind}
pub use Rattle.wsm_walk.specs.{RankPlaces.{Handed, is_pending, Named, rank_place}, Reached.{edges_into, is_entered, reach_cost, reached_from}, Spent.{NamesInside, Spent, visit_cost}, Targets.{Leads, leads_to}, Untouched.Untouched, Walk.Aim}
pub use Rattle.wsm_walk.specs.Walk.{facts_by, freed, NoEdgeFrom, SaysOf, Stands, time_by, times_by, untimed, Walked, with_time}
