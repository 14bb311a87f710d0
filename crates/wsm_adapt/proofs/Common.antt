-- The names that most proofs of the crate cite, passed on from one place. Declares nothing.
pub use Rattle.std.proofs.Common.{[], ℕ, ◌&&◌, ◌++◌, ◌+◌, ◌<◌, ◌||◌, ◌∙◌, ◌∷◌, ◌≡◌, ◌≢◌, ◌≤◌, ◌⊎◌, All, ap, arith, Bool, cond, drop, eqb, false, filter, get_or, inl, inr, length, length-append, List, ltb, map, None, not, Option, refl}
pub use Rattle.std.proofs.{Common.{reverse, rules, slice_index, Some, subst, suc, sym, take, true, zero}, lemmas.Bool.{and_parts, and_right, both_ways, cases_Bool, eq-eqb, eqb-true, ltb-false, ltb-true, ne_eqb, or_left, or_right}}
pub use Rattle.std.proofs.{lemmas.List.{drop_all, drop_more, nil_from_length, reverse-append}, lemmas.Option.same_Some}
pub use Rattle.std.specs.{List.list_any, Option.{option_copied, option_or}, Prelude.{find, if◌then◌else◌, is_some, nat_eq, option_map}}
pub use Rattle.wsm_adapt.specs.{Adapted.{AdaptsRight, gone_of, IsAdapted, marks_to_read, TellsTouched, without}, Adapting.Changes, Begun.{Begins, begun_row, begun_rows, is_led, IsFound, NoneOf, TellsOf}, Border.{AllAmong, AllKnown}}
pub use Rattle.wsm_adapt.specs.{Border.{end_node, FewAmong, is_known, own, ReadsMore, SourcesAmong, SpendsAmong, unknown, unknown_in}, Misfits.{again_fits, again_misfit, again_misfit_in, early_in, early_start, end_fits, end_misfit}}
pub use Rattle.wsm_adapt.specs.{Misfits.{misfit_in, misfit_of, partner_in, reads_in, region_misfit, start_fits, start_misfit, unless}, Region.{is_reached, IsNet}, Walking.{Closed, Confined, Covered, GoesOn, is_named, IsAsKept, IsVisit}}
pub use Rattle.wsm_adapt.specs.{Walking.{KeepsTold, loop_end, ReadsFew, SpendsOn, Standing, StaysInside, VisitAmong}, declared.walks.Found.Found}
pub use Rattle.wsm_lists.proofs.{ByNumber.{ascends-changed, is_some-map, item_at-changed, item_at-put, items-same}, Lists.{all-rows-map, all_rows, both_rows, rows-append, rows-map}}
pub use Rattle.wsm_lists.specs.{ByNumber.{changed, item_after, item_at}, Keys.first, Rows.{AllRows, Ascends, put_row, row_at}, Values.Written, declared.values.ElementKind.ElementKind, declared.values.Value.Value}
pub use Rattle.wsm_marks.proofs.{Cards.{on_card-same, on_card-true, same_card}, Lists.{one_of-front, one_of-last}, MarksOfTrails.{whole-fits, whole-marks}, RankInduction.{in_rank, Known}, SaneTrails.{found-row, position-found}}
pub use Rattle.wsm_marks.proofs.Sources.{sources-have_cards}
pub use Rattle.wsm_marks.specs.{Fits.{Ends, fits, last_position, partner_done, RisesAfter}, Schemas.{Distinct, HasCard, Regular}, Timed.{before, early, Entries, Marking, sig_at, sig_by, Timed}}
pub use Rattle.wsm_schema.proofs.Rounds.{all-rows-card_at, card_at-node, member-splits}
pub use Rattle.wsm_schema.specs.{Flat.{card_at, card_of, cards_of, flat_of, FlatModel, kind_in}, Kinds.{is_loop_end, is_loop_start, worked_on}, Marks.{choice_of, Facts, facts_of, is_again_of, is_end_of, is_start_of, list_marks, marks_of}}
pub use Rattle.wsm_schema.specs.{Marks.position_of, Rank.IsRank, Replay.{fits_choice, fits_edges, fits_reads, is_of_kind, on_card, replay_of, whole}, Rules.{is_yes, Spots}, SchemaModel.SchemaModel, Touched.{by_control, by_sync, here}}
pub use Rattle.wsm_schema.specs.{Touched.Reaches, Trail.{is_one_of, value_below}, declared.cards.Card.Card, declared.cards.End.End, declared.cards.NodeKind.NodeKind, declared.entries.Entry.Entry, declared.marks.Mark.Mark}
pub use Rattle.wsm_settle.proofs.{Handing.{handed-next, handed-rest, handed-within}, Results.on_ok, Visits.{behind-all, left-less, left_of, none-left, walks-new, walks-none, walks-same, within-head, within-tail}}
pub use Rattle.wsm_trail.specs.EntryAt.{entry_at}
pub use Rattle.wsm_walk.proofs.{FoundAt.found-entry, Goals.trail-aim, Kept.{listed-read, timed_of-by}, Listed.{ascends-listed, listed-item, said-mark}, Reached.{or-true, reached-keeps, reached-least, rows-member}}
pub use Rattle.wsm_walk.proofs.{ReachedNames.reached-names, RegionMisfit.node_bad, Regions.{kinds-fit, region-of}, Touches.{edges-fit, reads-fit}, WalkSteps.{fewer-places, passed-to, place-behind, place-front, place-one}}
pub use Rattle.wsm_walk.specs.{Current.mark_now, FirstBad.{bad_at, least, lesser}, Kept.{mark_or, timed_of}, Listed.{listed, said, seen}, RankPlaces.{AllBehind, AllWithin, Handed, is_pending, rank_place}, Targets.leads_to}
pub use Rattle.wsm_walk.specs.{Touches.{edges_fit, reads_fit}, Walk.{Aim, facts_by, NoEdgeFrom, Stands, time_by, times_by, untimed, with_time}}
