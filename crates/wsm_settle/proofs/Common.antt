-- The names that most proofs of the crate cite, passed on from one place. Declares nothing.
pub use Rattle.std.proofs.Common.{[], ℕ, ◌++◌, ◌+◌, ◌-◌, ◌<◌, ◌||◌, ◌∙◌, ◌∷◌, ◌≡◌, ◌≤◌, ◌⊎◌, add-one, All, ap, arith, Bool, drop, drop-cons, eqb, Err, false, get_or, inl, inr, length, List, map, None, Ok, Option, refl, Result, rules}
pub use Rattle.std.proofs.{Common.{slice_index, Some, subst, suc, sym, take, true, zero}, lemmas.Bool.{both_ways, cases_Bool, eq-eqb, eqb-true, le-ltb, lt-ltb, ne_eqb}, lemmas.Option.same_Some}
pub use Rattle.std.specs.{BTreeSet.insert_key, List.{list_all, list_any, position_from}, Option.option_copied, Ordering.{match_ordering, nat_cmp}, Prelude.{◌==◌, IfOk, if◌then◌else◌, is_some, OnOk, option_map, replicate, slice_set}}
pub use Rattle.wsm_lists.specs.{ByNumber.{changed, item_at, RowsWithRoom}, Keys.first, Rows.{Ascends, put_row}}
pub use Rattle.wsm_marks.proofs.RankInduction.{in_rank}
pub use Rattle.wsm_marks.specs.{Fits.RisesAfter, Schemas.Regular, Timed.{awaited, Entries, eq_of, flow, greater, latest, sig_at, sig_by, Timed}}
pub use Rattle.wsm_schema.specs.{Flat.{card_at, cards_of, flat_of, FlatModel, loop_nodes}, Marks.marks_of, Rank.IsRank, Replay.{fails, Outcome, replay_of, whole}, Rules.{is_no, is_yes, Spots}, SchemaModel.SchemaModel, Trail.is_one_of}
pub use Rattle.wsm_schema.specs.{declared.cards.Card.Card, declared.cards.End.End, declared.cards.NodeKind.NodeKind, declared.marks.Mark.Mark}
pub use Rattle.wsm_settle.specs.{AllPlaces.{places_from, WalksOne}, Behind.{low_of, WasHanded}, Events.{BehindNode, EndsRight, ReachesFew, repeated_by, RepeatsFew, RepeatsRight, StartsRight, WithdrawsRight}, Freed.freed_rows}
pub use Rattle.wsm_settle.specs.{Opening.{is_opening, opens, waits_for_none}, Places.{flagged, Places, waiting}, Revised.IsRevised, Signals.{AllOf, awaited_signals, lacks, signal_by}, Timing.{failed_at, MarksRight, position_in}}
pub use Rattle.wsm_walk.proofs.{Costs.{spent-end, spent-visit, spent-whole}, Goals.trail-aim, OneMore.{rises-after, start-changes}, Reached.{or-true, reached-keeps}, Stands.{some-one, stands-new, stands-none, stands-same}}
pub use Rattle.wsm_walk.proofs.{Told.{told-changes, told-stands}, WalkSteps.{place-one, place-within}}
pub use Rattle.wsm_walk.specs.{Current.mark_now, Kept.{mark_or, timed_of}, Listed.{said, seen}, RankPlaces.{AllBehind, AllWithin, Handed, is_pending, rank_place}, Spent.{NamesInside, reach_size, ReadsFew, Spends, Spent, visit_cost}}
pub use Rattle.wsm_walk.specs.{Targets.leads_to, Told.told_rows, Walk.{facts_by, freed, Stands, time_by, times_by, Walks, with_time}}
