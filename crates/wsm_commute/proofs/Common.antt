-- The names that most proofs of the crate cite, passed on from one place. Declares nothing.
pub use Rattle.std.proofs.Common.{[], ℕ, ◌&&◌, ◌++◌, ◌+◌, ◌-◌, ◌<◌, ◌||◌, ◌∙◌, ◌∷◌, ◌≡◌, ◌≤◌, ◌⊎◌, add-one, ap, arith, Bool, cond, drop, drop-cons, drop_of_length-le, eqb, Err, false, filter, flat_map, get_or, if◌then◌else◌, inl, inr}
pub use Rattle.std.proofs.{Common.{is_some, IsPermutation, length, List, map, None, Ok, Option, option_map, refl, Result, rules, set, Some, subst, suc, swap, sym, true, zero}, lemmas.Bool.{both_ways, cases_Bool, eqb-true, or_cases}}
pub use Rattle.std.specs.{Cmp.IsTotalOrder, Cmp.Rules.comparing, List.{list_any, position_from}, Option.option_or, Ordering.{is_eq, ordering_reverse}, Prelude.{◌==◌, not}, declared.cmp.Ordering.Ordering}
pub use Rattle.wsm_commute.specs.{Merging.{first_overlap, first_refused, in_order, overlap_with, unless_fault}, Ordered.IsOrdered, Sweep.{earlier, earliest, first_changing, first_pair, first_touching, overlaps, pair_or}}
pub use Rattle.wsm_foot.specs.{Foot.{all_changes, changes, footprint, gap_name, gap_owner, is_among, least, least_overlap, lesser, uses}, Order.name_cmp, declared.names.Name.Name}
pub use Rattle.wsm_lists.proofs.Rows.{ascends_drop, ascends_put, eq_from, eq_means, lt_not_eq, lt_other, lt_trans}
pub use Rattle.wsm_lists.specs.{Keys.{both, first, first_two, put_role}, Rows.{AllRows, Ascends, drop_row, key_eq, key_lt, put_row, row_at}, declared.values.ElementKind.ElementKind}
pub use Rattle.wsm_ops.specs.{Apply.{applied, applied_from, effect, refusal, unless_refused}, Edit.{beside, change, change_inside, change_lanes, choice, head_code, is_act_of, is_behind, is_code, is_item, put, put_if, put_inside, put_lanes}}
pub use Rattle.wsm_ops.specs.{Edit.{still_wanted, without, without_inside, without_lanes, wrap_if}, declared.faults.OpFault.OpFault, declared.operations.Gap.Gap, declared.operations.Op.Op}
pub use Rattle.wsm_schema.specs.{Ends.{first_node, first_of, last_of}, Flat.{card_at, card_of, cards_of}, Kinds.{is_activity, worked_on}, SchemaModel.SchemaModel, Sound.{nodes_of, twice, when}, Tree.{act, and_gate, gate, lane, Lanes, loop}}
pub use Rattle.wsm_schema.specs.{Tree.{no_lane, nothing, Part, part, Parts}, declared.cards.Card.Card, declared.cards.End.End, declared.cards.NodeKind.NodeKind}
