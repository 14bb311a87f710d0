-- The names that most proofs of the crate cite, passed on from one place. Declares nothing.
pub use Rattle.std.proofs.Common.{[], ℕ, ℤ, ◌*◌, ◌++◌, ◌+◌, ◌-◌, ◌<◌, ◌^◌, ◌∙◌, ◌∷◌, ◌≡◌, ◌≢◌, ◌≤◌, ap, append-nil, append_assoc, arith, Bool, drop, false, get_or, inl, inr, length, List, map, None, Option, refl, Some, subst, suc, sym}
pub use Rattle.std.proofs.{Common.{take, true, zero}, lemmas.Bool.{cases_lt, eqb-true, le-leb, le-ltb, leb-true, lt-ltb, ltb-false, ltb-true, ne_eqb}, lemmas.List.{drop_all, drop_at, drop_more, get_or-drop, get_or-take, get_or_default}}
pub use Rattle.std.proofs.{lemmas.List.{get_or_past, length-append, length-take, map_push, take-append-drop, take_at}, lemmas.Result.{err_from_is_err_and, on_ok_weaker}}
pub use Rattle.std.specs.{Int.{byte_len, cast_signed, cast_unsigned, from_be_bytes, to_be_bytes, w16, w32, w64, Width}, List.{AllByRecursion, list_all}, Prelude.{◌&&◌, ◌==◌, FitsSigned, flat_map, if◌then◌else◌, nat_le, nat_lt, negsuc}}
pub use Rattle.std.specs.Prelude.{Result}
pub use Rattle.store_form.specs.{Given.{Fails, Gives}, Payload.{body_bytes, Bytes, case_bytes, edges_bytes, flag, gap_bytes, id_bytes, kind_bytes, lanes_bytes, listed, op_bytes, optional, part_bytes, parts_bytes, payload, Reads}}
pub use Rattle.store_form.specs.{Payload.{schema_bytes, u16, u32, u32_u32, value_bytes}, Reading.{◌>>=◌, as_at, block_behind, body_at, both_at, code_at, element_at, Field, flag_at, gap_at, id_at, int_at, kind_at, kind_of_flag, lane_at}}
pub use Rattle.store_form.specs.Reading.{lanes_at, list_at, many_at, number_at, option_at, pair_at, part_at, part_behind, read_at, Reader, recorded_at, recorded_of, rises, rises_from, roles_at, table_at, text_at, u32_at, value_at, where_at}
pub use Rattle.store_form.specs.{Reading.{whole_of, write_at}, Shrinking.{lane_shrinks, part_shrinks, too_many}, Stored.{case_of, few_branches, few_in_lanes, few_in_parts, few_items, Fits, FitsEach, FitsEdges, FitsEvent, FitsGap, FitsId}}
pub use Rattle.store_form.specs.{Stored.{FitsItems, FitsLanes, FitsOp, FitsOption, FitsPair, FitsPart, FitsParts, FitsSchema, FitsValue, IsCode, IsNumber, lane_count, part_count}, declared.fields.ReadFault.ReadFault}
pub use Rattle.wsm_lists.specs.{Keys.{both, first, first_two, HasRoles, put_role}, Rows.{AllRows, Ascends, drop_row, key_lt, put_row}, declared.values.ElementKind.ElementKind}
pub use Rattle.wsm_ops.proofs.Rising.{filled-next}
pub use Rattle.wsm_ops.specs.declared.operations.Op.{Op}
pub use Rattle.wsm_schema.specs.{SchemaModel.{plain, SchemaModel}, Sound.{lanes_depth, part_depth, parts_depth}, Tree.{act, and_gate, gate, lane, Lanes, lanes, loop, no_lane, nothing, Part, part, Parts, parts, xor_gate}, TreeOf.lane_of}
pub use Rattle.wsm_schema.specs.{TreeOf.{lanes_of, part_of, parts_of}, declared.blocks.Branch.Branch}
