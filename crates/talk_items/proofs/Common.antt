-- The names that most proofs of the crate cite, passed on from one place. Declares nothing.
pub use Rattle.file_words.specs.{Lines.{Bytes, CutLines, lines_of, onto_lines, put_first}, Words.{behind, cuts, fields, is, is_word, onto_fields, words_of}}
pub use Rattle.line_words.specs.Standing.{quoted}
pub use Rattle.std.proofs.Common.{[], ℕ, ◌++◌, ◌+◌, ◌-◌, ◌<◌, ◌==◌, ◌||◌, ◌∙◌, ◌∷◌, ◌≡◌, ◌≤◌, ap, append_assoc, arith, Bool, codes, drop, drop-cons, drop-drop, false, get_or, if◌then◌else◌, inl, inr, IsTrue, length, length-append}
pub use Rattle.std.proofs.{Common.{length-drop, List, min, None, not, Option, refl, Some, subst, suc, sym, take, take-add, take-append-drop, take_all, true, zero, zero-add}, lemmas.Bool.{cases_lt, eq-eqb, eqb-true, le-ltb, lt-ltb}}
pub use Rattle.std.proofs.{lemmas.List.{append-nil, length-take, map-append, take-append-le}, lemmas.List.Sums.{count_by-le-length, length-filter, prefix_len_passes}}
pub use Rattle.std.specs.{List.{filter, onto_first, position, position_or_len}, Prelude.{◌&&◌, ◌↔◌, Err, IsOk, map, nat_lt, Ok, OnErr, OnOk, option_map, Result}}
pub use Rattle.talk_items.specs.{Cuts.{Cut, cut, cut_from, cut_more, with_last}, Fronts.{tell_enough, TellAll}, Items.{begins_with_change, counted, ends, ends_line, first_kind, is_end, is_skipped, item_end, kind}}
pub use Rattle.talk_items.specs.{Items.{kind_of, opens, place_behind, place_of, question_opens, unit_opens, what_if_opens, words}, Keywords.keyword, Scans.{counted_with, first_with, HasNoFeed, IsScan}, declared.items.ItemKind.ItemKind}
pub use Rattle.talk_items.specs.{declared.items.Place.Place, declared.keywords.Keyword.Keyword, declared.limits.TheConstants.MAX_ITEM}
