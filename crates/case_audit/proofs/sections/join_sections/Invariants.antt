use Rattle.case_audit.proofs.Common.{ℕ, ◌+◌, ◌≡◌, Asked, calls_decl, given, InCases, IsSection, length, List, numbers, Ok, Section, slice_get, Some}
use Rattle.std.specs.Vec.Iter.{into_iter_items, into_iter_len}
use Rattle.case_audit.proofs.sections.join_sections.Given as goal

abbrev pub invariant-loop-section : goal.invariant-loop-section
invariant-loop-section l =
    let rest = into_iter_items l.section-iterator in
    record {
      left : into_iter_len l.section-iterator ≡ length rest;
      many : length l.cases.items + length rest ≡ length l.file.cases;
      text : l.report.text ≡ l.fn.report.text;
      begun : (phases : List (List Asked)) → numbers l.owed ≡ given calls_decl l.file.cases phases → InCases l.file phases l.fn.report l.report l.cases.items (length l.cases.items);
      sections : (i : ℕ) (s : Section) → slice_get rest i ≡ Some (Ok s) → IsSection l.file l.owed l.fn.report.text (length l.cases.items + i) s;
    }
