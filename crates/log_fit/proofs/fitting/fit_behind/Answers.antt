use Rattle.log_fit.proofs.{Common.{◌+◌, ◌∙◌, ◌∷◌, ◌≡◌, ◌≤◌, ap, are_too_many, arith, false, length, noted, ltb-false, Ok, record_of, rules, Some, suc, sym, true}, Telling.{crowded, ended, moved, start}}
use Rattle.csv.specs.Records.{fields_of}
use Rattle.log_fit.proofs.fitting.fit_behind.Goals as goal

pub loop-row-init : goal.loop-row-init
loop-row-init c = record {
  reached = start c.args.version.now c.args.nodes.now c.args.elements.now c.args.reader c.new-table.result.names c.new-table.result.rows.items c.new-table.ensures.names c.new-table.ensures.rows;
  left = omega (arith, c.requires);
  few = rw c.new-table.ensures.names (omega arith);
}

pub returns-then-not-branch-clause-bad : goal.returns-then-not-branch-clause-bad
returns-then-not-branch-clause-bad c =
    let first : c.loop-row.reader ≡ fields_of c.next.new.row ∷ c.next.new.self = c.in_ok-next.ensures.found c.if-branch.true in
    let is : record_of c.args.nodes.now c.args.elements.now (fields_of c.next.new.row) ≡ Some c.in-Some.record = sym c.in_ok-record.ensures ∙ c.in-Some.is in
    let full : c.in_ok-take.field-0 ≡ false = search rules in
    rw c.wrong-then-not-branch.ensures (crowded c.loop-row.invariant.reached first is (rw full at c.in_ok-take.ensures.room))

pub loop-row-preserved : goal.loop-row-preserved
loop-row-preserved c =
    let first : c.loop-row.reader ≡ fields_of c.next.new.row ∷ c.next.new.self = c.in_ok-next.ensures.found c.if-branch.true in
    let is : record_of c.args.nodes.now c.args.elements.now (fields_of c.next.new.row) ≡ Some c.in-Some.record = sym c.in_ok-record.ensures ∙ c.in-Some.is in
    let fine : c.in_ok-take.field-0 ≡ true = search rules in
    let named = c.in_ok-take.ensures.names fine in
    let room : are_too_many (noted c.loop-row.table.names c.in-Some.record.case) ≡ false = rw fine at c.in_ok-take.ensures.room in
    let left : length c.loop-row.reader ≡ suc (length c.next.new.self) = ap length first in
    record {
      reached = moved c.loop-row.invariant.reached first is room named (c.in_ok-take.ensures.rows fine);
      left = omega (arith, left, c.loop-row.invariant.left);
      few = rw named (ltb-false 4096 (length (noted c.loop-row.table.names c.in-Some.record.case)) room);
    }

-- the place of the next record, and what the cases so far allow
pub overflow_add-index : goal.overflow_add-index
overflow_add-index c = omega (arith, c.loop-row.invariant.left)

pub take-requires-clause-table : goal.take-requires-clause-table
take-requires-clause-table c =
    let at = c.loop-row.invariant.reached in
    (at.row, c.loop-row.index, at.table, omega (arith, c.loop-row.invariant.left))

pub returns-clause-ok : goal.returns-clause-ok
returns-clause-ok c = ended c.loop-row.invariant.reached (c.in_ok-next.ensures.ended c.if-branch.false) ∙ ap Ok (sym c.in_ok-into_fits.ensures)
