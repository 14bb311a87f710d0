use Rattle.std.proofs.Common.{◌≡◌, sym, length, arith}
use Rattle.csv.specs.Records.{fields_of}
use Rattle.log_records.proofs.Fields.{present, six}
use Rattle.log_records.proofs.cells.Cells.of.Goals as goal

pub returns-in_err-get : goal.returns-in_err-get
returns-in_err-get c =
    let len : length (fields_of c.args.row.now) ≡ 6 = omega arith in
    absurd (present (fields_of c.args.row.now) 0 (omega arith) (sym c.in_err-get.ensures.value))

pub returns-in_err-get-2 : goal.returns-in_err-get-2
returns-in_err-get-2 c =
    let len : length (fields_of c.args.row.now) ≡ 6 = omega arith in
    absurd (present (fields_of c.args.row.now) 1 (omega arith) (sym c.in_err-get-2.ensures.value))

pub returns-in_err-get-3 : goal.returns-in_err-get-3
returns-in_err-get-3 c =
    let len : length (fields_of c.args.row.now) ≡ 6 = omega arith in
    absurd (present (fields_of c.args.row.now) 2 (omega arith) (sym c.in_err-get-3.ensures.value))

pub returns-in_err-get-4 : goal.returns-in_err-get-4
returns-in_err-get-4 c =
    let len : length (fields_of c.args.row.now) ≡ 6 = omega arith in
    absurd (present (fields_of c.args.row.now) 3 (omega arith) (sym c.in_err-get-4.ensures.value))

pub returns-in_err-get-5 : goal.returns-in_err-get-5
returns-in_err-get-5 c =
    let len : length (fields_of c.args.row.now) ≡ 6 = omega arith in
    absurd (present (fields_of c.args.row.now) 4 (omega arith) (sym c.in_err-get-5.ensures.value))

pub returns-in_err-get-6 : goal.returns-in_err-get-6
returns-in_err-get-6 c =
    let len : length (fields_of c.args.row.now) ≡ 6 = omega arith in
    absurd (present (fields_of c.args.row.now) 5 (omega arith) (sym c.in_err-get-6.ensures.value))

pub returns : goal.returns
returns c =
    let len : length (fields_of c.args.row.now) ≡ 6 = omega arith in
    sym (six (fields_of c.args.row.now) c.in_ok-get.field-0.now c.in_ok-get-2.field-0.now c.in_ok-get-3.field-0.now c.in_ok-get-4.field-0.now c.in_ok-get-5.field-0.now c.in_ok-get-6.field-0.now len
    (sym c.in_ok-get.ensures.value) (sym c.in_ok-get-2.ensures.value) (sym c.in_ok-get-3.ensures.value) (sym c.in_ok-get-4.ensures.value) (sym c.in_ok-get-5.ensures.value) (sym c.in_ok-get-6.ensures.value))
