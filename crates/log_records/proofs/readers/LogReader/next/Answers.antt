use Rattle.std.proofs.Common.{◌≡◌, true}
use Rattle.csv.specs.{Records.fields_of, Reading.has_failed}
use Rattle.log_records.specs.Records.{IsGoing}
use Rattle.log_records.proofs.Reading.{found_next, none_next}
use Rattle.log_records.proofs.readers.LogReader.next.Goals as goal

pub returns-in-Ok-clause-found : goal.returns-in-Ok-clause-found
returns-in-Ok-clause-found c = λ is.
    let going : IsGoing c.in-Some.reader = rw c.in-Some.is at c.self.invariant in
    let unfailed : has_failed c.in-Some.reader ≡ true → ⊥ = λ failed. (let e = c.in-Ok.ensures.failed failed in cc) in
    rw (← c.self.view_is, c.in-Some.is) (found_next c.in-Some.reader c.read_byte_record.new.self (fields_of c.read_byte_record.new.row) going unfailed (rw is at (c.in-Ok.ensures.reads going.0 going.1)))

pub returns-in-Ok-clause-ended : goal.returns-in-Ok-clause-ended
returns-in-Ok-clause-ended c = λ is.
    let going : IsGoing c.in-Some.reader = rw c.in-Some.is at c.self.invariant in
    rw (← c.self.view_is, c.in-Some.is) (none_next c.in-Some.reader c.read_byte_record.new.self (fields_of c.read_byte_record.new.row) going (rw is at (c.in-Ok.ensures.reads going.0 going.1)))
