use Rattle.store_form.proofs.{Common.{arith, Fails, Reads, recorded_of, subst}, Calls.reads-exactly}
use Rattle.store_form.proofs.events.read_payload.Goals as goal

pub returns-in-Ok : goal.returns-in-Ok
returns-in-Ok c = subst (Reads c.args.bytes.now) c.in-Ok.ensures (reads-exactly c.args.bytes.now (λ i. omega (arith, c.type_inv.bytes i)))

pub returns-in-Err-Malformed : goal.returns-in-Err-Malformed
returns-in-Err-Malformed c =
    subst (Reads c.args.bytes.now) (subst (λ e. Fails e (recorded_of c.args.bytes.now)) c.in-Err-Malformed.field-0-is c.in-Err-Malformed.ensures)
    (reads-exactly c.args.bytes.now (λ i. omega (arith, c.type_inv.bytes i)))
