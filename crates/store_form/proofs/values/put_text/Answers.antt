use Rattle.store_form.proofs.{Common.arith, Forms.all_bytes}
use Rattle.store_form.proofs.values.put_text.Goals as goal

pub returns-clause-fits : goal.returns-clause-fits
returns-clause-fits c = all_bytes c.args.bytes.now (λ i. omega (arith, c.type_inv.bytes i))
