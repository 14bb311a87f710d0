use Rattle.wsm_data.proofs.{Common.{◌∙◌, ap, is_one_of, list_all, sym}, Pass.written-there}
use Rattle.wsm_data.proofs.missing.with_written.Goals as goal

pub returns-then-has_written : goal.returns-then-has_written
returns-then-has_written c = λ d. written-there d c.args.set.value c.args.writes.now (sym (ap (λ set. list_all (λ w. is_one_of w.1 set) c.args.writes.now) c.deref.ensures) ∙ sym c.has_written.ensures ∙ c.if-has_written.true)
