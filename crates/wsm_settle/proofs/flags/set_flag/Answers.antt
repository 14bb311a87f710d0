use Rattle.wsm_settle.proofs.{Common.{◌∙◌, ap, insert_key, nat_cmp}, Flagged.raised}
use Rattle.wsm_settle.proofs.flags.set_flag.Goals as goal

pub returns-clause-ok : goal.returns-clause-ok
returns-clause-ok c = raised c.args.place c.hold_flag.new.flags.items c.in_ok-hold_flag.ensures.ok ∙ ap (λ ks. insert_key nat_cmp ks c.args.place) c.hold_flag.ensures.same
