use Rattle.case_store.proofs.{Common.{map, payload_of}, Folds.{known-payable, stays}}
use Rattle.case_store.proofs.stores.Store.step_all_within.Goals as goal

pub group_within-requires-clause-payable : goal.group_within-requires-clause-payable
group_within-requires-clause-payable g c =
    known-payable c.args.self.now.held.starts c.args.self.now.held.run c.args.calls.now c.requires.1.1.1.0

pub returns-in_err-group-clause-any_moment : goal.returns-in_err-group-clause-any_moment
returns-in_err-group-clause-any_moment g c =
    λ whole. stays g.D.Disk.moment g.D.Disk.left_since (map payload_of c.args.calls.now) (c.requires.1.0 whole) (g.met.D.Disk.only_now c.args.self.now.disk)
