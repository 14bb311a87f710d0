use Rattle.file_names.proofs.Fronts.{front-names, front-short}
use Rattle.file_names.proofs.name_tables.NameTable.truncate.Goals as goal

pub invariant_of-self : goal.invariant_of-self
invariant_of-self c = front-short (λ v. v.items) c.args.len c.self.inside.set.keys c.truncate.new.self.keys c.truncate.ensures.keys c.self.invariant

pub returns : goal.returns
returns c = front-names (λ v. v.items) c.args.len c.self.inside.set.keys c.truncate.new.self.keys c.truncate.ensures.keys c.args.self.now c.self.view_is
