use Rattle.std.proofs.Common.{sym, ◌∙◌}
use Rattle.file_names.proofs.Noted.{found_place}
use Rattle.file_names.proofs.name_tables.NameTable.find.Goals as goal

pub returns-in-Some-clause-found : goal.returns-in-Some-clause-found
returns-in-Some-clause-found c = rw (← c.self.view_is) (sym c.in-Some.is ∙ c.get_index_of.ensures.index ∙ found_place (λ v. v.items) c.args.name.bytes.now c.self.inside.set.keys)

pub returns-in-None-clause-found : goal.returns-in-None-clause-found
returns-in-None-clause-found c = rw (← c.self.view_is) (sym c.in-None.is ∙ c.get_index_of.ensures.index ∙ found_place (λ v. v.items) c.args.name.bytes.now c.self.inside.set.keys)
