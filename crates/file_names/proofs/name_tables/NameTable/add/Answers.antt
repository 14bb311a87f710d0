use Rattle.std.proofs.Common.{◌∙◌}
use Rattle.file_names.proofs.Noted.{inserted_last}
use Rattle.file_names.proofs.name_tables.NameTable.add.Goals as goal

pub returns-clause-added : goal.returns-clause-added
returns-clause-added c =
    rw (← c.self.view_is, c.in_ok-insert.ensures.keys)
    (inserted_last (λ v. v.items) c.self.inside.set.keys c.into_bytes.result c.args.name.bytes.now (c.into_bytes.ensures.bytes ∙ c.in_ok-name.ensures) (rw (← c.self.view_is) at c.requires.new))
