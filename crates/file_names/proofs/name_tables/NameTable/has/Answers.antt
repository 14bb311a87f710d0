use Rattle.std.proofs.Common.{sym, ◌∙◌}
use Rattle.file_names.proofs.Noted.{listed_in_rows}
use Rattle.file_names.proofs.name_tables.NameTable.has.Goals as goal

pub returns : goal.returns
returns c = rw (← c.self.view_is) (c.contains.ensures ∙ sym (listed_in_rows (λ v. v.items) c.args.name.bytes.now c.self.inside.set.keys))
