use Rattle.std.proofs.Common.{◌≡◌, ◌++◌, map, true}
use Rattle.std.specs.List.{list_all}
use Rattle.file_names.specs.ShortNames.{is_short_name}
use Rattle.file_names.proofs.name_tables.NameTable.into_names.Given as goal

abbrev pub invariant-loop-bytes : goal.invariant-loop-bytes
invariant-loop-bytes l = record {
  all : l.names ++ map (λ v. v.items) l.bytes-iterator ≡ l.fn.self;
  named : list_all is_short_name (map (λ v. v.items) l.bytes-iterator) ≡ true;
}
