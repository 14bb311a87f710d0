-- Room for names: each name has a number below 2^32, also a role's, which counts from 2^31.
use Rattle.std.specs.Prelude.{ℕ, ◌+◌, ◌<◌, ◌^◌, length}
use Rattle.file_model.specs.declared.states.Contents.{Contents}

-- how many names were read so far
abbrev pub count_of_names : Contents → ℕ
count_of_names c = length c.nodes + length c.elements + length c.roles + length c.types.names + length c.actors.names + length c.cases.names

-- so many more have numbers
abbrev pub HasRoom : ℕ → Contents → Type 0
HasRoom n c = count_of_names c + n < 2 ^ 31
