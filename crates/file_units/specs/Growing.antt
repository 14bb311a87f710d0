-- What is named and declared is only added to, so it can be taken back.
use Rattle.std.specs.Prelude.{◌≡◌, ℕ, List, [], ◌++◌, length, take}
use Rattle.file_names.specs.declared.declared.DeclaredList.{DeclaredList}
use Rattle.file_model.specs.{declared.files.ActorDecl.ActorDecl, declared.files.CaseDecl.CaseDecl, declared.files.File.File, declared.files.TypeDecl.TypeDecl, declared.states.Contents.Contents}
use Rattle.file_units.specs.{Units.settled, declared.reading.Marks.Marks}

-- a list begins with another
abbrev pub Begins : {A : Type 0} → List A → List A → Type 0
Begins xs all = (rest : List _) × (xs ++ rest ≡ all)

-- contents have all of others, in front: names of nodes, elements and roles, and what is declared, by name and item
abbrev pub Grows : Contents → Contents → Type 0
Grows c d =
    (d.limits ≡ c.limits) × (d.format ≡ c.format) × Begins c.nodes d.nodes × Begins c.elements d.elements × Begins c.roles d.roles
    × Begins c.types.names d.types.names × Begins c.types.items d.types.items × Begins c.actors.names d.actors.names × Begins c.actors.items d.actors.items
    × Begins c.cases.names d.cases.names × Begins c.cases.items d.cases.items

-- each declaration has its name
pub record AreEven (ts : DeclaredList TypeDecl) (ps : DeclaredList ActorDecl) (cs : DeclaredList CaseDecl) : Type 0 where
  pub types : length ts.names ≡ length ts.items
  pub actors : length ps.names ≡ length ps.items
  pub cases : length cs.names ≡ length cs.items

abbrev pub IsEven : Contents → Type 0
IsEven c = AreEven c.types c.actors c.cases

-- how much was named and declared
abbrev pub marks_of : Contents → Marks
marks_of c = record {
  nodes = length c.nodes;
  elements = length c.elements;
  roles = length c.roles;
  types = length c.types.items;
  actors = length c.actors.items;
  cases = length c.cases.items;
}

-- the first so many declarations alone
abbrev pub first_of : {A : Type 0} → ℕ → DeclaredList A → DeclaredList A
first_of n ds = record { names = take n ds.names; items = take n ds.items }

-- what was named and declared up to the marks, between two units
abbrev pub cut : Marks → Contents → Contents
cut m c = settled (record c {
  nodes = take m.nodes c.nodes;
  elements = take m.elements c.elements;
  roles = take m.roles c.roles;
  types = first_of m.types c.types;
  actors = first_of m.actors c.actors;
  cases = first_of m.cases c.cases;
})

-- a file without phases has no more than contents have, in front
pub record IsFrontOf (f : File) (c : Contents) : Type 0 where
  pub format : f.format ≡ c.format
  pub nodes : Begins f.nodes c.nodes
  pub elements : Begins f.elements c.elements
  pub roles : Begins f.roles c.roles
  pub types : Begins f.types c.types.items
  pub actors : Begins f.actors c.actors.items
  pub cases : Begins f.cases c.cases.items
  pub phases : f.phases ≡ []

-- with as much as was named and declared at the marks
abbrev pub file_cut : Marks → File → File
file_cut m f = record f {
  nodes = take m.nodes f.nodes;
  elements = take m.elements f.elements;
  roles = take m.roles f.roles;
  types = take m.types f.types;
  actors = take m.actors f.actors;
  cases = take m.cases f.cases;
}
