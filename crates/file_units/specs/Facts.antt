-- What holds of a file that is held, for those who work its lines and write of it.
use Rattle.std.specs.Prelude.{◌≡◌, ◌≤◌, List, length}
use Rattle.wsm_lists.specs.Rows.{AllRows}
use Rattle.wsm_schema.specs.Flat.{cards_of}
use Rattle.file_words.specs.Lines.{Bytes}
use Rattle.file_model.specs.{ShortForms.IsShort, declared.files.TypeDecl.TypeDecl, declared.states.Contents.Contents}
use Rattle.file_facts.specs.Facts.{ArePlaced, HasType, IsSound}
use Rattle.file_units.specs.{Growing.IsEven, Units.{IsSettled, held_limits}, declared.limits.TheConstants.{MAX_HELD_ACTORS, MAX_HELD_CASES, MAX_HELD_TYPES}}

abbrev pub IsSmall : TypeDecl → Type 0
IsSmall t = length (cards_of t.schema) ≤ 1024

-- there are no more declarations than may be, each type is sound, and each case is of a type that is there, with its place among its cases
pub record IsReady (c : Contents) : Type 0 where
  pub types : length c.types.items ≤ MAX_HELD_TYPES
  pub actors : length c.actors.items ≤ MAX_HELD_ACTORS
  pub cases : length c.cases.items ≤ MAX_HELD_CASES
  pub sound : AllRows IsSound c.types.items
  pub small : AllRows IsSmall c.types.items
  pub typed : AllRows (HasType (length c.types.items)) c.cases.items
  pub placed : ArePlaced c.cases.items

-- names are as short as a file keeps them
pub record AreShort (ns es rs : List Bytes) : Type 0 where
  pub nodes : AllRows IsShort ns
  pub elements : AllRows IsShort es
  pub roles : AllRows IsShort rs

abbrev pub HasShortNames : Contents → Type 0
HasShortNames c = AreShort c.nodes c.elements c.roles

-- what was read up to the end of a unit
pub record IsHeld (c : Contents) : Type 0 where
  pub format : c.format ≡ 3
  pub limits : c.limits ≡ held_limits
  pub at_rest : IsSettled c
  pub even : IsEven c
  pub short : HasShortNames c
  pub ready : IsReady c
