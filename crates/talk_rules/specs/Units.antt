-- Units that are held one behind another, and what is said of them.
use Rattle.std.specs.Prelude.{ℕ, ◌+◌, ◌^◌, ◌&&◌, Bool, true, false, nat_lt, List, [], ◌∷◌, ◌++◌, length, codes}
use Rattle.store_disk.specs.Image.{all_framed}

abbrev pub Bytes : Type 0
Bytes = List ℕ

-- the first payload of a store: those behind it are units
abbrev pub header : Bytes
header = codes "adept 3\n"

-- behind payloads, with one more, an image has at most 2^30 bytes, with the gate that ends it
abbrev pub fits : List Bytes → Bytes → Bool
fits ps p = nat_lt (length (all_framed ps) + (5 + length p)) (2 ^ 30)

-- What is said where units are held. A unit is read behind those or not, and has an answer, whether it is taken or not. A
-- question has one, by all its bytes. All is well where so many units are held; and a line is refused for a reason.
pub record UnitRules : Type 0 where
  pub reads : List Bytes → Bytes → Bool
  pub answer : List Bytes → Bytes → Bytes
  pub asked : List Bytes → Bytes → Bytes
  pub well : ℕ → Bytes
  pub refusal : ℕ → Bytes → Bytes

-- a unit is taken where it is read and its record finds room
abbrev pub takes : UnitRules → List Bytes → Bytes → Bool
takes rules units unit = rules.reads units unit && fits (header ∷ units) unit

-- the units behind one that was taken or not
abbrev pub units_behind : Bool → List Bytes → Bytes → List Bytes
units_behind true units unit = units ++ unit ∷ []
units_behind false units unit = units
