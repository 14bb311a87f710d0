-- Refusals of the reader's and of units, and contents in which nothing is declared.
use Rattle.file_units.proofs.Common.{[], ◌∙◌, ◌≡◌, ◌≢◌, AllRows, ap, arith, Bool, Bytes, Contents, cut, Err, FileRefusal, Grows, IsHeld, IsShort, List, marks_of, no_units, refl, Refused, Refuses, Result, slice_get_within, Tells}
use Rattle.file_units.proofs.{Common.unit_refusal, CutBack.cut-grown}
use Rattle.file_model.specs.Outcomes as reading
use Rattle.file_model.specs.declared.refusals.FileRefusal.TheVariants as reader
use Rattle.file_units.specs.declared.held.UnitRefusal.TheVariants as refusal
use Rattle.file_units.specs.declared.reading.Marks.{Marks}

-- what is read is a refusal that the reader tells
pub tells-of : (read : Result Contents Refused) (r : Refused) (o : FileRefusal) → read ≡ Err r → reading.Tells (Err r) o → Tells read o
tells-of read r (reader.Refused q) is h = let same : r ≡ q = cc in is ∙ ap Err same
tells-of read r reader.NoMemory is h = tt

pub refuses-so : (has_room : Bool) (read : Result Contents Refused) (o : FileRefusal) → Tells read o → Refuses has_room read (unit_refusal o)
refuses-so has_room read (reader.Refused r) h = h
refuses-so has_room read reader.NoMemory h = tt

pub has-memory : (o : FileRefusal) → unit_refusal o ≢ refusal.NoMemory → o ≢ reader.NoMemory
has-memory o h is = h (ap unit_refusal is)

-- what a refused unit has added is taken back
pub taken-back : (c after d : Contents) (m : Marks) → m ≡ marks_of c → d ≡ cut m after → IsHeld c → Grows c after → d ≡ c
taken-back c after d m marks is h grown = is ∙ ap (λ n. cut n after) marks ∙ cut-grown c after h.even h.at_rest grown

-- nothing is declared
pub bare-held : (nodes : List Bytes) → AllRows IsShort nodes → IsHeld (record no_units { nodes = nodes })
bare-held nodes short = record {
  format = refl;
  limits = refl;
  at_rest = refl;
  even = record { types = refl; actors = refl; cases = refl };
  short = record { nodes = short; elements = tt; roles = tt };
  ready = record {
    types = omega arith;
    actors = omega arith;
    cases = omega arith;
    sound = tt;
    small = tt;
    typed = tt;
    placed = λ k d at. absurd (omega (arith, slice_get_within [] k d at));
  };
}

pub no_units-held : IsHeld no_units
no_units-held = bare-held no_units.nodes (refl, (refl, tt))
