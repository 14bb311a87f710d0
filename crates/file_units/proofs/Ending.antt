-- The end of a unit.
use Rattle.file_units.proofs.Common.{[], ℕ, ◌*◌, ◌∙◌, ◌∷◌, ◌≡◌, ◌≤◌, ap, arith, at_line, at_place, Bytes, Contents, Err, false, FileRefusal, IfErr, is_skipped, IsHeld, length, lines_of, lines_read, List, Ok, one_left, OnOk, Refused, Result}
use Rattle.file_units.proofs.{Common.{said, SaysSome, Section, settled, subst, sym, Tells, unit_end}, Inside.{Inside, end-says, inside-end}, SaidLines.end-left}
use Rattle.file_model.specs.declared.states.Section.TheVariants as section

-- what follows from a fact holds where it does
pub on-ok : {E : Type 0} (r : Result (Unit {0}) E) (P Q : Type 0) → (P → Q) → OnOk r P → OnOk r Q
on-ok (Ok x) P Q go h = go h
on-ok (Err e) P Q go h = tt

pub if-err : {E : Type 0} (r : Result (Unit {0}) E) (P Q : E → Type 0) → ((e : E) → P e → Q e) → IfErr r P → IfErr r Q
if-err (Ok x) P Q go h = tt
if-err (Err e) P Q go h = go e h

pub on-err : {E : Type 0} (r : Result (Unit {0}) E) (Q : E → Type 0) → ((e : E) → Q e) → IfErr r Q
on-err (Ok x) Q go = tt
on-err (Err e) Q go = go e

-- a line that says something has a word
pub some-words : (ws : List Bytes) → is_skipped ws ≡ false → 1 ≤ length ws
some-words [] says = absurd (cc)
some-words (w ∷ ws) says = omega arith

-- ---- behind all lines
pub ended-read : (p : Section) (c : Contents) (k : ℕ) (rest : Bytes) → lines_of rest ≡ one_left rest → p ≡ section.Outside → lines_read (Ok (at_place p c)) k (said rest) ≡ Ok c
ended-read p c k rest is outside = end-left (at_place p c) k rest is ∙ ap (λ (q : Section). at_line k (unit_end q c)) outside

pub ended-held : (first : Contents) (k : ℕ) (p : Section) (c : Contents) → IsHeld first → Inside first k p c → p ≡ section.Outside → IsHeld (settled c)
ended-held first k p c before h outside = inside-end first k c before (subst (λ (q : Section). Inside first k q c) outside h)

pub ended-says : (first : Contents) (k most : ℕ) (p : Section) (c : Contents) → 3 * k ≤ most → Inside first k p c → p ≡ section.Outside → SaysSome most first c
ended-says first k most p c fits h outside = end-says first k most c fits (subst (λ (q : Section). Inside first k q c) outside h)

pub ended-tells : (p : Section) (c : Contents) (k : ℕ) (rest : Bytes) (read : Result Contents Refused) (o : FileRefusal) → lines_of rest ≡ one_left rest → lines_read (Ok (at_place p c)) k (said rest) ≡ read →
    Tells (at_line k (unit_end p c)) o → Tells read o
ended-tells p c k rest read o is left h = subst (λ (r : Result Contents Refused). Tells r o) (sym (end-left (at_place p c) k rest is) ∙ left) h
