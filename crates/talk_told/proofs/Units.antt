-- The answers to units that are accepted one behind another.
use Rattle.talk_told.proofs.Common.{[], ℕ, ◌*◌, ◌+◌, ◌∷◌, ◌≡◌, arith, at_line, Bytes, called_text, Contents, Err, file_of, fold, Held, held_after, held_behind, held_by, IsHeld, lines_read, List, nothing_held, Ok, refl, Result, run_behind}
use Rattle.talk_told.proofs.{Common.{run_more, said, settled, subst, sym, unit_end, unit_read, unit_step, with_unit}, Held.{IsRunOf, unit-told}, Kept.run-kept}
use Rattle.file_words.specs.Words.{words_of}
use Rattle.file_model.specs.{Steps.{State, Step, outside}, declared.refusals.Refused.Refused, declared.states.Section.Section}
use Rattle.file_model.specs.declared.states.Section.TheVariants as section
use Rattle.file_units.proofs.{Inside.{Inside, end-says, inside-end, inside-first, step-inside}, Refusing.no_units-held}

-- ---- a unit that is read
-- behind all its lines, which are some
record EndsInside (first d : Contents) : Type 0 where
  many : ℕ
  inside : Inside first many section.Outside d

ended-inside : (first : Contents) (k : ℕ) (p : Section) (c d : Contents) → Inside first k p c → at_line k (unit_end p c) ≡ Ok d → EndsInside first d
ended-inside first k section.Outside c d h is = let same : c ≡ d = cc in record { many = k; inside = subst (λ x. Inside first k section.Outside x) same h }
ended-inside first k (section.Head n) c d h is = absurd (cc)
ended-inside first k (section.InType t) c d h is = absurd (cc)
ended-inside first k (section.InGroup g) c d h is = absurd (cc)

abbrev LinesInside : Contents → Contents → List Bytes → ℕ → Type 0
LinesInside first d ls k = (s : State) → Inside first k s.place s.contents → lines_read (Ok s) k ls ≡ Ok d → EndsInside first d

line-inside : (first d : Contents) (l : Bytes) (ls : List Bytes) (k : ℕ) → LinesInside first d ls (k + 1) → (s : State) → Inside first k s.place s.contents → (o : Step)
    → unit_step k s.place l (words_of l) s.contents ≡ o → lines_read (at_line (k + 1) o) (k + 1) ls ≡ Ok d → EndsInside first d
line-inside first d l ls k others s h (Ok t) made is = others t (step-inside first k s.place t.place l (words_of l) s.contents t.contents made h) is
line-inside first d l ls k others s h (Err p) made is = absurd (cc)

lines-inside : (first d : Contents) (ls : List Bytes) (k : ℕ) → LinesInside first d ls k
lines-inside first d [] k s h is = ended-inside first k s.place s.contents d h is
lines-inside first d (l ∷ ls) k s h is = line-inside first d l ls k (lines-inside first d ls (k + 1)) s h (unit_step k s.place l (words_of l) s.contents) refl is

unit-inside : (c d : Contents) (unit : Bytes) → IsHeld c → unit_read c unit ≡ Ok d → EndsInside c d
unit-inside c d unit held is = lines-inside c d (said unit) 0 (outside c) (inside-first c held) is

-- ---- what is held
pub record IsGood (h : Held) : Type 0 where
  pub held : IsHeld h.contents
  pub run : IsRunOf h.contents h.run

unit-good : (h : Held) (d : Contents) (unit : Bytes) → IsGood h → unit_read h.contents unit ≡ Ok d → IsGood (held_behind h d)
unit-good h d unit good is =
    let e = unit-inside h.contents d unit good.held is in
    let after = inside-end h.contents e.many d good.held e.inside in
    let some = end-says h.contents e.many (3 * e.many) d (omega arith) e.inside in
    record { held = after; run = run-kept h.contents d h.run some.one good.run some.says after.ready }

-- units that are accepted one behind another
abbrev pub AcceptedBehind : Held → List Bytes → Type 0
AcceptedBehind h [] = Unit {0}
AcceptedBehind h (unit ∷ units) = (d : Contents) × (unit_read h.contents unit ≡ Ok d) × AcceptedBehind (held_behind h d) units

all-good : (units : List Bytes) (h : Held) → IsGood h → AcceptedBehind h units → IsGood (fold with_unit h units)
all-good [] h good accepted = good
all-good (unit ∷ units) h good accepted =
    subst (λ (r : Result Contents Refused). IsGood (fold with_unit (held_after h r) units)) (sym accepted.1)
    (all-good units (held_behind h accepted.0) (unit-good h accepted.0 unit good accepted.1) accepted.2)

nothing-good : IsGood nothing_held
nothing-good = record { held = no_units-held; run = record { kinds = refl; cases = refl; placed = no_units-held.ready.placed; typed = tt; versions = tt } }

-- A unit that is accepted behind others is answered with the entries that the run of the longer file has more than that of the
-- shorter, in the order of its calls, and then with how many units are held.
pub answer-told : (units : List Bytes) (unit : Bytes) (d : Contents) → AcceptedBehind nothing_held units → unit_read (held_by units).contents unit ≡ Ok d
    → called_text (held_behind (held_by units) d) ≡ run_more (file_of (settled d)) (held_by units).run (run_behind (held_by units).contents d (held_by units).run)
answer-told units unit d accepted is =
    let h = held_by units in
    let good = all-good units nothing_held nothing-good accepted in
    let e = unit-inside h.contents d unit good.held is in
    let some = end-says h.contents e.many (3 * e.many) d (omega arith) e.inside in
    unit-told h d some.one good.run some.says
