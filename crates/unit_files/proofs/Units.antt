-- Units that are accepted one behind another are read as the file of their bytes, and one that is refused is refused there too.
use Rattle.unit_files.proofs.Common.{[], ℕ, ◌++◌, ◌+◌, ◌∙◌, ◌∷◌, ◌≡◌, Accepted, Act, ap, append-nil, append_assoc, AreAccepted, arith, at_line, at_place, behind_read, behind_unit, Bool, but_for, Bytes, bytes_of, codes, Contents, CutLines}
use Rattle.unit_files.proofs.Common.{deeds, deeds_read, deeds_said, Err, false, file, file_of, finished, finished_in, flat_map, fold, has_ended, if◌then◌else◌, inl, IsFileOf, IsOfFile, IsOneItem, IsReadAs, IsRefusedAs, IsWhole, length}
use Rattle.unit_files.proofs.Common.{line_behind, lines_behind, lines_in, lines_of, lines_read, lines_taken, List, no_contents, no_units, Ok, outside, read_from, Reads, refl, refuse, Refused, rest_of, Result, said, SamePlace, SameState}
use Rattle.unit_files.proofs.{Common.{Section, settled, State, Step, step, step_in, subst, sym, true, unit_end, unit_read, unit_taken, units_read, Within, without_return, words_of}, Lines.whole-lines, Alike.all-read, OneItem.item-refused}
use Rattle.unit_files.proofs.OneItem.{item-whole}
use Rattle.file_model.specs.declared.files.File.{File}
use Rattle.file_model.specs.declared.refusals.Why.TheVariants as why
use Rattle.file_model.specs.declared.states.Section.TheVariants as section

-- ---- an accepted unit has its end outside of types and groups, and no line behind it
ended-taken : (k : ℕ) (p : Section) (c d : Contents) → at_line k (unit_end p c) ≡ Ok d → at_place p c ≡ outside d
ended-taken k section.Outside c d is = let same : c ≡ d = cc in ap outside same
ended-taken k (section.Head n) c d is = absurd (cc)
ended-taken k (section.InType t) c d is = absurd (cc)
ended-taken k (section.InGroup g) c d is = absurd (cc)

abbrev Taken : List Bytes → ℕ → Contents → Type 0
Taken ls k d = (s : State) → lines_read (Ok s) k ls ≡ Ok d → lines_taken (Ok s) k ls ≡ Ok (outside d)

one-taken : (ls : List Bytes) (k : ℕ) (d : Contents) → Taken ls (k + 1) d → (c : Contents) (test : Bool) (o : Step)
    → lines_read (at_line (k + 1) (if test then refuse c why.Form else o)) (k + 1) ls ≡ Ok d → lines_taken (at_line (k + 1) o) (k + 1) ls ≡ Ok (outside d)
one-taken ls k d others c true o is = absurd (cc)
one-taken ls k d others c false (Ok t) is = others t is
one-taken ls k d others c false (Err p) is = absurd (cc)

lines-taken : (ls : List Bytes) (k : ℕ) (d : Contents) → Taken ls k d
lines-taken [] k d s is = ap Ok (ended-taken k s.place s.contents d is)
lines-taken (l ∷ ls) k d s is = one-taken ls k d (lines-taken ls (k + 1) d) s.contents (has_ended k s.place) (step_in s.place (k + 1) l (words_of l) s.contents) is

pub unit-taken : (c d : Contents) (unit : Bytes) → unit_read c unit ≡ Ok d → unit_taken c unit ≡ Ok (outside d)
unit-taken c d unit is = lines-taken (said unit) 0 d (outside c) is

-- ---- lines one behind another
lines-further : (o : Result State Refused) (at : ℕ) (ls ms : List Bytes) → lines_behind o at (ls ++ ms) ≡ lines_behind (lines_behind o at ls) (at + length ls) ms
lines-further (Err r) at ls ms = refl
lines-further (Ok s) at [] ms = let none : at ≡ at + 0 = omega arith in ap (λ n. lines_behind (Ok s) n ms) none
lines-further (Ok s) at (l ∷ ls) ms =
    let next = at_line at (step s at (without_return l)) in
    let same : at + 1 + length ls ≡ at + length (l ∷ ls) = omega arith in
    lines-further next (at + 1) ls ms ∙ ap (λ n. lines_behind (lines_behind next (at + 1) ls) n ms) same

-- the reader goes over all lines, and ends
abbrev ended_with : ℕ → Bytes → Result State Refused → Result File Refused
ended_with at left (Err r) = Err r
ended_with at left (Ok s) = at_line at (finished s left)

read-all : (o : Result State Refused) (at : ℕ) (left : Bytes) (ls : List Bytes) → read_from o at left ls ≡ ended_with (at + length ls) left (lines_behind o at ls)
read-all (Err r) at left ls = refl
read-all (Ok s) at left [] = let none : at ≡ at + 0 = omega arith in ap (λ n. at_line n (finished s left)) none
read-all (Ok s) at left (l ∷ ls) =
    let next = at_line at (step s at (without_return l)) in
    let same : at + 1 + length ls ≡ at + length (l ∷ ls) = omega arith in
    read-all next (at + 1) left ls ∙ ap (λ n. ended_with n left (lines_behind next (at + 1) ls)) same

-- ---- one unit
outside-place : (p q : Section) → SamePlace p q → q ≡ section.Outside → p ≡ section.Outside
outside-place section.Outside q same is = refl
outside-place (section.InType d) section.Outside same is = absurd same
outside-place (section.InType d) (section.InType e) same is = absurd (cc)
outside-place (section.InType d) (section.InGroup e) same is = absurd same
outside-place (section.InType d) (section.Head n) same is = absurd same
outside-place (section.InGroup g) section.Outside same is = absurd same
outside-place (section.InGroup g) (section.InGroup k) same is = absurd (cc)
outside-place (section.InGroup g) (section.InType k) same is = absurd same
outside-place (section.InGroup g) (section.Head n) same is = absurd same
outside-place (section.Head n) q same is = absurd same

-- behind a unit what is held is settled, and its lines are among those before
settled-same : (before : List (ℕ × Act)) (s : State) (d : Contents) → SameState before s (outside d) → SameState (before ++ deeds (rest_of d)) s (outside (settled d))
settled-same before s d h = (h.0, ap settled h.1, within)
  where
    both : deeds (rest_of s.contents) ≡ (before ++ deeds (rest_of d)) ++ []
    both = h.2.deeds ∙ sym (append-nil (before ++ deeds (rest_of d)))

    within : Within (before ++ deeds (rest_of d)) (rest_of s.contents) (rest_of (settled d))
    within = record {
      types = h.2.types;
      actors = h.2.actors;
      cases = h.2.cases;
      migrations = h.2.migrations;
      lines = omega arith;
      installs = omega arith;
      migrated = omega arith;
      phases = omega arith;
      opened = omega arith;
      deeds = both;
    }

-- the reader's state behind units, or a limit that has cut it off
abbrev Held : List (ℕ × Act) → Contents → Result State Refused → Type 0
Held before c (Ok s) = SameState before s (outside c) × (s.contents.format ≡ 3) × (deeds (rest_of c) ≡ [])
Held before c (Err r) = IsOfFile r.why

-- behind one unit more
held-next : (before : List (ℕ × Act)) (at k n : ℕ) (ls ms : List Bytes) (d last : Contents) (said : List (ℕ × Act))
    → ((s : State) → SameState (before ++ deeds (rest_of d)) s (outside (settled d)) → s.contents.format ≡ 3 → Held said last (lines_behind (Ok s) n ms))
    → (o : Result State Refused) → Reads before at k ls o (Ok (outside d)) → Held said last (lines_behind o n ms)
held-next before at k n ls ms d last said others (Ok t) h = others t (settled-same before t d h.0) h.1
held-next before at k n ls ms d last said others (Err r) h = h

units-held : (units : List Bytes) (before : List (ℕ × Act)) (s : State) (c : Contents) (at : ℕ) → SameState before s (outside c) → s.contents.format ≡ 3 → deeds (rest_of c) ≡ [] → Accepted c units
    → Held (before ++ deeds_said c units) (fold behind_unit c units) (lines_behind (Ok s) at (lines_in units))
units-held [] before s c at h is none accepted = subst (λ (ds : List (ℕ × Act)). Held ds c (Ok s)) (sym (append-nil before)) (h, is, none)
units-held (unit ∷ units) before s c at h is none accepted =
    let ls = (lines_of unit).ended in
    let n = at + length ls in
    let d : Contents = accepted.1.0 in
    let of = λ (r : Result Contents Refused) (o : Result State Refused). Held (before ++ (deeds_read r ++ deeds_said (behind_read c r) units)) (fold behind_unit (behind_read c r) units) o in
    let read : Reads before at 0 ls (lines_behind (Ok s) at ls) (Ok (outside d)) =
    subst (λ (p : Result State Refused). Reads before at 0 ls (lines_behind (Ok s) at ls) p) (unit-taken c d unit accepted.1.1) (all-read before ls at 0 s (outside c) h is) in
    let further : of (Ok d) (lines_behind (lines_behind (Ok s) at ls) n (lines_in units)) =
    held-next before at 0 n ls (lines_in units) d (fold behind_unit (settled d) units) (before ++ (deeds (rest_of d) ++ deeds_said (settled d) units)) (λ t same format.
    subst (λ (ds : List (ℕ × Act)). Held ds (fold behind_unit (settled d) units) (lines_behind (Ok t) n (lines_in units)))
    (append_assoc before (deeds (rest_of d)) (deeds_said (settled d) units)) (units-held units (before ++ deeds (rest_of d)) t (settled d) n same format refl accepted.1.2))
    (lines_behind (Ok s) at ls) read in
    subst (λ (r : Result Contents Refused). of r (lines_behind (Ok s) at (lines_in (unit ∷ units)))) (sym accepted.1.1)
    (subst (λ (o : Result State Refused). of (Ok d) o) (sym (lines-further (Ok s) at ls (lines_in units))) further)

-- ---- the bytes of units
lines-all : (c : Contents) (units : List Bytes) → Accepted c units → lines_of (flat_map (λ unit. unit) units) ≡ record { ended = lines_in units; left = [] }
lines-all c [] accepted = refl
lines-all c (unit ∷ units) accepted =
    whole-lines unit (flat_map (λ unit. unit) units) accepted.0
    ∙ ap (λ (ls : CutLines). record { ended = (lines_of unit).ended ++ ls.ended; left = ls.left }) (lines-all (settled accepted.1.0) units accepted.1.2)

-- behind the header line
abbrev headed : Contents
headed = record no_contents { format = 3 }

behind-header : (bytes : Bytes) → file (codes "adept 3\n" ++ bytes) ≡ read_from (Ok (outside headed)) 2 (lines_of bytes).left (lines_of bytes).ended
behind-header bytes = refl

header-same : SameState [] (outside headed) (outside no_units)
header-same = (
  tt,
  refl,
  record {
    types = omega arith;
    actors = omega arith;
    cases = omega arith;
    migrations = omega arith;
    lines = omega arith;
    installs = omega arith;
    migrated = omega arith;
    phases = omega arith;
    opened = omega arith;
    deeds = refl;
  },
)

all-held : (units : List Bytes) → AreAccepted units → Held (deeds_said no_units units) (units_read units) (lines_behind (Ok (outside headed)) 2 (lines_in units))
all-held units accepted = units-held units [] (outside headed) no_units 2 header-same refl refl accepted

-- ---- the file
file-of : (units : List Bytes) (c : Contents) → (units_read units) ≡ but_for (rest_of (units_read units)) c → deeds (rest_of c) ≡ deeds_said no_units units → IsFileOf units (file_of c)
file-of units c same said =
    let held = units_read units in
    record {
      format = sym (ap (λ (d : Contents). d.format) same);
      nodes = sym (ap (λ (d : Contents). d.nodes) same);
      elements = sym (ap (λ (d : Contents). d.elements) same);
      roles = sym (ap (λ (d : Contents). d.roles) same);
      types = sym (ap (λ (d : Contents). d.types.items) same);
      actors = sym (ap (λ (d : Contents). d.actors.items) same);
      cases = sym (ap (λ (d : Contents). d.cases.items) same);
      deeds = said;
    }

finished-file : (units : List Bytes) (n : ℕ) (p : Section) (c : Contents) → p ≡ section.Outside → IsFileOf units (file_of c) → IsReadAs units (at_line n (finished_in p c))
finished-file units n section.Outside c is h = h
finished-file units n (section.Head m) c is h = absurd (cc)
finished-file units n (section.InType d) c is h = absurd (cc)
finished-file units n (section.InGroup g) c is h = absurd (cc)

read-file : (units : List Bytes) (n : ℕ) (o : Result State Refused) → Held (deeds_said no_units units) (units_read units) o → IsReadAs units (ended_with n [] o)
read-file units n (Ok s) h =
    let all : deeds (rest_of s.contents) ≡ deeds_said no_units units =
    h.0.2.deeds ∙ ap (λ (ds : List (ℕ × Act)). deeds_said no_units units ++ ds) h.2 ∙ append-nil (deeds_said no_units units) in
    finished-file units n s.place s.contents (outside-place s.place section.Outside h.0.0 refl) (file-of units s.contents h.0.1 all)
read-file units n (Err r) h = h

-- What the reader makes of the header line and units that were accepted is the file that is held of them, with all their lines,
-- unless a limit that only files have cuts it off.
pub file-is_held : (units : List Bytes) → AreAccepted units → IsReadAs units (file (bytes_of units))
file-is_held units accepted =
    let behind = behind-header (flat_map (λ unit. unit) units) in
    let lines = ap (λ (ls : CutLines). read_from (Ok (outside headed)) 2 ls.left ls.ended) (lines-all no_units units accepted) in
    subst (λ (o : Result File Refused). IsReadAs units o) (sym (behind ∙ lines ∙ read-all (Ok (outside headed)) 2 [] (lines_in units)))
    (read-file units (2 + length (lines_in units)) (lines_behind (Ok (outside headed)) 2 (lines_in units)) (all-held units accepted))

-- ---- a unit that is refused
refused-behind : (units : List Bytes) (unit : Bytes) (q : Refused) (n : ℕ) (before : List (ℕ × Act)) (o : Result State Refused) → Reads before (line_behind units) 0 (lines_of unit).ended o (Err q)
    → IsRefusedAs units unit q (ended_with n [] o)
refused-behind units unit q n before (Ok s) h = absurd h
refused-behind units unit q n before (Err r) h = h

refused-held : (units : List Bytes) (unit : Bytes) (q : Refused) (n : ℕ) (before : List (ℕ × Act)) → ((units_read units).format ≡ 3 → unit_taken (units_read units) unit ≡ Err q)
    → (o : Result State Refused) → Held before (units_read units) o → IsRefusedAs units unit q (ended_with n [] (lines_behind o (line_behind units) (lines_of unit).ended))
refused-held units unit q n before is (Err r) h = inl h
refused-held units unit q n before is (Ok s) h =
    let ls = (lines_of unit).ended in
    let at = line_behind units in
    let format : (units_read units).format ≡ 3 = ap (λ (d : Contents). d.format) h.0.1 ∙ h.1 in
    refused-behind units unit q n before (lines_behind (Ok s) at ls)
    (subst (λ (p : Result State Refused). Reads before at 0 ls (lines_behind (Ok s) at ls) p) (is format) (all-read before ls at 0 s (outside (units_read units)) h.0 h.1))

refused-there : (units : List Bytes) (unit : Bytes) (q : Refused) → AreAccepted units → IsWhole unit → ((units_read units).format ≡ 3 → unit_taken (units_read units) unit ≡ Err q)
    → IsRefusedAs units unit q (file (bytes_of units ++ unit))
refused-there units unit q accepted whole is =
    let all = flat_map (λ u. u) units in
    let ls = (lines_of unit).ended in
    let behind = behind-header (all ++ unit) in
    let cut = lines-all no_units units accepted in
    let lines : lines_of (all ++ unit) ≡ record { ended = lines_in units ++ ls; left = [] } =
    whole-lines all unit (ap (λ (c : CutLines). c.left) cut) ∙ ap (λ (c : CutLines). record { ended = c.ended ++ ls; left = (lines_of unit).left }) cut
    ∙ ap (λ (left : Bytes). record { ended = lines_in units ++ ls; left = left }) whole in
    let to = ap (λ (c : CutLines). read_from (Ok (outside headed)) 2 c.left c.ended) lines in
    let n = 2 + length (lines_in units ++ ls) in
    let last = ap (λ (o : Result State Refused). ended_with n [] o) (lines-further (Ok (outside headed)) 2 (lines_in units) ls) in
    subst (λ (o : Result File Refused). IsRefusedAs units unit q o) (sym (behind ∙ to ∙ read-all (Ok (outside headed)) 2 [] (lines_in units ++ ls) ∙ last))
    (refused-held units unit q n (deeds_said no_units units) is (lines_behind (Ok (outside headed)) 2 (lines_in units)) (all-held units accepted))

-- A unit that is one item, and is refused behind units that were accepted, is refused by the reader too, of the file of their bytes
-- and its own: for the same reason, in the same words, and told of the same line.
pub file-is_refused : (units : List Bytes) (unit : Bytes) (q : Refused) → AreAccepted units → IsOneItem unit → unit_read (units_read units) unit ≡ Err q → IsRefusedAs units unit q (file (bytes_of units ++ unit))
file-is_refused units unit q accepted one is = refused-there units unit q accepted (item-whole unit one) (λ format. item-refused (units_read units) unit q format one is)
