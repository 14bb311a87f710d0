-- The answer to a unit that is accepted tells what the run of the longer file has more than that of the shorter.
use Rattle.talk_told.proofs.Common.{[], ◌++◌, ◌<◌, ◌∙◌, ◌∷◌, ◌≡◌, AllRows, ap, ArePlaced, arith, Bool, Bytes, called_by, called_text, CaseDecl, cells_of, Contents, declared_behind, defined, drop, drop-append_seam, drop-length, entries_of}
use Rattle.talk_told.proofs.Common.{file_of, fold, HasType, HasVersion, Held, held_behind, if_there, if◌then◌else◌, IsAtWork, kind_entry, le-ltb, length, length-append, Line, line_worked, List, lt-ltb, None, Option, placed_in, refl, Run}
use Rattle.talk_told.proofs.{Common.{run_behind, run_more, Said, said_line, SaysBehind, SaysCase, SaysLine, SaysType, settled, slice_get, Some, subst, sym, TypeDecl, with_case, with_kind, worked}, Added.{case-told, type-told}}
use Rattle.talk_told.proofs.Worked.{nothing-told, worked-told}
use Rattle.file_units.specs.declared.held.Said.TheVariants as say
use Rattle.line_calls.specs.declared.calls.Cells.{Cells}
use Rattle.line_calls.specs.declared.calls.Cells.TheVariants as cells

-- the run is one of what was declared, whose types are all defined
pub record IsRunOf (c : Contents) (r : Run) : Type 0 where
  pub kinds : length r.kinds ≡ length c.types.items
  pub cases : length r.cases ≡ length c.cases.items
  pub placed : ArePlaced c.cases.items
  pub typed : AllRows (HasType (length c.types.items)) c.cases.items
  pub versions : AllRows HasVersion r.kinds

-- ---- what was declared
one-more : {A : Type 0} (xs ys : List A) (x : A) → ys ≡ xs ++ x ∷ [] → drop (length xs) ys ≡ x ∷ []
one-more xs ys x e = ap (drop (length xs)) e ∙ drop-append_seam xs (x ∷ [])

none-more : {A : Type 0} (xs ys : List A) → ys ≡ xs → drop (length xs) ys ≡ []
none-more xs ys e = ap (drop (length xs)) e ∙ drop-length xs

of-declared : (c d : Contents) (r : Run) (types : List TypeDecl) (cases : List CaseDecl) → drop (length c.types.items) d.types.items ≡ types → drop (length c.cases.items) d.cases.items ≡ cases
    → declared_behind c d r ≡ fold (λ q k. with_case k q) (fold (λ q t. with_kind t q) r types) cases
of-declared c d r types cases ts cs =
    ap (λ more. fold (λ q k. with_case k q) (fold (λ q t. with_kind t q) r more) (drop (length c.cases.items) d.cases.items)) ts
    ∙ ap (λ more. fold (λ q k. with_case k q) (fold (λ q t. with_kind t q) r types) more) cs

of-line : (c d : Contents) (r q : Run) (l : Option Line) → said_line d ≡ l → declared_behind c d r ≡ q → run_behind c d r ≡ line_worked (file_of (settled d)) l q
of-line c d r q l line_is is = ap (λ o. line_worked (file_of (settled d)) o (declared_behind c d r)) line_is ∙ ap (line_worked (file_of (settled d)) l) is

-- ---- the run
pub run-type : (c d : Contents) (r : Run) (s : SaysType c d) → run_behind c d r ≡ with_kind s.one r
run-type c d r s =
    of-line c d r (with_kind s.one r) None s.line (of-declared c d r (s.one ∷ []) [] (one-more c.types.items d.types.items s.one s.types) (none-more c.cases.items d.cases.items s.cases))

pub run-case : (c d : Contents) (r : Run) (s : SaysCase c d) → run_behind c d r ≡ with_case s.one r
run-case c d r s =
    of-line c d r (with_case s.one r) None s.line (of-declared c d r [] (s.one ∷ []) (none-more c.types.items d.types.items s.types) (one-more c.cases.items d.cases.items s.one s.cases))

pub run-line : (c d : Contents) (r : Run) (l : Option Line) → SaysLine c d l → run_behind c d r ≡ line_worked (file_of (settled d)) l r
run-line c d r l s = of-line c d r r l s.line_is (of-declared c d r [] [] (none-more c.types.items d.types.items s.types) (none-more c.cases.items d.cases.items s.cases))

-- ---- what is told of a run
abbrev told : Contents → Contents → Run → Option Cells → Bytes
told c d r called = entries_of (file_of (settled d)) (placed_in (settled d) r) called

-- it is enough to know the run, and whom the unit has called
told-by : (h : Held) (d : Contents) (r : Run) (called : Option Cells) → run_behind h.contents d h.run ≡ r → called_by (said_line d) h.contents d ≡ called
    → told h.contents d r called ≡ run_more (file_of (settled d)) h.run r → called_text (held_behind h d) ≡ run_more (file_of (settled d)) h.run (run_behind h.contents d h.run)
told-by h d r called is whom tells =
    ap (λ o. told h.contents d (run_behind h.contents d h.run) o) whom ∙ ap (λ q. told h.contents d q called) is ∙ tells ∙ ap (run_more (file_of (settled d)) h.run) (sym is)

none-called : (c d : Contents) → said_line d ≡ None → d.types.items ≡ c.types.items → called_by (said_line d) c d ≡ None
none-called c d line types =
    ap (λ o. called_by o c d) line
    ∙ ap (λ (b : Bool). if b then Some (cells.Kind (length c.types.items)) else None) (le-ltb (length c.types.items) (length d.types.items) (omega (arith, ap length types)))

-- ---- a line
at-work : (c d : Contents) (r : Run) → d.cases.items ≡ c.cases.items → IsRunOf c r → IsAtWork (file_of (settled d)) (placed_in (settled d) r)
at-work c d r cases h = record {
  of = record {
    types = refl;
    placed = subst ArePlaced (sym cases) h.placed;
    many = h.cases ∙ ap length (sym cases);
  };
  typed = subst (λ n. AllRows (HasType n) d.cases.items) (sym h.kinds) (subst (AllRows (HasType (length c.types.items))) (sym cases) h.typed);
  versions = h.versions;
}

line-told : (h : Held) (d : Contents) (l : Line) → IsRunOf h.contents h.run → SaysLine h.contents d (Some l) → called_text (held_behind h d) ≡ run_more (file_of (settled d)) h.run (run_behind h.contents d h.run)
line-told h d l is s =
    let f = file_of (settled d) in
    told-by h d (worked f h.run l) (Some (cells_of l.act))
    (run-line h.contents d h.run (Some l) s)
    (ap (λ o. called_by o h.contents d) s.line_is)
    (worked-told f (placed_in (settled d) h.run) l (at-work h.contents d h.run s.cases is))

-- ---- a type, a case, or nothing that is called
at-end : {X : Type 0} (xs : List X) (x : X) → slice_get (xs ++ x ∷ []) (length xs) ≡ Some x
at-end [] x = refl
at-end (y ∷ ys) x = at-end ys x

type-behind : (h : Held) (d : Contents) → IsRunOf h.contents h.run → SaysType h.contents d → called_text (held_behind h d) ≡ run_more (file_of (settled d)) h.run (run_behind h.contents d h.run)
type-behind h d is s =
    let f = file_of (settled d) in
    let c = h.contents in
    let n = length h.run.kinds in
    let more : length c.types.items < length d.types.items = omega (arith, ap length s.types, length-append c.types.items (s.one ∷ [])) in
    let whom : called_by (said_line d) c d ≡ Some (cells.Kind n) =
    ap (λ o. called_by o c d) s.line ∙ ap (λ (b : Bool). if b then Some (cells.Kind (length c.types.items)) else None) (lt-ltb (length c.types.items) (length d.types.items) more)
    ∙ ap (λ m. Some (cells.Kind m)) (sym is.kinds) in
    told-by h d (with_kind s.one h.run) (Some (cells.Kind n))
    (run-type c d h.run s) whom
    (ap (if_there (kind_entry f n)) (at-end h.run.kinds (defined n s.one)) ∙ type-told f h.run s.one)

case-behind : (h : Held) (d : Contents) → IsRunOf h.contents h.run → SaysCase h.contents d → called_text (held_behind h d) ≡ run_more (file_of (settled d)) h.run (run_behind h.contents d h.run)
case-behind h d is s =
    let c = h.contents in
    told-by h d (with_case s.one h.run) None
    (run-case c d h.run s)
    (none-called c d s.line s.types) (sym (case-told (file_of (settled d)) h.run c.cases.items s.one s.cases is.cases))

other-told : (h : Held) (d : Contents) → SaysLine h.contents d None → called_text (held_behind h d) ≡ run_more (file_of (settled d)) h.run (run_behind h.contents d h.run)
other-told h d s =
    let c = h.contents in
    told-by h d h.run None
    (run-line c d h.run None s)
    (none-called c d s.line_is s.types) (sym (nothing-told (file_of (settled d)) h.run))

-- What is answered to a unit that is accepted, but for the line behind it, are the entries that the run of the longer file has more
-- than that of the shorter.
pub unit-told : (h : Held) (d : Contents) (said : Said) → IsRunOf h.contents h.run → SaysBehind h.contents d said → called_text (held_behind h d) ≡ run_more (file_of (settled d)) h.run (run_behind h.contents d h.run)
unit-told h d say.«Type» is s = type-behind h d is s
unit-told h d say.Case is s = case-behind h d is s
unit-told h d (say.Line l) is s = line-told h d l is s
unit-told h d say.Other is s = other-told h d s
