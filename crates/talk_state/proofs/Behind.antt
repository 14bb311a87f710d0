-- What a unit says, worked, is the run behind it.
use Rattle.talk_state.proofs.Common.{[], ℕ, ◌++◌, ◌+◌, ◌-◌, ◌<◌, ◌∙◌, ◌∷◌, ◌≡◌, ap, arith, Bool, called_by, case_placed, CaseDecl, Contents, declared_behind, defined, drop, drop-append_seam, drop-length, File, file_of, fold, if◌then◌else◌}
use Rattle.talk_state.proofs.Common.{kind_placed, last_of, le-ltb, length, length-append, Line, line_worked, List, lt-ltb, map-append, nat_lt, None, Option, option_map, placed_in, Placing, refl, Run, run_behind, Said, said_called}
use Rattle.talk_state.proofs.{Common.{said_line, said_worked, SaysBehind, SaysCase, SaysLine, SaysType, settled, slice_get, Some, sym, TypeDecl, types_of, with_case, with_kind, with_last}, Lengths.kinds-worked}
use Rattle.file_units.specs.declared.held.Said.TheVariants as say
use Rattle.line_calls.specs.declared.calls.Cells.TheVariants as cells

-- ---- lists
more : {A : Type 0} (xs ys : List A) (x : A) → ys ≡ xs ++ x ∷ [] → drop (length xs) ys ≡ x ∷ []
more xs ys x e = ap (drop (length xs)) e ∙ drop-append_seam xs (x ∷ [])

none : {A : Type 0} (xs ys : List A) → ys ≡ xs → drop (length xs) ys ≡ []
none xs ys e = ap (drop (length xs)) e ∙ drop-length xs

pub length-more : {A : Type 0} (xs : List A) (x : A) → length (xs ++ x ∷ []) ≡ length xs + 1
length-more xs x = omega (arith, length-append xs (x ∷ []))

pub at-end : {A : Type 0} (xs : List A) (x : A) → slice_get (xs ++ x ∷ []) (length xs) ≡ Some x
at-end [] x = refl
at-end (y ∷ ys) x = at-end ys x

pub last-more : {A : Type 0} (xs ys : List A) (x : A) → ys ≡ xs ++ x ∷ [] → last_of ys ≡ Some x
last-more xs ys x e =
    let at : length (xs ++ x ∷ []) - 1 ≡ length xs = omega (arith, length-more xs x) in
    ap last_of e ∙ (ap (slice_get (xs ++ x ∷ [])) at ∙ at-end xs x)

-- ---- the run
of-declared : (c d : Contents) (r : Run) (types : List TypeDecl) (cases : List CaseDecl) → drop (length c.types.items) d.types.items ≡ types → drop (length c.cases.items) d.cases.items ≡ cases
    → declared_behind c d r ≡ fold (λ q k. with_case k q) (fold (λ q t. with_kind t q) r types) cases
of-declared c d r types cases ts cs =
    ap (λ more. fold (λ q k. with_case k q) (fold (λ q t. with_kind t q) r more) (drop (length c.cases.items) d.cases.items)) ts
    ∙ ap (λ more. fold (λ q k. with_case k q) (fold (λ q t. with_kind t q) r types) more) cs

of-line : (c d : Contents) (r q : Run) (l : Option Line) → said_line d ≡ l → declared_behind c d r ≡ q → run_behind c d r ≡ line_worked (file_of (settled d)) l q
of-line c d r q l says is = ap (λ o. line_worked (file_of (settled d)) o (declared_behind c d r)) says ∙ ap (line_worked (file_of (settled d)) l) is

run-type : (c d : Contents) (r : Run) (s : SaysType c d) → run_behind c d r ≡ with_kind s.one r
run-type c d r s = of-line c d r (with_kind s.one r) None s.line (of-declared c d r (s.one ∷ []) [] (more c.types.items d.types.items s.one s.types) (none c.cases.items d.cases.items s.cases))

run-case : (c d : Contents) (r : Run) (s : SaysCase c d) → run_behind c d r ≡ with_case s.one r
run-case c d r s = of-line c d r (with_case s.one r) None s.line (of-declared c d r [] (s.one ∷ []) (none c.types.items d.types.items s.types) (more c.cases.items d.cases.items s.one s.cases))

run-line : (c d : Contents) (r : Run) (l : Option Line) → SaysLine c d l → run_behind c d r ≡ line_worked (file_of (settled d)) l r
run-line c d r l s = of-line c d r r l s.line_is (of-declared c d r [] [] (none c.types.items d.types.items s.types) (none c.cases.items d.cases.items s.cases))

-- ---- the run, with the places of its cases
placing : Run → ℕ → List ℕ → Placing
placing q kinds types = record { run = q; placed = record { kinds = kinds; types = types } }

same-placing : (q : Run) (k m : ℕ) (ts us : List ℕ) → k ≡ m → ts ≡ us → placing q k ts ≡ placing q m us
same-placing q k m ts us ks es = ap (λ n. placing q n ts) ks ∙ ap (placing q m) es

behind-type : (c d : Contents) (r : Run) (s : SaysType c d) → kind_placed s.one (placed_in c r) ≡ placed_in (settled d) (run_behind c d r)
unfolding placing
behind-type c d r s =
    let q = with_kind s.one r in
    same-placing q (length r.kinds + 1) (length q.kinds) (types_of c.cases.items) (types_of d.cases.items) (sym (length-more r.kinds (defined (length r.kinds) s.one))) (ap types_of (sym s.cases))
    ∙ ap (placed_in (settled d)) (sym (run-type c d r s))

behind-case : (c d : Contents) (r : Run) (s : SaysCase c d) → case_placed s.one (placed_in c r) ≡ placed_in (settled d) (run_behind c d r)
unfolding placing
behind-case c d r s =
    let q = with_case s.one r in
    let types : types_of c.cases.items ++ s.one.id.type_no ∷ [] ≡ types_of d.cases.items = sym (ap types_of s.cases ∙ map-append (λ (k : CaseDecl). k.id.type_no) c.cases.items (s.one ∷ [])) in
    same-placing q (length r.kinds) (length r.kinds) (types_of c.cases.items ++ s.one.id.type_no ∷ []) (types_of d.cases.items) refl types
    ∙ ap (placed_in (settled d)) (sym (run-case c d r s))

length-line_worked : (f : File) (l : Option Line) (r : Run) → length (line_worked f l r).kinds ≡ length r.kinds
length-line_worked f None r = refl
length-line_worked f (Some l) r = kinds-worked f r l

behind-line : (c d : Contents) (r : Run) (l : Option Line) → SaysLine c d l → record (placed_in c r) { run = line_worked (file_of (settled d)) l r } ≡ placed_in (settled d) (run_behind c d r)
unfolding placing
behind-line c d r l s =
    let q = line_worked (file_of (settled d)) l r in
    same-placing q (length r.kinds) (length q.kinds) (types_of c.cases.items) (types_of d.cases.items) (sym (length-line_worked (file_of (settled d)) l r)) (ap types_of (sym s.cases))
    ∙ ap (placed_in (settled d)) (sym (run-line c d r l s))

pub worked-behind : (c d : Contents) (said : Said) (r : Run) → SaysBehind c d said → said_worked (file_of (settled d)) said (placed_in c r) ≡ placed_in (settled d) (run_behind c d r)
worked-behind c d say.«Type» r s = ap (λ o. with_last kind_placed o (placed_in c r)) (last-more c.types.items d.types.items s.one s.types) ∙ behind-type c d r s
worked-behind c d say.Case r s = ap (λ o. with_last case_placed o (placed_in c r)) (last-more c.cases.items d.cases.items s.one s.cases) ∙ behind-case c d r s
worked-behind c d (say.Line l) r s = behind-line c d r (Some l) s
worked-behind c d say.Other r s = behind-line c d r None s

-- ---- whom it has called
called-type : (m n : ℕ) → m < n → n ≡ m + 1 → Some (cells.Kind (n - 1)) ≡ (if nat_lt m n then Some (cells.Kind m) else None)
called-type m n less one =
    let last : n - 1 ≡ m = omega (arith, one) in
    ap (λ k. Some (cells.Kind k)) last ∙ sym (ap (λ (b : Bool). if b then Some (cells.Kind m) else None) (lt-ltb m n less))

called-none : (m n : ℕ) → n ≡ m → None ≡ (if nat_lt m n then Some (cells.Kind m) else None)
called-none m n same = sym (ap (λ (b : Bool). if b then Some (cells.Kind m) else None) (le-ltb m n (omega (arith, same))))

none-behind : (c d : Contents) → said_line d ≡ None → d.types.items ≡ c.types.items → None ≡ called_by (said_line d) c d
none-behind c d line types = called-none (length c.types.items) (length d.types.items) (ap length types) ∙ ap (λ o. called_by o c d) (sym line)

pub called-behind : (c d : Contents) (said : Said) → SaysBehind c d said → said_called (file_of (settled d)) said ≡ called_by (said_line d) c d
called-behind c d say.«Type» s =
    let one : length d.types.items ≡ length c.types.items + 1 = ap length s.types ∙ length-more c.types.items s.one in
    ap (option_map (λ (t : TypeDecl). cells.Kind (length d.types.items - 1))) (last-more c.types.items d.types.items s.one s.types)
    ∙ (called-type (length c.types.items) (length d.types.items) (omega (arith, one)) one ∙ ap (λ o. called_by o c d) (sym s.line))
called-behind c d say.Case s = none-behind c d s.line s.types
called-behind c d (say.Line l) s = ap (λ o. called_by o c d) (sym s.line_is)
called-behind c d say.Other s = none-behind c d s.line_is s.types
