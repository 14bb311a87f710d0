-- The calls of a server's desks, and what they make of them.
use Rattle.adept_server.proofs.Common.{ℕ, ◌++◌, ◌<◌, ◌∙◌, ◌≡◌, AllLooked, answer_tells, ap, AreOf, AreRowsOf, arith, Bool, CallEach, CallFault, CallsCase, CallsCases, CallsKind, CallsOne, case_after, case_pass, case_reply, CaseId, CasePass}
use Rattle.adept_server.proofs.Common.{Desk, desk_view, DeskView, drop, Err, Event, has_case, has_kind, HasRoom, IfOk, if◌then◌else◌, in_row, IsDesk, IsDeskOf, kind_after, kind_reply, KindEvent, KindPass, KindReply, length, length-map}
use Rattle.adept_server.proofs.{Common.{List, Looks, map, Ok, OnErr, refl, Reply, Result, Server, set, slice_get, slice_get_within, subst, sym, take, true, view_of}, Fronts.row_cut, Keeping.{kind_call, kind_keeps, case_keeps, cases_keep}}
use Rattle.adept_server.proofs.{Looks.looks_keep, Places.{get-set_same, set_same}, Rows.{AreVecsOf, RowAt, HasRow, row_of, row_there, rows_behind, view_there, views_behind}}

unfoldable parts : ℕ → ℕ → ℕ → List Bool → List KindPass → List (List CasePass) → DeskView
parts number made taken defined kinds cases = record { number = number; made = made; taken = taken; defined = defined; kinds = kinds; cases = cases }

same_parts : (v w : DeskView) → w.number ≡ v.number → w.made ≡ v.made → w.taken ≡ v.taken → w.defined ≡ v.defined → w.kinds ≡ v.kinds → w.cases ≡ v.cases → parts w.number w.made w.taken w.defined w.kinds w.cases ≡ parts v.number v.made v.taken v.defined v.kinds v.cases
same_parts v w number made taken defined kinds cases = cc

pub same_views : (v w : DeskView) → w.number ≡ v.number → w.made ≡ v.made → w.taken ≡ v.taken → w.defined ≡ v.defined → w.kinds ≡ v.kinds → w.cases ≡ v.cases → w ≡ v
unfolding parts
same_views v w number made taken defined kinds cases =
    same_parts v w number made taken defined kinds cases

-- a call of a type changes the passes of types, and maybe a flag
pub kind_made : (s : Server) (d e : Desk) (event : KindEvent) (t : ℕ) (answer : Result KindReply CallFault) (tells : Bool) (kinds : _) → answer_tells answer ≡ tells → IsDeskOf s d
    → e.number ≡ d.number → e.made ≡ d.made → e.taken ≡ d.taken → e.cases ≡ d.cases → e.defined.items ≡ (if tells then set d.defined.items t true else d.defined.items) → e.kinds.items ≡ kinds
    → AreOf s.kinds.items kinds → CallsOne kind_after kind_reply event t answer (map view_of d.kinds.items) (map view_of kinds) → IsDeskOf s e × CallsKind event t answer (desk_view d) (desk_view e)
kind_made s d e event t answer tells kinds is k number made taken cases defined items of called = (
  record {
    kinds = subst (AreOf s.kinds.items) (sym items) of;
    cases = subst (λ (rows : _). AreRowsOf (map (λ row. row.items) s.cases.items) (map (λ row. row.items) rows.items)) (sym cases) k.cases;
    desk = kind_keeps event t answer (desk_view d) (desk_view e) made_call k.desk;
  },
  made_call,
)
  where
    made_call : CallsKind event t answer (desk_view d) (desk_view e)
    made_call = kind_call event t answer (desk_view d) (desk_view e) tells is (subst (λ (qs : _). CallsOne kind_after kind_reply event t answer (map view_of d.kinds.items) (map view_of qs)) (sym items) called)
        (same_views (record (desk_view d) { kinds = (desk_view e).kinds; defined = if tells then set (desk_view d).defined t true else (desk_view d).defined }) (desk_view e) number made taken defined refl (ap (λ (rows : _). map (λ row. map view_of row.items) rows.items) cases))

-- where a case is there for a desk, the desk has passes of its type's cases, and the server has the cells
pub case_row : (s : Server) (d : Desk) (id : CaseId) → IsDeskOf s d → has_case (desk_view d) id → HasRow s.cases.items d.cases.items id
case_row s d id k there = row_there s.cases.items d.cases.items id k.cases there

-- a call of a case changes its type's row of passes
pub case_made : (s : Server) (d e : Desk) (event : Event) (id : CaseId) (answer : Result Reply CallFault) → IsDeskOf s d → (r : RowAt s.cases.items d.cases.items id.type_no) (row : _)
    → e.number ≡ d.number → e.made ≡ d.made → e.taken ≡ d.taken → e.defined ≡ d.defined → e.kinds ≡ d.kinds → e.cases.items ≡ set d.cases.items id.type_no row
    → AreOf r.cells.items row.items → CallsOne case_after case_reply event id.place answer (map view_of r.passes.items) (map view_of row.items) → IsDeskOf s e × CallsCase event id answer (desk_view d) (desk_view e)
case_made s d e event id answer k r row number made taken defined kinds cases of called = (
  record {
    kinds = subst (λ (ps : _). AreOf s.kinds.items ps.items) (sym kinds) k.kinds;
    cases = rows_behind s.cases.items d.cases.items e.cases.items id.type_no r row cases k.cases of;
    desk = case_keeps event id answer (desk_view d) (desk_view e) made_call k.desk;
  },
  made_call,
)
  where
    made_call : CallsCase event id answer (desk_view d) (desk_view e)
    made_call = record {
      row = map view_of r.passes.items;
      row_behind = map view_of row.items;
      there = view_there s.cases.items d.cases.items id.type_no r;
      called = called;
      others = same_views (record (desk_view d) { cases = set (desk_view d).cases id.type_no (map view_of row.items) }) (desk_view e) number made taken (ap (λ (x : _). x.items) defined) (ap (λ (x : _). map view_of x.items) kinds)
          (views_behind d.cases.items e.cases.items id.type_no row cases);
    }

-- what was seen of a case is what its row has at its place
pub row_room : (s : Server) (d e : Desk) (id : CaseId) → (r : RowAt s.cases.items d.cases.items id.type_no) (row : _)
    → e.cases.items ≡ set d.cases.items id.type_no row → HasRoom (slice_get (map view_of row.items) id.place) → HasRoom (case_pass (desk_view e) id)
row_room s d e id r row cases room =
    let within = slice_get_within (desk_view d).cases id.type_no (map view_of r.passes.items) (view_there s.cases.items d.cases.items id.type_no r) in
    let here = ap (λ rows. slice_get rows id.type_no) (views_behind d.cases.items e.cases.items id.type_no row cases) ∙ get-set_same (desk_view d).cases id.type_no (map view_of row.items) within in
    subst (λ o. HasRoom (in_row id.place o)) (sym here) room

cases_there : (d : Desk) (t : ℕ) → IsDesk (desk_view d) → has_kind (desk_view d) t → t < length d.cases.items
cases_there d t desk there = omega (arith, desk.rows, length-map d.cases.items (λ (row : _). map view_of row.items))

-- where a type is there, its cases have a row
pub kind_row : (s : Server) (d : Desk) (t : ℕ) → IsDeskOf s d → has_kind (desk_view d) t → RowAt s.cases.items d.cases.items t
kind_row s d t k there = row_of s.cases.items d.cases.items t k.cases (cases_there d t k.desk there)

-- a call of each of the first so many cases of a type changes the front of the type's row of passes
pub cases_made : (s : Server) (d e : Desk) (event : Event) (t many : ℕ) (answers : List (Result Reply CallFault)) (front : List CasePass) → IsDeskOf s d → (r : RowAt s.cases.items d.cases.items t) (row : _)
    → e.number ≡ d.number → e.made ≡ d.made → e.taken ≡ d.taken → e.defined ≡ d.defined → e.kinds ≡ d.kinds → e.cases.items ≡ set d.cases.items t row → AreOf r.cells.items row.items
    → CallEach case_after case_reply event (take many (map view_of r.passes.items)) answers front → map view_of row.items ≡ front ++ drop many (map view_of r.passes.items) → IsDeskOf s e × CallsCases event t many answers (desk_view d) (desk_view e)
cases_made s d e event t many answers front k r row number made taken defined kinds cases of called cut = (
  record {
    kinds = subst (λ (ps : _). AreOf s.kinds.items ps.items) (sym kinds) k.kinds;
    cases = rows_behind s.cases.items d.cases.items e.cases.items t r row cases k.cases of;
    desk = cases_keep event t many answers (desk_view d) (desk_view e) made_calls k.desk;
  },
  made_calls,
)
  where
    new : List CasePass
    new = front ++ drop many (map view_of r.passes.items)

    made_calls : CallsCases event t many answers (desk_view d) (desk_view e)
    made_calls = record {
      row = map view_of r.passes.items;
      front = front;
      there = view_there s.cases.items d.cases.items t r;
      called = called;
      others = same_views (record (desk_view d) { cases = set (desk_view d).cases t new }) (desk_view e) number made taken (ap (λ (x : _). x.items) defined) (ap (λ (x : _). map view_of x.items) kinds)
          (views_behind d.cases.items e.cases.items t row cases ∙ ap (λ (ps : List CasePass). set (desk_view d).cases t ps) cut);
    }

-- a row that was put back as it was
row_unchanged : (s : Server) (d e : Desk) (t : ℕ) → (r : RowAt s.cases.items d.cases.items t) (row : _)
    → e.number ≡ d.number → e.made ≡ d.made → e.taken ≡ d.taken → e.defined ≡ d.defined → e.kinds ≡ d.kinds → e.cases.items ≡ set d.cases.items t row → row.items ≡ r.passes.items → desk_view e ≡ desk_view d
row_unchanged s d e t r row number made taken defined kinds cases same = same_views (desk_view d) (desk_view e) number made taken (ap (λ (x : _). x.items) defined) (ap (λ (x : _). map view_of x.items) kinds)
    (views_behind d.cases.items e.cases.items t row cases ∙ (ap (λ (ps : List CasePass). set (desk_view d).cases t ps) (ap (map view_of) same) ∙ sym (set_same (desk_view d).cases t (map view_of r.passes.items) (view_there s.cases.items d.cases.items t r))))

-- a batch of calls on the front of a type's row of passes
pub batch_made : {X Y : Type 0} (f : X → List (Result Reply CallFault)) (o : Result X Y) (s : Server) (d e : Desk) (event : Event) (t many : ℕ) → IsDeskOf s d → (r : RowAt s.cases.items d.cases.items t) (row : _)
    → e.number ≡ d.number → e.made ≡ d.made → e.taken ≡ d.taken → e.defined ≡ d.defined → e.kinds ≡ d.kinds → e.cases.items ≡ set d.cases.items t row → AreOf r.cells.items row.items
    → IfOk o (λ a. CallEach case_after case_reply event (take many (map view_of r.passes.items)) (f a) (map view_of (take many row.items))) → drop many row.items ≡ drop many r.passes.items → OnErr o (row.items ≡ r.passes.items)
    → IsDeskOf s e × IfOk o (λ a. CallsCases event t many (f a) (desk_view d) (desk_view e)) × OnErr o (desk_view e ≡ desk_view d)
batch_made f (Ok a) s d e event t many k r row number made taken defined kinds cases of called rest same =
    let m = cases_made s d e event t many (f a) (map view_of (take many row.items)) k r row number made taken defined kinds cases of called (row_cut many r.passes.items row.items rest) in (m.0, m.1, tt)
batch_made f (Err y) s d e event t many k r row number made taken defined kinds cases of called rest same =
    let is = row_unchanged s d e t r row number made taken defined kinds cases same in (
      record {
        kinds = subst (λ (ps : _). AreOf s.kinds.items ps.items) (sym kinds) k.kinds;
        cases = rows_behind s.cases.items d.cases.items e.cases.items t r row cases k.cases of;
        desk = subst IsDesk (sym is) k.desk;
      },
      tt,
      is,
    )

-- looks change the rows of passes of cases
pub looks_made : (s : Server) (d e : Desk) (rows : _) → IsDeskOf s d → e.number ≡ d.number → e.made ≡ d.made → e.taken ≡ d.taken → e.defined ≡ d.defined → e.kinds ≡ d.kinds → e.cases.items ≡ rows
    → AreVecsOf s.cases.items rows → AllLooked (desk_view d).cases (map (λ row. map view_of row.items) rows) → IsDeskOf s e × Looks (desk_view d) (desk_view e)
looks_made s d e rows k number made taken defined kinds cases of looked = (
  record {
    kinds = subst (λ (ps : _). AreOf s.kinds.items ps.items) (sym kinds) k.kinds;
    cases = subst (λ (qs : _). AreVecsOf s.cases.items qs) (sym cases) of;
    desk = looks_keep (desk_view d) (desk_view e) looks k.desk;
  },
  looks,
)
  where
    looks : Looks (desk_view d) (desk_view e)
    looks = record {
      others = same_views (record (desk_view d) { cases = (desk_view e).cases }) (desk_view e) number made taken (ap (λ (x : _). x.items) defined) (ap (λ (x : _). map view_of x.items) kinds) refl;
      looked = subst (λ (qs : _). AllLooked (desk_view d).cases (map (λ row. map view_of row.items) qs)) (sym cases) looked;
    }
