use Rattle.crew_run.proofs.Common.{[], ℕ, ◌++◌, ◌∷◌, ◌≤◌, ◌+◌, ◌-◌, ◌<◌, ◌∙◌, ◌≡◌, ap, AreCounts, arith, CaseDecl, CaseModel, Closed, closed_case, CountedCase, Event, File, get_or, get_or-map, Global, length, length-map, List, map, map-set, Reply, same_Some}
use Rattle.crew_run.proofs.{Common.{slice_get, IsWorkable, set, slice_get-get_or, Some, sym, take, Vec, vec_len, View}, RowsEmptied.{EmptiedTo, all_emptied, none_emptied, one_more_emptied, row_length, row_there}}
use Rattle.std.proofs.lemmas.Simd.{map-map}
use Rattle.script_run.specs.declared.runs.ClosedCase.{ClosedCase}
use Rattle.crew_run.proofs.closing.closed_cases.Goals as goal

abbrev Row : Type 0
Row = Vec (Closed CountedCase Event Reply View CaseModel) Global

abbrev items_of : Row → List (Closed CountedCase Event Reply View CaseModel)
items_of row = row.items

lists_counted : (f : File) (rows : List Row) → AreCounts f (map (λ row. length (items_of row)) rows) → AreCounts f (map length (map items_of rows))
lists_counted f rows counts = rw (map-map (length {A = Closed CountedCase Event Reply View CaseModel}) items_of rows) counts

-- the declaration before an index, from which on all were worked, and the row of its type
module _ (f : File) (rows : List Row) (workable : IsWorkable f) (given : AreCounts f (map (λ row. length (items_of row)) rows)) (index k : ℕ) (next : index ≡ k + 1) (left : List Row) (made : List ClosedCase)
    (e : EmptiedTo closed_case f (map items_of rows) index (map items_of left) made) (ds : List CaseDecl) (same : ds ≡ f.cases) (within : index ≤ length ds) (d : CaseDecl) where
  abbrev decl : CaseDecl
  decl = get_or ds k d

  at : slice_get f.cases k ≡ Some decl
  at = ap (λ xs. slice_get xs k) (sym same) ∙ slice_get-get_or ds k d (omega (arith, next, within))

  counts : AreCounts f (map length (map items_of rows))
  counts = lists_counted f rows given

  there : decl.id.type_no < length left
  there = omega (arith, row_there closed_case f (map items_of rows) workable counts index k next (map items_of left) made e decl at, length-map left items_of)

  module _ (row : Row) (is : row ≡ get_or left decl.id.type_no row) where
    row_in : row.items ≡ get_or (map items_of left) decl.id.type_no row.items
    row_in = ap items_of is ∙ sym (get_or-map items_of left decl.id.type_no row row.items there)

    long : length row.items ≡ decl.id.place + 1
    long = row_length closed_case f (map items_of rows) workable counts index k next (map items_of left) made e decl at row.items row_in

    emptied : (rest : List _) (x : _) → x ≡ get_or row.items (length row.items - 1) x → rest ≡ take (length row.items - 1) row.items → EmptiedTo closed_case f (map items_of rows) k (set (map items_of left) decl.id.type_no rest) (made ++ closed_case x ∷ [])
    emptied rest x last front = one_more_emptied closed_case f (map items_of rows) workable counts index k next (map items_of left) made e decl at row.items rest x row_in last front

pub loop-index-init : goal.loop-index-init
loop-index-init c =
    let f = c.args.file.now in
    let rows = map items_of c.args.rows.items in
    let made = c.in_ok-all.ensures in
    record {
      emptied = rw (c.as_slice-decls.ensures, made.items) (none_emptied closed_case f rows (lists_counted f c.args.rows.items c.requires.cases));
      room = omega (arith, made.len, made.exact, made.capacity);
    }

pub index_mut-row-requires : goal.index_mut-row-requires
index_mut-row-requires c =
    let l = c.loop-index in
    omega (arith, there c.args.file.now c.args.rows.items c.requires.file c.requires.cases l.index (l.index - 1) (omega arith) l.rows.items l.all.items l.invariant.emptied c.as_slice-decls.result.now c.as_slice-decls.ensures (omega arith) c.index-decls-index.result, l.rows.ok.0)

pub unwrap-requires : goal.unwrap-requires
unwrap-requires c =
    let l = c.loop-index in
    let row = c.index_mut-row.result.now in
    let many = long c.args.file.now c.args.rows.items c.requires.file c.requires.cases l.index (l.index - 1) (omega arith) l.rows.items l.all.items l.invariant.emptied c.as_slice-decls.result.now c.as_slice-decls.ensures (omega arith) c.index-decls-index.result row c.index_mut-row.ensures.value in
    c.pop.ensures.variant.1 (omega (arith, many, row.ok.0))

pub loop-index-preserved : goal.loop-index-preserved
loop-index-preserved c =
    let l = c.loop-index in
    let row = c.index_mut-row.result.now in
    let x = c.unwrap.result in
    let many = long c.args.file.now c.args.rows.items c.requires.file c.requires.cases l.index (l.index - 1) (omega arith) l.rows.items l.all.items l.invariant.emptied c.as_slice-decls.result.now c.as_slice-decls.ensures (omega arith) c.index-decls-index.result row c.index_mut-row.ensures.value in
    let more = emptied c.args.file.now c.args.rows.items c.requires.file c.requires.cases l.index (l.index - 1) (omega arith) l.rows.items l.all.items l.invariant.emptied c.as_slice-decls.result.now c.as_slice-decls.ensures (omega arith) c.index-decls-index.result row c.index_mut-row.ensures.value in
    let len : vec_len row ≡ length row.items = omega (arith, row.ok.0) in
    let last : x ≡ get_or row.items (length row.items - 1) x =
    same_Some x (get_or row.items (length row.items - 1) x) (sym c.unwrap.ensures ∙ (rw len at (c.pop.ensures.value x (omega (arith, many, len))))) in
    let pushed = c.push_reserved.ensures in
    record {
      emptied = rw (map-set items_of l.rows.items _ c.pop.new.self, pushed.items, c.closed_case.ensures) (more c.pop.new.self.items x last (rw len at c.pop.ensures.rest));
      room = omega (arith, pushed.len, pushed.capacity);
    }

pub returns : goal.returns
returns c =
    let l = c.loop-index in
    let f = c.args.file.now in
    let rows = map items_of c.args.rows.items in
    let none : l.index ≡ 0 = omega arith in
    rw (c.from_vec.ensures, c.reverse.ensures.items) (all_emptied closed_case f rows (map items_of l.rows.items) l.all.items (rw none at l.invariant.emptied))
