use Rattle.adept_server.proofs.{Common.{◌∙◌, AllLooked, AllOpened, ap, AreShort, arith, desk_view, length, length-map, map, refl, subst, sym, view_of, with_items, with_items_is}, Looks.desk_opened, Made.looks_made, Rows.AreVecsOf}
use Rattle.adept_server.proofs.servers.Server.worklist.Goals as goal

pub look_rows-requires-clause-opening : goal.look_rows-requires-clause-opening
look_rows-requires-clause-opening g c = subst (λ (qs : _). AllOpened 0 (map (λ row. map view_of row.items) qs)) (sym c.deref_mut.ensures.value) (desk_opened (desk_view c.args.desk.now) c.requires.desk.desk)

pub look_rows-requires-clause-few : goal.look_rows-requires-clause-few
look_rows-requires-clause-few g c = omega (arith, c.requires.desk.desk.few, length-map c.args.desk.now.cases.items (λ (row : _). map view_of row.items), ap length c.deref_mut.ensures.value)

pub look_rows-requires-clause-short : goal.look_rows-requires-clause-short
look_rows-requires-clause-short g c = subst (λ (qs : _). AreShort (map (λ row. map view_of row.items) qs)) (sym c.deref_mut.ensures.value) c.requires.desk.desk.short

pub returns-in_err-look_rows-clause-desk : goal.returns-in_err-look_rows-clause-desk
returns-in_err-look_rows-clause-desk g c =
    let d = c.args.desk.now in
    let rows = c.look_rows.new.passes in
    let whole = with_items_is d.cases rows (c.look_rows.auto.passes ∙ c.deref_mut.ensures.len) in
    let of = subst (λ (cs : _). AreVecsOf cs rows) c.deref.ensures.value c.in_err-look_rows.ensures.cells in
    let looked = subst (λ (qs : _). AllLooked (map (λ row. map view_of row.items) qs) (map (λ row. map view_of row.items) rows)) c.deref_mut.ensures.value c.in_err-look_rows.ensures.looked in
    (looks_made c.args.self.now d (record d { cases = with_items d.cases rows }) rows c.requires.desk refl refl refl refl refl whole of looked).0

pub returns-clause-desk : goal.returns-clause-desk
returns-clause-desk g c =
    let d = c.args.desk.now in
    let rows = c.look_rows.new.passes in
    let whole = with_items_is d.cases rows (c.look_rows.auto.passes ∙ c.deref_mut.ensures.len) in
    let of = subst (λ (cs : _). AreVecsOf cs rows) c.deref.ensures.value c.in_ok-look_rows.ensures.cells in
    let looked = subst (λ (qs : _). AllLooked (map (λ row. map view_of row.items) qs) (map (λ row. map view_of row.items) rows)) c.deref_mut.ensures.value c.in_ok-look_rows.ensures.looked in
    (looks_made c.args.self.now d (record d { cases = with_items d.cases rows }) rows c.requires.desk refl refl refl refl refl whole of looked).0
