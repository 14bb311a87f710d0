use Rattle.log_fit.proofs.{Common.{◌<◌, ◌∙◌, ◌≡◌, ap, arith, length, noted, number_of, ProgressModel, refl, rows_with, rules, slice_set, subst, sym}, NamedRows.{found, inside, taken}}
use Rattle.log_fit.proofs.tables.CaseTable.take.Goals as goal

pub index_mut-requires : goal.index_mut-requires
index_mut-requires c =
    let place : c.in_ok-place.field-0 ≡ number_of (noted c.args.self.now.names c.args.logged.case) c.args.logged.case =
    c.in_ok-place.ensures.number ∙ ap (λ n. number_of (noted c.args.self.now.names n) n) c.word.ensures.bytes in
    let rows : c.add_row.new.rows.items ≡ rows_with c.args.version.now c.args.self.now.rows.items c.in_ok-place.field-0 c.args.logged.case = c.in_ok-add_row.ensures in
    let within : c.in_ok-place.field-0 < length c.add_row.new.rows.items = rw (rows, place) (inside c.requires.table.2 c.args.logged) in
    search rules

pub take-requires : goal.take-requires
take-requires c =
    let place : c.in_ok-place.field-0 ≡ number_of (noted c.args.self.now.names c.args.logged.case) c.args.logged.case =
    c.in_ok-place.ensures.number ∙ ap (λ n. number_of (noted c.args.self.now.names n) n) c.word.ensures.bytes in
    let rows : c.add_row.new.rows.items ≡ rows_with c.args.version.now c.args.self.now.rows.items c.in_ok-place.field-0 c.args.logged.case = c.in_ok-add_row.ensures in
    subst (λ (p : ProgressModel). p.events < 4000000000) (sym (found c.requires.table.2 c.args.logged c.index_mut.result.now (rw (rows, place) at c.index_mut.ensures.value)))
    (omega (arith, c.requires.table.2.few c.args.logged.case, c.requires.table.3))

pub returns-clause-rows : goal.returns-clause-rows
returns-clause-rows c = λ ok row most table.
    let place : c.in_ok-place.field-0 ≡ number_of (noted c.args.self.now.names c.args.logged.case) c.args.logged.case =
    c.in_ok-place.ensures.number ∙ ap (λ n. number_of (noted c.args.self.now.names n) n) c.word.ensures.bytes in
    let rows : c.add_row.new.rows.items ≡ rows_with c.args.version.now c.args.self.now.rows.items c.in_ok-place.field-0 c.args.logged.case = c.in_ok-add_row.ensures in
    let names : c.note.new.self ≡ noted c.args.self.now.names c.args.logged.case = c.in_ok-place.ensures.noted ∙ ap (noted c.args.self.now.names) c.word.ensures.bytes in
    rw names (taken table c.args.logged c.index_mut.result.now (slice_set c.add_row.new.rows.items c.in_ok-place.field-0 c.take.new.self)
    (found table c.args.logged c.index_mut.result.now (rw (rows, place) at c.index_mut.ensures.value))
    (rw (rows, place, c.in_ok-take.ensures) refl))
