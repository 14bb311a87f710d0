use Rattle.store_form.proofs.{Common.{◌∙◌, ap, err_from_is_err_and, first, list_all, nat_lt, rises, Some, sym}, RoleRows.{roles-fail, roles-read, roles-unsorted, roles-zero}}
use Rattle.store_form.proofs.schemas.read_roles.Goals as goal

pub returns-in_err-rows : goal.returns-in_err-rows
returns-in_err-rows c =
    let p = err_from_is_err_and c.from_residual.result c.from_residual.ensures.1 in
    rw (p.1, p.2) (roles-fail c.in_err-rows.field-0.0 c.args.from.now c.in_err-rows.ensures.read)

pub returns-then-not-rise : goal.returns-then-not-rise
returns-then-not-rise c =
    roles-unsorted c.args.from.now c.in_ok-rows.rows.items c.in_ok-rows.rest.now c.in_ok-rows.ensures.read
    (ap (rises first) (sym c.deref.ensures.value) ∙ sym c.rise.ensures ∙ c.if-not-rise.true)

pub returns-then-not-are_roles : goal.returns-then-not-are_roles
returns-then-not-are_roles c =
    roles-zero c.args.from.now c.in_ok-rows.rows.items c.in_ok-rows.rest.now c.in_ok-rows.ensures.read
    (ap (rises first) (sym c.deref.ensures.value) ∙ sym c.rise.ensures ∙ c.if-not-rise.false)
    (ap (list_all (λ r. nat_lt 0 r.1)) (sym c.deref-2.ensures.value) ∙ sym c.are_roles.ensures ∙ c.if-not-are_roles.true)

pub returns : goal.returns
returns c =
    roles-read c.args.from.now c.in_ok-rows.rows.items c.in_ok-rows.rest.now c.in_ok-rows.ensures.read
    (ap (rises first) (sym c.deref.ensures.value) ∙ sym c.rise.ensures ∙ c.if-not-rise.false)
    (ap (list_all (λ r. nat_lt 0 r.1)) (sym c.deref-2.ensures.value) ∙ sym c.are_roles.ensures ∙ c.if-not-are_roles.false)
    ∙ ap (λ rows. Some (rows, c.in_ok-rows.rest.now)) (sym (c.in_ok-roles_of.ensures ∙ c.deref-3.ensures.value))
