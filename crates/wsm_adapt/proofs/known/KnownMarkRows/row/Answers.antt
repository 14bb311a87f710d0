use Rattle.wsm_adapt.proofs.{Common.{◌∙◌, ap, item_at, reverse, sym}, KnownRows.{lookup-item, told-first, told-later}}
use Rattle.wsm_adapt.proofs.known.KnownMarkRows.row.Goals as goal

pub returns-in-None : goal.returns-in-None
returns-in-None c =
    let node = c.args.node in
    let others = c.self.inside.others.entries in
    c.last_row-in-None.ensures ∙ ap (λ rs. item_at node (reverse rs)) c.deref-in-None.ensures.value
    ∙ sym (told-later node others (reverse c.self.inside.few.items) (sym (lookup-item node others) ∙ sym c.in-None.ensures.value))
    ∙ ap (item_at node) c.self.view_is

pub returns-in-Some : goal.returns-in-Some
returns-in-Some c =
    let node = c.args.node in
    let others = c.self.inside.others.entries in
    sym (told-first node c.in-Some.mark.now others (reverse c.self.inside.few.items) (sym (lookup-item node others) ∙ sym c.in-Some.ensures.value))
    ∙ ap (item_at node) c.self.view_is
