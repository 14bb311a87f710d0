use Rattle.store_disk.proofs.{Common.{[], ◌++◌, ◌∙◌, ◌∷◌, ap, IsGroupOf, subst}, Groups.{is-truncated, truncated}}
use Rattle.store_disk.proofs.group.Group.truncate.Goals as goal

pub invariant_of-self : goal.invariant_of-self
invariant_of-self g c =
    let old = c.self.inside.bytes.items in
    let group = subst (λ qs. IsGroupOf qs old) (c.self.view_is ∙ c.requires.0.1) c.self.invariant in
    is-truncated g.front c.requires.0.0 old c.push_reserved.new.self.items c.args.span group c.requires.1 (c.push_reserved.ensures.items ∙ ap (λ l. l ++ 0 ∷ []) c.truncate.ensures.items)

pub returns : goal.returns
returns g c =
    let old = c.self.inside.bytes.items in
    let group = subst (λ qs. IsGroupOf qs old) (c.self.view_is ∙ c.requires.0.1) c.self.invariant in
    truncated g.front c.requires.0.0 old c.push_reserved.new.self.items c.args.span group c.requires.1 (c.push_reserved.ensures.items ∙ ap (λ l. l ++ 0 ∷ []) c.truncate.ensures.items)
