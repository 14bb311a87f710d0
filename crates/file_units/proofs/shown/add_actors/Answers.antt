use Rattle.file_units.proofs.{Common.{[], ◌++◌, ◌∙◌, ◌∷◌, ◌≡◌, Begins, length, List, None, rules, slice_get, Some, subst, sym}, Mirror.{begins-all, begins-next}}
use Rattle.file_model.specs.declared.files.ActorDecl.{ActorDecl}
use Rattle.file_units.proofs.shown.add_actors.Goals as goal

pub loop-decl-preserved : goal.loop-decl-preserved
loop-decl-preserved c =
    let next : Some c.in-Some.decl.now ≡ slice_get c.args.all.now (length c.loop-decl.actors) = search rules in
    let name : c.in_ok-of_word.field-0 ≡ c.in-Some.decl.now.name = c.in_ok-of_word.ensures ∙ c.word.ensures.bytes in
    let roles : c.in_ok-copy.field-0 ≡ c.in-Some.decl.now.roles = c.in_ok-copy.ensures in
    let same : c.push.new.self ≡ c.loop-decl.actors ++ c.in-Some.decl.now ∷ [] = rw (name, roles) at c.in_ok-push.ensures.ok in
    subst (λ (l : List ActorDecl). Begins l c.args.all.now) (sym same) (begins-next c.loop-decl.actors c.args.all.now c.in-Some.decl.now c.loop-decl.invariant next)

pub returns : goal.returns
returns c =
    let none : None ≡ slice_get c.args.all.now (length c.loop-decl.actors) = search rules in
    begins-all c.loop-decl.actors c.args.all.now c.loop-decl.invariant none
