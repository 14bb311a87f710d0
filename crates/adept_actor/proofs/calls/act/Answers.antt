use Rattle.adept_actor.proofs.{Common.{◌∙◌, ap, desk_view, refl, sym, call_of}, Acts.{makes-as, makes-none}}
use Rattle.adept_actor.proofs.calls.act.Goals as goal

pub returns-in-Ok-clause-worked : goal.returns-in-Ok-clause-worked
returns-in-Ok-clause-worked g c =
    let v = desk_view c.args.desk.now in
    let is = c.in-Ok.ensures.call ∙ (ap (λ n. call_of n c.as_slice.result.now c.args.act.now) c.number.ensures ∙ ap (λ rs. call_of v.number rs c.args.act.now) c.as_slice.ensures) in
    makes-as v (desk_view c.make.new.desk) (sym is) refl c.make.ensures.made

pub returns-in-Err-clause-worked : goal.returns-in-Err-clause-worked
returns-in-Err-clause-worked g c = let v = desk_view c.args.desk.now in makes-none (call_of v.number c.args.roles.now c.args.act.now) v
