use Rattle.std.proofs.Common.{◌≡◌, arith}
use Rattle.adept_load.proofs.Cases.{each_case-none, each_case-more, each_case-next}
use Rattle.adept_load.proofs.loads.put_declarations.Goals as goal
use Rattle.adept_load.specs.Load.{declaration}

pub loop-number-init : goal.loop-number-init
loop-number-init c = each_case-none declaration _

pub loop-number-preserved : goal.loop-number-preserved
loop-number-preserved c = each_case-next declaration _ _ _ _ c.loop-number.auto.number c.loop-number.invariant c.in_ok-put_declaration.ensures

pub returns-in_ok-put_declaration : goal.returns-in_ok-put_declaration
returns-in_ok-put_declaration c =
    let last : c.loop-number.number ≡ c.args.cases = omega (arith, c.loop-number.auto.number-end c.requires) in
    rw (← last) (each_case-more declaration _ _ _ _ c.loop-number.auto.number c.loop-number.invariant c.in_ok-put_declaration.ensures)
