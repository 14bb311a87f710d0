use Rattle.wsm_settle.proofs.Common.{◌≡◌, rules, Some}
use Rattle.wsm_settle.proofs.pending.hand_to_other.Goals as goal

pub returns-then-eq : goal.returns-then-eq
returns-then-eq c =
    let same : c.args.last ≡ Some c.args.node = search rules in
    record { handed = c.requires c.args.node same }
