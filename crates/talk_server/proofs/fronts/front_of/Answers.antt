use Rattle.talk_server.proofs.Fronting.{front-damaged}
use Rattle.talk_server.proofs.fronts.front_of.Goals as goal

pub returns-in-Damaged : goal.returns-in-Damaged
returns-in-Damaged c = front-damaged c.args.image.now c.requires.gate c.in-Damaged.ensures
