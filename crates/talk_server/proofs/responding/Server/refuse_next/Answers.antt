use Rattle.talk_server.proofs.Common.{arith}
use Rattle.talk_items.proofs.Scanned.{few-counted}
use Rattle.talk_server.proofs.responding.Server.refuse_next.Goals as goal

pub overflow_add-counted : goal.overflow_add-counted
overflow_add-counted g c = omega (arith, c.counted.ensures, few-counted c.args.self.now.item)
