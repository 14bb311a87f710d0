use Rattle.talk_answers.proofs.Offered.{holds-ends, offers-starts}
use Rattle.talk_answers.proofs.items.put_items_for.Goals as goal

pub returns-clause-starts : goal.returns-clause-starts
returns-clause-starts g c = offers-starts c.args.file.now c.args.actor

pub returns-clause-ends : goal.returns-clause-ends
returns-clause-ends g c = holds-ends c.args.actor
