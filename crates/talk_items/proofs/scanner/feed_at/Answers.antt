use Rattle.talk_items.proofs.Feeds.{feed_found}
use Rattle.talk_items.proofs.scanner.feed_at.Goals as goal

pub returns : goal.returns
returns c = feed_found c.args.bytes.now c.memchr.result c.memchr.ensures
