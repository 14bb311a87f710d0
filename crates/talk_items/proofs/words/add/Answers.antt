use Rattle.talk_items.proofs.Fronts.{some-byte, try-added}
use Rattle.talk_items.proofs.words.add.Goals as goal

pub returns : goal.returns
returns c = λ ws w words is.
    let e = c.try_push.ensures in
    try-added c.try_push.result c.args.words.now c.try_push.new.self c.args.word.now c.keyword_of.result c.keyword_of.ensures e.variant e.ok e.err e.full (some-byte c.args.word.now c.is_empty.result c.is_empty.ensures c.if-is_empty.false) ws w words is
