use Rattle.talk_answers.proofs.Common.{gives_as, gives_then}
use Rattle.talk_answers.proofs.items.put_item_line.Goals as goal

pub returns : goal.returns
returns g c =
    gives_then _ _ _ _ _ _ _ _ _ _ c.put-ok.ensures
    (gives_then _ _ _ _ _ _ _ _ _ _ (gives_as _ _ _ _ _ _ _ _ c.put-ok-2.ensures c.bytes.ensures.bytes)
    (gives_then _ _ _ _ _ _ _ _ _ _ c.put_item-ok.ensures c.put.ensures))
