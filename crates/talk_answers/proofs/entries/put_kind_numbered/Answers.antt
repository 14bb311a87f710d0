use Rattle.talk_answers.proofs.Common.{gives_then}
use Rattle.talk_answers.proofs.entries.put_kind_numbered.Goals as goal

pub returns : goal.returns
returns g c =
    gives_then _ _ _ _ _ _ _ _ _ _ c.put_type-ok.ensures
    (gives_then _ _ _ _ _ _ _ _ _ _ c.put-ok.ensures c.put_kind_line.ensures)
