use Rattle.talk_answers.proofs.Common.{ap, gives_as, gives_then, roles_text}
use Rattle.talk_answers.proofs.actors.put_actor_line.Goals as goal

pub returns : goal.returns
returns g c =
    gives_then _ _ _ _ _ _ _ _ _ _ c.put-ok.ensures
    (gives_then _ _ _ _ _ _ _ _ _ _ (gives_as _ _ _ _ _ _ _ _ c.put-ok-2.ensures c.bytes.ensures.bytes)
    (gives_then _ _ _ _ _ _ _ _ _ _ (gives_as _ _ _ _ _ _ _ _ c.put_roles-ok.ensures (ap (roles_text c.args.file.now) c.as_slice.ensures)) c.put.ensures))
