use Rattle.talk_answers.proofs.Offered.{is-promised}
use Rattle.talk_answers.proofs.items.put_all_items.Goals as goal

pub returns-clause-promised : goal.returns-clause-promised
returns-clause-promised g c = is-promised
