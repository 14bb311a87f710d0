use Rattle.wsm_trail.proofs.{Common.{ℕ, ◌≡◌, IsStartPlace, None, Option, refl, rules, Some}, Withdrawing.{none-starts, place-at}}
use Rattle.wsm_trail.proofs.withdrawals.start_place.Goals as goal

pub returns : goal.returns
returns c = go c.rposition.result refl
  where
    go : (o : Option ℕ) → c.rposition.result ≡ o → IsStartPlace c.args.node c.args.entries.now o
    go None is = none-starts c.args.node c.args.entries.now (search rules)
    go (Some i) is = place-at c.args.node c.args.entries.now i (search rules) (search rules)
