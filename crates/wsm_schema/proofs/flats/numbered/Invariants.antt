use Rattle.wsm_schema.proofs.Common.{◌++◌, ◌≡◌, drop, numbered}
use Rattle.wsm_schema.proofs.flats.numbered.Given as goal

abbrev pub invariant-loop-place : goal.invariant-loop-place
invariant-loop-place l = l.all.items ++ numbered l.place (drop l.place l.cards) ≡ numbered 0 l.cards
