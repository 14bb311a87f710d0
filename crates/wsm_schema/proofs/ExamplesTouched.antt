-- Touched nodes and the region behind them, where activity 4 is put between activities 2 and 3.
use Rattle.wsm_schema.proofs.{Common.{[], ℕ, ◌∷◌, ◌≡◌, arith, Card, flat_of, None, plain_end, refl, Some}, ExampleSchemas.{sequence, longer}}
use Rattle.wsm_schema.specs.Touched.{Touched, card_differs, here, by_control, InRegion, in_region}
use Rattle.wsm_schema.specs.declared.cards.NodeKind.TheVariants as node

no_card : (c : Card) → None ≡ Some c → ⊥
no_card c e = cc

abbrev activity : ℕ → ℕ → ℕ → Card
activity n before behind = record {
  node = n;
  kind = node.Activity;
  partner = None;
  ins = plain_end before ∷ [];
  outs = plain_end behind ∷ [];
  syncs_in = [];
  syncs_out = [];
  reads = [];
  writes = [];
  role = 0;
}

-- the new node is touched, and the node behind it is in the region
pub a_new_node : Touched (flat_of sequence) (flat_of longer) 4
a_new_node = card_differs (no_card (activity 4 2 3))

pub behind_a_new_node : InRegion (flat_of sequence) (flat_of longer) 3
behind_a_new_node = in_region 4 a_new_node (by_control 4 3 (activity 3 4 1) None refl (0, omega arith, refl) 4 (here 4))
