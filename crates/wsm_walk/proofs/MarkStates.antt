-- At the end of a trail that replays whole a node's spot is told by its mark.
use Rattle.wsm_walk.proofs.Common.{ℕ, ◌≡◌, before, Bool, Card, card_at, cards_of, early, Entries, Entry, facts_of, flow, is_end_of, is_some, is_start_of, last_position, List, mark_by, mark_spot, None, Option, position_of, refl, RisesAfter}
use Rattle.wsm_walk.proofs.{Common.{SchemaModel, solution, Some, spot_in, Spots, suc, told-early, WholeTrail}, Kept.timed_of-by}

-- behind the last position what is told is early
told : (test : Entry → Bool) (es : Entries) → RisesAfter 0 es → early (suc (last_position 0 es)) (position_of test es) ≡ is_some (position_of test es)
told test es rises = go (position_of test es) refl
  where
    go : (o : Option ℕ) → position_of test es ≡ o → early (suc (last_position 0 es)) o ≡ is_some o
    go None h = refl
    go (Some p) h = told-early test es p rises h

module _ (s : SchemaModel) (rank : List ℕ) (es : Entries) (t : Spots) (trail : WholeTrail s rank es t) (n : ℕ) (c : Card) (at : card_at n (cards_of s) ≡ Some c)
    (shown : before (suc (last_position 0 es)) (solution (cards_of s) rank (facts_of es) n) ≡ flow (solution (cards_of s) rank (facts_of es) n)) where
  pub spot-by_mark : spot_in n t ≡ mark_spot c.kind n (mark_by (solution (cards_of s) rank (facts_of es)) es n)
  spot-by_mark =
      rw (trail.is_below.at n c at, told (is_end_of n) es trail.orderly.rises, told (is_start_of n) es trail.orderly.rises, shown, timed_of-by (solution (cards_of s) rank (facts_of es)) es n) refl
