-- On a schema a loop whose end is running may be repeated.
use Rattle.wsm_marks.proofs.Common.{ℕ, ◌≡◌, Card, card_at, cards_of, early, Entries, facts_of, flat_of, HasCard, is_loop_end, IsRank, last_position, List, loop_nodes, LoopOf, nat_lt, None, Regular, replay_of, RisesAfter, SchemaModel, Some}
use Rattle.wsm_marks.proofs.{Common.{Spots, subst, sym, SyncsApart, true, whole, Written}, Causality.solved_net, CutTrails.{cut-whole, repeated}, LoopNodes.{found-of, loop_nodes-are, start_card}, LoopOfSchema.loop-of}
use Rattle.wsm_marks.proofs.WholeTrails.{whole-orderly}

-- each loop of a schema is one that a cut may take
pub loop-of_schema : (s : SchemaModel) → Regular s → (l e : ℕ) (c : Card) → card_at e (cards_of s) ≡ Some c → is_loop_end c.kind ≡ true → c.partner ≡ Some l →
    LoopOf (cards_of s) (loop_nodes (cards_of s) e) l e × HasCard (cards_of s) l
loop-of_schema s regular l e c at ends partner =
    let found = found-of s l e c at ends partner in
    let same = loop_nodes-are s regular.distinct l e found c at ends partner in (
      subst (λ ns. LoopOf (cards_of s) ns l e) (sym same) (loop-of s l e found regular.distinct regular.full (subst (λ ns. SyncsApart s.syncs ns l) same (regular.loops l e c at ends partner))),
      start_card s regular.distinct l e found,
    )

-- where the end of a loop is running, the trail that the loop's cut leaves replays whole with the repeat behind it
pub repeat-whole : (s : SchemaModel) → Regular s → (rank : List ℕ) → IsRank (cards_of s) rank → (l e : ℕ) (c : Card) → card_at e (cards_of s) ≡ Some c → is_loop_end c.kind ≡ true → c.partner ≡ Some l →
    (es : Entries) (t : Spots) → RisesAfter 0 es → replay_of (flat_of s) es ≡ whole t → (p : ℕ) → nat_lt (last_position 0 es) p ≡ true → early p ((facts_of es).started e) ≡ true → (facts_of es).ended e ≡ None →
    (writes : Written) → (t' : Spots) × (replay_of (flat_of s) (repeated (loop_nodes (cards_of s) e) es p e writes) ≡ whole t')
repeat-whole s regular rank is l e c at ends partner es t rises is_whole p next begun open_end writes =
    let body = loop_nodes (cards_of s) e in
    let loop = loop-of_schema s regular l e c at ends partner in
    cut-whole (flat_of s) rank body l e loop.0 es p writes _ _ (solved_net (cards_of s) rank is (facts_of es)) (solved_net (cards_of s) rank is (facts_of (repeated body es p e writes)))
    (whole-orderly (flat_of s) es t rises is_whole) next t is_whole c loop.1.0 at ends partner loop.1.1 begun open_end
