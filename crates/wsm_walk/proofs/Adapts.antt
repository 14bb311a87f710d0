-- Local re-marking: the region's pass gives the new marks, and the least misfit of its nodes is where the replay fails.
use Rattle.wsm_walk.proofs.Common.{ℕ, ◌≡◌, Bool, Card, card_at, cards_of, Closed, closed-bordered, Ends, Entries, Facts, facts_of, false, fits, flat_of, is_one_of, IsRank, last_position, least, List, map, Marking, not, reached_from, refl}
use Rattle.wsm_walk.proofs.{Common.{Region, Regular, remark, replay_of, RisesAfter, SchemaModel, solution, solution-solves, solve_inside, Some, Spots, subst, suc, Untouched, value_below, whole, whole-orderly}, RegionMisfit.node_bad}
use Rattle.wsm_walk.proofs.{RegionMisfit.region-misfit, Regions.region-of}
use Rattle.wsm_marks.proofs.{LocalMisfit.replay-local, SolvedInside.solve_inside-is}

module _ (s1 s2 : SchemaModel) (regular : Regular s2) (rank1 rank2 : List ℕ) (is1 : IsRank (cards_of s1) rank1) (is2 : IsRank (cards_of s2) rank2) (seeds : List ℕ)
    (untouched : (n : ℕ) → is_one_of n seeds ≡ false → Untouched (flat_of s1) (flat_of s2) n) (es : Entries) (t : Spots) (rises : RisesAfter 0 es) (is_whole : replay_of (flat_of s1) es ≡ whole t) where
  abbrev nodes : List ℕ
  nodes = reached_from (cards_of s2) rank2 seeds

  abbrev In : ℕ → Bool
  In n = is_one_of n nodes

  abbrev f : Facts
  f = facts_of es

  abbrev m2 : Marking
  m2 = solution (cards_of s2) rank2 f

  region : Region (flat_of s1) (flat_of s2) In
  region = region-of s1 s2 regular rank2 is2 seeds untouched

  closed : Closed (cards_of s1) f (cards_of s2) f In
  closed = record { cards = region.cards; ended = λ n out. refl; choice = λ n out. refl; ins = region.ins; syncs = region.syncs }

  -- the pass over the region alone gives the new marks
  pub adapt-marks : (k : ℕ) (c : Card) → card_at k (cards_of s2) ≡ Some c → solve_inside (cards_of s2) f In rank2 (solution (cards_of s1) rank1 f) k ≡ m2 k
  adapt-marks =
      solve_inside-is (cards_of s2) rank2 is2 f m2 (solution-solves (cards_of s2) rank2 is2 f) In (solution (cards_of s1) rank1 f) (λ k c at out.
      remark (cards_of s1) f (solution (cards_of s1) rank1 f) (cards_of s2) f m2 In rank2 is2
      (closed-bordered (cards_of s1) f (solution (cards_of s1) rank1 f) (cards_of s2) f m2 In closed)
      (solution-solves (cards_of s1) rank1 is1 f) (solution-solves (cards_of s2) rank2 is2 f) k c at out)

  -- the least misfit of the region's nodes is the position at which the replay fails, and where there is none it is whole
  pub adapt-ends : Ends (cards_of s2) f m2 (suc (last_position 0 es)) (least (map (node_bad (λ e. not (fits (flat_of s2) f m2 (λ d. value_below d e.0 es) e.0 e.1)) es) nodes)) (replay_of (flat_of s2) es)
  adapt-ends =
      subst (λ o. Ends (cards_of s2) f m2 (suc (last_position 0 es)) o (replay_of (flat_of s2) es))
      (region-misfit (flat_of s2) f m2 (λ d p. value_below d p es) nodes es (whole-orderly (flat_of s1) es t rises is_whole))
      (replay-local (flat_of s1) (flat_of s2) In region rank1 rank2 is1 is2 es t rises is_whole m2 (solution-solves (cards_of s2) rank2 is2 f))
