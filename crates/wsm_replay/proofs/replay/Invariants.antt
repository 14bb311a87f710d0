use Rattle.wsm_replay.proofs.Common.{◌≡◌, answer, drop, IsMarking, noted_entries, replay_from, replay_of, take, value_below}
use Rattle.wsm_replay.proofs.replay.Given as goal

abbrev pub invariant-loop-position : goal.invariant-loop-position
invariant-loop-position l = record {
  rest : answer l.flat.cards (replay_from l.flat (λ d p. value_below d p l.trail.trail.entries) (drop l.position-index l.position-items) l.table)
      ≡ answer l.flat.cards (replay_of l.flat l.trail.trail.entries);
  marking : IsMarking l.flat.cards l.table;
  before : l.before.rows ≡ noted_entries (take l.position-index l.position-items);
}
