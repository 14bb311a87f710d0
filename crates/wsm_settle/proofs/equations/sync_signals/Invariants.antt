use Rattle.wsm_settle.proofs.Common.{◌++◌, ◌+◌, ◌≡◌, ◌≤◌, drop, map, None, seen, signal_by}
use Rattle.wsm_settle.proofs.equations.sync_signals.Given as goal

abbrev pub invariant-loop-node : goal.invariant-loop-node
invariant-loop-node g l =
    (g.M.MarkReads.kept l.marks ≡ g.M.MarkReads.kept l.fn.marks)
    × (g.M.MarkReads.reads l.fn.marks ≤ g.M.MarkReads.reads l.marks)
    × (g.M.MarkReads.reads l.marks ≤ g.M.MarkReads.reads l.fn.marks + l.node-index)
    × (l.all.items ++ map (signal_by l.flat.cards (seen (g.M.MarkReads.kept l.fn.marks) (g.R.MarkRows.rows l.changes)) None) (drop l.node-index l.card.syncs_in)
    ≡ map (signal_by l.flat.cards (seen (g.M.MarkReads.kept l.fn.marks) (g.R.MarkRows.rows l.changes)) None) l.card.syncs_in)
