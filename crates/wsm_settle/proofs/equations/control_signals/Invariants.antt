use Rattle.wsm_settle.proofs.Common.{◌++◌, ◌+◌, ◌≡◌, ◌≤◌, awaited, awaited_signals, drop, map, seen, signal_by}
use Rattle.wsm_settle.specs.Sources.{KnowsSource}
use Rattle.wsm_settle.proofs.equations.control_signals.Given as goal

abbrev pub invariant-loop-end : goal.invariant-loop-end
invariant-loop-end g l =
    (g.M.MarkReads.kept l.marks ≡ g.M.MarkReads.kept l.fn.marks)
    × (g.M.MarkReads.reads l.fn.marks ≤ g.M.MarkReads.reads l.marks)
    × (g.M.MarkReads.reads l.marks ≤ g.M.MarkReads.reads l.fn.marks + l.end-index)
    × (l.all.items ++ map (λ e. signal_by l.flat.cards (seen (g.M.MarkReads.kept l.fn.marks) (g.R.MarkRows.rows l.changes)) e.label e.node) (drop l.end-index (awaited l.card.kind l.card.ins))
    ≡ awaited_signals l.flat.cards (seen (g.M.MarkReads.kept l.fn.marks) (g.R.MarkRows.rows l.changes)) l.card)
    × KnowsSource l.flat.cards (seen (g.M.MarkReads.kept l.marks) (g.R.MarkRows.rows l.changes)) l.known
