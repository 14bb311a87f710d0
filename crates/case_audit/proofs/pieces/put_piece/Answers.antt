use Rattle.case_audit.proofs.Common.{case_totals, gives_then, migration_totals}
use Rattle.case_audit.proofs.pieces.put_piece.Goals as goal

pub returns-in-Totals : goal.returns-in-Totals
returns-in-Totals c =
    let cases = c.in-Totals.cases.now in
    rw (c.in-Totals.is) (gives_then _ _ c.args.ok _ _ c.args.lines.now _ _ (case_totals cases) (migration_totals cases) c.put_case_totals-ok.ensures c.put_migration_totals.ensures)
