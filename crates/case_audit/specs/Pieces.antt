-- The pieces of a report that are followed whole.
use Rattle.std.specs.Prelude.{◌++◌}
use Rattle.audit_model.specs.{Common.{Bytes, case_head, case_line, case_totals, end_text, File, first_line, kind_line, migration_totals, type_head}, ReportReader.defined_line}
use Rattle.case_audit.specs.declared.pieces.Piece.{Piece}
use Rattle.case_audit.specs.declared.pieces.Piece.TheVariants as piece

abbrev pub piece_text : File → Piece → Bytes
piece_text f piece.FirstLine = first_line f
piece_text f (piece.TypeFront d k) = type_head d.now ++ defined_line f k.now
piece_text f (piece.KindLine n e) = kind_line f n e.now
piece_text f (piece.CaseHead d) = case_head f d.now
piece_text f (piece.CaseLine n e) = case_line f n e.now
piece_text f (piece.CaseEnd c) = end_text f c.now.machine.live
piece_text f (piece.Totals cases) = case_totals cases.now ++ migration_totals cases.now
