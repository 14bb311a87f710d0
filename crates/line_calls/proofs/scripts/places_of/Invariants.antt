use Rattle.std.proofs.Common.{◌≡◌, drop}
use Rattle.std.specs.{List.position_from, Map.lookup}
use Rattle.line_calls.specs.Places.{is_key}
use Rattle.wsm_sound.specs.declared.versions.CaseId.{CaseId}
use Rattle.line_calls.proofs.scripts.places_of.Given as goal
use Rattle.file_model.specs.CaseCounts.{has_id}

abbrev pub invariant-loop-place : goal.invariant-loop-place
invariant-loop-place l = (c : CaseId) → lookup (is_key c) l.places.entries ≡ position_from (has_id c) l.place (drop l.place l.decls)
