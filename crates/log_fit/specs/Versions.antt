-- The versions of a file's types: the first, and what the lines that install make of it, in file order.
use Rattle.std.specs.Prelude.{ℕ, ◌==◌, Bool, bytes_eq, List, fold, position, slice_get, Option, Some, None, if◌then◌else◌}
use Rattle.file_words.specs.Lines.{Bytes}
use Rattle.file_model.specs.{declared.files.File.File, declared.files.Line.Line, declared.files.TypeDecl.TypeDecl}
use Rattle.line_calls.specs.Calls.{installed}
use Rattle.script_run.specs.Verdicts.{defined_kind}
use Rattle.type_core.specs.{KindModel.KindModel, Machine.{next_kind, version_in}}
use Rattle.type_core.specs.declared.events.KindEvent.TheVariants as kind_event
use Rattle.wsm_ops.specs.declared.operations.Op.{Op}
use Rattle.wsm_sound.specs.VersionModel.{VersionModel}

abbrev pub is_named : Bytes → TypeDecl → Bool
is_named name d = bytes_eq name d.name

-- a line installs on one type; no other line changes a type
abbrev pub installed_ops : ℕ → KindModel → Option (ℕ × List Op) → KindModel
installed_ops t k None = k
installed_ops t k (Some i) = if i.0 == t then (next_kind k (kind_event.Install i.1)).0 else k

abbrev pub installed_line : ℕ → KindModel → Line → KindModel
installed_line t k l = installed_ops t k (installed l.act)

abbrev pub installed_lines : ℕ → KindModel → List Line → KindModel
installed_lines t k lines = fold (installed_line t) k lines

-- a type behind all lines
abbrev pub kind_of : ℕ → List (List Line) → TypeDecl → KindModel
kind_of t phases d = fold (installed_lines t) (defined_kind t d) phases

-- the version of a type with a number
abbrev pub version_in_type : File → ℕ → ℕ → Option TypeDecl → Option VersionModel
version_in_type f number t None = None
version_in_type f number t (Some d) = version_in (kind_of t f.phases d).versions number

abbrev pub version_at : File → ℕ → Option ℕ → Option VersionModel
version_at f number None = None
version_at f number (Some t) = version_in_type f number t (slice_get f.types t)

-- the version with a number of the type with a name
abbrev pub version_of : File → Bytes → ℕ → Option VersionModel
version_of f name number = version_at f number (position (is_named name) f.types)
