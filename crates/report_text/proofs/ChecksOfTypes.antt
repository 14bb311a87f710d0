-- What is told of files that are checked alone, from the bytes of the file.
use Rattle.report_text.proofs.Common.{Bytes, check_text, codes, Err, File, file, Ok, refl, Refused, Result}
use Rattle.std.specs.{Prelude.{◌≡◌, []}, Fmt.digits, Str.{is_utf8, chars}}
use Rattle.script_run.specs.Verdicts.{verdicts}
use Rattle.wsm_sound.specs.Faults.{changed_by, fault_of}

-- what is told of a file
abbrev told_of : Result File Refused → Bytes
told_of (Ok f) = check_text f (verdicts f)
told_of (Err r) = []

pub type_without_items : told_of (file (codes "adept 1\ntype t\nend\n")) ≡ codes "type t 1 sound\n"
unfolding is_utf8 chars lib.Utf8.encode digits fault_of changed_by
type_without_items = refl

pub install_among_other_lines : told_of (file (codes "adept 1\ntype t\nact A\nend\nactor ann\ncase c t\nphase\nann create c\nann start c A\nann end c A\nann install t\ninsert B after A\nend\nann migrate t\nann migrate t\n")) ≡ codes "type t 1 sound\nline 11 t installed 2\n"
unfolding is_utf8 chars lib.Utf8.encode digits fault_of changed_by
install_among_other_lines = refl

pub installs_of_two_types : told_of (file (codes "adept 1\ntype t\nact A\nend\ntype u\nact B\nend\nactor ann\nphase\nann install u\ndelete Q\nend\nann install t\ninsert C after A\nend\nann install u\nend\n")) ≡ codes "type t 1 sound\ntype u 1 sound\nline 10 u unsound op 1 no-node Q\nline 13 t installed 2\nline 16 u installed 2\n"
unfolding is_utf8 chars lib.Utf8.encode digits fault_of changed_by
installs_of_two_types = refl
