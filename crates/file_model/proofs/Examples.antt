-- Files and refusals, computed from the definitions alone.
use Rattle.file_model.proofs.Common.{Bytes, codes, File, file, Refused, Result}
use Rattle.std.specs.{Prelude.{◌≡◌, ℕ, [], Ok, Err, refl}, Str.{is_utf8, chars}}
use Rattle.wsm_sound.specs.Faults.{fault_of}

-- the line and the text of a refusal
abbrev pub told : Result File Refused → ℕ × Bytes
told (Ok f) = (0, [])
told (Err r) = (r.line, r.text)

pub empty : told (file []) ≡ (1, codes "header")
unfolding is_utf8 chars lib.Utf8.encode
empty = refl

pub small : told (file (codes "adept 1\n")) ≡ (0, [])
unfolding is_utf8 chars lib.Utf8.encode
small = refl

pub accepted : told (file (codes "adept 1\ntype t\nact A\nact B\nend\nactor ann\ncase c t\nphase\nann create c\nann start c A\nann end c A\nann start c B\nann end c B\n")) ≡ (0, [])
unfolding is_utf8 chars lib.Utf8.encode fault_of
accepted = refl
