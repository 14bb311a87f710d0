-- An input: a process file, and a report directly behind it.
use Rattle.std.specs.Prelude.{ℕ, suc, ◌+◌, Bool, ◌||◌, List, [], ◌∷◌, length, take, drop, bytes_eq, codes, nat_lt, if◌then◌else◌}
use Rattle.audit_model.specs.Common.{Bytes, lines_of, MAX_FILE_BYTES}

-- whether a report begins with this line
abbrev pub begins_report : Bytes → Bool
begins_report line = bytes_eq line (codes "adept report 1") || bytes_eq line (codes "adept report 2") || bytes_eq line (codes "adept report 3")

-- how many bytes stand before the first line that begins a report: behind the lines, bytes that no line feed ends are one too
abbrev pub before_report : List Bytes → Bytes → ℕ
before_report [] left = if begins_report left then 0 else length left
before_report (l ∷ ls) left = if begins_report l then 0 else length l + suc (before_report ls left)

abbrev pub file_length : Bytes → ℕ
file_length bytes = before_report (lines_of bytes).ended (lines_of bytes).left

abbrev pub file_part : Bytes → Bytes
file_part bytes = take (file_length bytes) bytes

abbrev pub report_part : Bytes → Bytes
report_part bytes = drop (file_length bytes) bytes

-- the most bytes of a file, of a report, and of both
abbrev pub most_in_file : ℕ
most_in_file = MAX_FILE_BYTES

abbrev pub most_in_report : ℕ
most_in_report = 268435456

abbrev pub most_bytes : ℕ
most_bytes = 285212672

abbrev pub is_too_long : Bytes → Bool
is_too_long bytes = nat_lt most_bytes (length bytes) || nat_lt most_in_file (length (file_part bytes)) || nat_lt most_in_report (length (report_part bytes))
