-- Names as a file keeps them.
use Rattle.std.specs.Prelude.{Bool, ◌&&◌, nat_le, length}
use Rattle.file_limits.specs.declared.TheConstants.{MAX_NAME}
use Rattle.file_words.specs.{Lines.Bytes, Names.is_name}

-- a name that a file may keep
abbrev pub is_short_name : Bytes → Bool
is_short_name w = is_name w && nat_le (length w) MAX_NAME
