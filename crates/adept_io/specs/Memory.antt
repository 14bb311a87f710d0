-- Sources and sinks in memory: what contracts see of them, and what each call does to it.
use Rattle.std.specs.Prelude.{ℕ, ◌-◌, ◌++◌, ◌==◌, ◌&&◌, ◌||◌, Bool, List, length, take, drop, min, if◌then◌else◌, nat_lt}
use Rattle.adept_io.specs.Counts.{one_more, is_listed}

-- a source that never fails: the bytes that are left, and the most that a call hands over
pub record SureBytes : Type 0 where
  pub left : List ℕ
  pub piece : ℕ

-- a source that fails at some calls, with the calls made and the faults so far
pub record FailingBytes : Type 0 where
  pub left : List ℕ
  pub piece : ℕ
  pub fails : List ℕ
  pub calls : ℕ
  pub faults : ℕ

-- a sink: the bytes that it holds, the room that is left, the most that a call takes, the calls that fail, the calls made and the faults so far
pub record HeldBytes : Type 0 where
  pub written : List ℕ
  pub room : ℕ
  pub piece : ℕ
  pub fails : List ℕ
  pub calls : ℕ
  pub faults : ℕ

-- how many bytes a call hands over: as many as the piece, the buffer and what is left allow
abbrev pub handed : (left : List ℕ) (piece buffer : ℕ) → ℕ
handed left piece buffer = min (min piece buffer) (length left)

-- a buffer with the first bytes of these at its front
abbrev pub filled : (count : ℕ) (left buffer : List ℕ) → List ℕ
filled count left buffer = take count left ++ drop count buffer

-- how many bytes a read of a sure source into a buffer of this length gives
abbrev pub sure_count : SureBytes → ℕ → ℕ
sure_count s buffer = handed s.left s.piece buffer

-- the sure source after that read
abbrev pub after_sure_read : SureBytes → ℕ → SureBytes
after_sure_read s buffer = record s { left = drop (sure_count s buffer) s.left }

-- whether the next read fails: its number is listed
abbrev pub read_fails : FailingBytes → Bool
read_fails s = is_listed s.fails (one_more s.calls)

-- how many bytes the next read into a buffer of this length gives, where it does not fail
abbrev pub read_count : FailingBytes → ℕ → ℕ
read_count s buffer = handed s.left s.piece buffer

-- the source after the next read
abbrev pub after_read : FailingBytes → ℕ → FailingBytes
after_read s buffer = if read_fails s
    then record s { calls = one_more s.calls; faults = one_more s.faults }
    else record s { left = drop (read_count s buffer) s.left; calls = one_more s.calls }

-- whether the next write of this many bytes fails: its number is listed, or there are bytes and no room is left
abbrev pub write_fails : HeldBytes → ℕ → Bool
write_fails s len = is_listed s.fails (one_more s.calls) || (nat_lt 0 len && s.room == 0)

-- how many of this many bytes the next write takes, where it does not fail: as many as the piece and the room allow
abbrev pub write_count : HeldBytes → ℕ → ℕ
write_count s len = min (min s.piece len) s.room

-- the sink after the next write
abbrev pub after_write : HeldBytes → List ℕ → HeldBytes
after_write s bytes = if write_fails s (length bytes)
    then record s { calls = one_more s.calls; faults = one_more s.faults }
    else record s {
      written = s.written ++ take (write_count s (length bytes)) bytes;
      room = s.room - write_count s (length bytes);
      calls = one_more s.calls;
    }
