-- What an image is taken for when a server is opened over it.
use Rattle.std.specs.Prelude.{ℕ, ◌&&◌, Bool, false, nat_le, nat_eq, List, [], ◌∷◌, ◌++◌, length, bytes_eq, Option, Some, None, if◌then◌else◌}
use Rattle.file_words.specs.Lines.{Bytes}
use Rattle.store_disk.specs.{Image.{Frames, closed, damaged, frame, frames}, Opening.with_gate}
use Rattle.talk_items.specs.Items.{item_end}
use Rattle.talk_rules.specs.Units.{UnitRules, header}
use Rattle.talk_server.specs.Talks.{accepts}

-- these units, and the gate behind them; nothing yet; or damage at a place
pub data Opened : Type 0 where
  unbegun : Opened
  holds : List Bytes → (gate : ℕ) → Opened
  damaged_at : ℕ → Opened

-- a payload is one item, all of it, and accepted as a unit behind the others
abbrev pub is_at_end : Option ℕ → Bytes → Bool
is_at_end None p = false
is_at_end (Some n) p = nat_eq n (length p)

abbrev pub is_next : UnitRules → List Bytes → Bytes → Bool
is_next rules units p = is_at_end (item_end [] p) p && accepts rules (header ∷ units) p

-- the records behind the header
abbrev pub opened_from : UnitRules → List Bytes → Frames → Opened
opened_from rules units (closed place) = holds units place
opened_from rules units (damaged place) = damaged_at place
opened_from rules units (frame place p fs) = if is_next rules units p then opened_from rules (units ++ p ∷ []) fs else damaged_at place

-- An image whose first gate is not open is begun where it is no longer than a stop may leave it that came while the header
-- was put there.
abbrev pub opened_by : UnitRules → (long : ℕ) → Frames → Opened
opened_by rules long (closed place) = if nat_le long 14 then unbegun else damaged_at place
opened_by rules long (damaged place) = damaged_at place
opened_by rules long (frame place p fs) = if bytes_eq p header then opened_from rules [] fs else damaged_at place

abbrev pub opened : UnitRules → List ℕ → Opened
opened rules image = opened_by rules (length image) (frames image)

-- what the bytes of a disk are taken for
abbrev pub opening : UnitRules → List ℕ → Opened
opening rules bytes = opened rules (with_gate bytes)

-- the payloads behind which a server goes on, unless the bytes are damaged
abbrev pub payloads_of : Opened → Option (List Bytes)
payloads_of unbegun = Some (header ∷ [])
payloads_of (holds units gate) = Some (header ∷ units)
payloads_of (damaged_at place) = None
