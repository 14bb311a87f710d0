-- The records of a log, as `csv` reads them.
use Rattle.std.specs.{Prelude.{ℕ, ◌≡◌, ◌+◌, List, [], Option, Some, None, true, length}, Borrow.Bor}
use Rattle.csv.specs.{Reading.{Ready, default_config, is_flexible, reader_config, reader_state, reader_trim, records, records_from, source_of, strip_bom}, declared.parser.State.State, declared.reader.Reader.Reader}
use Rattle.csv.specs.declared.reader.Trim.TheVariants as trim

-- a record is a list of fields
abbrev pub Fields : Type 0
Fields = List (List ℕ)

-- the records of a log: of any length, behind a byte order mark where the log begins with one
abbrev pub records_of : List ℕ → List Fields
records_of log = records default_config (strip_bom log)

-- the records that a reader in a state makes of known bytes
abbrev pub known_records : State → Option (List ℕ) → List Fields
known_records s None = []
known_records s (Some bytes) = records_from default_config (length bytes + 1) s bytes

-- what bytes of memory have left
abbrev pub all_bytes : Bor (List ℕ) → Option (List ℕ)
all_bytes bytes = Some bytes.now

-- the records that a reader has left
abbrev pub left_of : Reader (Bor (List ℕ)) → List Fields
left_of r = known_records (reader_state r) (source_of all_bytes r)

-- the same; a reader that failed has none
abbrev pub all_left : Option (Reader (Bor (List ℕ))) → List Fields
all_left None = []
all_left (Some r) = left_of r

-- a reader gives each record as it stands, however many fields it has, and with the settings of `csv`
abbrev pub IsGoing : Reader (Bor (List ℕ)) → Type 0
IsGoing r = (reader_trim r ≡ trim.None) × Ready r × (reader_config r ≡ default_config) × (is_flexible r ≡ true)
