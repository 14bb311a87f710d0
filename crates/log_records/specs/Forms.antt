-- What a record of a log says: a name of a case, what was done there, a node, a user, and for an end a choice and writes.
use Rattle.std.specs.{Prelude.{ℕ, Bool, true, ◌&&◌, not, ◌==◌, nat_le, List, [], ◌∷◌, length, Option, Some, None, option_map, if◌then◌else◌, codes}, List.{list_all, list_any}, Str.is_utf8}
use Rattle.file_limits.specs.declared.TheConstants.{MAX_TEXT}
use Rattle.file_names.specs.{Names.place_of, ShortNames.is_short_name}
use Rattle.file_words.specs.{Lines.Bytes, Numbers.{code, role}, Pairs.pair, Words.{fields, is, is_word, words_of}}
use Rattle.file_words.specs.declared.words.Quote.TheVariants.{Outside}
use Rattle.log_records.specs.{Records.Fields, declared.records.LogEvent.LogEvent, declared.records.LogRecord.LogRecord}
use Rattle.log_records.specs.declared.records.LogEvent.TheVariants as event
use Rattle.wsm_lists.specs.{Values.Written, declared.values.Value.Value}
use Rattle.wsm_lists.specs.declared.values.Value.TheVariants as value

infixl 10 ◌>>=◌
abbrev pub ◌>>=◌ : {A B : Type 0} → Option A → (A → Option B) → Option B
None >>= f = None
Some x >>= f = f x

abbrev pub none_unless : {A : Type 0} → Bool → Option A → Option A
none_unless test found = if test then found else None

-- a name is not too long
abbrev pub short_name : Bytes → Option Bytes
short_name w = none_unless (is_short_name w) (Some w)

-- nothing, or a code
abbrev pub choice : Bytes → Option (Option ℕ)
choice [] = Some None
choice (b ∷ bs) = option_map Some (code (b ∷ bs))

-- a text is not too long
abbrev pub is_short : Value → Bool
is_short (value.Int n) = true
is_short (value.Text t) = nat_le (length t) MAX_TEXT

-- an element that the file has, and its value
abbrev pub write : List Bytes → Bytes × Value → Option (ℕ × Value)
write elements p = none_unless (is_short p.1) (option_map (λ d. (d, p.1)) (place_of elements p.0))

-- a word that is such a pair
abbrev pub write_word : List Bytes → Bytes → Option (ℕ × Value)
write_word elements w = pair w >>= write elements

abbrev pub pairs : List Bytes → List Bytes → Option Written
pairs elements [] = Some []
pairs elements (w ∷ ws) = do
  p ← write_word elements w
  ps ← pairs elements ws
  Some (p ∷ ps)

-- UTF-8 without tabs, in which a single space stands between words, and nowhere else but in quoted texts
abbrev pub is_spaced : Bytes → Bool
is_spaced bytes = is_utf8 bytes && not (list_any (λ b. b == 9) bytes) && list_all is_word (fields Outside bytes)

-- nothing, or pairs
abbrev pub writes : List Bytes → Bytes → Option Written
writes elements [] = Some []
writes elements (b ∷ bs) = none_unless (is_spaced (b ∷ bs)) (pairs elements (words_of (b ∷ bs)))

-- the fields of a record that has six
pub record Cells : Type 0 where
  pub case : Bytes
  pub kind : Bytes
  pub node : Bytes
  pub user : Bytes
  pub choice : Bytes
  pub writes : Bytes

abbrev pub cells_of : Fields → Option Cells
cells_of (c ∷ k ∷ n ∷ u ∷ x ∷ w ∷ []) = Some (record { case = c; kind = k; node = n; user = u; choice = x; writes = w })
cells_of _ = None

-- a start has neither a choice nor writes
abbrev pub start_of : Option ℕ → ℕ → Cells → Option LogEvent
start_of node user c = none_unless (length c.choice == 0 && length c.writes == 0) (Some (event.Start node user))

abbrev pub end_of : List Bytes → Option ℕ → ℕ → Cells → Option LogEvent
end_of elements node user c = do
  x ← choice c.choice
  ws ← writes elements c.writes
  Some (event.End node user ws x)

abbrev pub event_of : List Bytes → Option ℕ → ℕ → Cells → Option LogEvent
event_of elements node user c =
    if is (codes "start") c.kind then start_of node user c
    else (if is (codes "end") c.kind then end_of elements node user c else None)

-- what the fields say; a node that the file does not name has no number
abbrev pub said : (nodes elements : List Bytes) → Cells → Option LogRecord
said nodes elements c = do
  name ← short_name c.case
  node ← short_name c.node
  user ← role c.user
  e ← event_of elements (place_of nodes node) user c
  Some (record { case = name; event = e })

-- what a record says, where nodes and elements have these names
abbrev pub record_of : (nodes elements : List Bytes) → Fields → Option LogRecord
record_of nodes elements fs = cells_of fs >>= said nodes elements
