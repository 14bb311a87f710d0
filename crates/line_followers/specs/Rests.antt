-- A journal from one of its lines on.
use Rattle.std.specs.Prelude.{ℕ, List, ◌++◌, Option}
use Rattle.file_words.specs.Lines.{Bytes}
use Rattle.line_readers.specs.{Journals.journal, Owed.how_many, Readers.Reader}
use Rattle.turn_cell.specs.declared.journal.Entry.{Entry}

module _ {M E R W S L : Type 0} (after : S → E → S) (reply : S → E → R) (actor_of : L → ℕ) (event_of : L → Option E)
    (caller_in : ℕ → Bytes → Option ℕ) (print : ℕ → Entry M E R W S → Bytes) where
  -- all that is owed, from the entry with number k on
  abbrev pub rest_journal : ℕ → S → List (List L) → Reader (List (Entry M E R W S) × S)
  rest_journal k s owed = journal after reply actor_of event_of caller_in print (how_many owed) k s owed

  -- entries in front of others, which have the state behind them
  abbrev pub with_entries : List (Entry M E R W S) → List (Entry M E R W S) × S → List (Entry M E R W S) × S
  with_entries es made = (es ++ made.0, made.1)
