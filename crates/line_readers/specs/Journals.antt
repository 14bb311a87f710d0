-- The lines of a journal: each is the next call that its caller owes.
use Rattle.std.specs.{Prelude.{ℕ, zero, suc, ◌+◌, List, [], ◌∷◌, Option, Some, None, bytes_eq, if◌then◌else◌}, Option.is_some}
use Rattle.file_words.specs.Lines.{Bytes}
use Rattle.turn_cell.specs.{History.entry, declared.journal.Entry.Entry}
use Rattle.line_readers.specs.{Owed.{due, first_by}, Readers.{Reader, done, takes, mapped}}

-- For a machine and what is owed to it: who owes a line, which event it is, whose call a line of the journal shows, and how an entry is shown.
module _ {M E R W S L : Type 0} (after : S → E → S) (reply : S → E → R) (actor_of : L → ℕ) (event_of : L → Option E)
    (caller_in : ℕ → Bytes → Option ℕ) (print : ℕ → Entry M E R W S → Bytes) where
  -- the entry that an actor makes next, and what is owed in the phase then
  abbrev pub of_event : S → ℕ → List L → Option E → Option (Entry M E R W S × List L)
  of_event s a others None = None
  of_event s a others (Some e) = Some (entry a e (reply s e), others)

  abbrev pub of_first : S → ℕ → Option (L × List L) → Option (Entry M E R W S × List L)
  of_first s a None = None
  of_first s a (Some p) = of_event s a p.1 (event_of p.0)

  abbrev pub next_of : S → List L → Option ℕ → Option (Entry M E R W S × List L)
  next_of s phase None = None
  next_of s phase (Some a) = of_first s a (first_by actor_of a phase)

  -- where a line shows it
  abbrev pub if_shown : ℕ → Bytes → Option (Entry M E R W S × List L) → Option (Entry M E R W S × List L)
  if_shown k line None = None
  if_shown k line (Some x) = if bytes_eq line (print k x.0) then Some x else None

  abbrev pub shown : ℕ → S → List L → Bytes → Option (Entry M E R W S × List L)
  shown k s phase line = if_shown k line (next_of s phase (caller_in k line))

  -- one entry in front of others, which have the state behind them
  abbrev pub with_entry : Entry M E R W S → List (Entry M E R W S) × S → List (Entry M E R W S) × S
  with_entry e made = (e ∷ made.0, made.1)

  abbrev pub behind : (S → List (List L) → Reader (List (Entry M E R W S) × S)) → S → List (List L) → Option (Entry M E R W S × List L) → Reader (List (Entry M E R W S) × S)
  behind go s later None = done ([], s)
  behind go s later (Some x) = mapped (with_entry x.0) (go (after s x.0.event) (x.1 ∷ later))

  abbrev pub one_more : ℕ → (S → List (List L) → Reader (List (Entry M E R W S) × S)) → S → List (List L) → Reader (List (Entry M E R W S) × S)
  one_more k go s [] = done ([], s)
  one_more k go s (phase ∷ later) = takes (λ line. is_some (shown k s phase line)) (λ line. behind go s later (shown k s phase line))

  -- n entries from the one with number k on
  abbrev pub journal : ℕ → ℕ → S → List (List L) → Reader (List (Entry M E R W S) × S)
  journal zero k s owed = done ([], s)
  journal (suc n) k s owed = one_more k (λ t more. journal n (k + 1) t more) s (due owed)
