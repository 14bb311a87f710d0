-- How the program ends for a command: what its outcome says, and what is left of its source and its sink.
use Rattle.std.specs.{Prelude.{ℕ, ◌≡◌, ◌≢◌, ◌≤◌, ◌+◌, ◌⊎◌, List, length, Option, Some, None, IsTrue, IfSome, IfNone, OnSome, IsOkAnd, IsErrAnd, Ok}, Io.KnownBytes.{Appends, IsAtEnd}}
use Rattle.adept_io.specs.{Counts.Rose, Read.{ConsumesMany, ConsumesUpTo}, Written.AppendsPrefix}
use Rattle.adept_top.specs.{Commands.{IsRunOf, load_size, input, output}, Statuses.{is_end_status, status_of}, declared.outcomes.Outcome.Outcome, declared.words.Command.Command}
use Rattle.file_limits.specs.declared.TheConstants.{MAX_FILE_BYTES}
use Rattle.file_model.specs.{Reading.file, declared.files.File.File, declared.refusals.Refused.Refused}

-- the bytes, where they are known, are not too many and stand for a file of which this holds
abbrev pub OfFile : Option (List ℕ) → (File → Type 0) → Type 0
OfFile bytes P = IfSome bytes (λ b. (length b ≤ MAX_FILE_BYTES) × IsOkAnd (file b) P)

-- the bytes, where they are known, are not too many and stand for no file, of which this is the refusal
abbrev pub IsRefused : Option (List ℕ) → Option Refused → Type 0
IsRefused bytes place = IfSome bytes (λ b. (length b ≤ MAX_FILE_BYTES) × IsErrAnd (file b) (λ refusal. place ≡ Some refusal))

-- The file that a command works: its input stands for it, and was read to its end, where no read failed; a command that
-- makes its file leaves the source as it was.
pub record IsInputOf {S : Type 0} (left : S → Option (List ℕ)) (faults : S → ℕ) (cases : Option ℕ) (from to : S) (f : File) : Type 0 where
  pub file : IfSome (input cases (left from)) (λ b. (length b ≤ MAX_FILE_BYTES) × (file b ≡ Ok f))
  pub whole : IfNone cases (IsAtEnd (left to))
  pub within : ConsumesUpTo (left from) (left to) MAX_FILE_BYTES
  pub steady : faults to ≡ faults from
  pub made : OnSome cases (to ≡ from)

-- A command ends without a file to work: its input is refused (1), is not read (3) or is too long (6), or there is not
-- enough memory (5). Where no read fails the bytes alone decide, or memory wants.
pub record EndsUnworked {S : Type 0} (left : S → Option (List ℕ)) (faults : S → ℕ) (cases : Option ℕ) (from to : S) (o : Outcome) : Type 0 where
  pub statuses : (o.status ≡ 1) ⊎ (o.status ≡ 3) ⊎ (o.status ≡ 5) ⊎ (o.status ≡ 6)
  pub refused : o.status ≡ 1 → IsRefused (input cases (left from)) o.place × IfNone cases (IsAtEnd (left to))
  pub unread : o.status ≡ 3 → Rose (faults from) (faults to)
  pub steady : o.status ≢ 3 → faults to ≡ faults from
  pub too_long : o.status ≡ 6 → ConsumesMany (left from) (left to) (MAX_FILE_BYTES + 1)
  pub within : o.status ≢ 6 → ConsumesUpTo (left from) (left to) MAX_FILE_BYTES
  pub made : OnSome cases (to ≡ from)
  pub no_run : o.run ≡ None
  pub no_place : o.status ≢ 1 → o.place ≡ None
  pub exact : IfNone cases (¬ Rose (faults from) (faults to)) → IfSome (input cases (left from)) (λ b. (o.status ≡ status_of b) ⊎ (o.status ≡ 5))

-- A command ends, from these source and sink to those.
pub record Ends {S K : Type 0} (left : S → Option (List ℕ)) (read_faults : S → ℕ) (written : K → Option (List ℕ)) (write_faults : K → ℕ) (c : Command) (from to : S) (old new : K) (o : Outcome) : Type 0 where
  pub statuses : IsTrue (is_end_status o.status)
  -- 0: the file was worked, and its output written
  pub done : o.status ≡ 0 → OfFile (input (load_size c) (left from)) (λ f. IsRunOf c f o.run × Appends (written old) (written new) (output c f o.run))
  -- 4: it was worked, a write failed, and a beginning of its output was written
  pub begun : o.status ≡ 4 → OfFile (input (load_size c) (left from)) (λ f. IsRunOf c f o.run × AppendsPrefix (written old) (written new) (output c f o.run))
  pub unwritten : o.status ≡ 4 → Rose (write_faults old) (write_faults new)
  -- 1: it is refused
  pub refused : o.status ≡ 1 → IsRefused (input (load_size c) (left from)) o.place
  -- at each of these the source was read to its end
  pub whole : (o.status ≡ 0) ⊎ (o.status ≡ 1) ⊎ (o.status ≡ 4) → IfNone (load_size c) (IsAtEnd (left to))
  -- 3: a read failed, and at no other end one did; 6: there was one byte too many, and at no other end so many were read
  pub unread : o.status ≡ 3 → Rose (read_faults from) (read_faults to)
  pub steady : o.status ≢ 3 → read_faults to ≡ read_faults from
  pub too_long : o.status ≡ 6 → ConsumesMany (left from) (left to) (MAX_FILE_BYTES + 1)
  pub within : o.status ≢ 6 → ConsumesUpTo (left from) (left to) MAX_FILE_BYTES
  -- a command that makes its file leaves the source as it was; no other end than 0 and 4 touches the sink or has a run
  pub made : OnSome (load_size c) (to ≡ from)
  pub untouched : o.status ≢ 0 → o.status ≢ 4 → new ≡ old
  pub no_run : o.status ≢ 0 → o.status ≢ 4 → o.run ≡ None
  pub no_place : o.status ≢ 1 → o.place ≡ None
  -- where no read fails the bytes alone decide, or memory wants, or a write of what they ask for fails
  pub exact : IfNone (load_size c) (¬ Rose (read_faults from) (read_faults to)) → IfSome (input (load_size c) (left from)) (λ b. (o.status ≡ status_of b) ⊎ (o.status ≡ 5) ⊎ ((status_of b ≡ 0) × (o.status ≡ 4)))
