-- How a fit of an input ends, and what is left of its source and its sink.
use Rattle.std.specs.{Prelude.{ℕ, ◌≡◌, ◌⊎◌, ◌+◌, List, Option, IfSome, IsOkAnd, Result, Ok, Err}, Io.KnownBytes.{Appends, IsAtEnd}}
use Rattle.adept_io.specs.{Counts.Rose, Read.{ConsumesMany, ConsumesUpTo}, Written.AppendsPrefix}
use Rattle.file_words.specs.Lines.{Bytes}
use Rattle.log_fit.specs.{Answer.{answer, most_input}, Asked.Question, declared.unfit.Unfit.Unfit}
use Rattle.log_fit.specs.declared.unfit.Unfit.TheVariants as unfit

-- What an input comes to, of which this says what holds, is written, or a beginning of it where a write failed; or it comes to the reason
-- that is told. No other end touches the sink.
abbrev pub Tells : {K : Type 0} → ((Result Bytes Unfit → Type 0) → Type 0) → (K → Option (List ℕ)) → (K → ℕ) → K → K → Result (Unit {0}) Unfit → Type 0
Tells Of written faults old new (Ok done) = Of (λ a. IsOkAnd a (λ t. Appends (written old) (written new) t))
Tells Of written faults old new (Err unfit.Unwritten) = Of (λ a. IsOkAnd a (λ t. AppendsPrefix (written old) (written new) t)) × Rose (faults old) (faults new)
Tells Of written faults old new (Err unfit.NoMemory) = new ≡ old
Tells Of written faults old new (Err unfit.Words) = ⊥
Tells Of written faults old new (Err unfit.Unread) = ⊥
Tells Of written faults old new (Err why) = Of (λ a. a ≡ Err why) × (new ≡ old)

abbrev pub IsAnswered : {K : Type 0} → (K → Option (List ℕ)) → (K → ℕ) → Result Bytes Unfit → K → K → Result (Unit {0}) Unfit → Type 0
IsAnswered written faults a old new r = Tells (λ P. P a) written faults old new r

-- No read failed, and the source was read to its end, which has no more bytes than an input may; or it was read to one byte more, or memory
-- wanted.
abbrev pub Takes : {S : Type 0} → (S → Option (List ℕ)) → (S → ℕ) → S → S → Result (Unit {0}) Unfit → Type 0
Takes left faults from to (Err unfit.NoMemory) = (faults to ≡ faults from) × ConsumesUpTo (left from) (left to) most_input
Takes left faults from to (Err unfit.TooLong) = (faults to ≡ faults from) × (IsAtEnd (left to) ⊎ ConsumesMany (left from) (left to) (most_input + 1))
Takes left faults from to _ = (faults to ≡ faults from) × ConsumesUpTo (left from) (left to) most_input × IsAtEnd (left to)

-- A fit ends, from these source and sink to those: a read failed, or what the source's bytes come to, where they are known, is told.
abbrev pub FitEnds : {S K : Type 0} → (S → Option (List ℕ)) → (S → ℕ) → (K → Option (List ℕ)) → (K → ℕ) → Question → S → S → K → K → Result (Unit {0}) Unfit → Type 0
FitEnds left read_faults written write_faults q from to old new (Err unfit.Unread) = Rose (read_faults from) (read_faults to) × ConsumesUpTo (left from) (left to) most_input × (new ≡ old)
FitEnds left read_faults written write_faults q from to old new r = Tells (λ P. IfSome (left from) (λ b. P (answer q b))) written write_faults old new r × Takes left read_faults from to r
