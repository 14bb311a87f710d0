-- Readers that take lines one after another.
use Rattle.std.specs.Prelude.{◌≡◌, ℕ, suc, Bool, false, true, ◌==◌, List, [], ◌∷◌, ◌++◌, Option, Some, None, bytes_eq, if◌then◌else◌}
use Rattle.wsm_lists.specs.Rows.{AllRows}
use Rattle.file_words.specs.Lines.{Bytes}

-- a line without a line feed in it, and lines that line feeds end
abbrev pub IsOneLine : Bytes → Type 0
IsOneLine line = AllRows (λ b. (b == 10) ≡ false) line

abbrev pub ending : List Bytes → Bytes
ending [] = []
ending (l ∷ ls) = l ++ 10 ∷ ending ls

-- A reader is done and has a value, or it takes a line that may stand here, and goes on by it.
pub data Reader (A : Type 0) : Type 0 where
  done : (value : A) → Reader A
  takes : (may_stand : Bytes → Bool) (behind : Bytes → Reader A) → Reader A

-- how many lines it takes
abbrev pub taken : {A : Type 0} → Reader A → List Bytes → ℕ
taken (done a) ls = 0
taken (takes p go) [] = 0
taken (takes p go) (l ∷ ls) = if p l then suc (taken (go l) ls) else 0

-- its value where it takes exactly these lines
abbrev pub read : {A : Type 0} → Reader A → List Bytes → Option A
read (done a) [] = Some a
read (done a) (l ∷ ls) = None
read (takes p go) [] = None
read (takes p go) (l ∷ ls) = if p l then read (go l) ls else None

-- Wherever it stands, some line may stand there and has no other in it; so it can be brought to its end.
abbrev pub IsLive : {A : Type 0} → Reader A → Type 0
IsLive (done a) = Unit {0}
IsLive (takes p go) = ((l : Bytes) × (p l ≡ true)) × ((l : Bytes) → p l ≡ true → IsOneLine l × IsLive (go l))

-- these lines one after another, and a value
abbrev pub expected : {A : Type 0} → List Bytes → A → Reader A
expected [] a = done a
expected (l ∷ ls) a = takes (λ line. bytes_eq line l) (λ line. expected ls a)

-- one reader behind another
abbrev pub and_then : {A B : Type 0} → Reader A → (A → Reader B) → Reader B
and_then (done a) more = more a
and_then (takes p go) more = takes p (λ l. and_then (go l) more)

-- a reader whose value is made from another's
abbrev pub mapped : {A B : Type 0} → (A → B) → Reader A → Reader B
mapped f (done a) = done (f a)
mapped f (takes p go) = takes p (λ l. mapped f (go l))
