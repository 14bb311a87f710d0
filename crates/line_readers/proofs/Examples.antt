-- First wrong lines, and a journal of two actors in two phases.
use Rattle.line_readers.proofs.Common.{[], ℕ, ◌+◌, ◌==◌, ◌∷◌, ◌≡◌, and_then, Bytes, codes, Entry, expected, first_wrong, if◌then◌else◌, journal, List, None, Option, Reader, refl, Some}

abbrev two_lines : Reader ℕ
two_lines = and_then (expected (codes "a" ∷ []) 0) (λ (n : ℕ). expected ([] ∷ []) n)

both : first_wrong two_lines (codes "a\n\n") ≡ None
both = refl

nothing_there : first_wrong two_lines [] ≡ Some 1
nothing_there = refl

second_missing : first_wrong two_lines (codes "a\n") ≡ Some 2
second_missing = refl

one_too_many : first_wrong two_lines (codes "a\n\n\n") ≡ Some 3
one_too_many = refl

bytes_behind : first_wrong two_lines (codes "a\n\nx") ≡ Some 3
bytes_behind = refl

no_line_feed : first_wrong two_lines (codes "a") ≡ Some 1
no_line_feed = refl

other_line : first_wrong two_lines (codes "b\n\n") ≡ Some 1
other_line = refl

-- A machine that adds up. Actor 1 owes 5 and then 2, actor 2 owes 7; a line is the caller, the number and the sum.
abbrev SumEntry : Type 0
SumEntry = Entry ℕ ℕ ℕ ℕ ℕ

abbrev print : ℕ → SumEntry → Bytes
print k e = k ∷ e.caller ∷ e.event ∷ e.reply ∷ []

abbrev caller_in : ℕ → Bytes → Option ℕ
caller_in k (n ∷ a ∷ rest) = if n == k then Some a else None
caller_in k _ = None

abbrev sums : List (List (ℕ × ℕ)) → ℕ → Reader (List SumEntry × ℕ)
sums owed n = journal (λ s e. s + e) (λ s e. s + e) (λ l. l.0) (λ l. Some l.1) caller_in print n 1 0 owed

abbrev one_phase : List (List (ℕ × ℕ))
one_phase = ((1, 5) ∷ (1, 2) ∷ (2, 7) ∷ []) ∷ []

abbrev two_phases : List (List (ℕ × ℕ))
two_phases = ((1, 5) ∷ (2, 7) ∷ []) ∷ [] ∷ ((1, 2) ∷ []) ∷ []

in_file_order : first_wrong (sums one_phase 3) (1 ∷ 1 ∷ 5 ∷ 5 ∷ 10 ∷ 2 ∷ 1 ∷ 2 ∷ 7 ∷ 10 ∷ 3 ∷ 2 ∷ 7 ∷ 14 ∷ 10 ∷ []) ≡ None
in_file_order = refl

other_first : first_wrong (sums one_phase 3) (1 ∷ 2 ∷ 7 ∷ 7 ∷ 10 ∷ 2 ∷ 1 ∷ 5 ∷ 12 ∷ 10 ∷ 3 ∷ 1 ∷ 2 ∷ 14 ∷ 10 ∷ []) ≡ None
other_first = refl

-- an actor's lines stand in order
own_order : first_wrong (sums one_phase 3) (1 ∷ 1 ∷ 2 ∷ 2 ∷ 10 ∷ 2 ∷ 1 ∷ 5 ∷ 7 ∷ 10 ∷ 3 ∷ 2 ∷ 7 ∷ 14 ∷ 10 ∷ []) ≡ Some 1
own_order = refl

-- and none before one of an earlier phase
later_phase : first_wrong (sums two_phases 3) (1 ∷ 1 ∷ 5 ∷ 5 ∷ 10 ∷ 2 ∷ 1 ∷ 2 ∷ 7 ∷ 10 ∷ 3 ∷ 2 ∷ 7 ∷ 14 ∷ 10 ∷ []) ≡ Some 2
later_phase = refl

wrong_sum : first_wrong (sums one_phase 3) (1 ∷ 1 ∷ 5 ∷ 6 ∷ 10 ∷ []) ≡ Some 1
wrong_sum = refl
