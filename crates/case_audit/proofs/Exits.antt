-- What is known where a line was judged: whose turn it is, and how a call went.
use Rattle.case_audit.proofs.Common.{ℕ, ◌+◌, ◌∙◌, ◌≡◌, AllRows, ap, Asked, AskedLine, Bytes, caller_in, Err, File, front-row, IfOk, IsModest, length, List, next-is, next_of, Ok, OnOk, Option, option_map, Result, shown_of, Some}
use Rattle.case_audit.proofs.Common.{sym}

-- the call that the rest of a report shows, behind so many entries
pub shows-in : {X : Type 0} (f : File) (queues : List (List Asked)) (r s : Option (ℕ × AskedLine)) (place : ℕ) (es made : List X) (rest text : Bytes) → option_map shown_of r ≡ next_of queues (caller_in f place rest)
    → place ≡ length made + 1 → made ≡ es → rest ≡ text → r ≡ s → next_of queues (caller_in f (length es + 1) text) ≡ option_map shown_of s
shows-in {X} f queues r s place es made rest text is at same there shown =
    ap (λ n. next_of queues (caller_in f n text)) (sym (at ∙ ap (λ (xs : List X). length xs + 1) same)) ∙ (ap (λ bs. next_of queues (caller_in f place bs)) (sym there) ∙ (sym is ∙ ap (option_map shown_of) shown))

-- and that one is modest
pub shown-modest : (queues : List (List Asked)) (o : Option ℕ) (a : ℕ) (l : Asked) → next_of queues o ≡ Some (a, l) → AllRows (AllRows IsModest) queues → IsModest l
shown-modest queues o a l is all = let (caller, ls, queue) = next-is queues o a l is in front-row IsModest queues a l ls all queue

-- what holds of each good outcome
pub on-good : {X E : Type 0} {M J : Type 0} {L Q : X → Type 0} (r : Result X E) → ((x : X) → M → J → L x → Q x) → OnOk r M → OnOk r J → IfOk r L → IfOk r Q
on-good (Ok x) step m j l = step x m j l
on-good (Err e) step m j l = tt

pub on-both : {X E : Type 0} {M J Q : Type 0} (r : Result X E) → (M → J → Q) → OnOk r M → OnOk r J → OnOk r Q
on-both (Ok x) step m j = step m j
on-both (Err e) step m j = tt
