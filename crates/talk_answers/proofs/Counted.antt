-- Lines that are numbered from 0 and written one after another.
use Rattle.talk_answers.proofs.Common.{ℕ, ◌+◌, ◌<◌, ◌≡◌, arith, Bool, get_or, Gives, gives_then, length, List, numbered, numbered-take_more, Option, subst, take}

pub gives_counted : {S X : Type 0} (written : S → Option (List ℕ)) (faults : S → ℕ) (p q r : Bool) (a b c : S) (line : ℕ → X → List ℕ) (xs : List X) (i : ℕ) (x : X) → x ≡ get_or xs i x → i < length xs →
    Gives written faults p q a b (numbered line 0 (take i xs)) → Gives written faults q r b c (line i x) → Gives written faults p r a c (numbered line 0 (take (i + 1) xs))
gives_counted {S} {X} written faults p q r a b c line xs i x is within first second =
    let P : X → Type 0 = λ y. Gives written faults q r b c (line i y) in
    let Q : ℕ → Type 0 = λ n. Gives written faults q r b c (line n (get_or xs i x)) in
    let same : i ≡ 0 + i = omega arith in
    rw (numbered-take_more line 0 xs i x within) (gives_then written faults p q r a b c (numbered line 0 (take i xs)) (line (0 + i) (get_or xs i x)) first (subst Q same (subst P is second)))
