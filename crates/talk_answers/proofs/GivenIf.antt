-- What a sink was given by a call that may want memory.
use Rattle.talk_answers.proofs.Common.{ℕ, ◌++◌, ◌≡◌, Bool, Err, Gives, gives_as, gives_then, IfOk, List, Ok, Option, Result}

-- the same bytes, told in another way
pub if_given-as : {S E : Type 0} (written : S → Option (List ℕ)) (faults : S → ℕ) (p : Bool) (a b : S) (t u : List ℕ) (r : Result Bool E) → t ≡ u
    → IfOk r (λ q. Gives written faults p q a b t) → IfOk r (λ q. Gives written faults p q a b u)
if_given-as written faults p a b t u (Ok q) same gives = gives_as written faults p q a b t u gives same
if_given-as written faults p a b t u (Err e) same gives = tt

-- and behind others
pub if_given-then : {S E : Type 0} (written : S → Option (List ℕ)) (faults : S → ℕ) (p q : Bool) (a b c : S) (t u v : List ℕ) (r : Result Bool E) → t ++ u ≡ v
    → Gives written faults p q a b t → IfOk r (λ s. Gives written faults q s b c u) → IfOk r (λ s. Gives written faults p s a c v)
if_given-then written faults p q a b c t u v (Ok s) same first second =
    gives_as written faults p s a c (t ++ u) v (gives_then written faults p q s a b c t u first second) same
if_given-then written faults p q a b c t u v (Err e) same first second = tt
