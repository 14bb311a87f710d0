-- Calls that are made one after another.
use Rattle.case_store.proofs.Common.{[], ℕ, ◌++◌, ◌+◌, ◌∙◌, ◌∷◌, ◌≡◌, ◌≤◌, answers_of, ap, AreKnown, called, fold, Held, length, length-map, List, map, oldest, Recorded}
use Rattle.case_store.proofs.Common.{refl, Run, Some, suc, sym, weight_of_all}
use Rattle.case_store.specs.declared.replies.StoredReply.{StoredReply}

-- how far calls have been made: what they made of what was held, what they were told, and which are left
pub record Made (old now : Held) (calls left : List Recorded) (replies : List StoredReply) : Type 0 where
  pub starts : now.starts ≡ old.starts
  pub run : fold (called old.starts) now.run left ≡ fold (called old.starts) old.run calls
  pub answers : map Some replies ++ answers_of old.starts now.run left ≡ answers_of old.starts old.run calls
  pub known : AreKnown old.starts now.run left
  pub young : oldest now.run.cases + weight_of_all left ≤ oldest old.run.cases + weight_of_all calls

-- each call is answered
answers-many : (starts : List ℕ) (run : Run) (rs : List Recorded) → length (answers_of starts run rs) ≡ length rs
answers-many starts run [] = refl
answers-many starts run (r ∷ rs) = ap suc (answers-many starts (called starts run r) rs)

pub told-many : (starts : List ℕ) (run : Run) (calls : List Recorded) (replies : List StoredReply) → map Some replies ≡ answers_of starts run calls → length replies ≡ length calls
told-many starts run calls replies told = sym (length-map replies Some) ∙ ap length told ∙ answers-many starts run calls
