-- Journals that go on.
use Rattle.adept_server.proofs.Common.{[], ◌++◌, ◌∷◌, ◌≡◌, Entry, IsLegal, List, refl, state_after}

module _ {M E R W S : Type 0} (after : S → E → S) where
  pub state-append : (s : S) (xs ys : List (Entry M E R W S)) → state_after after s (xs ++ ys) ≡ state_after after (state_after after s xs) ys
  state-append s [] ys = refl
  state-append s (x ∷ xs) ys = state-append (after s x.event) xs ys

  -- the last reply of a legal journal
  pub last-reply : (reply : S → E → R) (s : S) (xs : List (Entry M E R W S)) (e : Entry M E R W S) → IsLegal after reply s (xs ++ e ∷ []) → e.reply ≡ reply (state_after after s xs) e.event
  last-reply reply s [] e legal = legal.0
  last-reply reply s (x ∷ xs) e legal = last-reply reply (after s x.event) xs e legal.1
