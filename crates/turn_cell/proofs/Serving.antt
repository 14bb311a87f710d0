-- What a call does to the journal.
use Rattle.turn_cell.proofs.Common.{[], ℕ, ◌++◌, ◌∙◌, ◌∷◌, ◌≡◌, ap, Bool, Calls, calls_of, drop, drop-append_seam, Entry, entry, false, if◌then◌else◌, IsLegal, IsLegalFrom, IsStateAfter, length, List, None, Option, PassView, refl, Some}
use Rattle.turn_cell.proofs.{Common.{state_after, subst, sym, true}, Prefixes.prefix_self, Histories.calls_of-own}
use mathlib.Core.List.{IsPrefix}

module _ {M E R W S : Type 0} (after : S → E → S) (reply : S → E → R) where
  pub legal_snoc : (s : S) (xs : List (Entry M E R W S)) (e : Entry M E R W S) → IsLegal after reply s xs → e.reply ≡ reply (state_after after s xs) e.event → IsLegal after reply s (xs ++ e ∷ [])
  legal_snoc s [] e k is = (is, tt)
  legal_snoc s (x ∷ xs) e k is = (k.0, legal_snoc (after s x.event) xs e k.1 is)

  pub state_snoc : (s : S) (xs : List (Entry M E R W S)) (e : Entry M E R W S) → state_after after s (xs ++ e ∷ []) ≡ after (state_after after s xs) e.event
  state_snoc s [] e = refl
  state_snoc s (x ∷ xs) e = state_snoc (after s x.event) xs e

  pub legal_more : (o : Option S) (xs ys : List (Entry M E R W S)) (st : S) (n : ℕ) (event : E) (answer : R)
      → ys ≡ xs ++ entry n event answer ∷ [] → answer ≡ reply st event → IsStateAfter after o xs st → IsLegalFrom after reply o xs → IsLegalFrom after reply o ys
  legal_more None xs ys st n event answer longer is at k = absurd k
  legal_more (Some s) xs ys st n event answer longer is at k =
      subst (IsLegal after reply s) (sym longer) (legal_snoc s xs (entry n event answer) k (is ∙ ap (λ (t : S). reply t event) at))

  pub state_more : (o : Option S) (xs ys : List (Entry M E R W S)) (st st' : S) (n : ℕ) (event : E) (answer : R)
      → ys ≡ xs ++ entry n event answer ∷ [] → st' ≡ after st event → IsStateAfter after o xs st → IsStateAfter after o ys st'
  state_more None xs ys st st' n event answer longer is at = absurd at
  state_more (Some s) xs ys st st' n event answer longer is at =
      is ∙ (ap (λ (t : S). after t event) at ∙ (sym (state_snoc s xs (entry n event answer)) ∙ ap (state_after after s) (sym longer)))

  pub calls_made : (v w : PassView M E R W S) (xs ys : List (Entry M E R W S)) (event : E) (answer : R)
      → IsPrefix v.seen xs → ys ≡ xs ++ entry v.number event answer ∷ [] → w.seen ≡ ys → w.own_calls ≡ v.own_calls ++ drop (length xs) ys → w.opening ≡ v.opening → w.number ≡ v.number
      → IsLegalFrom after reply v.opening ys → calls_of v.number xs ≡ v.own_calls → Calls after reply event v answer w
  calls_made v w xs ys event answer more longer seen mine opening number legal own =
      let e : Entry M E R W S = entry v.number event answer in
      let one : drop (length xs) ys ≡ e ∷ [] = ap (drop (length xs)) longer ∙ drop-append_seam xs (e ∷ []) in
      let mine' : w.own_calls ≡ v.own_calls ++ e ∷ [] = mine ∙ ap (λ (zs : List (Entry M E R W S)). v.own_calls ++ zs) one in
      record {
        others = more.0;
        seen = seen ∙ (longer ∙ ap (λ (zs : List (Entry M E R W S)). zs ++ e ∷ []) (sym more.1));
        own_calls = mine';
        legal = subst (λ (zs : List (Entry M E R W S)). IsLegalFrom after reply w.opening zs) (sym seen) (subst (λ (o : Option S). IsLegalFrom after reply o ys) (sym opening) legal);
        own = ap (calls_of w.number) (seen ∙ longer) ∙ (ap (λ (k : ℕ). calls_of k (xs ++ e ∷ [])) number ∙ (calls_of-own v.number xs e refl ∙ (ap (λ (zs : List (Entry M E R W S)). zs ++ e ∷ []) own ∙ sym mine')));
      }

-- both lists begin the longer one
pub more_of : {A : Type 0} (b : Bool) (xs ys : List A) → IsPrefix (if b then ys else xs) (if b then xs else ys) → IsPrefix xs (if b then xs else ys) × IsPrefix ys (if b then xs else ys)
more_of true xs ys p = (prefix_self xs, p)
more_of false xs ys p = (p, prefix_self ys)
