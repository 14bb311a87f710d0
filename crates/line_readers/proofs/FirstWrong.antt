-- A reader that takes the right texts, and no others, finds the first wrong line.
use Rattle.line_readers.proofs.Common.{[], ℕ, ◌++◌, ◌+◌, ◌∙◌, ◌∷◌, ◌≡◌, ◌≤◌, ap, append-nil, arith, Begins, Bytes, CutLines, ended, ending, first_wrong, IsFirstWrong, IsLive, length, lines_of, List, None, Option, read, Reader, refl, Some}
use Rattle.line_readers.proofs.{Common.{subst, suc, sym, take, taken, wrong_in, zero}, Lines.{cut-ending, cut-together}, Taking.{Takes, takes-read, read-takes, takes-lines, goes-on, takes-as_many, taken-few}}

take-within : {X : Type 0} (n m : ℕ) (xs ys : List X) → n ≤ m → m ≤ length xs → take n (take m xs ++ ys) ≡ take n xs
take-within zero m xs ys low few = refl
take-within (suc n) zero xs ys low few = absurd (omega arith)
take-within (suc n) (suc m) [] ys low few = absurd (omega arith)
take-within (suc n) (suc m) (x ∷ xs) ys low few = ap (λ zs. x ∷ zs) (take-within n m xs ys (omega arith) (omega arith))

module _ {A : Type 0} (IsRight : Bytes → Type 0) (r : Reader A) (live : IsLive r)
    (right : (t : Bytes) → IsRight t → (ls : List Bytes) × (a : A) × Takes r ls a × (t ≡ ending ls)) (only : (ls : List Bytes) (a : A) → Takes r ls a → IsRight (ending ls)) where
  -- a right text has the lines that the reader takes, and nothing behind them
  right-lines : (t : Bytes) → IsRight t → (ls : List Bytes) × (a : A) × Takes r ls a × (lines_of t ≡ record { ended = ls; left = [] })
  right-lines t is =
      let (ls, a, takes, same) = right t is in
      (ls, a, takes, ap lines_of same ∙ cut-ending ls (takes-lines r live ls a takes))

  takes-whole : (bytes : Bytes) (a : A) → (lines_of bytes).left ≡ [] → read r (ended bytes) ≡ Some a → IsRight bytes
  takes-whole bytes a nothing is =
      let same : ending (ended bytes) ≡ bytes = sym (append-nil (ending (ended bytes))) ∙ (ap (λ left. ending (ended bytes) ++ left) (sym nothing) ∙ cut-together bytes) in
      subst IsRight same (only (ended bytes) a (read-takes r (ended bytes) a is))

  -- right texts begin with as many lines as it takes, and with no more
  begins-taken : (bytes : Bytes) (n : ℕ) → n ≤ taken r (ended bytes) → Begins IsRight bytes n
  begins-taken bytes n low =
      let m = taken r (ended bytes) in
      let few = taken-few r (ended bytes) in
      let (more, a, takes) = goes-on r live (ended bytes) in
      let ls = take m (ended bytes) ++ more in
      let cut : (lines_of (ending ls)).ended ≡ ls = ap (λ (c : CutLines). c.ended) (cut-ending ls (takes-lines r live ls a takes)) in
      (omega (arith, low, few), (ending ls, only ls a takes, ap (take n) cut ∙ take-within n m (ended bytes) more low few))

  taken-begins : (bytes : Bytes) (n : ℕ) → Begins IsRight bytes n → n ≤ taken r (ended bytes)
  taken-begins bytes n (few, begun) =
      let (t, is, same) = begun in
      let (ls, a, takes, cut) = right-lines t is in
      takes-as_many r ls a takes n (ended bytes) few (ap (λ (c : CutLines). take n c.ended) (sym cut) ∙ same)

  wrong-here : (bytes : Bytes) → (IsRight bytes → ⊥) → IsFirstWrong IsRight bytes (Some (taken r (ended bytes) + 1))
  wrong-here bytes not = (not, λ m low. begins-taken bytes m (omega (arith, low)), λ begun. let few = taken-begins bytes (taken r (ended bytes) + 1) begun in omega (arith, few))

  -- a right text is read, and nothing is left
  right-read : (bytes : Bytes) → IsRight bytes → (a : A) × (read r (ended bytes) ≡ Some a) × ((lines_of bytes).left ≡ [])
  right-read bytes is =
      let (ls, a, takes, cut) = right-lines bytes is in
      (a, ap (λ (c : CutLines). read r c.ended) cut ∙ takes-read r ls a takes, ap (λ (c : CutLines). c.left) cut)

  pub first-wrong : (bytes : Bytes) → IsFirstWrong IsRight bytes (first_wrong r bytes)
  first-wrong bytes = by (lines_of bytes).left (read r (ended bytes)) refl refl
    where
      by : (left : Bytes) (value : Option A) → (lines_of bytes).left ≡ left → read r (ended bytes) ≡ value → IsFirstWrong IsRight bytes (wrong_in r bytes left (ended bytes) value)
      by [] (Some a) nothing is = takes-whole bytes a nothing is
      by [] None nothing is = wrong-here bytes (λ right. let (a, some, none) = right-read bytes right in cc (some, is))
      by (b ∷ left) value nothing is = wrong-here bytes (λ right. let (a, some, none) = right-read bytes right in cc (none, nothing))
