-- Readers one behind another.
use Rattle.line_readers.proofs.{Common.{[], ◌++◌, ◌∙◌, ◌∷◌, ◌≡◌, AllRows, and_then, ap, Bytes, bytes_eq-Decides, done, expected, IsLive, IsOneLine, List, Reader, refl, subst, sym, takes}, Taking.Takes}

-- ---- given lines
pub expected-takes : {A : Type 0} (ls : List Bytes) (a : A) → Takes (expected ls a) ls a
expected-takes [] a = refl
expected-takes (l ∷ ls) a = ((bytes_eq-Decides l l).1 refl, expected-takes ls a)

pub takes-expected : {A : Type 0} (lines : List Bytes) (a : A) (ls : List Bytes) (b : A) → Takes (expected lines a) ls b → (ls ≡ lines) × (b ≡ a)
takes-expected [] a [] b is = (refl, sym is)
takes-expected [] a (l ∷ ls) b is = absurd is
takes-expected (line ∷ lines) a [] b is = absurd is
takes-expected (line ∷ lines) a (l ∷ ls) b (may, is) =
    let (same, value) = takes-expected lines a ls b is in
    (ap (λ x. x ∷ ls) ((bytes_eq-Decides l line).0 may) ∙ ap (λ xs. line ∷ xs) same, value)

pub expected-live : {A : Type 0} (lines : List Bytes) (a : A) → AllRows IsOneLine lines → IsLive (expected lines a)
expected-live [] a all = tt
expected-live (line ∷ lines) a (one, all) = ((line, (bytes_eq-Decides line line).1 refl), λ l may. (subst IsOneLine (sym ((bytes_eq-Decides l line).0 may)) one, expected-live lines a all))

-- ---- one reader behind another
module _ {A B : Type 0} (more : A → Reader B) where
  pub then-takes : (r : Reader A) (xs ys : List Bytes) (a : A) (b : B) → Takes r xs a → Takes (more a) ys b → Takes (and_then r more) (xs ++ ys) b
  then-takes (done x) [] ys a b is rest = subst (λ y. Takes (more y) ys b) (sym is) rest
  then-takes (done x) (l ∷ xs) ys a b is rest = absurd is
  then-takes (takes p go) [] ys a b is rest = absurd is
  then-takes (takes p go) (l ∷ xs) ys a b (may, is) rest = (may, then-takes (go l) xs ys a b is rest)

  -- the lines of both
  pub record IsBoth (r : Reader A) (ls : List Bytes) (b : B) : Type 0 where
    pub front : List Bytes
    pub rest : List Bytes
    pub value : A
    pub lines : ls ≡ front ++ rest
    pub first : Takes r front value
    pub second : Takes (more value) rest b

  pub takes-then : (r : Reader A) (ls : List Bytes) (b : B) → Takes (and_then r more) ls b → IsBoth r ls b
  takes-then (done x) ls b is = record { front = []; rest = ls; value = x; lines = refl; first = refl; second = is }
  takes-then (takes p go) [] b is = absurd is
  takes-then (takes p go) (l ∷ ls) b (may, is) =
      let h = takes-then (go l) ls b is in
      record { front = l ∷ h.front; rest = h.rest; value = h.value; lines = ap (λ xs. l ∷ xs) h.lines; first = (may, h.first); second = h.second }

  pub then-live : (r : Reader A) → IsLive r → ((ls : List Bytes) (a : A) → Takes r ls a → IsLive (more a)) → IsLive (and_then r more)
  then-live (done x) live after = after [] x refl
  then-live (takes p go) (first, live) after = (first, λ l may. let (one, rest) = live l may in (one, then-live (go l) rest (λ ls a is. after (l ∷ ls) a (may, is))))
