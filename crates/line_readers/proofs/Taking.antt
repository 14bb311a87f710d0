-- What readers take.
use Rattle.line_readers.proofs.Common.{[], ℕ, ◌++◌, ◌∙◌, ◌∷◌, ◌≡◌, ◌≤◌, AllRows, ap, arith, Bool, Bytes, done, false, if◌then◌else◌, IsLive, IsOneLine, length, List, None, read, Reader, refl, Some, subst, suc, sym, take, taken, takes, true}
use Rattle.line_readers.proofs.Common.{zero}

-- it takes exactly these lines, and then has this value
abbrev pub Takes : {A : Type 0} → Reader A → List Bytes → A → Type 0
Takes (done a) [] b = a ≡ b
Takes (done a) (l ∷ ls) b = ⊥
Takes (takes p go) [] b = ⊥
Takes (takes p go) (l ∷ ls) b = (p l ≡ true) × Takes (go l) ls b

pub takes-read : {A : Type 0} (r : Reader A) (ls : List Bytes) (a : A) → Takes r ls a → read r ls ≡ Some a
takes-read (done a) [] b is = ap (λ x. Some x) is
takes-read (done a) (l ∷ ls) b is = absurd is
takes-read (takes p go) [] b is = absurd is
takes-read (takes p go) (l ∷ ls) b (may, is) = ap (λ test. if test then read (go l) ls else None) may ∙ takes-read (go l) ls b is

pub read-takes : {A : Type 0} (r : Reader A) (ls : List Bytes) (a : A) → read r ls ≡ Some a → Takes r ls a
read-takes (done a) [] b is = cc (is)
read-takes (done a) (l ∷ ls) b is = absurd (cc (is))
read-takes (takes p go) [] b is = absurd (cc (is))
read-takes (takes p go) (l ∷ ls) b is = by (p l) refl (λ k. read-takes (go l) ls b k) is
  where
    by : (test : Bool) → p l ≡ test → (read (go l) ls ≡ Some b → Takes (go l) ls b) → (if test then read (go l) ls else None) ≡ Some b → (p l ≡ true) × Takes (go l) ls b
    by true may more is = (may, more is)
    by false not more is = absurd (cc (is))

pub takes-lines : {A : Type 0} (r : Reader A) → IsLive r → (ls : List Bytes) (a : A) → Takes r ls a → AllRows IsOneLine ls
takes-lines (done a) live [] b is = tt
takes-lines (done a) live (l ∷ ls) b is = absurd is
takes-lines (takes p go) live [] b is = absurd is
takes-lines (takes p go) (some, live) (l ∷ ls) b (may, is) = let (one, more) = live l may in (one, takes-lines (go l) more ls b is)

-- some lines bring it to its end, and so they do behind those that it takes
pub ends : {A : Type 0} (r : Reader A) → IsLive r → (ls : List Bytes) × (a : A) × Takes r ls a
ends (done a) live = ([], a, refl)
ends (takes p go) ((l, may), live) = let (ls, a, is) = ends (go l) (live l may).1 in (l ∷ ls, a, (may, is))

pub goes-on : {A : Type 0} (r : Reader A) → IsLive r → (ls : List Bytes) → (more : List Bytes) × (a : A) × Takes r (take (taken r ls) ls ++ more) a
goes-on (done a) live ls = ([], a, refl)
goes-on (takes p go) live [] = ends (takes p go) live
goes-on {A} (takes p go) live (l ∷ ls) = by (p l) refl (λ may. goes-on (go l) (live.1 l may).1 ls)
  where
    by : (test : Bool) → p l ≡ test → (p l ≡ true → (more : List Bytes) × (a : A) × Takes (go l) (take (taken (go l) ls) ls ++ more) a)
        → (more : List Bytes) × (a : A) × Takes (takes p go) (take (if test then suc (taken (go l) ls) else 0) (l ∷ ls) ++ more) a
    by true may behind = let (more, a, is) = behind may in (more, a, (may, is))
    by false not behind = ends (takes p go) live

-- it takes as many lines as any that it would take begin with
pub takes-as_many : {A : Type 0} (r : Reader A) (ls : List Bytes) (a : A) → Takes r ls a → (n : ℕ) (others : List Bytes) → n ≤ length others → take n ls ≡ take n others → n ≤ taken r others
takes-as_many r ls a is zero others low same = omega arith
takes-as_many r ls a is (suc n) [] low same = absurd (omega arith)
takes-as_many (done a) [] b is (suc n) (o ∷ others) low same = absurd (cc (same))
takes-as_many (done a) (l ∷ ls) b is (suc n) (o ∷ others) low same = absurd is
takes-as_many (takes p go) [] b is (suc n) (o ∷ others) low same = absurd is
takes-as_many (takes p go) (l ∷ ls) b k (suc n) (o ∷ others) low same =
    let (may, is) = k in
    let first : l ≡ o = cc (same) in
    let rest : take n ls ≡ take n others = cc (same) in
    let may_too : p o ≡ true = subst (λ x. p x ≡ true) first may in
    let is_too : Takes (go o) ls b = subst (λ x. Takes (go x) ls b) first is in
    let more : n ≤ taken (go o) others = takes-as_many (go o) ls b is_too n others (omega arith) rest in
    subst (λ test. suc n ≤ (if test then suc (taken (go o) others) else 0)) (sym may_too) (omega arith)

pub taken-few : {A : Type 0} (r : Reader A) (ls : List Bytes) → taken r ls ≤ length ls
taken-few (done a) ls = omega arith
taken-few (takes p go) [] = omega arith
taken-few (takes p go) (l ∷ ls) = by (p l) (taken-few (go l) ls)
  where
    by : (test : Bool) → taken (go l) ls ≤ length ls → (if test then suc (taken (go l) ls) else 0) ≤ suc (length ls)
    by true more = omega arith
    by false more = omega arith
