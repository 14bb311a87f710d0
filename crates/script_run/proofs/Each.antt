-- The cases of a type, called one after another in order of declaration.
use Rattle.script_run.proofs.Common.{[], ℕ, ◌+◌, ◌<◌, ◌∙◌, ◌∷◌, ◌≡◌, add-one, ap, arith, Bool, CaseDecl, changed_at, ClosedCase, each_of, false, get_or, if_among, if◌then◌else◌, is_among, length, List, None, Option, put_back, refl}
use Rattle.script_run.proofs.Common.{slice_get, Some, suc, sym, take, true, zero}

changed_at-suc : (f : ClosedCase → ClosedCase) (i : ℕ) (c : ClosedCase) (cs : List ClosedCase) → changed_at f (suc i) (c ∷ cs) ≡ c ∷ changed_at f i cs
changed_at-suc f i c cs = go (slice_get cs i)
  where
    go : (o : Option ClosedCase) → put_back f (suc i) (c ∷ cs) o ≡ c ∷ put_back f i cs o
    go None = refl
    go (Some x) = refl

-- the cases up to an index are changed, and those from there on are not
abbrev one_more : ℕ → ℕ → (ClosedCase → ClosedCase) → CaseDecl → ℕ → List ClosedCase → List ClosedCase
one_more t many f d i cs = if is_among t many d then changed_at f i cs else cs

first : (t many : ℕ) (f : ClosedCase → ClosedCase) (d : CaseDecl) (c : ClosedCase) (cs : List ClosedCase) → if_among t many f d c ∷ cs ≡ one_more t many f d 0 (c ∷ cs)
first t many f d c cs = go (is_among t many d)
  where
    go : (b : Bool) → (if b then f c else c) ∷ cs ≡ (if b then f c ∷ cs else c ∷ cs)
    go true = refl
    go false = refl

none : (t many : ℕ) (f : ClosedCase → ClosedCase) (d : CaseDecl) (i : ℕ) → [] ≡ one_more t many f d i []
none t many f d i = go (is_among t many d)
  where
    go : (b : Bool) → ◌≡◌ {A = List ClosedCase} [] (if b then [] else [])
    go true = refl
    go false = refl

later : (t many : ℕ) (f : ClosedCase → ClosedCase) (d : CaseDecl) (i : ℕ) (c : ClosedCase) (cs : List ClosedCase) → c ∷ one_more t many f d i cs ≡ one_more t many f d (suc i) (c ∷ cs)
later t many f d i c cs = go (is_among t many d)
  where
    go : (b : Bool) → c ∷ (if b then changed_at f i cs else cs) ≡ (if b then changed_at f (suc i) (c ∷ cs) else c ∷ cs)
    go true = sym (changed_at-suc f i c cs)
    go false = refl

each-suc : (t many : ℕ) (f : ClosedCase → ClosedCase) (ds : List CaseDecl) (cs : List ClosedCase) (i : ℕ) (d : CaseDecl) → i < length ds → d ≡ get_or ds i d →
    each_of t many f (take (suc i) ds) cs ≡ one_more t many f d i (each_of t many f (take i ds) cs)
each-suc t many f [] cs i d within is = absurd (omega arith)
each-suc t many f (x ∷ xs) [] zero d within is = none t many f d 0
each-suc t many f (x ∷ xs) [] (suc i) d within is = none t many f d (suc i)
each-suc t many f (x ∷ xs) (c ∷ cs) zero d within is = rw is (first t many f x c cs)
each-suc t many f (x ∷ xs) (c ∷ cs) (suc i) d within is =
    ap (λ more. if_among t many f x c ∷ more) (each-suc t many f xs cs i d (omega arith) is) ∙ later t many f d i (if_among t many f x c) (each_of t many f (take i xs) cs)

pub each-more : (t many : ℕ) (f : ClosedCase → ClosedCase) (ds : List CaseDecl) (cs : List ClosedCase) (i : ℕ) (d : CaseDecl) → i < length ds → d ≡ get_or ds i d →
    each_of t many f (take (i + 1) ds) cs ≡ (if is_among t many d then changed_at f i (each_of t many f (take i ds) cs) else each_of t many f (take i ds) cs)
each-more t many f ds cs i d within is = rw add-one (each-suc t many f ds cs i d within is)

-- a case is as it was until its turn comes
pub each-at : (t many : ℕ) (f : ClosedCase → ClosedCase) (ds : List CaseDecl) (cs : List ClosedCase) (i : ℕ) → slice_get (each_of t many f (take i ds) cs) i ≡ slice_get cs i
each-at t many f [] cs zero = refl
each-at t many f [] cs (suc i) = refl
each-at t many f (x ∷ xs) cs zero = refl
each-at t many f (x ∷ xs) [] (suc i) = refl
each-at t many f (x ∷ xs) (c ∷ cs) (suc i) = each-at t many f xs cs i

pub each-called : (t many : ℕ) (f : ClosedCase → ClosedCase) (ds : List CaseDecl) (cs : List ClosedCase) (i : ℕ) (d : CaseDecl) → i < length ds → d ≡ get_or ds i d → is_among t many d ≡ true →
    each_of t many f (take (i + 1) ds) cs ≡ changed_at f i (each_of t many f (take i ds) cs)
each-called t many f ds cs i d within is same = each-more t many f ds cs i d within is ∙ rw same refl

pub each-passed : (t many : ℕ) (f : ClosedCase → ClosedCase) (ds : List CaseDecl) (cs : List ClosedCase) (i : ℕ) (d : CaseDecl) → i < length ds → d ≡ get_or ds i d → is_among t many d ≡ false →
    each_of t many f (take (i + 1) ds) cs ≡ each_of t many f (take i ds) cs
each-passed t many f ds cs i d within is other = each-more t many f ds cs i d within is ∙ rw other refl
