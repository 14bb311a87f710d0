-- The versions of a type are numbered one after another.
use Rattle.std.proofs.Common.{◌≡◌, ℕ, ◌+◌, ◌-◌, List, [], ◌∷◌, ◌++◌, length, refl, Option, Some, None, sym, ◌∙◌, ap, subst, slice_get, arith, rules}
use Rattle.type_core.specs.{KindModel.Numbered, Machine.newest_of}
use Rattle.wsm_sound.specs.VersionModel.{VersionModel}

last_index : (v : VersionModel) (vs : List VersionModel) → length (v ∷ vs) - 1 ≡ length vs
last_index v vs = omega arith

last_of : (v : VersionModel) (vs : List VersionModel) (o : Option VersionModel) → newest_of (v ∷ vs) ≡ o → slice_get (v ∷ vs) (length vs) ≡ o
last_of v vs o is = subst (λ k. slice_get (v ∷ vs) k ≡ o) (last_index v vs) is

-- the newest version has the number of how many there are
last-number : (t n : ℕ) (v w : VersionModel) (vs : List VersionModel) → Numbered t n (v ∷ vs) → slice_get (v ∷ vs) (length vs) ≡ Some w → w.number ≡ n + length vs
last-number t n v w [] all is = sym (ap (λ o. numbers o) is) ∙ all.1 ∙ (omega arith)
  where
    numbers : Option VersionModel → ℕ
    numbers None = 0
    numbers (Some x) = x.number
last-number t n v w (u ∷ us) all is = last-number t (n + 1) u w us all.2 is ∙ (omega arith)

pub newest-number : (t : ℕ) (vs : List VersionModel) (w : VersionModel) → Numbered t 1 vs → newest_of vs ≡ Some w → w.number ≡ length vs
newest-number t [] w all is = absurd (cc)
newest-number t (v ∷ vs) w all is = last-number t 1 v w vs all (last_of v vs (Some w) is) ∙ (omega arith)

last-type : (t n : ℕ) (v w : VersionModel) (vs : List VersionModel) → Numbered t n (v ∷ vs) → slice_get (v ∷ vs) (length vs) ≡ Some w → w.type_no ≡ t
last-type t n v w [] all is = sym (ap (λ o. types o) is) ∙ all.0
  where
    types : Option VersionModel → ℕ
    types None = 0
    types (Some x) = x.type_no
last-type t n v w (u ∷ us) all is = last-type t (n + 1) u w us all.2 is

pub newest-type : (t : ℕ) (vs : List VersionModel) (w : VersionModel) → Numbered t 1 vs → newest_of vs ≡ Some w → w.type_no ≡ t
newest-type t [] w all is = absurd (cc)
newest-type t (v ∷ vs) w all is = last-type t 1 v w vs all (last_of v vs (Some w) is)

-- one more version
more : (t n : ℕ) (vs : List VersionModel) (w : VersionModel) → Numbered t n vs → w.type_no ≡ t → w.number ≡ n + length vs → Numbered t n (vs ++ w ∷ [])
more t n [] w all kind number = (kind, number ∙ (omega arith), tt)
more t n (v ∷ vs) w all kind number = (all.0, all.1, more t (n + 1) vs w all.2 kind (number ∙ (omega arith)))

pub one_more : (t : ℕ) (vs : List VersionModel) (w : VersionModel) → Numbered t 1 vs → w.type_no ≡ t → w.number ≡ length vs + 1 → Numbered t 1 (vs ++ w ∷ [])
one_more t vs w all kind number = more t 1 vs w all kind (number ∙ (omega arith))

has-last : (v : VersionModel) (vs : List VersionModel) → slice_get (v ∷ vs) (length vs) ≡ None → ⊥
has-last v [] is = absurd (cc)
has-last v (u ∷ us) is = has-last u us is

pub none_newest : (vs : List VersionModel) → newest_of vs ≡ None → length vs ≡ 0
none_newest [] is = refl
none_newest (v ∷ vs) is = absurd (has-last v vs (last_of v vs None is))
