-- Which payloads images hold.
use Rattle.store_keep.proofs.Common.{[], ℕ, ◌++◌, ◌∙◌, ◌∷◌, ◌≡◌, ap, append-nil, append_assoc, Begins, Bytes, frames, frames_at, HasList, held, HoldsBeginning, IsAtRest, IsBegun, List, payloads_in, refl, subst, sym, with_gate}
use Rattle.store_disk.proofs.Groups.{in-frames}

pub held-list : (ps : List Bytes) (image : List ℕ) → HasList ps image → held image ≡ ps
held-list ps image list = ap payloads_in list ∙ in-frames 0 ps

pub whole-list : (ps : List Bytes) (image : List ℕ) → HasList ps image → HasList (held image) image
whole-list ps image list = subst (λ qs. HasList qs image) (sym (held-list ps image list)) list

-- an image that holds a beginning which goes on from another
pub beginning : (all least ps : List Bytes) (image : List ℕ) → HasList ps image → Begins ps all → Begins least ps → HoldsBeginning all least image
beginning all least ps image list begins more = record {
  begun = record { whole = whole-list ps image list; begins = subst (λ qs. Begins qs all) (sym (held-list ps image list)) begins };
  no_less = subst (Begins least) (sym (held-list ps image list)) more;
}

pub begins-self : (ps : List Bytes) → Begins ps ps
begins-self ps = ([], append-nil ps)

pub begins-more : (least ps qs : List Bytes) → Begins least ps → Begins least (ps ++ qs)
begins-more least ps qs (rest, is) = (rest ++ qs, sym (append_assoc least rest qs) ∙ ap (λ all. all ++ qs) is)

module _ {D : Type 0} (content : D → List ℕ) (may_leave : D → List ℕ → Type 0) where
  -- at rest a disk, and each image of it, holds its list
  pub rest-content : (disk : D) (ps : List Bytes) (place : ℕ) → IsAtRest content may_leave disk ps place → HasList ps (content disk)
  rest-content disk ps place rest = let e = rest.ends in ap frames e.bytes ∙ frames_at ps e.gate e.behind e.shut e.short

  pub rest-held : (disk : D) (ps : List Bytes) (place : ℕ) → IsAtRest content may_leave disk ps place → held (content disk) ≡ ps
  rest-held disk ps place rest = held-list ps (content disk) (rest-content disk ps place rest)

  pub rest-image : (disk : D) (ps : List Bytes) (place : ℕ) → IsAtRest content may_leave disk ps place → (c : List ℕ) → may_leave disk c → HasList ps c
  rest-image disk ps place rest c left = ap frames (rest.durable c left) ∙ rest-content disk ps place rest

  pub rest-again : (disk : D) (ps : List Bytes) (place : ℕ) → IsAtRest content may_leave disk ps place → IsAtRest content may_leave disk (held (content disk)) place
  rest-again disk ps place rest = subst (λ qs. IsAtRest content may_leave disk qs place) (sym (rest-held disk ps place rest)) rest

-- a gate that is put on a short disk changes no list
pub gate-frames : (c : List ℕ) → frames (with_gate c) ≡ frames c
gate-frames [] = refl
gate-frames (b ∷ []) = refl
gate-frames (b ∷ d ∷ rest) = refl

-- an image whose frames are those of one that holds a beginning
pub same-frames : (all : List Bytes) (image old : List ℕ) → frames image ≡ frames old → IsBegun all old → HoldsBeginning all (held old) image
same-frames all image old same begun = beginning all (held old) (held old) image (same ∙ begun.whole) begun.begins (begins-self (held old))
