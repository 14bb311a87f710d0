-- What a store holds that was opened on a disk without bytes.
use Rattle.case_store.proofs.Common.{[], ℕ, ◌∷◌, ◌≡◌, HasList, IsStore, List, map, Opens, payload_of, Recorded, StoreState, subst}

-- it holds no record
pub empty-store : {D : Type 0} (content : D → List ℕ) (may_leave : D → List ℕ → Type 0) (counts image : List ℕ) (store : StoreState D) → image ≡ [] → Opens content may_leave counts image store
    → IsStore content may_leave counts store []
empty-store content may_leave counts image store none (records, list, is) = go records (subst (HasList (map payload_of records)) none list) is
  where
    go : (records : List Recorded) → HasList (map payload_of records) [] → IsStore content may_leave counts store records → IsStore content may_leave counts store []
    go [] list is = is
    go (r ∷ rs) list is = absurd (cc (list))
