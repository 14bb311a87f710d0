-- The work of a file over a disk that held nothing.
use Rattle.case_keep.proofs.Common.{[], ℕ, ◌++◌, ◌+◌, ◌^◌, ◌∷◌, ◌≡◌, ◌≤◌, and_then, ap, append-nil, arith, Bytes, calls, drop, drop_all, File, frames, frames_of, HasList, held, held-list, HoldsBeginning, HoldsBeginningOf, IfErr, IfOk}
use Rattle.case_keep.proofs.Common.{if◌then◌else◌, IsBegun, IsErrOf, IsPlayFault, IsSettled, IsStored, KeepFault, LeavesOnly, length, length-map, List, map, None, Ok, Option, Overflows, payload_of, payloads, Recorded, refl, rest-content}
use Rattle.case_keep.proofs.Common.{Result, Some, started, subst, sym, Tells, whole-list}
use Rattle.std.specs.Prelude.{Err}
use Rattle.std.proofs.lemmas.Slice.Eq.{bytes_eq-Decides}
use Rattle.file_limits.specs.declared.TheConstants.{NEWEST_KEPT_FORMAT}
use Rattle.file_model.specs.{Reading.file_up_to, declared.refusals.Refused.Refused}
use Rattle.store_keep.specs.{Finding.finds, declared.finding.Found.Found}
use Rattle.store_keep.specs.declared.faults.KeepFault.TheVariants as fault
use Rattle.store_keep.specs.declared.finding.Found.TheVariants as found

-- what is found where all records are calls
abbrev pub IsBeginning : Found → Type 0
IsBeginning (found.Beginning count gate) = Unit {0}
IsBeginning _ = ⊥

finds-all : (n place : ℕ) (ps : List Bytes) → IsBeginning (finds n ps (frames_of place ps))
finds-all n place [] = tt
finds-all n place (p ∷ ps) =
    let rest = frames_of (place + (5 + length p)) ps in
    subst (λ b. IsBeginning (if b then finds (n + 1) ps rest else found.Differs (n + 1))) (sym ((bytes_eq-Decides p p).1 refl)) (finds-all (n + 1) (place + (5 + length p)) ps)

-- a disk that holds all calls is no other file's, and is not damaged
list-found : (all : List Recorded) (content : List ℕ) → HasList (map payload_of all) content → IsBeginning (finds 0 (map payload_of all) (frames content))
list-found all content list = subst (λ f. IsBeginning (finds 0 (map payload_of all) f)) (sym list) (finds-all 0 0 (map payload_of all))

pub second-faults : (limit : ℕ) (all : List Recorded) (content : List ℕ) (e : KeepFault) → HasList (map payload_of all) content → length content ≤ 2 ^ 30 → Tells limit all content e → IsPlayFault e
second-faults limit all content fault.Disk list short told = tt
second-faults limit all content fault.NoMemory list short told = tt
second-faults limit all content fault.Full list short told = tt
second-faults limit all content fault.Unwritten list short told = tt
second-faults limit all content fault.TooLong list short told = absurd (omega (arith, told, short))
second-faults limit all content (fault.Damaged place) list short told = absurd (subst IsBeginning told (list-found all content list))
second-faults limit all content (fault.Differs number) list short told = absurd (subst IsBeginning told (list-found all content list))

-- and no call is left that finds no room
pub second-full : (limit : ℕ) (all : List Recorded) (content : List ℕ) → HasList (map payload_of all) content → Tells limit all content fault.Full → ⊥
second-full limit all content list told =
    let none : drop (length (held content)) all ≡ [] = drop_all (length (held content)) all (omega (arith, ap length (held-list (map payload_of all) content list), length-map all payload_of)) in
    subst (Overflows limit _) none told

-- what holds of each fault holds of the one that it is
pub fault-is : {X : Type 0} (r : Result X KeepFault) (P : KeepFault → Type 0) {e : KeepFault} → IfErr r P → IsErrOf r e → P e
fault-is r P all is = subst (λ x. IfErr x P) is all

-- a disk that holds nothing holds a beginning of each file's calls
nothing-begun : (all : List Bytes) (content : List ℕ) → content ≡ [] → IsBegun all content
nothing-begun all content is = subst (IsBegun all) (sym is) (record { whole = refl; begins = (all, refl) })

list-begun : (all : List Bytes) (content : List ℕ) → HasList all content → IsBegun all content
list-begun all content list = record { whole = whole-list all content list; begins = subst (λ ps. (rest : List Bytes) × (ps ++ rest ≡ all)) (sym (held-list all content list)) ([], append-nil all) }

from-nothing : (all least : List Bytes) (c : List ℕ) → HoldsBeginning all least c → HoldsBeginning all [] c
from-nothing all least c holds = record { begun = holds.begun; no_less = (held c, refl) }

module _ {D : Type 0} (content : D → List ℕ) (may_leave : D → List ℕ → Type 0) where
  pub stored-list : (disk : D) (all : List Bytes) → IsStored content may_leave disk all → HasList all (content disk)
  stored-list disk all stored = rest-content content may_leave disk all stored.0 stored.1

  module _ (moment : D → ℕ) (left_since : D → ℕ → List ℕ → Type 0) where
    pub first-moments : (old new : D) (all : List Bytes) → content old ≡ [] → (IsBegun all (content old) → LeavesOnly moment left_since old new (HoldsBeginning all (held (content old))))
        → LeavesOnly moment left_since old new (HoldsBeginning all [])
    first-moments old new all is moments =
        subst (λ c. LeavesOnly moment left_since old new (HoldsBeginning all (held c))) is (moments (nothing-begun all (content old) is))

    pub both-moments : (old mid new : D) (all : List Bytes) → LeavesOnly moment left_since old mid (HoldsBeginning all []) → HasList all (content mid)
        → (IsBegun all (content mid) → LeavesOnly moment left_since mid new (HoldsBeginning all (held (content mid)))) → LeavesOnly moment left_since old new (HoldsBeginning all [])
    both-moments old mid new all first list second =
        and_then moment left_since old mid new (HoldsBeginning all []) (HoldsBeginning all (held (content mid))) (HoldsBeginning all []) first (second (list-begun all (content mid) list))
        (λ c h. h) (λ c h. from-nothing all (held (content mid)) c h)

    -- nothing was done to it
    nothing-of : (bytes : Option (List ℕ)) (c : List ℕ) → c ≡ [] → HoldsBeginningOf bytes c
    nothing-of None c is = tt
    nothing-of (Some b) c is = go (file_up_to NEWEST_KEPT_FORMAT b)
      where
        go : (r : Result File Refused) → IfOk r (λ f. HoldsBeginning (payloads f) [] c)
        go (Err refusal) = tt
        go (Ok f) = record { begun = nothing-begun (payloads f) c is; no_less = (held c, refl) }

    pub unplayed-moments : ((d : D) (c : List ℕ) → left_since d (moment d) c → may_leave d c) → (disk : D) (bytes : Option (List ℕ)) → IsSettled content may_leave disk []
        → LeavesOnly moment left_since disk disk (HoldsBeginningOf bytes)
    unplayed-moments only_now disk bytes settled = started moment left_since disk (HoldsBeginningOf bytes) (λ c left. nothing-of bytes c (settled.leaves c (only_now disk c left)))
