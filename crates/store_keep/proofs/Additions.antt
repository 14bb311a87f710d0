-- Calls that are stored group by group.
use Rattle.store_keep.proofs.Common.{ℕ, ◌++◌, ◌+◌, ◌∙◌, ◌≡◌, ◌≤◌, and_then, ap, append_assoc, arith, Begins, Bytes, drop, drop-drop, HasNoneOrAll, held, HoldsBeginning, inl, inr, IsAtRest, LeavesOnly, length}
use Rattle.store_keep.proofs.{Common.{length-take, List, map, map-append, no_room, payload_of, Recorded, refl, subst, sym, take, take-append-drop, take-take}, Held.{beginning, begins-more, rest-again, rest-held}}
use Rattle.store_keep.specs.declared.faults.KeepFault.TheVariants as fault
use Rattle.store_room.specs.declared.faults.RoomFault.{RoomFault}
use Rattle.store_room.specs.declared.faults.RoomFault.TheVariants as room

-- it is full where a call has no room
pub room-full : (e : RoomFault) → no_room e ≡ fault.Full → e ≡ room.Full
room-full room.Full is = refl
room-full room.NoMemory is = absurd cc

-- the first of the calls up to the end of a phase, and those behind them
pub split-group : {X : Type 0} (count n at : ℕ) (xs : List X) → count ≤ length (take n (drop at xs)) → drop at xs ≡ take count (take n (drop at xs)) ++ drop (at + count) xs
split-group count n at xs within =
    let le : count ≤ n = omega (arith, length-take n (drop at xs), within) in
    sym (ap (λ front. front ++ drop (at + count) xs) (take-take count n (drop at xs) le) ∙ ap (λ rest. take count (drop at xs) ++ rest) (sym (drop-drop count at xs)) ∙ take-append-drop count (drop at xs))

-- how far calls have been stored behind those of a disk
pub record Progress {D : Type 0} (content : D → List ℕ) (may_leave : D → List ℕ → Type 0) (least all : List Bytes) (left : List Recorded) (disk : D) (gate : ℕ) : Type 0 where
  pub rest : IsAtRest content may_leave disk (held (content disk)) gate
  pub parts : held (content disk) ++ map payload_of left ≡ all
  pub begins : Begins least (held (content disk))

-- a group of the calls that were left is stored
module _ {D : Type 0} {content : D → List ℕ} {may_leave : D → List ℕ → Type 0} {least all : List Bytes} {before : List Recorded} (calls left : List Recorded) {group : List Bytes} {old : D} {gate : ℕ}
    (so_far : Progress content may_leave least all before old gate) (split : before ≡ calls ++ left) (are : group ≡ map payload_of calls) where
  parts : (held (content old) ++ group) ++ map payload_of left ≡ all
  parts =
      append_assoc (held (content old)) group (map payload_of left)
      ∙ ap (λ qs. held (content old) ++ qs) (ap (λ ps. ps ++ map payload_of left) are ∙ sym (map-append payload_of calls left) ∙ ap (map payload_of) (sym split)) ∙ so_far.parts

  pub group-more : {new : D} {next : ℕ} → IsAtRest content may_leave new (held (content old) ++ group) next → Progress content may_leave least all left new next
  group-more {new} {next} rest =
      let is : held (content new) ≡ held (content old) ++ group = rest-held content may_leave new (held (content old) ++ group) next rest in
      record {
        rest = rest-again content may_leave new (held (content old) ++ group) next rest;
        parts = ap (λ ps. ps ++ map payload_of left) is ∙ parts;
        begins = subst (Begins least) (sym is) (begins-more least (held (content old)) group so_far.begins);
      }

  images : (c : List ℕ) → HasNoneOrAll (held (content old)) group c → HoldsBeginning all least c
  images c (inl list) = beginning all least (held (content old)) c list (map payload_of before, so_far.parts) so_far.begins
  images c (inr list) = beginning all least (held (content old) ++ group) c list (map payload_of left, parts) (begins-more least (held (content old)) group so_far.begins)

  pub moments : {moment : D → ℕ} {left_since : D → ℕ → List ℕ → Type 0} {first new : D} → LeavesOnly moment left_since first old (HoldsBeginning all least)
      → LeavesOnly moment left_since old new (HasNoneOrAll (held (content old)) group) → LeavesOnly moment left_since first new (HoldsBeginning all least)
  moments {moment} {left_since} {first} {new} earlier now =
      and_then moment left_since first old new (HoldsBeginning all least) (HasNoneOrAll (held (content old)) group) (HoldsBeginning all least) earlier now (λ c h. h) images
