-- A disk that was opened, and what it turns out to hold of calls.
use Rattle.store_keep.proofs.Common.{ℕ, ◌++◌, ◌∙◌, ◌≡◌, all_framed, and_then, ap, Bytes, drop, EndsAt, frames, frames_at, HasList, held, HoldsAsBefore, HoldsBeginning, IfErr, inl, inr, IsAddFault, IsAtRest, IsBegun}
use Rattle.store_keep.proofs.Common.{IsErrOf, IsSettled, IsStored, LeavesOnly, length, length-map, length-take-le, List, map, map-append, Ok, Only, Overflows, payload_of, payloads_in, Recorded, Result, subst, sym, take, take-append-drop, Tells}
use Rattle.store_keep.proofs.{Common.with_gate, Held.{gate-frames, held-list, rest-again, same-frames, whole-list}, Matching.firsts}
use Rattle.std.specs.Prelude.{Err}
use Rattle.store_keep.specs.{Finding.HoldsFound, declared.faults.KeepFault.KeepFault, declared.finding.Found.Found}
use Rattle.store_keep.specs.declared.faults.KeepFault.TheVariants as fault
use Rattle.store_keep.specs.declared.finding.Found.TheVariants as found

module _ {D : Type 0} {content : D → List ℕ} {may_leave : D → List ℕ → Type 0} (old : D) {mid : D} {image : List ℕ} (settled : IsSettled content may_leave mid image) (is : image ≡ with_gate (content old)) where
  image-frames : frames image ≡ frames (content old)
  image-frames = ap frames is ∙ gate-frames (content old)

  held-mid : held (content mid) ≡ held (content old)
  held-mid = ap payloads_in (ap frames settled.gives ∙ image-frames)

  -- the bytes hold the first so many of the calls
  module _ (bytes : List ℕ) (shown : bytes ≡ image) (calls : List Recorded) (f : Found) (holds : HoldsFound calls bytes f) (count gate : ℕ) (arm : f ≡ found.Beginning count gate) where
    there : HoldsFound calls image (found.Beginning count gate)
    there = subst (λ b. HoldsFound calls b (found.Beginning count gate)) shown (subst (HoldsFound calls bytes) arm holds)

    ends : EndsAt image (firsts calls count) gate
    ends = there.1

    list : HasList (firsts calls count) (content old)
    list = sym image-frames ∙ ap frames ends.bytes ∙ frames_at (firsts calls count) ends.gate ends.behind ends.shut ends.short

    held-old : held (content old) ≡ firsts calls count
    held-old = held-list (firsts calls count) (content old) list

    pub rest-mid : IsAtRest content may_leave mid (held (content mid)) gate
    rest-mid =
        rest-again content may_leave mid (firsts calls count) gate
        (record {
          ends = subst (λ b. EndsAt b (firsts calls count) gate) (sym settled.gives) ends;
          durable = subst (λ b. Only b (may_leave mid)) (sym settled.gives) settled.leaves;
        })

    abbrev left : List Bytes
    left = map payload_of (drop count calls)

    parts : firsts calls count ++ left ≡ map payload_of calls
    parts = sym (map-append payload_of (take count calls) (drop count calls)) ∙ ap (map payload_of) (take-append-drop count calls)

    pub is-begun : IsBegun (map payload_of calls) (content old)
    is-begun = record { whole = whole-list (firsts calls count) (content old) list; begins = (left, ap (λ ps. ps ++ left) held-old ∙ parts) }

    total : held (content mid) ++ left ≡ map payload_of calls
    total = ap (λ ps. ps ++ left) (held-mid ∙ held-old) ∙ parts

    pub all-stored : (new : D) → IsStored content may_leave new (held (content mid) ++ left) → IsStored content may_leave new (map payload_of calls)
    all-stored new stored = subst (IsStored content may_leave new) total stored

    -- nothing else is left by a stop while the disk is opened
    pub all-moments : {moment : D → ℕ} {left_since : D → ℕ → List ℕ → Type 0} {new : D} → Only (content old) (may_leave old) → LeavesOnly moment left_since old mid (HoldsAsBefore (may_leave old))
        → LeavesOnly moment left_since mid new (HoldsBeginning (held (content mid) ++ left) (held (content mid))) → LeavesOnly moment left_since old new (HoldsBeginning (map payload_of calls) (held (content old)))
    all-moments {moment} {left_since} {new} only opening adding =
        and_then moment left_since old mid new (HoldsAsBefore (may_leave old)) (HoldsBeginning (held (content mid) ++ left) (held (content mid))) (HoldsBeginning (map payload_of calls) (held (content old))) opening adding
        (λ c h. same-frames (map payload_of calls) c (content old) (h.2 ∙ ap frames (only h.0 h.1)) is-begun)
        (λ c h. subst (λ all. HoldsBeginning all (held (content old)) c) total (subst (λ least. HoldsBeginning (held (content mid) ++ left) least c) held-mid h))

    -- which calls are left, and where they go
    at : length (all_framed (held (content old))) ≡ gate
    at = ap (λ ps. length (all_framed ps)) held-old ∙ sym ends.stands

    many : length (held (content old)) ≡ count
    many = ap length held-old ∙ length-map (take count calls) payload_of ∙ length-take-le count calls there.0

    pub overflow-told : (limit : ℕ) → Overflows limit gate (drop count calls) → Tells limit calls (content old) fault.Full
    overflow-told limit over = subst (λ g. Overflows limit g (drop (length (held (content old))) calls)) (sym at) (subst (λ n. Overflows limit gate (drop n calls)) (sym many) over)

    pub told-overflows : (limit : ℕ) → Tells limit calls (content old) fault.Full → Overflows limit gate (drop count calls)
    told-overflows limit full = subst (λ n. Overflows limit gate (drop n calls)) many (subst (λ g. Overflows limit g (drop (length (held (content old))) calls)) at full)

-- what a fault of storing says
pub add-tells : {X : Type 0} (limit : ℕ) (calls : List Recorded) (image : List ℕ) (r : Result X KeepFault) → IfErr r (λ e. IsAddFault e) → (IsErrOf r fault.Full → Tells limit calls image fault.Full) → IfErr r (λ e. Tells limit calls image e)
add-tells limit calls image (Ok x) others full = tt
add-tells limit calls image (Err e) (inl is) full = subst (Tells limit calls image) (sym is) (full (ap Err is))
add-tells limit calls image (Err e) (inr (inl is)) full = subst (Tells limit calls image) (sym is) tt
add-tells limit calls image (Err e) (inr (inr is)) full = subst (Tells limit calls image) (sym is) tt
