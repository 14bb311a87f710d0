-- The calls of a file on a store.
use Rattle.case_keep.proofs.Common.{[], ℕ, ◌*◌, ◌++◌, ◌+◌, ◌-◌, ◌<◌, ◌==◌, ◌^◌, ◌∙◌, ◌∷◌, ◌≡◌, ◌≢◌, ◌≤◌, ◌⊎◌, AddsFirst, all_framed, and_then, ap, append-nil, append_assoc, AreKnown, arith, beginning, Begins, Bytes, calls, case_counts}
use Rattle.case_keep.proofs.Common.{cases_of_type, counts_from, disk_refused, drop, drop_all, File, folded, frames, fresh, Held, HoldsBeginning, HoldsRun, inl, inr, IsAddFault, IsFoldOf, IsPlayFault, IsSameRun, IsStore, IsStored, KeepFault}
use Rattle.case_keep.proofs.Common.{LeavesOnly, length, length-take, List, map, map-append, Ok, Only, OnOk, Overflows, payload_of, payloads, Recorded, refl, rest-image, Result, same-frames, Says, started, starts_of, StoreState, subst, suc}
use Rattle.case_keep.proofs.Common.{sum, sym, take, take-add, take-append-drop, take-take, weaker, zero}
use Rattle.std.specs.Prelude.{Err}
use Rattle.std.proofs.lemmas.List.Sums.{count_by-le-length, sum_by-cons}
use Rattle.case_keep.specs.{Statuses.keep_status, Storing.{fault_of, part_of}}
use Rattle.case_store.proofs.Staying.{known-front, known-rest}
use Rattle.case_store.specs.{declared.refusals.OpenRefusal.OpenRefusal, declared.refusals.StoreFault.StoreFault}
use Rattle.case_store.specs.declared.refusals.OpenRefusal.TheVariants as refusal
use Rattle.case_store.specs.declared.refusals.StoreFault.TheVariants as store_fault
use Rattle.file_facts.specs.Facts.{IsWorkable}
use Rattle.file_model.specs.{declared.files.CaseDecl.CaseDecl, declared.files.TypeDecl.TypeDecl}
use Rattle.script_run.specs.Serial.{serial}
use Rattle.store_disk.specs.{Opening.HoldsAsBefore, Rest.HasNoneOrAll}
use Rattle.store_keep.specs.declared.faults.KeepFault.TheVariants as fault
use Rattle.store_room.proofs.Grouped.{behind, over-behind, over-first, over-here}
use Rattle.store_runs.proofs.{CountedPlaces.counts-size, Folded.stored-serial}

-- ---- how many cases each type has
next-type : (xs : List TypeDecl) (t : ℕ) (ds : List CaseDecl) → t < length xs → counts_from t (drop t xs) ds ≡ cases_of_type t ds ∷ counts_from (t + 1) (drop (t + 1) xs) ds
next-type xs t ds lt =
    let next : suc t ≡ t + 1 = omega arith in
    go xs t t lt ∙ ap (λ n. cases_of_type t ds ∷ counts_from (t + 1) (drop n xs) ds) next
  where
    go : (ys : List TypeDecl) (i u : ℕ) → i < length ys → counts_from u (drop i ys) ds ≡ cases_of_type u ds ∷ counts_from (u + 1) (drop (suc i) ys) ds
    go [] i u low = absurd (omega (arith, low))
    go (y ∷ ys) zero u low = refl
    go (y ∷ ys) (suc i) u low = go ys i u (omega (arith, low))

-- one type more is counted
pub counts-next : (xs : List TypeDecl) (ds : List CaseDecl) (done new all : List ℕ) (t n : ℕ) → t < length xs → done ++ counts_from t (drop t xs) ds ≡ all → n ≡ cases_of_type t ds → new ≡ done ++ n ∷ []
    → new ++ counts_from (t + 1) (drop (t + 1) xs) ds ≡ all
counts-next xs ds done new all t n lt so_far counted pushed =
    let rest : List ℕ = counts_from (t + 1) (drop (t + 1) xs) ds in
    ap (λ ns. ns ++ rest) pushed ∙ append_assoc done (n ∷ []) rest ∙ ap (λ k. done ++ (k ∷ rest)) counted ∙ ap (λ ns. done ++ ns) (sym (next-type xs t ds lt)) ∙ so_far

pub counts-done : (xs : List TypeDecl) (ds : List CaseDecl) (done all : List ℕ) (t : ℕ) → length xs ≤ t → done ++ counts_from t (drop t xs) ds ≡ all → done ≡ all
counts-done xs ds done all t past so_far = sym (append-nil done) ∙ ap (λ ys. done ++ counts_from t ys ds) (sym (drop_all t xs past)) ∙ so_far

counts-sum : (t : ℕ) (xs : List TypeDecl) (ds : List CaseDecl) → length ds ≤ 4096 → sum (counts_from t xs ds) ≤ 4096 * length xs
counts-sum t [] ds few = omega arith
counts-sum t (x ∷ xs) ds few =
    omega (arith, sum_by-cons (λ (n : ℕ). n) (cases_of_type t ds) (counts_from (t + 1) xs ds), counts-sum (t + 1) xs ds few, count_by-le-length (λ (d : CaseDecl). d.id.type_no == t) ds, few)

pub few-cases : (f : File) → IsWorkable f → (counts : List ℕ) → counts ≡ case_counts f → length counts + sum counts < 2 ^ 32
few-cases f workable counts is =
    let types : length f.types ≤ 64 = workable.types in
    omega (arith, ap length is, ap sum is, counts-size 0 f.types f.cases, counts-sum 0 f.types f.cases workable.cases, types)

-- ---- refusals and faults
-- a disk that held nothing is neither too long nor damaged
pub open-causes : {D : Type 0} (counts image : List ℕ) (e : OpenRefusal D) → image ≡ [] → Says counts image e → ((part_of e).1 ≡ fault.NoMemory) ⊎ ((part_of e).1 ≡ fault.Disk)
open-causes {D = D} counts image e none says = go e (subst (λ c. Says counts c e) none says)
  where
    go : (e : OpenRefusal D) → Says counts [] e → ((part_of e).1 ≡ fault.NoMemory) ⊎ ((part_of e).1 ≡ fault.Disk)
    go (refusal.Disk disk) says = inr refl
    go (refusal.TooLong disk) says = absurd (omega (arith, says))
    go (refusal.Damaged disk place) says = absurd says.1
    go (refusal.NoMemory disk) says = inl refl

pub part-disk : {D : Type 0} (e : OpenRefusal D) → (part_of e).0 ≡ disk_refused e
part-disk (refusal.Disk disk) = refl
part-disk (refusal.TooLong disk) = refl
part-disk (refusal.Damaged disk place) = refl
part-disk (refusal.NoMemory disk) = refl

pub is-disk : {D : Type 0} (e : OpenRefusal D) → (part_of e).1 ≡ fault.Disk → e ≡ refusal.Disk (disk_refused e)
is-disk (refusal.Disk disk) is = refl
is-disk (refusal.TooLong disk) is = absurd cc
is-disk (refusal.Damaged disk place) is = absurd cc
is-disk (refusal.NoMemory disk) is = absurd cc

pub no-disk : {D : Type 0} (e : OpenRefusal D) → (part_of e).1 ≢ fault.Disk → e ≢ refusal.Disk (disk_refused e)
no-disk (refusal.Disk disk) other is = other refl
no-disk (refusal.TooLong disk) other is = absurd cc
no-disk (refusal.Damaged disk place) other is = absurd cc
no-disk (refusal.NoMemory disk) other is = absurd cc

pub step-causes : (e : StoreFault) → IsAddFault (fault_of e)
step-causes store_fault.Full = inl refl
step-causes store_fault.NoMemory = inr (inl refl)
step-causes store_fault.Disk = inr (inr refl)
step-causes store_fault.Broken = inr (inr refl)

pub step-full : (e : StoreFault) → fault_of e ≡ fault.Full → e ≡ store_fault.Full
step-full store_fault.Full is = refl
step-full store_fault.NoMemory is = absurd cc
step-full store_fault.Disk is = absurd cc
step-full store_fault.Broken is = absurd cc

pub step-disk : (e : StoreFault) → (e ≡ store_fault.Broken → ⊥) → fault_of e ≡ fault.Disk → e ≡ store_fault.Disk
step-disk store_fault.Full whole is = absurd cc
step-disk store_fault.NoMemory whole is = absurd cc
step-disk store_fault.Disk whole is = refl
step-disk store_fault.Broken whole is = absurd (whole refl)

pub step-no-disk : (e : StoreFault) → fault_of e ≢ fault.Disk → e ≢ store_fault.Disk
step-no-disk e other is = other (ap fault_of is)

pub add-plays : (e : KeepFault) → IsAddFault e → IsPlayFault e
add-plays e (inl is) = subst IsPlayFault (sym is) tt
add-plays e (inr (inl is)) = subst IsPlayFault (sym is) tt
add-plays e (inr (inr is)) = subst IsPlayFault (sym is) tt

-- a report that was begun is all that is told as 0 or 4
neither : (n : ℕ) → 5 ≤ n → (n ≡ 0) ⊎ (n ≡ 4) → ⊥
neither n le (inl is) = omega (arith, le, is)
neither n le (inr is) = omega (arith, le, is)

pub is-unwritten : (e : KeepFault) → (keep_status e ≡ 0) ⊎ (keep_status e ≡ 4) → e ≡ fault.Unwritten
is-unwritten fault.Unwritten told = refl
is-unwritten fault.NoMemory told = absurd (neither 5 (omega arith) told)
is-unwritten fault.Disk told = absurd (neither 7 (omega arith) told)
is-unwritten fault.Full told = absurd (neither 8 (omega arith) told)
is-unwritten fault.TooLong told = absurd (neither 9 (omega arith) told)
is-unwritten (fault.Damaged place) told = absurd (neither 9 (omega arith) told)
is-unwritten (fault.Differs number) told = absurd (neither 9 (omega arith) told)

-- ---- the calls up to an end, behind the first so many
module _ (calls : List Recorded) (s e : ℕ) where
  abbrev pub phase : List Recorded
  phase = take (e - s) (drop s calls)

  abbrev more : List Recorded
  more = drop (e - s) (drop s calls)

  parts : take s calls ++ (phase ++ more) ≡ calls
  parts = ap (λ xs. take s calls ++ xs) (take-append-drop (e - s) (drop s calls)) ∙ take-append-drop s calls

  pub phase-first : (n : ℕ) → n ≤ e - s → take s calls ++ take n phase ≡ take (s + n) calls
  phase-first n le = ap (λ xs. take s calls ++ xs) (take-take n (e - s) (drop s calls) le) ∙ sym (take-add s n calls)

  pub phase-within : (n : ℕ) → n ≤ length phase → n ≤ e - s
  phase-within n le = omega (arith, length-take (e - s) (drop s calls), le)

  pub phase-known : (counts : List ℕ) (held : Held) → IsFoldOf counts held (take s calls) → AreKnown (starts_of counts) (fresh counts) calls → AreKnown held.starts held.run phase
  phase-known counts held f known =
      let starts : List ℕ = starts_of counts in
      let all : AreKnown starts (fresh counts) (take s calls ++ (phase ++ more)) = subst (AreKnown starts (fresh counts)) (sym parts) known in
      let here : AreKnown starts (folded counts (take s calls)) phase = known-front starts (folded counts (take s calls)) phase more (known-rest starts (fresh counts) (take s calls) (phase ++ more) all) in
      subst (λ st. AreKnown st held.run phase) (sym f.starts) (subst (λ run. AreKnown starts run phase) (sym f.run) here)

  -- so many of them behind the first
  begins-at : (front rest : List Recorded) → front ++ rest ≡ calls → Begins (map payload_of front) (map payload_of calls)
  begins-at front rest is = (map payload_of rest, sym (map-append payload_of front rest) ∙ ap (map payload_of) is)

  first-begins : Begins (map payload_of (take s calls)) (map payload_of calls)
  first-begins = begins-at (take s calls) (drop s calls) (take-append-drop s calls)

  group-begins : (n : ℕ) → Begins (map payload_of (take s calls) ++ map payload_of (take n phase)) (map payload_of calls)
  group-begins n =
      let front : List Recorded = take s calls ++ take n phase in
      let rest : List Recorded = drop n phase ++ more in
      let whole : front ++ rest ≡ calls =
      append_assoc (take s calls) (take n phase) rest ∙ ap (λ xs. take s calls ++ xs) (sym (append_assoc (take n phase) (drop n phase) more) ∙ ap (λ xs. xs ++ more) (take-append-drop n phase)) ∙ parts in
      subst (λ ps. Begins ps (map payload_of calls)) (map-append payload_of (take s calls) (take n phase)) (begins-at front rest whole)

  begins-nothing : (ps : List Bytes) → Begins [] ps
  begins-nothing ps = (ps, refl)

  images : (n : ℕ) (c : List ℕ) → HasNoneOrAll (map payload_of (take s calls)) (map payload_of (take n phase)) c → HoldsBeginning (map payload_of calls) [] c
  images n c (inl list) = beginning (map payload_of calls) [] (map payload_of (take s calls)) c list first-begins (begins-nothing (map payload_of (take s calls)))
  images n c (inr list) =
      let ps : List Bytes = map payload_of (take s calls) ++ map payload_of (take n phase) in
      beginning (map payload_of calls) [] ps c list (group-begins n) (begins-nothing ps)

  pub group-moments : {D : Type 0} (moment : D → ℕ) (left_since : D → ℕ → List ℕ → Type 0) (old new : D) → AddsFirst moment left_since (take s calls) phase old new
      → LeavesOnly moment left_since old new (HoldsBeginning (map payload_of calls) [])
  group-moments moment left_since old new (n, leaves) =
      weaker moment left_since old new (HasNoneOrAll (map payload_of (take s calls)) (map payload_of (take n phase))) (HoldsBeginning (map payload_of calls) []) leaves (images n)

  -- the calls find room where the first of them end
  module _ (limit gate : ℕ) (stands : gate ≡ length (all_framed (map payload_of (take s calls)))) where
    at : behind 0 (take s calls) ≡ gate
    at = omega (arith, stands)

    pub phase-over : Overflows limit gate phase → Overflows limit 0 calls
    phase-over over =
        subst (Overflows limit 0) parts (over-here limit 0 (take s calls) (phase ++ more) (subst (λ g. Overflows limit g (phase ++ more)) (sym at) (over-first limit gate phase more over)))

    pub phase-fits : (n : ℕ) → n ≤ e - s → (Overflows limit 0 (take s calls) → ⊥) → (Overflows limit gate (take n phase) → ⊥) → Overflows limit 0 (take (s + n) calls) → ⊥
    phase-fits n le before here over =
        here (subst (λ g. Overflows limit g (take n phase)) at
        (over-behind limit 0 (take s calls) (take n phase) before (subst (Overflows limit 0) (sym (phase-first n le)) over)))

-- ---- a store
module _ {D : Type 0} (content : D → List ℕ) (may_leave : D → List ℕ → Type 0) where
  pub same-run : (f : File) → IsWorkable f → (counts : List ℕ) (store : StoreState D) → counts ≡ case_counts f → IsStore content may_leave counts store (calls f)
      → IsSameRun store.held.starts f.cases (serial f) store.held.run
  same-run f workable counts store same is =
      let starts : store.held.starts ≡ starts_of (case_counts f) = is.fold.starts ∙ ap starts_of same in
      let run : store.held.run ≡ folded (case_counts f) (calls f) = is.fold.run ∙ ap (λ c. folded c (calls f)) same in
      subst (λ st. IsSameRun st f.cases (serial f) store.held.run) (sym starts) (subst (IsSameRun (starts_of (case_counts f)) f.cases (serial f)) (sym run) (stored-serial f workable))

  pub run-of : {T E : Type 0} (f : File) (store : StoreState D) (disk : D) (r : Result T E) → disk ≡ store.disk → OnOk r (IsStore content may_leave (case_counts f) store (calls f))
      → OnOk r (IsSameRun store.held.starts f.cases (serial f) store.held.run) → OnOk r (HoldsRun content may_leave f disk)
  run-of f store disk (Ok x) own holds same = record { store = store; own = sym own; holds = holds; same = same }
  run-of f store disk (Err e) own holds same = tt

  -- a disk that holds the same again is that of a store too
  pub run-again : (f : File) (old new : D) → HoldsRun content may_leave f old → IsStored content may_leave new (payloads f) → HoldsRun content may_leave f new
  run-again f old new run (place, rest) =
      let at : place ≡ run.store.gate = rest.ends.stands ∙ sym run.holds.rest.ends.stands in
      record {
        store = record run.store { disk = new; gate = place };
        own = refl;
        holds = record { rest = rest; fold = run.holds.fold; short = omega (arith, at, run.holds.short); young = omega (arith, at, run.holds.young) };
        same = run.same;
      }

  module _ (moment : D → ℕ) (left_since : D → ℕ → List ℕ → Type 0) where
    -- a store without records leaves nothing
    pub none-stepped : ((d : D) (c : List ℕ) → left_since d (moment d) c → may_leave d c) → (counts : List ℕ) (store : StoreState D) (all : List Bytes) → IsStore content may_leave counts store []
        → LeavesOnly moment left_since store.disk store.disk (HoldsBeginning all [])
    none-stepped only_now counts store all is =
        started moment left_since store.disk (HoldsBeginning all [])
        (λ c left. beginning all [] [] c (rest-image content may_leave store.disk [] store.gate is.rest c (only_now store.disk c left)) (all, refl) ([], refl))

    nothing : (all : List Bytes) (c : List ℕ) → c ≡ [] → HoldsBeginning all [] c
    nothing all c is = subst (HoldsBeginning all []) (sym is) (beginning all [] [] [] refl (all, refl) ([], refl))

    -- a disk without bytes leaves nothing either, left alone or opened
    pub untouched : ((d : D) (c : List ℕ) → left_since d (moment d) c → may_leave d c) → (disk : D) (all : List Bytes) → Only [] (may_leave disk) → LeavesOnly moment left_since disk disk (HoldsBeginning all [])
    untouched only_now disk all only = started moment left_since disk (HoldsBeginning all []) (λ c left. nothing all c (only c (only_now disk c left)))

    pub opened : (old new : D) (all : List Bytes) → Only [] (may_leave old) → LeavesOnly moment left_since old new (HoldsAsBefore (may_leave old)) → LeavesOnly moment left_since old new (HoldsBeginning all [])
    opened old new all only moments =
        weaker moment left_since old new (HoldsAsBefore (may_leave old)) (HoldsBeginning all []) moments
        (λ c h. same-frames all c [] (h.2 ∙ ap frames (only h.0 h.1)) (record { whole = refl; begins = (all, refl) }))

    pub both : (old mid new : D) (all : List Bytes) → LeavesOnly moment left_since old mid (HoldsBeginning all []) → LeavesOnly moment left_since mid new (HoldsBeginning all [])
        → LeavesOnly moment left_since old new (HoldsBeginning all [])
    both old mid new all first second = and_then moment left_since old mid new (HoldsBeginning all []) (HoldsBeginning all []) (HoldsBeginning all []) first second (λ c h. h) (λ c h. h)
