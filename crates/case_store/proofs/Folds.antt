-- Records that are taken in one after another.
use Rattle.case_store.proofs.Common.{[], ℕ, ◌++◌, ◌+◌, ◌-◌, ◌<◌, ◌^◌, ◌∙◌, ◌∷◌, ◌≡◌, ◌≢◌, ◌≤◌, all_framed, AllByRecursion, and_parts, ap, append_assoc, AreCalls, AreKnown, arith, Bool, Bytes, called, closed, damaged, drop, EndsAt, false}
use Rattle.case_store.proofs.Common.{fold, fold-append, frame, framed, frames, frames_from, frames_of, fresh, has_names, HasNoneOrAll, HasPayload, Held, inl, inr, is_shallow, IsAtRest, IsDamaged, IsDamagedFrom}
use Rattle.case_store.proofs.Common.{IsFoldOf, IsFrame, IsPayable, IsRefused, IsSettled, IsStore, IsTaken, LeavesOnly, length, length-append, length-drop, length-take-le, List, map, map-append, map_push, oldest, Only}
use Rattle.case_store.proofs.Common.{Opens, payload, payload_of, Recorded, refl, refused, Run, Says, starts_of, Stored, stored_weight, StoreState, subst, sum_by-cons, sym, take, TakesIn, TellsDamage, true, weight_of_all, with_gate}
use Rattle.case_store.proofs.{Cells.fresh-young, Weights.weight-below}
use Rattle.store_disk.specs.declared.frames.Frame.TheVariants as front
use Rattle.store_disk.proofs.{Framing.{all_short, framed-more, frames_at, one_framed}, Moments.started}
use Rattle.store_room.proofs.Grouped.{own-payload}
use Rattle.case_store.specs.declared.refusals.ImageFault.{ImageFault}
use Rattle.case_store.specs.declared.refusals.ImageFault.TheVariants as fault

-- calls behind others
calls-append : (starts : List ℕ) (run : Run) (rs qs : List Recorded) → AreCalls starts run rs → AreCalls starts (fold (called starts) run rs) qs → AreCalls starts run (rs ++ qs)
calls-append starts run [] qs are more = more
calls-append starts run (r ∷ rs) qs are more = (are.0, are.1, calls-append starts (called starts run r) rs qs are.2 more)

folds-more : (counts : List ℕ) (old new : Held) (rs qs : List Recorded) → IsFoldOf counts old rs → AreCalls old.starts old.run qs
    → new ≡ record old { run = fold (called old.starts) old.run qs } → IsFoldOf counts new (rs ++ qs)
folds-more counts old new rs qs f more made =
    subst (λ h. IsFoldOf counts h (rs ++ qs)) (sym made)
    (record {
      starts = f.starts;
      run =
          ap (λ s. fold (called s) old.run qs) f.starts ∙ ap (λ run. fold (called (starts_of counts)) run qs) f.run
          ∙ sym (fold-append (called (starts_of counts)) (fresh counts) rs qs);
      calls = calls-append (starts_of counts) (fresh counts) rs qs f.calls
          (subst (λ run. AreCalls (starts_of counts) run qs) f.run (subst (λ s. AreCalls s old.run qs) f.starts more));
    })

-- how far an image has been taken in
pub record Reached (counts image : List ℕ) (held : Held) (rest : List ℕ) (place : ℕ) : Type 0 where
  pub records : List Recorded
  pub fold : IsFoldOf counts held records
  pub parts : image ≡ all_framed (map payload_of records) ++ rest
  pub stands : place ≡ length (all_framed (map payload_of records))
  pub short : AllByRecursion (λ p. length p < 2 ^ 32) (map payload_of records)
  pub young : oldest held.run.cases ≤ place
  -- where the rest is damaged, the image is
  pub damage : (p : ℕ) → IsDamagedFrom (starts_of counts) held.run (frames_from place 0 rest) p → IsDamagedFrom (starts_of counts) (fresh counts) (frames_from 0 0 image) p

-- nobody has called the types and cases yet
pub begins : (counts image : List ℕ) (held : Held) → held ≡ record { starts = starts_of counts; run = fresh counts } → Reached counts image held image 0
begins counts image held is = record {
  records = [];
  fold = record { starts = ap (λ h. h.starts) is; run = ap (λ h. h.run) is; calls = tt };
  parts = refl;
  stands = refl;
  short = tt;
  young = omega (arith, ap (λ h. oldest h.run.cases) is, fresh-young 0 counts);
  damage = λ p d. subst (λ h. IsDamagedFrom (starts_of counts) h.run (frames_from 0 0 image) p) is d;
}

-- bytes of an image that was looked at as a disk with a gate are framed from their front
frames-whole : (image : List ℕ) → with_gate image ≡ image → frames_from 0 0 image ≡ frames image
frames-whole [] gate = absurd cc
frames-whole (b ∷ []) gate = let is : b ≡ 0 = cc in subst (λ x. frames_from 0 0 (x ∷ []) ≡ closed 0) (sym is) refl
frames-whole (b ∷ c ∷ rest) gate = refl

module _ {counts image : List ℕ} {held : Held} {rest : List ℕ} {place : ℕ} (so_far : Reached counts image held rest place) where
  -- where the records of an image end
  pub ends-here : (gate : ℕ) (behind : List ℕ) → gate ≢ 1 → rest ≡ gate ∷ behind
      → (records : List Recorded) × IsFoldOf counts held records × EndsAt image (map payload_of records) place
  ends-here gate behind shut is = (
    so_far.records,
    so_far.fold,
    record {
      gate = gate;
      behind = behind;
      shut = shut;
      stands = so_far.stands;
      short = so_far.short;
      bytes = so_far.parts ∙ ap (λ l. all_framed (map payload_of so_far.records) ++ l) is;
    },
  )

  damaged-here : with_gate image ≡ image → IsDamagedFrom (starts_of counts) held.run (frames_from place 0 rest) place → IsDamaged counts image place
  damaged-here gate here = subst (λ f. IsDamagedFrom (starts_of counts) (fresh counts) f place) (frames-whole image gate) (so_far.damage place here)

  pub is-cut : with_gate image ≡ image → frames_from place 0 rest ≡ damaged place → IsDamaged counts image place
  is-cut gate cut = damaged-here gate (subst (λ f. IsDamagedFrom (starts_of counts) held.run f place) (sym cut) refl)

  -- a record is next
  module _ (len : ℕ) (found : IsFrame rest (front.Record len)) where
    abbrev p : Bytes
    p = take (5 + len - 5) (drop 5 rest)

    abbrev behind : List ℕ
    behind = drop (5 + len) rest

    bytes : p ≡ take len (drop 5 rest)
    bytes = let same : 5 + len - 5 ≡ len = omega arith in ap (λ n. take n (drop 5 rest)) same

    size : length p ≡ len
    size = ap length bytes ∙ length-take-le len (drop 5 rest) (omega (arith, length-drop 5 rest, found.0))

    split : rest ≡ framed p ++ behind
    split = found.2 ∙ ap (λ q. framed q ++ behind) (sym bytes)

    brief : length p < 2 ^ 32
    brief = omega (arith, size, found.1)

    first : frames_from place 0 rest ≡ frame place p (frames_from (place + (5 + length p)) 0 behind)
    first = ap (frames_from place 0) split ∙ one_framed p behind place brief

    pub refused-here : (new : Held) (b : Bool) → with_gate image ≡ image → b ≡ false → TakesIn held p b new → IsDamaged counts image place
    refused-here new true gate is told = absurd cc
    refused-here new false gate is (not_taken, kept) =
        damaged-here gate (subst (λ f. IsDamagedFrom (starts_of counts) held.run f place) (sym first) (inl (subst (λ s. IsRefused s held.run p) so_far.fold.starts not_taken, refl)))

    -- one that is taken in is one more
    goes-on : (new : Held) (r : Recorded) → IsTaken held.starts held.run p r → new ≡ record held { run = called held.starts held.run r } → oldest new.run.cases ≤ oldest held.run.cases + length p
        → Reached counts image new behind (place + (5 + length p))
    goes-on new r taken made older =
        let ps = map payload_of so_far.records in
        let more : map payload_of (so_far.records ++ r ∷ []) ≡ ps ++ p ∷ [] = map_push payload_of so_far.records r ∙ ap (λ q. ps ++ q ∷ []) taken.0.same in
        let all : all_framed (map payload_of (so_far.records ++ r ∷ [])) ≡ all_framed ps ++ framed p = ap all_framed more ∙ framed-more ps p in
        record {
          records = so_far.records ++ r ∷ [];
          fold = folds-more counts held new so_far.records (r ∷ []) so_far.fold (taken.1, own-payload p r taken.0, tt) made;
          parts = so_far.parts ∙ ap (λ l. all_framed ps ++ l) split ∙ sym (append_assoc (all_framed ps) (framed p) behind) ∙ ap (λ l. l ++ behind) (sym all);
          stands = omega (arith, so_far.stands, ap length all, length-append (all_framed ps) (framed p));
          short = subst (AllByRecursion (λ q. length q < 2 ^ 32)) (sym more) (all_short ps p so_far.short brief);
          young = omega (arith, so_far.young, older);
          damage = λ q d.
              so_far.damage q
              (subst (λ f. IsDamagedFrom (starts_of counts) held.run f q) (sym first)
              (inr (
                r,
                subst (λ s. IsTaken s held.run p r) so_far.fold.starts taken,
                subst (λ run. IsDamagedFrom (starts_of counts) run (frames_from (place + (5 + length p)) 0 behind) q)
                    (ap (λ h. h.run) made ∙ ap (λ s. called s held.run r) so_far.fold.starts) d,
              )));
        }

    pub goes-further : {new : Held} (b : Bool) (after : List ℕ) (here : ℕ) → b ≡ true → TakesIn held p b new → oldest new.run.cases ≤ oldest held.run.cases + length p → after ≡ behind → here ≡ place + (5 + len)
        → Reached counts image new after here
    goes-further false after here is told older left at = absurd cc
    goes-further {new = new} true after here is (r, taken, made) older left at =
        subst (Reached counts image new after) (omega (arith, size, at)) (subst (λ l. Reached counts image new l (place + (5 + length p))) (sym left) (goes-on new r taken made older))

-- there is room in each machine for what finds room on the disk
pub room-for : (caller : ℕ) (e : Stored) (p : Bytes) (old : ℕ) → payload caller e ≡ p → old + length p ≤ 2 ^ 30 → old + stored_weight e ≤ 4000000000
room-for caller e p old same fits = omega (arith, weight-below caller e, ap length same, fits)

-- there is room in each machine for calls that find room on the disk
weights-below : (rs : List Recorded) → weight_of_all rs ≤ length (all_framed (map payload_of rs))
weights-below [] = omega arith
weights-below (r ∷ rs) =
    omega (arith, sum_by-cons (λ (q : Recorded). stored_weight q.event) r rs, weight-below r.caller r.event, weights-below rs, length-append (framed (payload_of r)) (all_framed (map payload_of rs)))

pub room-for-all : (calls : List Recorded) (ps : List Bytes) (gate old : ℕ) → ps ≡ map payload_of calls → old ≤ gate → gate + length (all_framed ps) < 2 ^ 30 → old + weight_of_all calls ≤ 4000000000
room-for-all calls ps gate old are young short = omega (arith, weights-below calls, ap (λ qs. length (all_framed qs)) are, young, short)

-- calls of what is there
pub known-payable : (starts : List ℕ) (run : Run) (rs : List Recorded) → AreKnown starts run rs → AllByRecursion IsPayable rs
known-payable starts run [] known = tt
known-payable starts run (r ∷ rs) known = (((and_parts (has_names starts run r.event) (is_shallow r.event) known.0).1, known.1), known-payable starts (called starts run r) rs known.2)

pub known-calls : (starts : List ℕ) (run : Run) (rs : List Recorded) → AreKnown starts run rs → AllByRecursion HasPayload rs → AreCalls starts run rs
known-calls starts run [] known pay = tt
known-calls starts run (r ∷ rs) known pay = (known.0, pay.0, known-calls starts (called starts run r) rs known.2 pay.1)

-- records more, on the disk and in the run
module _ {D : Type 0} {content : D → List ℕ} {may_leave : D → List ℕ → Type 0} {counts : List ℕ} {old : StoreState D} {rs : List Recorded} (store : IsStore content may_leave counts old rs) (new : StoreState D) where
  pub all-steps : (qs : List Recorded) (group : List Bytes) → AreCalls old.held.starts old.held.run qs → group ≡ map payload_of qs
      → new.held ≡ record old.held { run = fold (called old.held.starts) old.held.run qs } → IsAtRest content may_leave new.disk (map payload_of rs ++ group) new.gate
      → new.gate ≡ old.gate + length (all_framed group) → old.gate + length (all_framed group) < 2 ^ 30 → oldest new.held.run.cases ≤ oldest old.held.run.cases + weight_of_all qs
      → IsStore content may_leave counts new (rs ++ qs)
  all-steps qs group calls are made at_rest next short older = record {
    rest = subst (λ ps. IsAtRest content may_leave new.disk ps new.gate) (ap (λ ps. map payload_of rs ++ ps) are ∙ sym (map-append payload_of rs qs)) at_rest;
    fold = folds-more counts old.held new.held rs qs store.fold calls made;
    short = omega (arith, next, short);
    young = omega (arith, store.young, next, older, weights-below qs, ap (λ ps. length (all_framed ps)) are);
  }

  pub one-step : (r : Recorded) (p : Bytes) → IsTaken old.held.starts old.held.run p r → new.held ≡ record old.held { run = called old.held.starts old.held.run r }
      → IsAtRest content may_leave new.disk (map payload_of rs ++ p ∷ []) new.gate → new.gate ≡ old.gate + (5 + length p) → old.gate + (6 + length p) ≤ 2 ^ 30
      → oldest new.held.run.cases ≤ oldest old.held.run.cases + stored_weight r.event → IsStore content may_leave counts new (rs ++ r ∷ [])
  one-step r p taken made at_rest next fits older =
      let size : length (all_framed (p ∷ [])) ≡ 5 + length p = omega (arith, length-append (framed p) []) in
      all-steps (r ∷ []) (p ∷ []) (taken.1, own-payload p r taken.0, tt) (ap (λ q. q ∷ []) (sym taken.0.same)) made at_rest (omega (arith, next, size)) (omega (arith, fits, size))
      (omega (arith, older, sum_by-cons (λ (q : Recorded). stored_weight q.event) r []))

-- a gate that is put on a short disk
gate-put : (c : List ℕ) → (frames (with_gate c) ≡ frames c) × (length c ≤ length (with_gate c)) × (with_gate (with_gate c) ≡ with_gate c)
gate-put [] = (refl, omega arith, refl)
gate-put (b ∷ []) = (refl, omega arith, refl)
gate-put (b ∷ d ∷ rest) = (refl, omega arith, refl)

pub gate-there : (c image : List ℕ) → image ≡ with_gate c → with_gate image ≡ image
gate-there c image is = ap with_gate is ∙ (gate-put c).2 ∙ sym is

-- what a fault of an image says of the disk that it was read from
pub says : {D : Type 0} (counts c image : List ℕ) (e : ImageFault) (disk : D) → image ≡ with_gate c → length image ≤ 2 ^ 30 → TellsDamage counts image e → Says counts c (refused e disk)
says counts c image fault.Disk disk is within told = tt
says counts c image fault.TooLong disk is within told = absurd told
says counts c image (fault.Damaged place) disk is within told = (
  omega (arith, (gate-put c).1, ap length is, within),
  subst (λ f. IsDamagedFrom (starts_of counts) (fresh counts) f place) (ap frames is ∙ (gate-put c).0) told,
)
says counts c image fault.NoMemory disk is within told = omega (arith, (gate-put c).1, ap length is, within)

-- an opened store
module _ {D : Type 0} (content : D → List ℕ) (may_leave : D → List ℕ → Type 0) (counts : List ℕ) where
  pub opens : (old new : D) (image : List ℕ) (held : Held) (gate : ℕ) → IsSettled content may_leave new image → image ≡ with_gate (content old) → length image ≤ 2 ^ 30
      → (records : List Recorded) × IsFoldOf counts held records × EndsAt image (map payload_of records) gate → oldest held.run.cases ≤ gate
      → Opens content may_leave counts (content old) (record { disk = new; gate = gate; held = held; is_broken = false })
  opens old new image held gate settled is within (records, folded, ends) young =
      let ps : List Bytes = map payload_of records in
      let list : frames image ≡ frames_of 0 ps = ap frames ends.bytes ∙ frames_at ps ends.gate ends.behind ends.shut ends.short in
      let long : length image ≡ length (all_framed ps) + ℕ.suc (length ends.behind) = ap length ends.bytes ∙ length-append (all_framed ps) (ends.gate ∷ ends.behind) in (
        records,
        sym (ap frames is ∙ (gate-put (content old)).0) ∙ list,
        record {
          rest = record {
            ends = subst (λ b. EndsAt b ps gate) (sym settled.gives) ends;
            durable = subst (λ b. Only b (may_leave new)) (sym settled.gives) settled.leaves;
          };
          fold = folded;
          short = omega (arith, ends.stands, long, within);
          young = young;
        },
      )

-- what did not come to the disk
pub stays : {D : Type 0} {content : D → List ℕ} {may_leave : D → List ℕ → Type 0} {counts : List ℕ} {store : StoreState D} {records : List Recorded} (moment : D → ℕ) (left_since : D → ℕ → List ℕ → Type 0)
    (qs : List Bytes) → IsStore content may_leave counts store records → ((c : List ℕ) → left_since store.disk (moment store.disk) c → may_leave store.disk c)
    → LeavesOnly moment left_since store.disk store.disk (HasNoneOrAll (map payload_of records) qs)
stays {store = store} {records = records} moment left_since qs is only_now =
    let e = is.rest.ends in
    let ps = map payload_of records in
    started moment left_since store.disk (HasNoneOrAll ps qs) (λ c left. inl (ap frames (is.rest.durable c (only_now c left) ∙ e.bytes) ∙ frames_at ps e.gate e.behind e.shut e.short))
