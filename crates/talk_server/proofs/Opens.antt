-- A disk that was opened, and what it turns out to hold.
use Rattle.talk_server.proofs.Common.{[], ℕ, ◌++◌, ◌+◌, ◌^◌, ◌∙◌, ◌∷◌, ◌≡◌, ◌≤◌, ◌⊎◌, all_framed, and_then, ap, arith, Bytes, damaged_at, EndsAt, Err, framed, frames, frames_at, HasList, HasNoneOrAll, header, HoldsAsBefore, IfErr, IfOk}
use Rattle.talk_server.proofs.Common.{inl, inr, IsAtRest, IsDiskFault, IsFront, IsHeld, IsLeft, IsOpened, IsOpening, IsOpeningFault, IsSettled, LeavesOnly, length, length-append, List, Ok, Only, Opened, opened, opening, payloads_of, refl}
use Rattle.talk_server.proofs.{Common.{Result, ServeFault, subst, sym, TellsDamage, unbegun, UnitRules, unopened, weaker, with_gate}, Fronting.header-opened}
use Rattle.std.specs.Result.{IsErrAnd}
use Rattle.adept_io.specs.declared.reading.ReadRefusal.{ReadRefusal}
use Rattle.adept_io.specs.declared.reading.ReadRefusal.TheVariants as read
use Rattle.talk_server.specs.declared.faults.ServeFault.TheVariants as fault
use Rattle.talk_server.specs.declared.fronts.Front.TheVariants as front
use Rattle.turn_loop.specs.declared.faults.TalkFault.TheVariants as cut

-- what holds of each error holds of the one that is there
pub same-err : {T E : Type 0} (x : Result T E) (e : E) → IsErrAnd x (λ why. why ≡ e) → x ≡ Err e
same-err (Ok y) e is = absurd is
same-err (Err why) e is = ap (λ w. Err w) is

pub if-err : {T E : Type 0} (x : Result T E) (P Q : E → Type 0) → ((e : E) → P e → Q e) → IfErr x P → IfErr x Q
if-err (Ok y) P Q to is = tt
if-err (Err e) P Q to is = to e is

-- an image cannot be read
pub unread-damaged : (r : ReadRefusal) (place : ℕ) {X : Type 0} → unopened r ≡ fault.Damaged place → X
unread-damaged read.Failed place at = absurd cc
unread-damaged read.TooLong place at = absurd cc
unread-damaged read.NoMemory place at = absurd cc

pub unread-long : (r : ReadRefusal) → unopened r ≡ fault.TooLong → r ≡ read.TooLong
unread-long read.Failed long = absurd cc
unread-long read.TooLong long = refl
unread-long read.NoMemory long = absurd cc

pub unread-causes : (r : ReadRefusal) → IsOpeningFault (unopened r)
unread-causes read.Failed = tt
unread-causes read.TooLong = tt
unread-causes read.NoMemory = tt

pub unread-failed : (r : ReadRefusal) → IsDiskFault (unopened r) → r ≡ read.Failed
unread-failed read.Failed is = refl
unread-failed read.TooLong is = absurd is
unread-failed read.NoMemory is = absurd is

-- the header was not put on a disk
abbrev pub IsBeginning : ServeFault → Type 0
IsBeginning e = (e ≡ fault.Talk cut.NoMemory) ⊎ (e ≡ fault.Talk cut.Disk)

pub begun-damaged : (e : ServeFault) (place : ℕ) {X : Type 0} → IsBeginning e → e ≡ fault.Damaged place → X
begun-damaged e place (inl is) at = absurd cc
begun-damaged e place (inr is) at = absurd cc

pub begun-long : {T : Type 0} (x : Result T ServeFault) {X : Type 0} → IfErr x IsBeginning → x ≡ Err fault.TooLong → X
begun-long (Ok y) causes long = absurd cc
begun-long (Err e) (inl is) long = absurd cc
begun-long (Err e) (inr is) long = absurd cc

pub begun-causes : (e : ServeFault) → IsBeginning e → IsOpeningFault e
begun-causes e (inl is) = subst IsOpeningFault (sym is) tt
begun-causes e (inr is) = subst IsOpeningFault (sym is) tt

begun-failed : (e : ServeFault) → IsBeginning e → IsDiskFault e → e ≡ fault.Talk cut.Disk
begun-failed e (inl is) failed = absurd (subst IsDiskFault is failed)
begun-failed e (inr is) failed = is

pub begun-rose : {T : Type 0} (x : Result T ServeFault) (R : Type 0) → IfErr x IsBeginning → (x ≡ Err (fault.Talk cut.Disk) → R) → IfErr x (λ e. IsDiskFault e → R)
begun-rose (Ok y) R causes rose = tt
begun-rose (Err e) R causes rose = λ failed. rose (ap (λ w. Err w) (begun-failed e causes failed))

-- why records were not taken
pub taken-causes : (rules : UnitRules) (records : List ℕ) (e : ServeFault) → TellsDamage rules records e → IsOpeningFault e
taken-causes rules records (fault.Damaged place) is = tt
taken-causes rules records fault.Unopened is = tt
taken-causes rules records fault.TooLong is = tt
taken-causes rules records (fault.Talk why) is = subst IsOpeningFault (sym is) tt

pub taken-failed : (rules : UnitRules) (records : List ℕ) (e : ServeFault) {X : Type 0} → TellsDamage rules records e → IsDiskFault e → X
taken-failed rules records (fault.Damaged place) is failed = absurd failed
taken-failed rules records fault.Unopened is failed = absurd cc
taken-failed rules records fault.TooLong is failed = absurd failed
taken-failed rules records (fault.Talk why) is failed = absurd (subst IsDiskFault is failed)

pub taken-long : {T : Type 0} (rules : UnitRules) (records : List ℕ) (x : Result T ServeFault) {X : Type 0} → IfErr x (TellsDamage rules records) → x ≡ Err fault.TooLong → X
taken-long rules records (Ok y) is long = absurd cc
taken-long rules records (Err (fault.Damaged place)) is long = absurd cc
taken-long rules records (Err fault.Unopened) is long = absurd cc
taken-long rules records (Err fault.TooLong) is long = absurd cc
taken-long rules records (Err (fault.Talk why)) is long = absurd cc

-- the header's record in front
pub headed-long : (image records : List ℕ) → image ≡ framed header ++ records → length image ≡ 13 + length records
headed-long image records is = ap length is ∙ length-append (framed header) records

-- a gate that is put on a short disk changes no list
gate-frames : (c : List ℕ) → frames (with_gate c) ≡ frames c
gate-frames [] = refl
gate-frames (b ∷ []) = refl
gate-frames (b ∷ d ∷ rest) = refl

-- a disk that is damaged had a gate before it was opened
damaged-gate : (rules : UnitRules) (c : List ℕ) (place : ℕ) → opening rules c ≡ damaged_at place → with_gate c ≡ c
damaged-gate rules [] place is = absurd cc
damaged-gate rules (b ∷ []) place is = absurd cc
damaged-gate rules (b ∷ d ∷ rest) place is = refl

pub gate-again : (c : List ℕ) → with_gate (with_gate c) ≡ with_gate c
gate-again [] = refl
gate-again (b ∷ []) = refl
gate-again (b ∷ d ∷ rest) = refl

module _ {D : Type 0} (content : D → List ℕ) (may_leave : D → List ℕ → Type 0) (moment : D → ℕ) (left_since : D → ℕ → List ℕ → Type 0) (rules : UnitRules) (old mid : D) where
  abbrev pub told : Opened
  told = opening rules (content old)

  -- while the image is read
  pub read-moments : LeavesOnly moment left_since old mid (HoldsAsBefore (may_leave old)) → LeavesOnly moment left_since old mid (IsOpening (may_leave old) told)
  read-moments run = weaker moment left_since old mid (HoldsAsBefore (may_leave old)) (IsOpening (may_leave old) told) run (λ c h. inl h)

  module _ (image : List ℕ) (settled : IsSettled content may_leave mid image) (is : image ≡ with_gate (content old)) where
    -- a disk that is damaged is left as it was
    pub left-alone : (place : ℕ) → told ≡ damaged_at place → IsLeft content may_leave old mid
    left-alone place damage =
        let kept : image ≡ content old = is ∙ damaged-gate rules (content old) place damage in
        record { same = settled.gives ∙ kept; only = subst (λ b. Only b (may_leave mid)) kept settled.leaves }

    pub told-by : (o : Opened) → opened rules image ≡ o → told ≡ o
    told-by o by = ap (opened rules) (sym is) ∙ by

    -- a disk without records
    module _ (none : IsFront image front.Unbegun) where
      pub rest-empty : IsAtRest content may_leave mid [] 0
      rest-empty = record {
        ends = subst (λ b. EndsAt b [] 0) (sym settled.gives) none.0;
        durable = subst (λ b. Only b (may_leave mid)) (sym settled.gives) settled.leaves;
      }

      no-list : HasList [] (content old)
      no-list = sym (gate-frames (content old)) ∙ ap frames (sym is ∙ none.0.bytes) ∙ frames_at [] none.0.gate none.0.behind none.0.shut tt

      images : may_leave old (content old) → (c : List ℕ) → HasNoneOrAll [] (header ∷ []) c → IsOpening (may_leave old) told c
      images stays c (inl list) = inl (content old, stays, list ∙ sym no-list)
      images stays c (inr list) = inr (told-by unbegun (none.1 rules), list)

      pub begun-moments : may_leave old (content old) → (new : D) → LeavesOnly moment left_since old mid (HoldsAsBefore (may_leave old)) → LeavesOnly moment left_since mid new (HasNoneOrAll [] (header ∷ []))
          → LeavesOnly moment left_since old new (IsOpening (may_leave old) told)
      begun-moments stays new first second =
          and_then moment left_since old mid new (HoldsAsBefore (may_leave old)) (HasNoneOrAll [] (header ∷ [])) (IsOpening (may_leave old) told) first second (λ c h. inl h) (images stays)

      pub begun-opened : {H : Type 0} (keeps : H → List Bytes → Type 0) (new : D) (state : H) (gate : ℕ) → keeps state [] → IsAtRest content may_leave new (header ∷ []) gate → gate ≡ 13
          → IsOpened rules keeps content may_leave (content old) new state gate
      begun-opened keeps new state gate kept rest thirteen = record {
        units = [];
        told = ap payloads_of (told-by unbegun (none.1 rules));
        kept = kept;
        rest = rest;
        short = omega (arith, thirteen);
      }

      pub begun-open : {H : Type 0} (keeps : H → List Bytes → Type 0) (new : D) (x : Result (H × ℕ) ServeFault) → IfOk x (λ o. keeps o.0 []) → IfOk x (λ o. IsAtRest content may_leave new (header ∷ []) o.1) → IfOk x (λ o. o.1 ≡ 13)
          → IfOk x (λ o. IsOpened rules keeps content may_leave (content old) new o.0 o.1)
      begun-open keeps new (Ok o) kept rest thirteen = begun-opened keeps new o.0 o.1 kept rest thirteen
      begun-open keeps new (Err e) kept rest thirteen = tt

    -- something else
    pub other-told : IsFront image front.Other → told ≡ damaged_at 0
    other-told other = told-by (damaged_at 0) (other rules)

    -- a disk with the header
    module _ (records : List ℕ) (headed : image ≡ framed header ++ records) where
      pub taken-told : (e : ServeFault) (place : ℕ) → TellsDamage rules records e → e ≡ fault.Damaged place → told ≡ damaged_at place
      taken-told e place tells at = told-by (damaged_at place) (header-opened rules image records headed ∙ subst (TellsDamage rules records) at tells)

      pub taken-opened : {H : Type 0} (keeps : H → List Bytes → Type 0) (state : H) (gate : ℕ) → length image ≤ 2 ^ 30 → IsHeld rules keeps records state gate
          → IsOpened rules keeps content may_leave (content old) mid state gate
      taken-opened keeps state gate within held =
          let e = held.ends in
          let bytes : content mid ≡ framed header ++ records = settled.gives ∙ headed in
          record {
            units = held.units;
            told = ap payloads_of (told-by _ (header-opened rules image records headed ∙ held.told));
            kept = held.kept;
            rest = record {
              ends = subst (λ b. EndsAt b (header ∷ held.units) gate) (sym bytes) e;
              durable = subst (λ b. Only b (may_leave mid)) (sym settled.gives) settled.leaves;
            };
            short = omega (arith, within, ap length headed, ap length e.bytes, e.stands, length-append (all_framed (header ∷ held.units)) (e.gate ∷ e.behind));
          }

      pub taken-open : {H : Type 0} (keeps : H → List Bytes → Type 0) (x : Result (H × ℕ) ServeFault) → length image ≤ 2 ^ 30 → IfOk x (λ o. IsHeld rules keeps records o.0 o.1)
          → IfOk x (λ o. IsOpened rules keeps content may_leave (content old) mid o.0 o.1)
      taken-open keeps (Ok o) within held = taken-opened keeps o.0 o.1 within held
      taken-open keeps (Err e) within held = tt
