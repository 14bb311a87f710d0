-- A talk behind the opening of its disk.
use Rattle.talk_server.proofs.Common.{[], ℕ, ◌∙◌, ◌∷◌, ◌≡◌, and_then, ap, Bool, Bytes, Ends, Err, HasAnswered, HasAnyAnswered, header, held, IfSome, inl, inr, IsAtRest, IsDiskFault, IsOfServer, IsOpened, IsOpening, IsOpeningFault}
use Rattle.talk_server.proofs.Common.{IsSomeAnd, LeavesOnly, List, None, Ok, opening, Option, payloads_of, refl, rest-held, said, SaysAll, SaysSome, ServeFault, server_rules, Serves, Some, subst, sym, true, UnitRules, units_in, weaker}
use Rattle.std.specs.Io.KnownBytes.{Appends}
use Rattle.adept_io.specs.Written.{AppendsPrefix}
use Rattle.talk_server.specs.declared.faults.ServeFault.TheVariants as fault
use Rattle.turn_loop.specs.{Serving.{Acknowledged, Ended, HoldsBeginningOf}, declared.faults.TalkFault.TalkFault}
use Rattle.turn_loop.specs.declared.faults.TalkFault.TheVariants as cut

pub some-and : {A : Type 0} (o : Option A) (x : A) (P : A → Type 0) → o ≡ Some x → P x → IsSomeAnd o P
some-and o x P is p = subst (λ q. IsSomeAnd q P) (sym is) p

pub if-some : {A : Type 0} (o : Option A) (P Q : A → Type 0) → ((x : A) → P x → Q x) → IfSome o P → IfSome o Q
if-some None P Q to is = is
if-some (Some x) P Q to is = to x is

pub if-any : {A : Type 0} (o : Option A) (P : A → Type 0) → ((x : A) → P x) → IfSome o P
if-any None P all = tt
if-any (Some x) P all = all x

-- a disk that was opened, and the server over it before the first item
module _ {H D : Type 0} (rules : UnitRules) (keeps : H → List Bytes → Type 0) (content : D → List ℕ) (may_leave : D → List ℕ → Type 0) (bytes : List ℕ) (mid : D) (state : H) (gate : ℕ)
    (o : IsOpened rules keeps content may_leave bytes mid state gate) where
  held-is : held (content mid) ≡ header ∷ o.units
  held-is = rest-held content may_leave mid (header ∷ o.units) gate o.rest

  pub told-again : payloads_of (opening rules bytes) ≡ Some (held (content mid))
  told-again = o.told ∙ ap Some (sym held-is)

  pub rest-again : IsAtRest content may_leave mid (held (content mid)) gate
  rest-again = subst (λ ps. IsAtRest content may_leave mid ps gate) (sym held-is) o.rest

  pub serves-first : (own : H) (item : Bytes) (is_first : Bool) → own ≡ state → item ≡ [] → is_first ≡ true → Serves keeps true (held (content mid)) [] own item is_first
  serves-first own item is_first same none first = record {
    headed = held-is ∙ ap (λ ps. header ∷ units_in ps) (sym held-is);
    keeps = subst (λ x. keeps x (units_in (held (content mid)))) (sym same) (subst (λ ps. keeps state (units_in ps)) (sym held-is) o.kept);
    begun_with = none;
    at_first = first;
  }

-- the faults of a talk that has begun are not those of its opening alone
pub no-read-fault : (e : ServeFault) {X : Type 0} → IsOpeningFault e → e ≡ fault.Talk cut.Unread → X
no-read-fault e causes is = absurd (subst IsOpeningFault is causes)

pub no-long-talk : (e : ServeFault) {X : Type 0} → IsOpeningFault e → e ≡ fault.Talk cut.TooLong → X
no-long-talk e causes is = absurd (subst IsOpeningFault is causes)

pub no-write-fault : (e : ServeFault) {X : Type 0} → IsOpeningFault e → e ≡ fault.Talk cut.Unwritten → X
no-write-fault e causes is = absurd (subst IsOpeningFault is causes)

-- the disk has failed behind the opening
pub disk-cut : (why : TalkFault) → IsDiskFault (fault.Talk why) → why ≡ cut.Disk
disk-cut cut.Disk is = refl
disk-cut cut.Unread is = absurd is
disk-cut cut.TooLong is = absurd is
disk-cut cut.Unwritten is = absurd is
disk-cut cut.NoMemory is = absurd is

module _ {D : Type 0} (rules : UnitRules) (content : D → List ℕ) (may_leave : D → List ℕ → Type 0) (moment : D → ℕ) (left_since : D → ℕ → List ℕ → Type 0) (old : D) where
  -- nothing was said where the disk was not opened
  pub unopened-ends : (new : D) (from before : Option Bytes) (e : ServeFault) → IsOpeningFault e → Ends rules content may_leave moment left_since old new from from before before (Err e)
  unopened-ends new from before fault.Unopened causes = (refl, refl)
  unopened-ends new from before fault.TooLong causes = (refl, refl)
  unopened-ends new from before (fault.Damaged place) causes = (refl, refl)
  unopened-ends new from before (fault.Talk why) causes = inl (causes, (refl, refl))

  pub opening-moments : (new : D) (talk : Option Bytes) → LeavesOnly moment left_since old new (IsOpening (may_leave old) (opening rules (content old)))
      → LeavesOnly moment left_since old new (IsOfServer rules (may_leave old) (content old) talk)
  opening-moments new talk run =
      weaker moment left_since old new (IsOpening (may_leave old) (opening rules (content old))) (IsOfServer rules (may_leave old) (content old) talk) run (λ c h. inl h)

  module _ (mid new : D) (ps : List Bytes) (gate : ℕ) (told : payloads_of (opening rules (content old)) ≡ Some ps) (rest : IsAtRest content may_leave mid ps gate)
      (opens : LeavesOnly moment left_since old mid (IsOpening (may_leave old) (opening rules (content old)))) where
    module _ (from to before after : Option Bytes) where
      pub ends-well : (done : Unit {0}) → Ended (server_rules rules) may_leave moment left_since mid new from to before after ps (Ok done) → Ends rules content may_leave moment left_since old new from to before after (Ok done)
      ends-well done ended = some-and _ ps _ told (record { disk = mid; gate = gate; rest = rest; opens = opens; ended = ended })

      pub ends-cut : (why : TalkFault) → Ended (server_rules rules) may_leave moment left_since mid new from to before after ps (Err why)
          → Ends rules content may_leave moment left_since old new from to before after (Err (fault.Talk why))
      ends-cut why ended = inr (some-and _ ps _ told (record { disk = mid; gate = gate; rest = rest; opens = opens; ended = ended }))

    pub says-all : (from before after : Option Bytes) → IfSome from (λ talk. Appends before after (said (server_rules rules) ps talk)) → IfSome from (SaysAll rules (content old) before after)
    says-all from before after says = if-some from _ _ (λ talk h. some-and _ ps _ told h) says

    pub says-some : (from before after : Option Bytes) → IfSome from (λ talk. AppendsPrefix before after (said (server_rules rules) ps talk)) → IfSome from (SaysSome rules (content old) before after)
    says-some from before after says = if-some from _ _ (λ talk h. inr (some-and _ ps _ told h)) says

    pub has-answered : (from before after : Option Bytes) (images : List ℕ → Type 0) → IfSome from (λ talk. Acknowledged (server_rules rules) images before after ps talk)
        → IfSome from (HasAnswered rules (content old) images before after)
    has-answered from before after images has = if-some from _ _ (λ talk h. some-and _ ps _ told h) has

    pub has-any-answered : (from before after : Option Bytes) (images : List ℕ → Type 0) → IfSome from (λ talk. Acknowledged (server_rules rules) images before after ps talk)
        → IfSome from (HasAnyAnswered rules (content old) images before after)
    has-any-answered from before after images has = if-some from _ _ (λ talk h. inr (some-and _ ps _ told h)) has

    pub talk-moments : (talk : Option Bytes) → LeavesOnly moment left_since mid new (HoldsBeginningOf (server_rules rules) ps talk) → LeavesOnly moment left_since old new (IsOfServer rules (may_leave old) (content old) talk)
    talk-moments talk run =
        and_then moment left_since old mid new (IsOpening (may_leave old) (opening rules (content old))) (HoldsBeginningOf (server_rules rules) ps talk) (IsOfServer rules (may_leave old) (content old) talk) opens run
        (λ c h. inl h) (λ c h. inr (some-and _ ps _ told h))
