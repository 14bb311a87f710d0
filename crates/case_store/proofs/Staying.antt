-- What is there stays there, whatever is called. So calls of which each names what is there may be made one after another.
use Rattle.case_store.proofs.Common.{[], ℕ, ◌&&◌, ◌++◌, ◌+◌, ◌-◌, ◌==◌, ◌∙◌, ◌∷◌, ◌≡◌, AllByRecursion, and_from, and_parts, ap, AreKnown, Bool, call_kind, called, CaseId, changed_at, ClosedKind, Event, false, fold, has, has_case}
use Rattle.case_store.proofs.Common.{has_names, HasNoVersion, if◌then◌else◌, is_shallow, length, length-set, List, made, nat_lt, None, on_version, Option, put_back, Recorded, refl, Run, slice_get, Some, Stored}
use Rattle.case_store.proofs.{Common.{◌≤◌, arith, suc, true, version_of, version_of_kind, zero}, Changes.changed-later}
use Rattle.std.specs.Option.{is_some}
use Rattle.case_core.specs.declared.events.Event.TheVariants as event
use Rattle.store_form.specs.declared.stored.Stored.TheVariants as stored
use Rattle.type_core.proofs.Versions.{by-event}
use Rattle.type_core.specs.{Machine.{newest_of, version_in}, declared.events.KindEvent.KindEvent}
use Rattle.type_core.specs.declared.events.KindEvent.TheVariants as kind_event
use Rattle.wsm_sound.specs.VersionModel.{VersionModel}

-- so many items as before
changed-length : {X : Type 0} (f : X → X) (i : ℕ) (xs : List X) → length (changed_at f i xs) ≡ length xs
changed-length {X = X} f i xs = go (slice_get xs i)
  where
    go : (o : Option X) → length (put_back f i xs o) ≡ length xs
    go None = refl
    go (Some x) = length-set xs i (f x)

-- an item and a version that are there stay, where there are no fewer
item-stays : {X : Type 0} (xs ys : List X) (i : ℕ) → length xs ≤ length ys → is_some (slice_get xs i) ≡ true → is_some (slice_get ys i) ≡ true
item-stays [] ys i le there = absurd cc
item-stays (x ∷ xs) [] i le there = absurd (omega (arith, le))
item-stays (x ∷ xs) (y ∷ ys) zero le there = refl
item-stays (x ∷ xs) (y ∷ ys) (suc i) le there = item-stays xs ys i (omega (arith, le)) there

versions-stay : (n : ℕ) (vs ws : List VersionModel) → length vs ≤ length ws → is_some (version_in vs n) ≡ true → is_some (version_in ws n) ≡ true
versions-stay n vs ws le there = go (n == 0) there
  where
    go : (b : Bool) → is_some (if b then None else slice_get vs (n - 1)) ≡ true → is_some (if b then None else slice_get ws (n - 1)) ≡ true
    go true there = absurd cc
    go false there = item-stays vs ws (n - 1) le there

kind-has : (caller n : ℕ) (e : KindEvent) (k : ClosedKind) → is_some (version_in k.machine.versions n) ≡ true → is_some (version_in (call_kind caller e k).machine.versions n) ≡ true
kind-has caller n e k there = versions-stay n k.machine.versions (call_kind caller e k).machine.versions (by-event k.machine (newest_of k.machine.versions) e) there

kinds-have : (caller n u t : ℕ) (e : KindEvent) (kinds : List ClosedKind) → is_some (version_of_kind n (slice_get kinds t)) ≡ true
    → is_some (version_of_kind n (slice_get (changed_at (call_kind caller e) u kinds) t)) ≡ true
kinds-have caller n zero t e [] there = there
kinds-have caller n (suc u) t e [] there = there
kinds-have caller n zero zero e (k ∷ kinds) there = kind-has caller n e k there
kinds-have caller n zero (suc t) e (k ∷ kinds) there = there
kinds-have caller n (suc u) zero e (k ∷ kinds) there = ap (λ ks. is_some (version_of_kind n (slice_get ks zero))) (changed-later (call_kind caller e) u k kinds) ∙ there
kinds-have caller n (suc u) (suc t) e (k ∷ kinds) there =
    ap (λ ks. is_some (version_of_kind n (slice_get ks (suc t)))) (changed-later (call_kind caller e) u k kinds) ∙ kinds-have caller n u t e kinds there

-- a call of a case leaves the types
version-same : (starts : List ℕ) (caller : ℕ) (c : CaseId) (make : VersionModel → Event) (o : Option VersionModel) (run : Run) → (on_version starts caller c make o run).kinds ≡ run.kinds
version-same starts caller c make None run = refl
version-same starts caller c make (Some v) run = refl

version-stays : (starts : List ℕ) (caller t n : ℕ) (e : Stored) (run : Run) → is_some (version_of run t n) ≡ true → is_some (version_of (made starts caller e run) t n) ≡ true
version-stays starts caller t n (stored.Define u s) run there = kinds-have caller n u t (kind_event.Define s) run.kinds there
version-stays starts caller t n (stored.Install u ops) run there = kinds-have caller n u t (kind_event.Install ops) run.kinds there
version-stays starts caller t n (stored.Newest u) run there = kinds-have caller n u t kind_event.Newest run.kinds there
version-stays starts caller t n (stored.Create c number) run there =
    ap (λ ks. is_some (version_of_kind n (slice_get ks t))) (version-same starts caller c event.Create (version_of run c.type_no number) run) ∙ there
version-stays starts caller t n (stored.Migrate c number) run there =
    ap (λ ks. is_some (version_of_kind n (slice_get ks t))) (version-same starts caller c event.Migrate (version_of run c.type_no number) run) ∙ there
version-stays starts caller t n (stored.Case c e) run there = there

types-stay : (starts : List ℕ) (caller : ℕ) (e : Stored) (run : Run) → length (made starts caller e run).kinds ≡ length run.kinds
types-stay starts caller (stored.Define u s) run = changed-length (call_kind caller (kind_event.Define s)) u run.kinds
types-stay starts caller (stored.Install u ops) run = changed-length (call_kind caller (kind_event.Install ops)) u run.kinds
types-stay starts caller (stored.Newest u) run = changed-length (call_kind caller kind_event.Newest) u run.kinds
types-stay starts caller (stored.Create c number) run = ap length (version-same starts caller c event.Create (version_of run c.type_no number) run)
types-stay starts caller (stored.Migrate c number) run = ap length (version-same starts caller c event.Migrate (version_of run c.type_no number) run)
types-stay starts caller (stored.Case c e) run = refl

module _ (starts : List ℕ) (run : Run) (r : Recorded) where
  number-stays : (c : CaseId) (number : ℕ) → (has_case starts c && is_some (version_of run c.type_no number)) ≡ true → (has_case starts c && is_some (version_of (called starts run r) c.type_no number)) ≡ true
  number-stays c number there =
      let parts = and_parts (has_case starts c) (is_some (version_of run c.type_no number)) there in
      and_from (has_case starts c) _ parts.0 (version-stays starts r.caller c.type_no number r.event run parts.1)

  names-stay : (e : Stored) → has_names starts run e ≡ true → has_names starts (called starts run r) e ≡ true
  names-stay (stored.Define t s) there = ap (nat_lt t) (types-stay starts r.caller r.event run) ∙ there
  names-stay (stored.Install t ops) there = ap (nat_lt t) (types-stay starts r.caller r.event run) ∙ there
  names-stay (stored.Newest t) there = ap (nat_lt t) (types-stay starts r.caller r.event run) ∙ there
  names-stay (stored.Create c number) there = number-stays c number there
  names-stay (stored.Migrate c number) there = number-stays c number there
  names-stay (stored.Case c e) there = there

  pub has-stays : (e : Stored) → has starts run e ≡ true → has starts (called starts run r) e ≡ true
  has-stays e there =
      let parts = and_parts (has_names starts run e) (is_shallow e) there in
      and_from (has_names starts (called starts run r) e) (is_shallow e) (names-stay e parts.0) parts.1

-- each of these names what is there now
abbrev pub AreThere : List ℕ → Run → List Recorded → Type 0
AreThere starts run rs = AllByRecursion (λ r. (has starts run r.event ≡ true) × HasNoVersion r.event) rs

all-stay : (starts : List ℕ) (run : Run) (r : Recorded) (rs : List Recorded) → AreThere starts run rs → AreThere starts (called starts run r) rs
all-stay starts run r [] all = tt
all-stay starts run r (q ∷ rs) all = ((has-stays starts run r q.event all.0.0, all.0.1), all-stay starts run r rs all.1)

pub known-there : (starts : List ℕ) (run : Run) (rs : List Recorded) → AreThere starts run rs → AreKnown starts run rs
known-there starts run [] all = tt
known-there starts run (r ∷ rs) all = (all.0.0, all.0.1, known-there starts (called starts run r) rs (all-stay starts run r rs all.1))

-- calls behind others
pub known-append : (starts : List ℕ) (run : Run) (rs qs : List Recorded) → AreKnown starts run rs → AreKnown starts (fold (called starts) run rs) qs → AreKnown starts run (rs ++ qs)
known-append starts run [] qs known more = more
known-append starts run (r ∷ rs) qs known more = (known.0, known.1, known-append starts (called starts run r) rs qs known.2 more)

pub known-front : (starts : List ℕ) (run : Run) (rs qs : List Recorded) → AreKnown starts run (rs ++ qs) → AreKnown starts run rs
known-front starts run [] qs known = tt
known-front starts run (r ∷ rs) qs known = (known.0, known.1, known-front starts (called starts run r) rs qs known.2)

pub known-rest : (starts : List ℕ) (run : Run) (rs qs : List Recorded) → AreKnown starts run (rs ++ qs) → AreKnown starts (fold (called starts) run rs) qs
known-rest starts run [] qs known = known
known-rest starts run (r ∷ rs) qs known = known-rest starts (called starts run r) rs qs known.2

pub all-types-stay : (starts : List ℕ) (run : Run) (rs : List Recorded) → length (fold (called starts) run rs).kinds ≡ length run.kinds
all-types-stay starts run [] = refl
all-types-stay starts run (r ∷ rs) = all-types-stay starts (called starts run r) rs ∙ types-stay starts r.caller r.event run
