-- A node for which a control edge signals nothing yet waits.
use Rattle.wsm_settle.proofs.Common.{[], ℕ, ◌<◌, ◌∙◌, ◌∷◌, ◌≡◌, AllOf, ap, arith, awaited, Bool, both_ways, cases_Bool, End, eq_of, false, flow, get_or, inl, inr, is_no, is_some, is_yes, lacks, length, List, list_all, map, NodeKind, None}
use Rattle.wsm_settle.proofs.Common.{Option, option_map, refl, Some, subst, suc, sym, Timed, true, zero}
use Rattle.wsm_schema.specs.declared.cards.NodeKind.TheVariants.{Start, Finish, Activity, AndSplit, AndJoin, XorSplit, XorJoin, LoopStart, LoopEnd}
use Rattle.wsm_schema.specs.declared.states.Flow.{Flow}

-- where one is missing, not all pass a test that a missing one fails
some-lack : (test : Option Flow → Bool) → test None ≡ false → (xs : List Timed) → lacks xs ≡ true → list_all test (map flow xs) ≡ false
some-lack test fails [] h = absurd (both_ways _ refl h)
some-lack test fails (None ∷ xs) h = rw fails refl
some-lack test fails (Some x ∷ xs) h = elim (cases_Bool (test (Some x.1))) [ inl passes ↦ rw passes (some-lack test fails xs h) | inr other ↦ rw other refl ]

module _ (control syncs : List Timed) (h : lacks control ≡ true) where
  -- no kind of node that waits for them is ready or skipped
  waits : (kind : NodeKind) → lacks (awaited kind control) ≡ true → eq_of kind control syncs ≡ None
  waits Start none = absurd (both_ways _ refl none)
  waits Finish none = rw (some-lack is_yes refl control h, some-lack is_no refl control h) refl
  waits Activity none = rw (some-lack is_yes refl control h, some-lack is_no refl control h) refl
  waits AndSplit none = rw (some-lack is_yes refl control h, some-lack is_no refl control h) refl
  waits AndJoin none = rw (some-lack is_yes refl control h, some-lack is_no refl control h) refl
  waits XorSplit none = rw (some-lack is_yes refl control h, some-lack is_no refl control h) refl
  waits XorJoin none = rw (some-lack is_some refl control h, some-lack is_no refl control h) refl
  waits LoopStart none = rw (some-lack is_yes refl control h, some-lack is_no refl control h) refl
  waits LoopEnd none = rw (some-lack is_yes refl control h, some-lack is_no refl control h) refl

lacks-awaited : (kind : NodeKind) (control : List Timed) → lacks (awaited kind control) ≡ true → lacks control ≡ true
lacks-awaited Start control h = absurd (both_ways _ refl h)
lacks-awaited Finish control h = h
lacks-awaited Activity control h = h
lacks-awaited AndSplit control h = h
lacks-awaited AndJoin control h = h
lacks-awaited XorSplit control h = h
lacks-awaited XorJoin control h = h
lacks-awaited LoopStart control h = h
lacks-awaited LoopEnd control h = h

-- a node is told by the signals that it waits for
awaited-eq : (kind : NodeKind) (control syncs : List Timed) → eq_of kind (awaited kind control) syncs ≡ eq_of kind control syncs
awaited-eq Start control syncs = refl
awaited-eq Finish control syncs = refl
awaited-eq Activity control syncs = refl
awaited-eq AndSplit control syncs = refl
awaited-eq AndJoin control syncs = refl
awaited-eq XorSplit control syncs = refl
awaited-eq XorJoin control syncs = refl
awaited-eq LoopStart control syncs = refl
awaited-eq LoopEnd control syncs = refl

map-awaited : (f : End → Timed) (kind : NodeKind) (ends : List End) → map f (awaited kind ends) ≡ awaited kind (map f ends)
map-awaited f Start ends = refl
map-awaited f Finish ends = refl
map-awaited f Activity ends = refl
map-awaited f AndSplit ends = refl
map-awaited f AndJoin ends = refl
map-awaited f XorSplit ends = refl
map-awaited f XorJoin ends = refl
map-awaited f LoopStart ends = refl
map-awaited f LoopEnd ends = refl

-- it waits where one of them is missing
pub awaited-none : (f : End → Timed) (kind : NodeKind) (ends : List End) (syncs : List Timed) → lacks (map f (awaited kind ends)) ≡ true → eq_of kind (map f ends) syncs ≡ None
awaited-none f kind ends syncs h =
    let missing : lacks (awaited kind (map f ends)) ≡ true = sym (ap lacks (map-awaited f kind ends)) ∙ h in
    waits (map f ends) syncs (lacks-awaited kind (map f ends) missing) kind missing

pub awaited-all : (f : End → Timed) (kind : NodeKind) (ends : List End) (control syncs : List Timed) → control ≡ map f (awaited kind ends) → eq_of kind control syncs ≡ eq_of kind (map f ends) syncs
awaited-all f kind ends control syncs is =
    ap (λ xs. eq_of kind xs syncs) (is ∙ map-awaited f kind ends) ∙ awaited-eq kind (map f ends) syncs

-- one of them is missing where the signal of one edge is
pub lacks-at : (f : End → Timed) (ends : List End) (i : ℕ) (d : End) → i < length ends → f (get_or ends i d) ≡ None → lacks (map f ends) ≡ true
lacks-at f [] i d lt none = absurd (omega (arith, lt))
lacks-at f (e ∷ es) zero d lt none = rw none refl
lacks-at f (e ∷ es) (suc i) d lt none =
    elim (cases_Bool (is_some (f e))) [
      | inl there ↦ rw there (lacks-at f es i d (omega (arith, lt)) none)
      | inr gone ↦ rw gone refl
    ]

-- what the signals are, where none is missing
pub lacks-of : {V : Type 0} (items : V → List Timed) (xs : List Timed) (o : Option V) → o ≡ None → AllOf xs (option_map items o) → lacks xs ≡ true
lacks-of items xs o none h = subst (λ p. AllOf xs (option_map items p)) none h

pub all-of : {V : Type 0} (items : V → List Timed) (xs : List Timed) (o : Option V) (v : V) → o ≡ Some v → AllOf xs (option_map items o) → items v ≡ xs
all-of items xs o v some h = subst (λ p. AllOf xs (option_map items p)) some h
