-- What is known of an act is known of its call, whoever makes it.
use Rattle.std.proofs.Common.{◌≡◌, ℕ, ◌<◌, ◌≤◌, List, [], Option, Some, None, refl, sym, ◌∙◌, subst, arith}
use Rattle.std.specs.Prelude.{option_map}
use Rattle.case_core.specs.{Ages.weight, declared.events.Event.Event}
use Rattle.case_core.specs.declared.events.Event.TheVariants as event
use Rattle.file_facts.proofs.Cases.{declared-typed}
use Rattle.file_facts.specs.Facts.{IsDeclared, IsKnownAct, HasType}
use Rattle.file_model.specs.{Written.act_writes, declared.files.Act.Act, declared.files.CaseDecl.CaseDecl}
use Rattle.file_model.specs.declared.files.Act.TheVariants as act
use Rattle.line_calls.specs.{Calls.{asked_among, call_of, call_weight, case_event_in, cells_in, cells_of, kind_event_in, version_event}, Known.{IsKnownCall, IsPlain, call_writes}, declared.calls.Call.Call, declared.calls.Told.Told}
use Rattle.line_calls.specs.declared.calls.Call.TheVariants as call
use Rattle.line_calls.specs.declared.calls.Told.TheVariants as told
use Rattle.type_core.specs.Machine.{weight as kind_weight}
use Rattle.type_core.specs.declared.events.KindEvent.{KindEvent}
use Rattle.type_core.specs.declared.events.KindEvent.TheVariants as kind_event
use Rattle.wsm_lists.specs.Rows.{AllRows}
use Rattle.wsm_sound.specs.VersionModel.{VersionModel}

-- ---- by the act
module _ (a : ℕ) (roles : List ℕ) where
  -- who makes it decides neither its cells nor the event of a type
  pub cells-same : (x : Act) → cells_in (call_of a roles x) ≡ cells_of x
  cells-same (act.Create c) = refl
  cells-same (act.Start c node) = refl
  cells-same (act.Withdraw c node) = refl
  cells-same (act.End c node choice writes) = refl
  cells-same (act.Change c ops) = refl
  cells-same (act.Install t ops) = refl
  cells-same (act.Migrate t many) = refl

  pub kind_event-same : (x : Act) → kind_event_in (call_of a roles x) ≡ kind_event_in (call_of 0 [] x)
  kind_event-same (act.Create c) = refl
  kind_event-same (act.Start c node) = refl
  kind_event-same (act.Withdraw c node) = refl
  kind_event-same (act.End c node choice writes) = refl
  kind_event-same (act.Change c ops) = refl
  kind_event-same (act.Install t ops) = refl
  kind_event-same (act.Migrate t many) = refl

  -- it goes to what was declared
  pub known-call : (types : ℕ) (cases : List CaseDecl) (x : Act) → IsKnownAct types cases x → IsKnownCall types cases (call_of a roles x)
  known-call types cases (act.Create c) known = (refl, known)
  known-call types cases (act.Start c node) known = known
  known-call types cases (act.Withdraw c node) known = known
  known-call types cases (act.End c node choice writes) known = known
  known-call types cases (act.Change c ops) known = known.0
  known-call types cases (act.Install t ops) known = known.0
  known-call types cases (act.Migrate t many) known = known

  -- it ages no machine by more than its operations may be
  pub known-light : (types : ℕ) (cases : List CaseDecl) (x : Act) → IsKnownAct types cases x → call_weight (call_of a roles x) ≤ 768
  known-light types cases (act.Create c) known = omega arith
  known-light types cases (act.Start c node) known = omega arith
  known-light types cases (act.Withdraw c node) known = omega arith
  known-light types cases (act.End c node choice writes) known = omega arith
  known-light types cases (act.Change c ops) known = omega (arith, known.1)
  known-light types cases (act.Install t ops) known = omega (arith, known.1)
  known-light types cases (act.Migrate t many) known = omega arith

  pub plain-call : (x : Act) → IsPlain (call_of a roles x)
  plain-call (act.Create c) = tt
  plain-call (act.Start c node) = refl
  plain-call (act.Withdraw c node) = refl
  plain-call (act.End c node choice writes) = refl
  plain-call (act.Change c ops) = refl
  plain-call (act.Install t ops) = refl
  plain-call (act.Migrate t many) = tt

  -- it writes what its line writes
  pub writes-same : (x : Act) → call_writes (call_of a roles x) ≡ act_writes x
  writes-same (act.Create c) = refl
  writes-same (act.Start c node) = refl
  writes-same (act.Withdraw c node) = refl
  writes-same (act.End c node choice writes) = refl
  writes-same (act.Change c ops) = refl
  writes-same (act.Install t ops) = refl
  writes-same (act.Migrate t many) = refl

-- ---- by the call
-- the type that is asked is one of so many
pub asked-known : (types : ℕ) (cases : List CaseDecl) → AllRows (HasType types) cases → (k : Call) (t : ℕ) → IsKnownCall types cases k → asked_among (cells_in k) ≡ Some t → t < types
asked-known types cases typed (call.Kind u e) t known is = absurd (cc (is))
asked-known types cases typed (call.Case c e) t known is = absurd (cc (is))
asked-known types cases typed (call.Newest u (told.Create c)) t known is = let same : u ≡ t = cc is in subst (λ n. n < types) (sym known.0 ∙ same) (declared-typed types cases c typed known.1)
asked-known types cases typed (call.Newest u (told.Migrate many)) t known is = let same : u ≡ t = cc is in subst (λ n. n < types) same known.0

-- its events weigh what it weighs at most
pub kind-light : (k : Call) (e : KindEvent) → kind_event_in k ≡ Some e → kind_weight e ≤ call_weight k
kind-light (call.Kind t f) e is = let same : f ≡ e = cc is in rw (← same) (omega arith)
kind-light (call.Case c f) e is = absurd (cc (is))
kind-light (call.Newest t w) e is = let same : kind_event.Newest ≡ e = cc is in rw (← same) (omega arith)

told-light : (w : Told) (o : Option VersionModel) (e : Event) → option_map (version_event w) o ≡ Some e → weight e ≤ 0
told-light w None e is = absurd (cc (is))
told-light (told.Create c) (Some v) e is = let same : event.Create v ≡ e = cc is in rw (← same) (omega arith)
told-light (told.Migrate many) (Some v) e is = let same : event.Migrate v ≡ e = cc is in rw (← same) (omega arith)

pub case-light : (o : Option VersionModel) (k : Call) (e : Event) → case_event_in o k ≡ Some e → weight e ≤ call_weight k
case-light o (call.Kind t f) e is = absurd (cc (is))
case-light o (call.Case c f) e is = let same : f ≡ e = cc is in rw (← same) (omega arith)
case-light o (call.Newest t w) e is = told-light w o e is
