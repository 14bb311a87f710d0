-- The serial run of a file that can be worked is a legal run: its lines, one after another in file order, are one way in which the actors' turns can fall.
use Rattle.legal_run.proofs.Common.{[], ℕ, ◌++◌, ◌+◌, ◌<◌, ◌==◌, ◌∙◌, ◌∷◌, ◌≡◌, All-from_recursion, all-rows-map, AllRows, ap, append_assoc, AreCallsOf, AreCallsOfLines, AreOfActors, AreTraces, arith, Bool, Call, call_of, calls_of}
use Rattle.legal_run.proofs.Common.{calls_of-append, calls_of_case, calls_of_kind, CaseDecl, ClosedCase, ClosedKind, defined, done_by, drop, Entry, entry, eqb-true, false, File, filter-append, flat_map, fold, HasCalls, if◌then◌else◌}
use Rattle.legal_run.proofs.Common.{IsActor, IsByPhases, IsKnown, IsLegal, IsLegalCase, IsLegalKind, IsSound, IsWorkable, KindEntry, kinds_from, known-call, Legal, length, length-map, Line, lines_of, List, map, ne_eqb, not_created}
use Rattle.legal_run.proofs.Common.{not_defined, opening, option_map, phase_worked, program, refl, roles_of, row-at, rows-append, Run, serial, slice_get, slice_get-map, Some, sound-defined, state_after, subst, suc, sym, take}
use Rattle.legal_run.proofs.{Common.{take-append-drop, take-map, Trace, true, uncalled, worked, zero}, LineByLine.{IsRunning, has-called, running-still}, Made.{Cells, HasGone, HasMade, Takes, case_cells, gone-none, gone-then, id_in}}
use Rattle.legal_run.proofs.{Made.{kind_cells, takes-legal, takes-then}, OnMachines.{IsOn, all-by_one, caller_of, calls_by, on-append, on-by, on-callers, on-case, on-kind}, Places.{some_one, there-as}}
use Rattle.std.proofs.lemmas.List.Concat.{flat_map-append}
use Rattle.file_model.specs.declared.files.TypeDecl.{TypeDecl}
use Rattle.type_core.specs.declared.events.KindEvent.TheVariants as event

-- the calls of an actor's line come first among the actor's own, and are no other actor's
with-line : (f : File) (l : Line) (lines : List Line) (calls rest : List Call) → AreCallsOf (roles_of f l.actor) l.actor l.act calls → AllRows (λ c. caller_of c ≡ l.actor) calls → (a : ℕ)
    → AreCallsOfLines (roles_of f a) a (lines_of a lines) (calls_by a rest) → AreCallsOfLines (roles_of f a) a (lines_of a (l ∷ lines)) (calls_by a (calls ++ rest))
with-line f l lines calls rest here own a fit =
    subst (AreCallsOfLines (roles_of f a) a (lines_of a (l ∷ lines))) (sym (filter-append (λ c. caller_of c == a) calls rest ∙ ap (λ cs. cs ++ calls_by a rest) (all-by_one caller_of l.actor a calls own))) (by (l.actor == a) refl)
  where
    by : (b : Bool) → (l.actor == a) ≡ b → AreCallsOfLines (roles_of f a) a (if b then l ∷ lines_of a lines else lines_of a lines) ((if b then calls else []) ++ calls_by a rest)
    by true same = (calls, calls_by a rest, refl, subst (λ n. AreCallsOf (roles_of f n) n l.act calls) (eqb-true l.actor a same) here, fit)
    by false other = fit

-- ---- a phase, and all phases
-- the lines of a phase have made these calls: each actor those of its own lines, in order
record HasWorkedPhase (f : File) (lines : List Line) (r s : Run) : Type 0 where
  calls : List Call
  fit : (a : ℕ) → AreCallsOfLines (roles_of f a) a (lines_of a lines) (calls_by a calls)
  actors : AllRows (λ c. IsActor f (caller_of c)) calls
  gone : HasGone f calls r s

worked-phase : (f : File) → IsWorkable f → (lines : List Line) (r : Run) → IsRunning f r → AllRows (IsKnown (length f.types) (length f.actors) f.cases) lines → HasWorkedPhase f lines r (phase_worked f r lines)
worked-phase f workable [] r running known = record { calls = []; fit = λ a. refl; actors = tt; gone = gone-none f r }
worked-phase f workable (l ∷ lines) r running (k, known) =
    let (calls, (fit, own, gone)) = has-called f workable l.actor (call_of l.actor (roles_of f l.actor) l.act) r running (known-call l.actor (roles_of f l.actor) (length f.types) f.cases l.act k.act) in
    let between = worked f r l in
    let rest = worked-phase f workable lines between (running-still f calls r between gone running) known in
    record {
      calls = calls ++ rest.calls;
      fit = λ a. with-line f l lines calls rest.calls fit own a (rest.fit a);
      actors = rows-append (λ c. IsActor f (caller_of c)) calls rest.calls
          (all-rows-map (λ c. caller_of c ≡ l.actor) (λ c. IsActor f (caller_of c)) (λ c is. subst (IsActor f) (sym is) (k.from_1, k.actor)) calls own) rest.actors;
      gone = gone-then f calls rest.calls r between (phase_worked f between lines) gone rest.gone;
    }

-- what each actor did in a phase
abbrev trace_in : List Call → Trace
trace_in calls a = calls_by a calls

-- the calls of some phases, one after another
abbrev all_calls : List (List Call) → List Call
all_calls logs = flat_map (λ calls. calls) logs

-- all phases have made their calls
record HaveWorked (f : File) (phases : List (List Line)) (r s : Run) : Type 0 where
  logs : List (List Call)
  fit : AreTraces f phases (map trace_in logs)
  actors : AllRows (λ c. IsActor f (caller_of c)) (all_calls logs)
  gone : HasGone f (all_calls logs) r s

worked-phases : (f : File) → IsWorkable f → (phases : List (List Line)) (r : Run) → IsRunning f r → AllRows (AllRows (IsKnown (length f.types) (length f.actors) f.cases)) phases
    → HaveWorked f phases r (fold (phase_worked f) r phases)
worked-phases f workable [] r running known = record { logs = []; fit = tt; actors = tt; gone = gone-none f r }
worked-phases f workable (lines ∷ phases) r running (k, known) =
    let first = worked-phase f workable lines r running k in
    let between = phase_worked f r lines in
    let rest = worked-phases f workable phases between (running-still f first.calls r between first.gone running) known in
    record {
      logs = first.calls ∷ rest.logs;
      fit = ((λ a is. first.fit a), rest.fit);
      actors = rows-append (λ c. IsActor f (caller_of c)) first.calls (all_calls rest.logs) first.actors rest.actors;
      gone = gone-then f first.calls (all_calls rest.logs) r between (fold (phase_worked f) between phases) first.gone rest.gone;
    }

-- ---- a journal by phases
done-in : (a : ℕ) (logs : List (List Call)) → done_by a (map trace_in logs) ≡ calls_by a (all_calls logs)
done-in a [] = refl
done-in a (calls ∷ logs) = ap (λ cs. calls_by a calls ++ cs) (done-in a logs) ∙ sym (filter-append (λ c. caller_of c == a) calls (all_calls logs))

-- One machine: its journal has the calls of the phases behind some entries of no actor's.
module _ {M E R W S X : Type 0} (m : Cells M E R W S X) (f : File) (logs : List (List Call)) (on : List Call → List (Entry M E R W S)) (is : IsOn on) (x : X) (none : (a : ℕ) → IsActor f a → calls_of a (m.journal x) ≡ []) where
  has-calls : (part : List (List Call)) → HasCalls f on (map trace_in part) (m.journal x ++ on (all_calls part))
  has-calls part a actor = rw (calls_of-append a (m.journal x) (on (all_calls part)), none a actor, on-by on is a (all_calls part), done-in a part) refl

  by-phases : (y : X) → m.journal y ≡ m.journal x ++ on (all_calls logs) → IsByPhases f on (map trace_in logs) (m.journal y)
  by-phases y grown = record {
    whole = subst (HasCalls f on (map trace_in logs)) (sym grown) (has-calls logs);
    behind = λ k le. (
      m.journal x ++ on (all_calls (take k logs)),
      (
        on (all_calls (drop k logs)),
        append_assoc (m.journal x) (on (all_calls (take k logs))) (on (all_calls (drop k logs)))
            ∙ rw (grown, ← on-append on is (all_calls (take k logs)) (all_calls (drop k logs)), ← flat_map-append (λ (calls : List Call). calls) (take k logs) (drop k logs), take-append-drop k logs) refl,
      ),
      rw (take-map trace_in k logs) (has-calls (take k logs)),
    );
  }

  -- so it is legal from a state from which it was
  legal-end : (s : S) (y : X) → AllRows (λ c. IsActor f (caller_of c)) (all_calls logs) → Takes m.after m.reply s (m.journal x) (m.machine x) → HasMade m (on (all_calls logs)) x y
      → IsLegal m.after m.reply s (m.journal y) × (m.machine y ≡ state_after m.after s (m.journal y)) × AreOfActors f (on (all_calls logs)) × IsByPhases f on (map trace_in logs) (m.journal y)
  legal-end s y actors opened made =
      let takes = takes-then m.after m.reply s (m.machine x) (m.machine y) (m.journal x) (on (all_calls logs)) opened made.takes in
      let (legal, state) = takes-legal m.after m.reply s (m.machine y) (m.journal y) (rw (made.grown) takes) in
      (legal, state, All-from_recursion (λ e. IsActor f e.caller) (on (all_calls logs)) (on-callers on is (IsActor f) (all_calls logs) actors), by-phases y made.grown)

-- ---- the beginning
kinds-at : (n : ℕ) (ds : List TypeDecl) (i : ℕ) → slice_get (kinds_from n ds) i ≡ option_map (defined (n + i)) (slice_get ds i)
kinds-at n [] i = refl
kinds-at n (d ∷ ds) zero = ap (λ m. Some (defined m d)) (omega arith)
kinds-at n (d ∷ ds) (suc i) = kinds-at (n + 1) ds i ∙ ap (λ m. option_map (defined m) (slice_get ds i)) (omega arith)

length-kinds : (n : ℕ) (ds : List TypeDecl) → length (kinds_from n ds) ≡ length ds
length-kinds n [] = refl
length-kinds n (d ∷ ds) = ap suc (length-kinds (n + 1) ds)

defined-at : (f : File) (t : ℕ) (d : TypeDecl) → slice_get f.types t ≡ Some d → slice_get (opening f).kinds t ≡ Some (defined t d)
defined-at f t d at = kinds-at 0 f.types t ∙ (ap (option_map (defined (0 + t))) at ∙ ap (λ n. Some (defined n d)) (omega arith))

opening-runs : (f : File) → IsWorkable f → IsRunning f (opening f)
opening-runs f workable = record {
  types = length-kinds 0 f.types;
  cases = length-map f.cases uncalled;
  versions = λ t k at.
      let (d, at_d) = there-as (opening f).kinds f.types t k (sym (length-kinds 0 f.types)) at in
      let told = sound-defined t d.schema (row-at IsSound f.types t d workable.sound at_d) in
      subst (λ (x : ClosedKind). 0 < length x.machine.versions) (some_one (defined-at f t d at_d) at) (subst (λ m. 0 < length m.versions) (sym (ap (λ step. step.0) told)) (omega arith));
}

-- ---- the end
module _ (f : File) (logs : List (List Call)) (actors : AllRows (λ c. IsActor f (caller_of c)) (all_calls logs)) (gone : HasGone f (all_calls logs) (opening f) (serial f)) where
  -- the entry of the program is none of an actor's
  not_program : (e : KindEntry) → e.caller ≡ program → (a : ℕ) → IsActor f a → calls_of a (e ∷ []) ≡ []
  not_program e is a actor = ap (λ (b : Bool). if b then e ∷ [] else []) (ne_eqb e.caller a (λ same. omega (arith, actor.0)))

  serial-kind : (t : ℕ) (d : TypeDecl) (k : ClosedKind) → IsSound d → slice_get f.types t ≡ Some d → slice_get (serial f).kinds t ≡ Some k → IsLegalKind f (map trace_in logs) t d k
  serial-kind t d k sound at_d at_k =
      let made = gone.kinds.each t (defined t d) k (defined-at f t d at_d) at_k in
      let (legal, machine, callers, calls) = legal-end kind_cells f logs (calls_of_kind t) (on-kind t) (defined t d) (not_program (entry program (event.Define d.schema) _) refl) (not_defined t) k actors (refl, refl) made in
      record {
        legal = legal;
        machine = machine;
        others = calls_of_kind t (all_calls logs);
        defined = made.grown ∙ ap (λ step. entry program (event.Define d.schema) step.1 ∷ calls_of_kind t (all_calls logs)) (sound-defined t d.schema sound);
        callers = callers;
        calls = calls;
      }

  serial-case : (i : ℕ) (d : CaseDecl) (c : ClosedCase) → slice_get f.cases i ≡ Some d → slice_get (serial f).cases i ≡ Some c → IsLegalCase f (map trace_in logs) d c
  serial-case i d c at_d at_c =
      let made = gone.cases.each i (uncalled d) c (slice_get-map uncalled f.cases i ∙ ap (option_map uncalled) at_d) at_c in
      let own = subst (λ o. HasMade (case_cells f) (calls_of_case (id_in o) (all_calls logs)) (uncalled d) c) at_d made in
      let (legal, machine, callers, calls) = legal-end (case_cells f) f logs (calls_of_case d.id) (on-case d.id) (uncalled d) (λ a actor. refl) (not_created d.id.type_no) c actors refl own in
      record { legal = legal; machine = machine; callers = subst (AreOfActors f) (sym own.grown) callers; calls = calls }

pub serial-legal : (f : File) → IsWorkable f → Legal f (serial f)
serial-legal f workable =
    let w = worked-phases f workable f.phases (opening f) (opening-runs f workable) workable.known in
    record {
      traces = map trace_in w.logs;
      of_lines = w.fit;
      as_many_kinds = w.gone.kinds.many ∙ length-kinds 0 f.types;
      as_many_cases = w.gone.cases.many ∙ length-map f.cases uncalled;
      kinds = λ t d k at_d at_k. serial-kind f w.logs w.actors w.gone t d k (row-at IsSound f.types t d workable.sound at_d) at_d at_k;
      cases = λ i d c at_d at_c. serial-case f w.logs w.actors w.gone i d c at_d at_c;
    }
