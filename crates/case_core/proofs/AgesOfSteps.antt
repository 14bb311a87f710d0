-- An event raises the age of a case by its weight at most.
use Rattle.case_core.proofs.Common.{ℕ, ◌*◌, ◌++◌, ◌+◌, ◌≡◌, ◌≤◌, age, arith, Bool, by_element, Card, card_at, CaseModel, change_live, change_with, changed_by, created_on, end_on, end_refusal, ended_reply, ended_trail, Err, Event, event_on}
use Rattle.case_core.proofs.Common.{failed_at, false, Fault, flat_of, hold_refusal, is_finished, length, length-append, List, live_age, LiveModel, migrate_live, migrate_refusal, migrate_with, migrated, misfit, next_case, None, not, Ok, Op}
use Rattle.case_core.proofs.Common.{Option, or_reply, pushed, reads_now, refl, repeats, replay_of_case, Reply, Result, SchemaModel, Some, start_entry, start_on, start_refusal, true, VersionModel, weight, when_reply, with_live, with_trail}
use Rattle.case_core.proofs.Common.{withdraw_on, withdrawn, Written}
use Rattle.std.proofs.Common.{◌==◌}
use Rattle.case_core.specs.Machine.{changed}
use Rattle.case_core.specs.declared.events.Event.TheVariants as event
use Rattle.case_core.specs.declared.replies.Reply.TheVariants as reply

abbrev older : LiveModel → LiveModel → ℕ → Type 0
older l new n = live_age (Some new) ≤ live_age (Some l) + n

-- a refusal or what follows where there is none
unless_refused : (l new : LiveModel) (r : Option Reply) (reply : Reply) (n : ℕ) → older l new n → older l (or_reply r l (new, reply)).0 n
unless_refused l new None reply n h = h
unless_refused l new (Some r) reply n h = omega arith

after_start : (l : LiveModel) (node user : ℕ) (roles : List ℕ) (o : Option Card) → older l (start_on l node user roles o).0 1
after_start l node user roles None = omega arith
after_start l node user roles (Some c) =
    unless_refused l (with_trail l (pushed (start_entry l c node user) l.trail)) (start_refusal l c node roles) (reply.Started (reads_now l c)) 1 (omega arith)

ended_next : (l : LiveModel) (node : ℕ) (writes : Written) (choice : Option ℕ) (b : Bool) → (ended_trail l node writes choice b).next ≡ l.trail.next + 1
ended_next l node writes choice true = refl
ended_next l node writes choice false = refl

after_end : (l : LiveModel) (node user : ℕ) (writes : Written) (choice : Option ℕ) (o : Option Card) → older l (end_on l node user writes choice o).0 1
after_end l node user writes choice None = omega arith
after_end l node user writes choice (Some c) =
    unless_refused l (with_trail l (ended_trail l node (by_element writes) choice (repeats c choice))) (end_refusal l c node user writes choice) (ended_reply (repeats c choice)) 1
    (rw (ended_next l node (by_element writes) choice (repeats c choice)) (omega arith))

after_withdraw : (l : LiveModel) (node user : ℕ) (o : Option Card) → older l (withdraw_on l node user o).0 0
after_withdraw l node user None = omega arith
after_withdraw l node user (Some c) = unless_refused l (with_trail l (withdrawn node l.trail)) (hold_refusal l node user) reply.Withdrawn 0 (omega arith)

change-with : (l : LiveModel) (ops : List Op) (o : Result SchemaModel Fault) → older l (change_with l ops o).0 (3 * length ops)
change-with l ops (Err fault) = omega arith
change-with l ops (Ok schema) =
    let longer : length (l.own ++ ops) ≡ length l.own + length ops = length-append l.own ops in
    unless_refused l (changed l ops schema) (misfit l (failed_at (replay_of_case (changed l ops schema)))) reply.Changed (3 * length ops) (rw longer (omega arith))

unless_before : (l : LiveModel) (r : Option Reply) (step : LiveModel × Reply) (n : ℕ) → older l step.0 n → older l (or_reply r l step).0 n
unless_before l None step n h = h
unless_before l (Some r) step n h = omega arith

after_change : (l : LiveModel) (ops : List Op) → older l (change_live l ops).0 (3 * length ops)
after_change l ops = unless_before l (when_reply (is_finished l) reply.Finished) (change_with l ops (changed_by l.schema ops)) (3 * length ops) (change-with l ops (changed_by l.schema ops))

migrate-with : (l : LiveModel) (version : VersionModel) (o : Result SchemaModel Fault) → older l (migrate_with l version o).0 0
migrate-with l version (Err fault) = omega arith
migrate-with l version (Ok schema) =
    unless_refused l (migrated l version schema) (misfit l (failed_at (replay_of_case (migrated l version schema)))) (reply.Migrated version.number) 0 (omega arith)

after_migrate : (l : LiveModel) (version : VersionModel) → older l (migrate_live l version).0 0
after_migrate l version = unless_before l (migrate_refusal l version) (migrate_with l version (changed_by version.schema l.own)) 0 (migrate-with l version (changed_by version.schema l.own))

with-live : (s : CaseModel) (l : LiveModel) (r : Option Reply) (step : LiveModel × Reply) (n : ℕ) → s.live ≡ Some l → older l step.0 n → live_age (or_reply r s (with_live s step)).0.live ≤ live_age (Some l) + n
with-live s l None step n is h = h
with-live s l (Some r) step n is h = rw is (omega arith)

pub age-next_case : (s : CaseModel) (e : Event) → age (next_case s e).0 ≤ age s + weight e
age-next_case s e = go s.live e
  where
    go : (live : Option LiveModel) (e : Event) → live_age (event_on (record { type_no = s.type_no; live = live }) live e).0.live ≤ live_age live + weight e
    go None (event.Create version) = created (not (version.type_no == s.type_no))
      where
        created : (b : Bool) →
            live_age (or_reply (when_reply b reply.OtherType) (record { type_no = s.type_no; live = None }) (with_live (record { type_no = s.type_no; live = None }) (created_on version, reply.Created))).0.live ≤ 0
        created true = omega arith
        created false = omega arith
    go None (event.Start node user roles) = omega arith
    go None (event.End node user choice writes) = omega arith
    go None (event.Withdraw node user) = omega arith
    go None (event.Change ops) = omega arith
    go None (event.Migrate version) = omega arith
    go (Some l) (event.Create version) = omega arith
    go (Some l) (event.Start node user roles) = after_start l node user roles (card_at node (flat_of l.schema).cards)
    go (Some l) (event.End node user choice writes) = after_end l node user writes choice (card_at node (flat_of l.schema).cards)
    go (Some l) (event.Withdraw node user) = after_withdraw l node user (card_at node (flat_of l.schema).cards)
    go (Some l) (event.Change ops) = after_change l ops
    go (Some l) (event.Migrate version) =
        with-live (record { type_no = s.type_no; live = Some l }) l (when_reply (not (version.type_no == s.type_no)) reply.OtherType) (migrate_live l version) 0 refl (after_migrate l version)
