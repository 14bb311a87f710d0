-- The case machine: what each event does to a case, and what the case answers.
use Rattle.std.specs.{Prelude.{ℕ, Bool, true, false, ◌&&◌, ◌||◌, not, ◌==◌, nat_lt, List, [], ◌∷◌, ◌++◌, map, find, Result, Ok, Err, Option, Some, None, option_map, if◌then◌else◌}, Option.option_or}
use Rattle.case_core.specs.{CaseModel.{CaseModel, LiveModel, created_on, state_of, value_now, replay_of_case, on_schema, is_finished}, declared.events.Event.Event, declared.replies.Reply.Reply}
use Rattle.case_writes.specs.Writes.{wrong_elements, by_element}
use Rattle.case_core.specs.declared.events.Event.TheVariants as event
use Rattle.case_core.specs.declared.replies.Reply.TheVariants as reply
use Rattle.wsm_lists.specs.{Values.Written, declared.values.Value.Value}
use Rattle.wsm_schema.specs.{Flat.{flat_of, card_at, loop_nodes}, Kinds.is_loop_end, Marks.is_start_of, Replay.{is_in_state, fits_choice, Outcome, whole, fails}, Trail.{TrailModel, pushed, cut_by, is_one_of}, declared.cards.Card.Card}
use Rattle.wsm_schema.specs.{declared.entries.Entry.Entry, SchemaModel.SchemaModel}
use Rattle.wsm_schema.specs.declared.entries.Entry.TheVariants as entry
use Rattle.wsm_schema.specs.declared.states.State.TheVariants as state
use Rattle.wsm_foot.specs.{Foot.least_overlap, declared.names.Name.Name}
use Rattle.wsm_ops.specs.declared.operations.Op.{Op}
use Rattle.wsm_sound.specs.{Faults.changed_by, VersionModel.VersionModel, Versions.ops_after, declared.faults.Fault.Fault}
use Rattle.wsm_trail.specs.{Withdrawn.withdrawn, EntryAt.entry_at}

abbrev pub when_reply : Bool → Reply → Option Reply
when_reply test r = if test then Some r else None

-- a refusal changes nothing
abbrev pub or_reply : {S : Type 0} → Option Reply → S → S × Reply → S × Reply
or_reply None s step = step
or_reply (Some r) s step = (s, r)

abbrev pub with_trail : LiveModel → TrailModel → LiveModel
with_trail l t = record l { trail = t }

-- everybody may work on a node with role 0, and who has its role on another
abbrev pub may_work : ℕ → List ℕ → Bool
may_work role roles = role == 0 || is_one_of role roles

-- who started a node last
abbrev pub user_of : Option (ℕ × Entry) → ℕ
user_of None = 0
user_of (Some e) = by e.1
  where
    by : Entry → ℕ
    by (entry.Start node user reads) = user
    by _ = 0

abbrev pub holder_of : LiveModel → ℕ → ℕ
holder_of l n = user_of (find (λ e. is_start_of n e.1) l.trail.entries)

-- the values that a start reads
abbrev pub reads_now : LiveModel → Card → List (ℕ × Option Value)
reads_now l c = map (λ r. (r.0, value_now l r.0)) c.reads

-- a loop's end with choice 1 goes on once more
abbrev pub is_one : Option ℕ → Bool
is_one None = false
is_one (Some n) = n == 1

abbrev pub repeats : Card → Option ℕ → Bool
repeats c choice = is_loop_end c.kind && is_one choice

-- the first refusal of a start, where c is the node's card
abbrev pub start_refusal : LiveModel → Card → ℕ → List ℕ → Option Reply
start_refusal l c node roles =
    option_or (when_reply (not (is_in_state (state_of l node) state.Activated)) (reply.NotReady (state_of l node)))
    (when_reply (not (may_work c.role roles)) (reply.NotAllowed c.role))

-- the first refusal of who has a node in hand
abbrev pub hold_refusal : LiveModel → ℕ → ℕ → Option Reply
hold_refusal l node user =
    option_or (when_reply (not (is_in_state (state_of l node) state.Running)) (reply.NotRunning (state_of l node)))
    (when_reply (not (holder_of l node == user)) (reply.NotHolder (holder_of l node)))

-- the first refusal of an end
abbrev pub wrong_reply : List ℕ → Option Reply
wrong_reply [] = None
wrong_reply (d ∷ ds) = Some (reply.WrongWrites (d ∷ ds))

abbrev pub end_refusal : LiveModel → Card → ℕ → ℕ → Written → Option ℕ → Option Reply
end_refusal l c node user writes choice =
    option_or (hold_refusal l node user)
    (option_or (wrong_reply (wrong_elements l.schema.elements c.writes writes))
    (when_reply (not (fits_choice c choice || repeats c choice)) (reply.NoBranch choice)))

abbrev pub start_entry : LiveModel → Card → ℕ → ℕ → Entry
start_entry l c node user = entry.Start node user (reads_now l c)

-- the trail of a loop that goes on: what stands in it is cut from the trail
abbrev pub repeated_trail : LiveModel → ℕ → Written → TrailModel
repeated_trail l node writes = pushed (entry.Again node writes) (cut_by (loop_nodes (flat_of l.schema).cards node) l.trail)

-- the trail after an end, whose writes are in order
abbrev pub ended_trail : LiveModel → ℕ → Written → Option ℕ → Bool → TrailModel
ended_trail l node writes choice false = pushed (entry.End node writes choice) l.trail
ended_trail l node writes choice true = repeated_trail l node writes

abbrev pub ended_reply : Bool → Reply
ended_reply repeated = if repeated then reply.Repeated else reply.Ended

-- a live case after a start and after an end, and what it answers
abbrev pub start_on : LiveModel → ℕ → ℕ → List ℕ → Option Card → LiveModel × Reply
start_on l node user roles None = (l, reply.NoNode)
start_on l node user roles (Some c) =
    or_reply (start_refusal l c node roles) l
    (with_trail l (pushed (start_entry l c node user) l.trail), reply.Started (reads_now l c))

abbrev pub end_on : LiveModel → ℕ → ℕ → Written → Option ℕ → Option Card → LiveModel × Reply
end_on l node user writes choice None = (l, reply.NoNode)
end_on l node user writes choice (Some c) =
    or_reply (end_refusal l c node user writes choice) l
    (with_trail l (ended_trail l node (by_element writes) choice (repeats c choice)), ended_reply (repeats c choice))

-- a running node is given back: its Start leaves the trail
abbrev pub withdraw_on : LiveModel → ℕ → ℕ → Option Card → LiveModel × Reply
withdraw_on l node user None = (l, reply.NoNode)
withdraw_on l node user (Some c) = or_reply (hold_refusal l node user) l (with_trail l (withdrawn node l.trail), reply.Withdrawn)

abbrev pub start_live : LiveModel → ℕ → ℕ → List ℕ → LiveModel × Reply
start_live l node user roles = start_on l node user roles (card_at node (flat_of l.schema).cards)

abbrev pub end_live : LiveModel → ℕ → ℕ → Written → Option ℕ → LiveModel × Reply
end_live l node user writes choice = end_on l node user writes choice (card_at node (flat_of l.schema).cards)

abbrev pub withdraw_live : LiveModel → ℕ → ℕ → LiveModel × Reply
withdraw_live l node user = withdraw_on l node user (card_at node (flat_of l.schema).cards)

-- the first entry that a replay refuses; a trail has an entry at each position at which its replay fails
abbrev pub entry_or : Option Entry → Entry
entry_or None = entry.Wrote []
entry_or (Some e) = e

abbrev pub blocked_in : TrailModel → ℕ → Reply
blocked_in t position = reply.Blocked position (entry_or (entry_at position t.entries))

abbrev pub blocked_at : LiveModel → ℕ → Reply
blocked_at l position = blocked_in l.trail position

abbrev pub failed_at : Outcome → Option ℕ
failed_at (whole spots) = None
failed_at (fails position) = Some position

abbrev pub misfit : LiveModel → Option ℕ → Option Reply
misfit l failed = option_map (blocked_at l) failed

-- a case takes a new schema exactly where its trail replays on it
abbrev pub taken : LiveModel → LiveModel → Reply → LiveModel × Reply
taken l new r = or_reply (misfit l (failed_at (replay_of_case new))) l (new, r)

-- the same told by what the new schema is made of
abbrev pub taken_on : LiveModel → VersionModel → List Op → SchemaModel → Reply → LiveModel × Reply
taken_on l base own schema r = taken l (on_schema l base own schema) r

-- a change on its own, which leaves the base version
abbrev pub changed : LiveModel → List Op → SchemaModel → LiveModel
changed l ops schema = on_schema l l.base (l.own ++ ops) schema

abbrev pub change_with : LiveModel → List Op → Result SchemaModel Fault → LiveModel × Reply
change_with l ops (Ok schema) = taken l (changed l ops schema) reply.Changed
change_with l ops (Err fault) = (l, reply.Unsound fault)

abbrev pub change_live : LiveModel → List Op → LiveModel × Reply
change_live l ops = or_reply (when_reply (is_finished l) reply.Finished) l (change_with l ops (changed_by l.schema ops))

-- a migration, which keeps the case's own operations
abbrev pub migrated : LiveModel → VersionModel → SchemaModel → LiveModel
migrated l version schema = on_schema l version l.own schema

abbrev pub migrate_with : LiveModel → VersionModel → Result SchemaModel Fault → LiveModel × Reply
migrate_with l version (Ok schema) = taken l (migrated l version schema) (reply.Migrated version.number)
migrate_with l version (Err fault) = (l, reply.Unsound fault)

abbrev pub overlap_reply : Option Name → Option Reply
overlap_reply None = None
overlap_reply (Some name) = Some (reply.Overlap name)

-- the operations of the case and those that made the versions since its base
unfoldable pub overlap_with : LiveModel → VersionModel → Option Name
overlap_with l version = least_overlap l.own (ops_after l.base.number version)

abbrev pub migrate_refusal : LiveModel → VersionModel → Option Reply
migrate_refusal l version =
    option_or (when_reply (not (nat_lt l.base.number version.number)) (reply.NotNewer l.base.number))
    (option_or (when_reply (is_finished l) reply.Finished)
    (overlap_reply (overlap_with l version)))

abbrev pub migrate_live : LiveModel → VersionModel → LiveModel × Reply
migrate_live l version = or_reply (migrate_refusal l version) l (migrate_with l version (changed_by version.schema l.own))

-- a case after each event
abbrev pub with_live : CaseModel → LiveModel × Reply → CaseModel × Reply
with_live s step = (record { type_no = s.type_no; live = Some step.0 }, step.1)

abbrev pub create_on : CaseModel → VersionModel → CaseModel × Reply
create_on s version =
    or_reply (when_reply (not (version.type_no == s.type_no)) reply.OtherType) s (with_live s (created_on version, reply.Created))

abbrev pub migrate_on : CaseModel → LiveModel → VersionModel → CaseModel × Reply
migrate_on s l version =
    or_reply (when_reply (not (version.type_no == s.type_no)) reply.OtherType) s (with_live s (migrate_live l version))

abbrev pub event_on : CaseModel → Option LiveModel → Event → CaseModel × Reply
event_on s None (event.Create version) = create_on s version
event_on s None (event.Start node user roles) = (s, reply.NoCase)
event_on s None (event.End node user choice writes) = (s, reply.NoCase)
event_on s None (event.Withdraw node user) = (s, reply.NoCase)
event_on s None (event.Change ops) = (s, reply.NoCase)
event_on s None (event.Migrate version) = (s, reply.NoCase)
event_on s (Some l) (event.Create version) = (s, reply.Already)
event_on s (Some l) (event.Start node user roles) = with_live s (start_live l node user roles)
event_on s (Some l) (event.End node user choice writes) = with_live s (end_live l node user writes choice)
event_on s (Some l) (event.Withdraw node user) = with_live s (withdraw_live l node user)
event_on s (Some l) (event.Change ops) = with_live s (change_live l ops)
event_on s (Some l) (event.Migrate version) = migrate_on s l version

-- the state and the reply after an event
abbrev pub next_case : CaseModel → Event → CaseModel × Reply
next_case s e = event_on s s.live e

abbrev pub case_after : CaseModel → Event → CaseModel
case_after s e = (next_case s e).0

abbrev pub case_reply : CaseModel → Event → Reply
case_reply s e = (next_case s e).1
