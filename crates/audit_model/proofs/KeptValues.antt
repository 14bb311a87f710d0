-- A case keeps values that stand in one line, where events bring such: so do its replies.
use Rattle.std.proofs.Common.{◌≡◌, ℕ, ◌==◌, Bool, true, false, not, List, [], ◌∷◌, filter_map, fold, map, Option, Some, None, Result, Ok, Err, refl, IfSome, nat_lt}
use Rattle.audit_model.proofs.Common.{AllRows, card_at, case_after, case_reply, CaseModel, change_with, changed, changed_by, created_on, cut_by, cut_entry, end_on, end_refusal, ended_reply, ended_trail, Event, event_on, failed_at, Fault, flat_of, hold_refusal, if-either, is_finished, is_one_of, IsOneLineRead, IsOneLineValue, IsOneLineWrite, KeptCase, KeptEntry, KeptLive, KeptTrail, key_eq, key_lt, later_or, LiveModel, loop_nodes, migrate_live, rows-filter, migrate_refusal, migrate_with, migrated, misfit, Name, option_or, or_reply, overlap_reply, pushed, put_row, reads_now, repeats, replay_of_case, Reply, rows-append, SchemaModel, ShowsOneLine, start_entry, start_on, start_refusal, taken, TrailModel, Value, value_below, value_in, value_now, VersionModel, when_reply, with_live, with_trail, withdraw_on, WritesValues, Written, written_by, wrong_reply, wrote}
use Rattle.case_writes.specs.Writes.{by_element}
use Rattle.wsm_lists.specs.Keys.{first}
use Rattle.wsm_ops.specs.declared.operations.Op.{Op}
use Rattle.wsm_schema.specs.Marks.{is_start_of}
use Rattle.wsm_schema.specs.declared.cards.Card.{Card}
use Rattle.wsm_schema.specs.declared.entries.Entry.{Entry}
use Rattle.wsm_trail.specs.Withdrawn.{withdrawn}
use Rattle.case_core.specs.declared.events.Event.TheVariants as event
use Rattle.case_core.specs.declared.replies.Reply.TheVariants as reply
use Rattle.wsm_schema.specs.declared.entries.Entry.TheVariants as entry

-- ---- trails
value_in-one : (e : ℕ) (ws : Written) → AllRows IsOneLineWrite ws → IfSome (value_in e ws) IsOneLineValue
value_in-one e [] all = tt
value_in-one e (w ∷ ws) all = if-either (λ o. IfSome o IsOneLineValue) (w.0 == e) (Some w.1) (value_in e ws) (λ is. all.0) (λ not. value_in-one e ws all.1)

later-one : (a b : Option Value) → IfSome a IsOneLineValue → IfSome b IsOneLineValue → IfSome (later_or a b) IsOneLineValue
later-one None b h k = k
later-one (Some v) b h k = h

below-one : (e p : ℕ) (es : List (ℕ × Entry)) → AllRows KeptEntry es → IfSome (value_below e p es) IsOneLineValue
below-one e p [] all = tt
below-one e p (x ∷ xs) all = later-one (value_below e p xs) _ (below-one e p xs all.1)
    (if-either (λ o. IfSome o IsOneLineValue) (nat_lt x.0 p) (value_in e (written_by x.1)) None (λ is. value_in-one e (written_by x.1) all.0) (λ not. tt))

pushed-kept : (e : Entry) (t : TrailModel) → AllRows IsOneLineWrite (written_by e) → KeptTrail t → KeptTrail (pushed e t)
pushed-kept e t one kept = rows-append KeptEntry t.entries ((t.next, e) ∷ []) kept (one, tt)

wrote-kept : (p : ℕ) (ws : Written) → AllRows IsOneLineWrite ws → IfSome (wrote p ws) KeptEntry
wrote-kept p [] all = tt
wrote-kept p (w ∷ ws) all = all

cut-kept : (body : List ℕ) (p : ℕ) (e : Entry) → AllRows IsOneLineWrite (written_by e) → IfSome (cut_entry body p e) KeptEntry
cut-kept body p (entry.Start n user reads) one = if-either (λ o. IfSome o KeptEntry) (is_one_of n body) None (Some (p, entry.Start n user reads)) (λ is. tt) (λ not. one)
cut-kept body p (entry.End n writes choice) one = if-either (λ o. IfSome o KeptEntry) (is_one_of n body) (wrote p writes) (Some (p, entry.End n writes choice)) (λ is. wrote-kept p writes one) (λ not. one)
cut-kept body p (entry.Again n writes) one = if-either (λ o. IfSome o KeptEntry) (is_one_of n body) (wrote p writes) (Some (p, entry.Again n writes)) (λ is. wrote-kept p writes one) (λ not. one)
cut-kept body p (entry.Wrote writes) one = one

cuts-kept : (body : List ℕ) (es : List (ℕ × Entry)) → AllRows KeptEntry es → AllRows KeptEntry (filter_map (λ (e : ℕ × Entry). cut_entry body e.0 e.1) es)
cuts-kept body [] all = tt
cuts-kept body (e ∷ es) all = by (cut_entry body e.0 e.1) refl (cut-kept body e.0 e.1 all.0) (cuts-kept body es all.1)
  where
    by : (o : Option (ℕ × Entry)) → cut_entry body e.0 e.1 ≡ o → IfSome o KeptEntry → AllRows KeptEntry (filter_map (λ (x : ℕ × Entry). cut_entry body x.0 x.1) es) → AllRows KeptEntry (filter_map (λ (x : ℕ × Entry). cut_entry body x.0 x.1) (e ∷ es))
    by None is one more = rw is more
    by (Some x) is one more = rw is (one, more)

-- ---- writes in order
put-kept : (w : ℕ × Value) (ws : Written) → IsOneLineWrite w → AllRows IsOneLineWrite ws → AllRows IsOneLineWrite (put_row first w ws)
put-kept w [] one all = (one, tt)
put-kept w (x ∷ xs) one all =
    if-either (AllRows IsOneLineWrite) (key_lt (first x) (first w)) (x ∷ put_row first w xs) _ (λ less. (all.0, put-kept w xs one all.1))
    (λ not. if-either (AllRows IsOneLineWrite) (key_eq (first x) (first w)) (w ∷ xs) (w ∷ x ∷ xs) (λ same. (one, all.1)) (λ other. (one, all)))

sorted-kept : (ws sorted : Written) → AllRows IsOneLineWrite ws → AllRows IsOneLineWrite sorted → AllRows IsOneLineWrite (fold (λ kept w. put_row first w kept) sorted ws)
sorted-kept [] sorted all done = done
sorted-kept (w ∷ ws) sorted all done = sorted-kept ws (put_row first w sorted) all.1 (put-kept w sorted all.0 done)

-- ---- steps of a live case
abbrev GoodStep : LiveModel × Reply → Type 0
GoodStep step = KeptLive step.0 × ShowsOneLine step.1

or-kept : {X : Type 0} (Kept : X → Type 0) (o : Option Reply) (x : X) (step : X × Reply) → IfSome o ShowsOneLine → Kept x → Kept step.0 × ShowsOneLine step.1 → Kept (or_reply o x step).0 × ShowsOneLine (or_reply o x step).1
or-kept Kept None x step one kept good = good
or-kept Kept (Some r) x step one kept good = (kept, one)

when-one : (test : Bool) (r : Reply) → ShowsOneLine r → IfSome (when_reply test r) ShowsOneLine
when-one true r one = one
when-one false r one = tt

option-or-one : (a b : Option Reply) → IfSome a ShowsOneLine → IfSome b ShowsOneLine → IfSome (option_or a b) ShowsOneLine
option-or-one None b h k = k
option-or-one (Some r) b h k = h

reads-kept : (l : LiveModel) (rs : List (ℕ × Bool)) → KeptLive l → AllRows IsOneLineRead (map (λ r. (r.0, value_now l r.0)) rs)
reads-kept l [] kept = tt
reads-kept l (r ∷ rs) kept = (below-one r.0 l.trail.next l.trail.entries kept, reads-kept l rs kept)

start-good : (l : LiveModel) (node user : ℕ) (roles : List ℕ) (o : Option Card) → KeptLive l → GoodStep (start_on l node user roles o)
start-good l node user roles None kept = (kept, tt)
start-good l node user roles (Some c) kept =
    or-kept KeptLive (start_refusal l c node roles) l (with_trail l (pushed (start_entry l c node user) l.trail), reply.Started (reads_now l c)) (search (option-or-one, when-one)) kept
    (pushed-kept (start_entry l c node user) l.trail tt kept, reads-kept l c.reads kept)

wrong-one : (ds : List ℕ) → IfSome (wrong_reply ds) ShowsOneLine
wrong-one [] = tt
wrong-one (d ∷ ds) = tt

hold_refusal-one : (l : LiveModel) (node user : ℕ) → IfSome (hold_refusal l node user) ShowsOneLine
hold_refusal-one l node user = search (option-or-one, when-one)

end_refusal-one : (l : LiveModel) (c : Card) (node user : ℕ) (writes : Written) (choice : Option ℕ) → IfSome (end_refusal l c node user writes choice) ShowsOneLine
end_refusal-one l c node user writes choice = search (option-or-one, when-one, wrong-one)

ended-kept : (l : LiveModel) (node : ℕ) (writes : Written) (choice : Option ℕ) (again : Bool) → AllRows IsOneLineWrite writes → KeptLive l → KeptTrail (ended_trail l node writes choice again)
ended-kept l node writes choice false one kept = pushed-kept (entry.End node writes choice) l.trail one kept
ended-kept l node writes choice true one kept =
    let body = loop_nodes (flat_of l.schema).cards node in
    pushed-kept (entry.Again node writes) (cut_by body l.trail) one (cuts-kept body l.trail.entries kept)

ended-reply-one : (again : Bool) → ShowsOneLine (ended_reply again)
ended-reply-one true = tt
ended-reply-one false = tt

end-good : (l : LiveModel) (node user : ℕ) (writes : Written) (choice : Option ℕ) (o : Option Card) → AllRows IsOneLineWrite writes → KeptLive l → GoodStep (end_on l node user writes choice o)
end-good l node user writes choice None one kept = (kept, tt)
end-good l node user writes choice (Some c) one kept =
    or-kept KeptLive (end_refusal l c node user writes choice) l (with_trail l (ended_trail l node (by_element writes) choice (repeats c choice)), ended_reply (repeats c choice)) (end_refusal-one l c node user writes choice) kept
    (ended-kept l node (by_element writes) choice (repeats c choice) (sorted-kept writes [] one tt) kept, ended-reply-one (repeats c choice))

-- a start that is taken away takes no value away
withdraw-good : (l : LiveModel) (node user : ℕ) (o : Option Card) → KeptLive l → GoodStep (withdraw_on l node user o)
withdraw-good l node user None kept = (kept, tt)
withdraw-good l node user (Some c) kept =
    or-kept KeptLive (hold_refusal l node user) l (with_trail l (withdrawn node l.trail), reply.Withdrawn) (hold_refusal-one l node user) kept (rows-filter KeptEntry (λ e. not (is_start_of node e.1)) l.trail.entries kept, tt)

misfit-one : (l : LiveModel) (o : Option ℕ) → IfSome (misfit l o) ShowsOneLine
misfit-one l None = tt
misfit-one l (Some p) = tt

taken-good : (l new : LiveModel) (r : Reply) → KeptLive l → KeptLive new → ShowsOneLine r → GoodStep (taken l new r)
taken-good l new r kept kept_new one = or-kept KeptLive (misfit l (failed_at (replay_of_case new))) l (new, r) (misfit-one l (failed_at (replay_of_case new))) kept (kept_new, one)

change-good : (l : LiveModel) (ops : List Op) (o : Result SchemaModel Fault) → KeptLive l → GoodStep (change_with l ops o)
change-good l ops (Ok schema) kept = taken-good l (changed l ops schema) reply.Changed kept kept tt
change-good l ops (Err fault) kept = (kept, tt)

migrate-good : (l : LiveModel) (v : VersionModel) (o : Result SchemaModel Fault) → KeptLive l → GoodStep (migrate_with l v o)
migrate-good l v (Ok schema) kept = taken-good l (migrated l v schema) (reply.Migrated v.number) kept kept tt
migrate-good l v (Err fault) kept = (kept, tt)

overlap-one : (o : Option Name) → IfSome (overlap_reply o) ShowsOneLine
overlap-one None = tt
overlap-one (Some name) = tt

migrate_live-good : (l : LiveModel) (v : VersionModel) → KeptLive l → GoodStep (migrate_live l v)
migrate_live-good l v kept =
    or-kept KeptLive (migrate_refusal l v) l (migrate_with l v (changed_by v.schema l.own)) (search (option-or-one, when-one, overlap-one)) kept (migrate-good l v (changed_by v.schema l.own) kept)

-- ---- a case
abbrev GoodCase : CaseModel × Reply → Type 0
GoodCase step = KeptCase step.0 × ShowsOneLine step.1

event-good : (s : CaseModel) (o : Option LiveModel) (e : Event) → KeptCase s → IfSome o KeptLive → WritesValues e → GoodCase (event_on s o e)
event-good s None (event.Create v) kept live good = or-kept KeptCase _ s (with_live s (created_on v, reply.Created)) (when-one (not (v.type_no == s.type_no)) reply.OtherType tt) kept (tt, tt)
event-good s None e kept live good = (kept, tt)
event-good s (Some l) (event.Create v) kept live good = (kept, tt)
event-good s (Some l) (event.Start node user roles) kept live good = start-good l node user roles (card_at node (flat_of l.schema).cards) live
event-good s (Some l) (event.Withdraw node user) kept live good = withdraw-good l node user (card_at node (flat_of l.schema).cards) live
event-good s (Some l) (event.End node user choice writes) kept live good = end-good l node user writes choice (card_at node (flat_of l.schema).cards) good live
event-good s (Some l) (event.Change ops) kept live good = or-kept KeptLive (when_reply (is_finished l) reply.Finished) l (change_with l ops (changed_by l.schema ops)) (when-one (is_finished l) reply.Finished tt) live (change-good l ops (changed_by l.schema ops) live)
event-good s (Some l) (event.Migrate v) kept live good = or-kept KeptCase _ s (with_live s (migrate_live l v)) (when-one (not (v.type_no == s.type_no)) reply.OtherType tt) kept (migrate_live-good l v live)

pub case-kept : (s : CaseModel) (e : Event) → KeptCase s → WritesValues e → KeptCase (case_after s e)
case-kept s e kept good = (event-good s s.live e kept kept good).0

pub case-shows : (s : CaseModel) (e : Event) → KeptCase s → WritesValues e → ShowsOneLine (case_reply s e)
case-shows s e kept good = (event-good s s.live e kept kept good).1
