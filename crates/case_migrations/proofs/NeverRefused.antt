-- A migration to a version that goes on from the case's base is never refused for an operation.
use Rattle.std.proofs.Common.{◌≡◌, ℕ, Bool, true, false, List, refl, ap, sym, ◌∙◌, subst, Option, Some, None, Result, Ok, Err, option_map}
use Rattle.std.specs.{Prelude.{not, nat_lt, ◌==◌}, Option.option_or}
use Rattle.wsm_schema.specs.{SchemaModel.SchemaModel, Sound.{block_fault, data_fault}, declared.faults.BlockFault.BlockFault, declared.faults.DataFault.DataFault}
use Rattle.wsm_ops.specs.{Apply.applied, declared.operations.Op.Op, declared.faults.OpFault.OpFault}
use Rattle.wsm_foot.specs.{Foot.least_overlap, declared.names.Name.Name}
use Rattle.wsm_commute.specs.Ordered.{IsOrdered}
use Rattle.wsm_commute.proofs.{Footprints.no-overlap, ListsCommute.two-lists}
use Rattle.wsm_sound.specs.{Faults.{fault_of, unless_fault, sound_after, changed_by}, VersionModel.VersionModel, Versions.ops_after, declared.faults.Fault.Fault}
use Rattle.wsm_sound.specs.declared.faults.Fault.TheVariants as fault
use Rattle.case_core.specs.{CaseModel.{CaseModel, LiveModel, replay_of_case, is_finished}, Kept.Kept, Machine.{when_reply, or_reply, failed_at, misfit, taken, migrated, migrate_with, overlap_reply, overlap_with, migrate_refusal}}
use Rattle.case_core.specs.{Machine.{migrate_live, with_live, event_on, case_reply}, declared.replies.Reply.Reply}
use Rattle.case_core.specs.declared.replies.Reply.TheVariants as reply
use Rattle.case_core.specs.declared.events.Event.TheVariants as event
use Rattle.case_migrations.specs.GoesOn.{GoesOn}

-- the fault of a schema is none of an operation
not_of_op : (blocks : Option BlockFault) (on_data : Option DataFault) (f : OpFault) → option_or (option_map fault.Block blocks) (option_map fault.Data on_data) ≡ Some (fault.Op f) → ⊥
not_of_op (Some b) on_data f h = cc
not_of_op None (Some d) f h = cc
not_of_op None None f h = cc

no_op_fault : (s : SchemaModel) (f : OpFault) → fault_of s ≡ Some (fault.Op f) → ⊥
unfolding fault_of
no_op_fault s f h = not_of_op (block_fault s) (data_fault s) f h

no_op : (s : SchemaModel) (o : Option Fault) (f : OpFault) → fault_of s ≡ o → unless_fault o s ≡ Err (fault.Op f) → ⊥
no_op s None f is h = cc
no_op s (Some g) f is h = let same : g ≡ fault.Op f = cc in no_op_fault s f (is ∙ ap Some same)

-- the own operations are not refused on the version
own-apply : (l : LiveModel) (v : VersionModel) → IsOrdered l.base.schema → Kept l → GoesOn l.base v → overlap_with l v ≡ None → (f : OpFault) → changed_by v.schema l.own ≡ Err (fault.Op f) → ⊥
unfolding changed_by overlap_with
own-apply l v ordered kept on apart f h =
    let since = ops_after l.base.number v in
    let meet = two-lists 1 1 l.base.schema l.schema v.schema l.own since (no-overlap l.own since apart) ordered kept.own on.made in
    no_op meet.schema (fault_of meet.schema) f refl (sym (ap sound_after meet.left_last) ∙ h)

-- what a migration answers where it is not refused before its schema is made
past-refusals : (l : LiveModel) (older finished : Bool) (n : ℕ) (o : Option Name) (step : LiveModel × Reply) (f : Fault) →
    (or_reply (option_or (when_reply older (reply.NotNewer n)) (option_or (when_reply finished reply.Finished) (overlap_reply o))) l step).1 ≡ reply.Unsound f → (o ≡ None) × (step.1 ≡ reply.Unsound f)
past-refusals l true finished n o step f h = absurd (cc)
past-refusals l false true n o step f h = absurd (cc)
past-refusals l false false n (Some name) step f h = absurd (cc)
past-refusals l false false n None step f h = (refl, h)

not-taken : (l new : LiveModel) (n : ℕ) (failed : Option ℕ) (f : Fault) → (or_reply (misfit l failed) l (new, reply.Migrated n)).1 ≡ reply.Unsound f → ⊥
not-taken l new n None f h = cc
not-taken l new n (Some position) f h = cc

unsound-by : (l : LiveModel) (v : VersionModel) (r : Result SchemaModel Fault) (f : Fault) → (migrate_with l v r).1 ≡ reply.Unsound f → r ≡ Err f
unsound-by l v (Ok s) f h = absurd (not-taken l (migrated l v s) v.number (failed_at (replay_of_case (migrated l v s))) f h)
unsound-by l v (Err g) f h = let same : g ≡ f = cc in ap Err same

never-refused : (l : LiveModel) (v : VersionModel) → IsOrdered l.base.schema → Kept l → GoesOn l.base v → (f : OpFault) → (migrate_live l v).1 ≡ reply.Unsound (fault.Op f) → ⊥
never-refused l v ordered kept on f h =
    let past = past-refusals l (not (nat_lt l.base.number v.number)) (is_finished l) l.base.number (overlap_with l v) (migrate_with l v (changed_by v.schema l.own)) (fault.Op f) h in
    own-apply l v ordered kept on past.0 f (unsound-by l v (changed_by v.schema l.own) (fault.Op f) past.1)

other_type : (s : CaseModel) (l : LiveModel) (v : VersionModel) (test : Bool) (f : Fault) → (or_reply (when_reply test reply.OtherType) s (with_live s (migrate_live l v))).1 ≡ reply.Unsound f → (migrate_live l v).1 ≡ reply.Unsound f
other_type s l v true f h = absurd (cc)
other_type s l v false f h = h

-- a case on a version of its own type, which goes on from the case's base, never meets an operation that is refused
pub migration-applies : (s : CaseModel) (l : LiveModel) (v : VersionModel) → s.live ≡ Some l → IsOrdered l.base.schema → Kept l → GoesOn l.base v → (f : OpFault) → case_reply s (event.Migrate v) ≡ reply.Unsound (fault.Op f) → ⊥
migration-applies s l v live ordered kept on f h =
    let answer : (event_on s (Some l) (event.Migrate v)).1 ≡ reply.Unsound (fault.Op f) = subst (λ o. (event_on s o (event.Migrate v)).1 ≡ reply.Unsound (fault.Op f)) live h in
    never-refused l v ordered kept on f (other_type s l v (not (v.type_no == s.type_no)) (fault.Op f) answer)
