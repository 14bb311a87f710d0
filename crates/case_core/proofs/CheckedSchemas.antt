-- What operations make of a checked schema is checked where it is sound: it has a rank, and its write edges ascend.
use Rattle.case_core.proofs.Common.{[], ℕ, ◌+◌, ◌==◌, ◌∙◌, ◌∷◌, ◌≡◌, all-rows-map, applied_from, Ascends, ascends_drop, ascends_put, block_fault, both, cards_of, cases_Bool, changed_by, control_edges, effect, false, inl, inr, is_one_of}
use Rattle.case_core.proofs.Common.{is_sound, IsChecked, IsRank, leads, length, length-map, List, no_either, nodes_of, None, not, Ok, Op, Option, refl, refusal, Result, SchemaModel, Some, subst, sym, sync_cycle, taken_parts, unless_refused}
use Rattle.wsm_block.proofs.{Added.{moved-order, moved-same}, DocumentStart.document-start, FirstFault.{ends-there, fault_by_groups, nodes-distinct}, Leading.leads-is_marked, RanksOfSchemas.order-rank_of}
use Rattle.wsm_block.specs.{Clauses.{cycle_fault, shape_fault}, Order.{Edges, EndAmong, IsOrder, SameNodes, marked_of, moved, onto_seen}}
use Rattle.wsm_ops.proofs.Rising.{Ascends-filter}
use Rattle.wsm_ops.specs.{declared.faults.OpFault.OpFault, declared.faults.OpWhy.OpWhy}
use Rattle.wsm_ops.specs.declared.operations.Op.TheVariants as op
use Rattle.wsm_schema.specs.declared.faults.BlockFault.TheVariants.{SyncCycle}
use Rattle.wsm_sound.proofs.SameSchema.{same_Ok}

-- ---- a rank
cycle-parts : (n : ℕ) (edges : Edges) (s : ℕ × ℕ) (ss : Edges) → sync_cycle n edges (s ∷ ss) ≡ None → (leads edges n s.1 s.0 ≡ false) × (sync_cycle n (s ∷ edges) ss ≡ None)
cycle-parts n edges s ss h =
    elim (cases_Bool (leads edges n s.1 s.0)) [
      | inl closes ↦ let q : Some (SyncCycle s.0 s.1) ≡ None = rw closes at h in absurd (cc)
      | inr free ↦ (free, rw free at h)
    ]

-- an order in which sync edges that close no cycle go upwards, too
grown : (edges : Edges) (rank : List ℕ) (ss : Edges) → IsOrder edges rank → EndAmong rank ss → sync_cycle (length rank) edges ss ≡ None → (new : List ℕ) × IsOrder (onto_seen ss edges) new × SameNodes new rank
grown edges rank [] order ends none = (rank, order, record { size = refl; members = λ n. refl })
grown edges rank (s ∷ ss) order ends none =
    let parts = cycle-parts (length rank) edges s ss none in
    let free : is_one_of s.0 (marked_of edges s.1 rank) ≡ false = sym (leads-is_marked edges rank order s.1 s.0 ends.0.1) ∙ parts.0 in
    let next : List ℕ = moved (marked_of edges s.1 rank) rank in
    let same : SameNodes next rank = moved-same edges s.1 rank in
    let rest =
    grown (s ∷ edges) next ss (moved-order edges s.1 rank order s.0 ends.0.0 ends.0.1 free)
    (all-rows-map _ _ (λ e h. (same.members e.0 ∙ h.0, same.members e.1 ∙ h.1)) ss ends.1) (subst (λ n. sync_cycle n (s ∷ edges) ss ≡ None) (sym same.size) parts.1) in
    (rest.0, rest.1, record { size = rest.2.size ∙ same.size; members = λ n. rest.2.members n ∙ same.members n })

pub rank-of : (s : SchemaModel) → block_fault s ≡ None → (rank : List ℕ) × IsRank (cards_of s) rank
rank-of s none =
    let cards = cards_of s in
    let parts = no_either (shape_fault s) (cycle_fault s) (sym (fault_by_groups s) ∙ none) in
    let new =
    grown (control_edges cards) (nodes_of cards) s.syncs (document-start s (nodes-distinct s parts.0)) (ends-there s parts.0)
    (subst (λ n. sync_cycle n (control_edges cards) s.syncs ≡ None) (sym (length-map cards (λ c. c.node))) parts.1) in
    (new.0, order-rank_of s cards s.syncs refl refl new.0 new.1 new.2)

-- ---- the order of the write edges
effect-writes : (s : SchemaModel) (o : Op) → Ascends both s.writes → Ascends both (effect s o).writes
effect-writes s (op.InsertSerial node role gap) h = h
effect-writes s (op.InsertParallel node role split join first last) h = h
effect-writes s (op.InsertConditional node role split join gap) h = h
effect-writes s (op.DeleteActivity node) h = Ascends-filter both (λ w. not (w.0 == node)) s.writes h
effect-writes s (op.MoveActivity node gap) h = h
effect-writes s (op.InsertSync source target) h = h
effect-writes s (op.DeleteSync source target) h = h
effect-writes s (op.AddElement element kind) h = h
effect-writes s (op.AddRead node element mandatory) h = h
effect-writes s (op.RemoveRead node element) h = h
effect-writes s (op.AddWrite node element) h = ascends_put both (node, element) s.writes h
effect-writes s (op.RemoveWrite node element) h = ascends_drop both (node, element) s.writes h
effect-writes s (op.SetRole node role) h = h

not-refused : (P : Type 0) (r : Option OpWhy) (i : ℕ) (rest : Result SchemaModel OpFault) (t : SchemaModel) → (rest ≡ Ok t → P) → unless_refused r i rest ≡ Ok t → P
not-refused P None i rest t later h = later h
not-refused P (Some why) i rest t later h = absurd (cc)

applied-writes : (i : ℕ) (s t : SchemaModel) (os : List Op) → applied_from i s os ≡ Ok t → Ascends both s.writes → Ascends both t.writes
applied-writes i s t [] is h = subst (λ (u : SchemaModel). Ascends both u.writes) (same_Ok s t is) h
applied-writes i s t (o ∷ os) is h =
    not-refused (Ascends both t.writes) (refusal s o) i (applied_from (i + 1) (effect s o) os) t (λ q. applied-writes (i + 1) (effect s o) t os q (effect-writes s o h)) is

pub checked-made : (s t : SchemaModel) (ops : List Op) → IsChecked s → changed_by s ops ≡ Ok t → IsChecked t
checked-made s t ops checked made =
    let parts = taken_parts s t ops made in
    let rank = rank-of t (is_sound t parts.1).blocks in
    record { sound = parts.1; rank = rank.0; ranked = rank.1; writes = applied-writes 1 s t ops parts.0 checked.writes }
