-- Two operations that are apart: each is refused behind the other as it was before, and both orders make one schema.
use Rattle.wsm_commute.proofs.Common.{[], ℕ, ◌∙◌, ◌≡◌, ap, Bool, both, effect, ElementKind, first, first_two, Gap, gap_owner, inl, inr, is_activity, IsOrdered, List, Op, Parts, refl, refusal, row_at, SchemaModel, sym, worked_on}
use Rattle.wsm_commute.proofs.{Footprints.{In, foot, Apart}, RowEffects.{on_syncs, on_elements, on_reads, on_writes, on_roles, syncs-rewritten, elements-rewritten, reads-rewritten, writes-rewritten, roles-rewritten, syncs-told}}
use Rattle.wsm_commute.proofs.{RowEffects.{elements-told, reads-told, writes-told, roles-told, sync_name, sync_nodes, element_name, no_node, read_name, write_name, role_name, one_node, Names, rows-commute, named-stays}, TreeEffects.Touches}
use Rattle.wsm_commute.proofs.{TreeEffects.{bodies-commute, effect-start, effect-finish}, LooksKept.seen-stays, RefusalsKept.{SameSeen, gap_node, wrong-same, by_kind, taken-same, three-same, gap-same, item-same}}
use Rattle.wsm_ops.specs.declared.operations.Gap.TheVariants as gap
use Rattle.wsm_ops.specs.declared.operations.Op.TheVariants as op

pub effect-ordered : (s : SchemaModel) (o : Op) → IsOrdered s → IsOrdered (effect s o)
effect-ordered s o h = record {
  syncs = (syncs-rewritten s o h.syncs).ascends;
  elements = (elements-rewritten s o h.elements).ascends;
  reads = (reads-rewritten s o h.reads).ascends;
  writes = (writes-rewritten s o h.writes).ascends;
  roles = (roles-rewritten s o h.roles).ascends;
}

abbrev schema : ℕ → ℕ → Parts → List (ℕ × ℕ) → List (ℕ × ElementKind) → List (ℕ × ℕ × Bool) → List (ℕ × ℕ) → List (ℕ × ℕ) → SchemaModel
schema start finish body syncs elements reads writes roles = record { start = start; finish = finish; body = body; syncs = syncs; elements = elements; reads = reads; writes = writes; roles = roles }

-- schemas with the same parts are one
same-schema : (s t : SchemaModel) → s.start ≡ t.start → s.finish ≡ t.finish → s.body ≡ t.body → s.syncs ≡ t.syncs → s.elements ≡ t.elements → s.reads ≡ t.reads → s.writes ≡ t.writes → s.roles ≡ t.roles → s ≡ t
same-schema s t a b c d e f g h =
    ap (λ x. schema x s.finish s.body s.syncs s.elements s.reads s.writes s.roles) a
    ∙ ap (λ x. schema t.start x s.body s.syncs s.elements s.reads s.writes s.roles) b
    ∙ ap (λ x. schema t.start t.finish x s.syncs s.elements s.reads s.writes s.roles) c
    ∙ ap (λ x. schema t.start t.finish t.body x s.elements s.reads s.writes s.roles) d
    ∙ ap (λ x. schema t.start t.finish t.body t.syncs x s.reads s.writes s.roles) e
    ∙ ap (λ x. schema t.start t.finish t.body t.syncs t.elements x s.writes s.roles) f
    ∙ ap (λ x. schema t.start t.finish t.body t.syncs t.elements t.reads x s.roles) g
    ∙ ap (λ x. schema t.start t.finish t.body t.syncs t.elements t.reads t.writes x) h

module _ (s : SchemaModel) (a b : Op) (apart : Apart a b) (ordered : IsOrdered s) where
  -- both orders make one schema
  pub effects-commute : effect (effect s a) b ≡ effect (effect s b) a
  effects-commute =
      let one = effect-ordered s a ordered in
      let two = effect-ordered s b ordered in
      same-schema (effect (effect s a) b) (effect (effect s b) a)
      (effect-start (effect s a) b ∙ effect-start s a ∙ sym (effect-start (effect s b) a ∙ effect-start s b))
      (effect-finish (effect s a) b ∙ effect-finish s a ∙ sym (effect-finish (effect s b) a ∙ effect-finish s b))
      (bodies-commute s a b apart)
      (rows-commute both sync_name sync_nodes on_syncs syncs-told a b apart s.syncs _ _ _ _
      (syncs-rewritten s a ordered.syncs) (syncs-rewritten s b ordered.syncs) (syncs-rewritten (effect s a) b one.syncs) (syncs-rewritten (effect s b) a two.syncs))
      (rows-commute first element_name no_node on_elements elements-told a b apart s.elements _ _ _ _
      (elements-rewritten s a ordered.elements) (elements-rewritten s b ordered.elements) (elements-rewritten (effect s a) b one.elements) (elements-rewritten (effect s b) a two.elements))
      (rows-commute first_two read_name one_node on_reads reads-told a b apart s.reads _ _ _ _
      (reads-rewritten s a ordered.reads) (reads-rewritten s b ordered.reads) (reads-rewritten (effect s a) b one.reads) (reads-rewritten (effect s b) a two.reads))
      (rows-commute both write_name one_node on_writes writes-told a b apart s.writes _ _ _ _
      (writes-rewritten s a ordered.writes) (writes-rewritten s b ordered.writes) (writes-rewritten (effect s a) b one.writes) (writes-rewritten (effect s b) a two.writes))
      (rows-commute first role_name one_node on_roles roles-told a b apart s.roles _ _ _ _
      (roles-rewritten s a ordered.roles) (roles-rewritten s b ordered.roles) (roles-rewritten (effect s a) b one.roles) (roles-rewritten (effect s b) a two.roles))

  -- what the second sees behind the first
  sees : (n : ℕ) → Touches a n → SameSeen (effect s b) s n
  sees n h = seen-stays a b apart n h s

  sync-row : (k : ℕ × ℕ) → Names (sync_name k) (sync_nodes k) a → row_at both k (effect s b).syncs ≡ row_at both k s.syncs
  sync-row k h = named-stays both sync_name sync_nodes on_syncs syncs-told a b apart s.syncs (effect s b).syncs k (syncs-rewritten s b ordered.syncs) h

  element-row : (k : ℕ × ℕ) → Names (element_name k) (no_node k) a → row_at first k (effect s b).elements ≡ row_at first k s.elements
  element-row k h = named-stays first element_name no_node on_elements elements-told a b apart s.elements (effect s b).elements k (elements-rewritten s b ordered.elements) h

  read-row : (k : ℕ × ℕ) → Names (read_name k) (one_node k) a → row_at first_two k (effect s b).reads ≡ row_at first_two k s.reads
  read-row k h = named-stays first_two read_name one_node on_reads reads-told a b apart s.reads (effect s b).reads k (reads-rewritten s b ordered.reads) h

  write-row : (k : ℕ × ℕ) → Names (write_name k) (one_node k) a → row_at both k (effect s b).writes ≡ row_at both k s.writes
  write-row k h = named-stays both write_name one_node on_writes writes-told a b apart s.writes (effect s b).writes k (writes-rewritten s b ordered.writes) h

-- the owner of a gap is its node
gap-touched : (o : Op) (g : Gap) → In (gap_owner g) (foot o) → Touches o (gap_node g)
gap-touched o (gap.After n) h = h
gap-touched o (gap.Head split code) h = h

pub refusal-stays : (s : SchemaModel) (a b : Op) → Apart a b → IsOrdered s → refusal (effect s b) a ≡ refusal s a
refusal-stays s (op.InsertSerial node role g) b apart ordered =
    let a : Op = op.InsertSerial node role g in
    let sees = sees s a b apart ordered in
    rw (taken-same (effect s b) s [] node (sees node (inl refl)), gap-same (effect s b) s g (sees (gap_node g) (gap-touched a g (inr (inr (inr (inl refl))))))) refl
refusal-stays s (op.InsertParallel node role split join one last) b apart ordered =
    let a : Op = op.InsertParallel node role split join one last in
    let sees = sees s a b apart ordered in
    rw (
      three-same (effect s b) s node split join (sees node (inl refl)) (sees split (inr (inl refl))) (sees join (inr (inr (inl refl)))),
      item-same (effect s b) s one last (sees one (inr (inr (inr (inr (inr (inl refl))))))) (sees last (inr (inr (inr (inr (inr (inr (inl refl)))))))),
    ) refl
refusal-stays s (op.InsertConditional node role split join g) b apart ordered =
    let a : Op = op.InsertConditional node role split join g in
    let sees = sees s a b apart ordered in
    rw (
      three-same (effect s b) s node split join (sees node (inl refl)) (sees split (inr (inl refl))) (sees join (inr (inr (inl refl)))),
      gap-same (effect s b) s g (sees (gap_node g) (gap-touched a g (inr (inr (inr (inr (inr (inr (inl refl))))))))),
    ) refl
refusal-stays s (op.DeleteActivity node) b apart ordered = wrong-same (effect s b) s (λ c. is_activity c.kind) (by_kind is_activity) node (sees s (op.DeleteActivity node) b apart ordered node (inl refl))
refusal-stays s (op.MoveActivity node g) b apart ordered =
    let a : Op = op.MoveActivity node g in
    let sees = sees s a b apart ordered in
    rw (wrong-same (effect s b) s (λ c. is_activity c.kind) (by_kind is_activity) node (sees node (inl refl)), gap-same (effect s b) s g (sees (gap_node g) (gap-touched a g (inr (inr (inl refl)))))) refl
refusal-stays s (op.InsertSync source target) b apart ordered =
    let a : Op = op.InsertSync source target in
    let sees = sees s a b apart ordered in
    rw (
      wrong-same (effect s b) s (λ c. is_activity c.kind) (by_kind is_activity) source (sees source (inr (inl refl))),
      wrong-same (effect s b) s (λ c. is_activity c.kind) (by_kind is_activity) target (sees target (inr (inr (inl refl)))),
      sync-row s a b apart ordered (source, target) (inl refl, (inr (inl refl), (inr (inr (inl refl)), tt))),
    ) refl
refusal-stays s (op.DeleteSync source target) b apart ordered =
    rw (sync-row s (op.DeleteSync source target) b apart ordered (source, target) (inl refl, (inr (inl refl), (inr (inr (inl refl)), tt)))) refl
refusal-stays s (op.AddElement element kind) b apart ordered =
    rw (element-row s (op.AddElement element kind) b apart ordered (element, 0) (inl refl, tt)) refl
refusal-stays s (op.AddRead node element mandatory) b apart ordered =
    let a : Op = op.AddRead node element mandatory in
    rw (wrong-same (effect s b) s (λ c. worked_on c.kind) (by_kind worked_on) node (sees s a b apart ordered node (inr (inl refl))), read-row s a b apart ordered (node, element) (inl refl, (inr (inl refl), tt))) refl
refusal-stays s (op.RemoveRead node element) b apart ordered =
    rw (read-row s (op.RemoveRead node element) b apart ordered (node, element) (inl refl, (inr (inl refl), tt))) refl
refusal-stays s (op.AddWrite node element) b apart ordered =
    let a : Op = op.AddWrite node element in
    rw (wrong-same (effect s b) s (λ c. worked_on c.kind) (by_kind worked_on) node (sees s a b apart ordered node (inr (inl refl))), write-row s a b apart ordered (node, element) (inl refl, (inr (inl refl), tt))) refl
refusal-stays s (op.RemoveWrite node element) b apart ordered =
    rw (write-row s (op.RemoveWrite node element) b apart ordered (node, element) (inl refl, (inr (inl refl), tt))) refl
refusal-stays s (op.SetRole node role) b apart ordered = wrong-same (effect s b) s (λ c. worked_on c.kind) (by_kind worked_on) node (sees s (op.SetRole node role) b apart ordered node (inr (inl refl)))
