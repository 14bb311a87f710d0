-- What each operation does to the five lists, at each key, and that operations which are apart leave each other's keys.
use Rattle.wsm_commute.proofs.Common.{[], ℕ, ◌==◌, ◌||◌, ◌∙◌, ◌∷◌, ◌≡◌, ◌⊎◌, AllRows, ap, Ascends, ascends_drop, ascends_put, Bool, both, cases_Bool, changes, effect, ElementKind, eq_means, eqb, eqb-true, false, first, first_two}
use Rattle.wsm_commute.proofs.{Common.{if◌then◌else◌, inl, inr, key_eq, List, Name, None, Op, Option, or_cases, put_role, refl, row_at, SchemaModel, Some, subst, sym, true}, Footprints.{In, foot, Apart, changed}, RowsAtKeys.put-at}
use Rattle.wsm_commute.proofs.{RowsAtKeys.{drop-at, clear-at, key-is}, SameRows.same-rows}
use Rattle.wsm_ops.specs.declared.operations.Op.TheVariants as op
use Rattle.wsm_ops.proofs.Rising.{Ascends-filter}
use Rattle.wsm_foot.specs.declared.names.Name.TheVariants as name

-- the keys at which an operation may change a list, and what stands there then
pub record Rewrite (X : Type 0) : Type 0 where
  pub touches : ℕ × ℕ → Bool
  pub value : ℕ × ℕ → Option X

abbrev pub nowhere : {X : Type 0} → Rewrite X
nowhere = record { touches = λ k. false; value = λ k. None }

-- what stands at a key behind it
abbrev pub rewritten : {X : Type 0} → Rewrite X → ℕ × ℕ → Option X → Option X
rewritten w k old = if w.touches k then w.value k else old

-- a list that ascends, and is the old one rewritten
pub record IsRewrite {X : Type 0} (key : X → ℕ × ℕ) (w : Rewrite X) (old new : List X) : Type 0 where
  pub ascends : Ascends key new
  pub rows : (k : ℕ × ℕ) → row_at key k new ≡ rewritten w k (row_at key k old)

-- ---- the rewrites of each list
abbrev pub on_syncs : Op → Rewrite (ℕ × ℕ)
on_syncs (op.InsertSync source target) = record { touches = key_eq (source, target); value = λ k. Some (source, target) }
on_syncs (op.DeleteSync source target) = record { touches = key_eq (source, target); value = λ k. None }
on_syncs (op.DeleteActivity node) = record { touches = λ k. k.0 == node || k.1 == node; value = λ k. None }
on_syncs _ = nowhere

abbrev pub on_elements : Op → Rewrite (ℕ × ElementKind)
on_elements (op.AddElement element kind) = record { touches = key_eq (element, 0); value = λ k. Some (element, kind) }
on_elements _ = nowhere

abbrev pub on_reads : Op → Rewrite (ℕ × ℕ × Bool)
on_reads (op.AddRead node element mandatory) = record { touches = key_eq (node, element); value = λ k. Some (node, element, mandatory) }
on_reads (op.RemoveRead node element) = record { touches = key_eq (node, element); value = λ k. None }
on_reads (op.DeleteActivity node) = record { touches = λ k. k.0 == node; value = λ k. None }
on_reads _ = nowhere

abbrev pub on_writes : Op → Rewrite (ℕ × ℕ)
on_writes (op.AddWrite node element) = record { touches = key_eq (node, element); value = λ k. Some (node, element) }
on_writes (op.RemoveWrite node element) = record { touches = key_eq (node, element); value = λ k. None }
on_writes (op.DeleteActivity node) = record { touches = λ k. k.0 == node; value = λ k. None }
on_writes _ = nowhere

-- the role of a node, where role 0 is none
abbrev pub role_row : ℕ → ℕ → Option (ℕ × ℕ)
role_row node role = if role == 0 then None else Some (node, role)

abbrev pub role_at : ℕ → ℕ → Rewrite (ℕ × ℕ)
role_at node role = record { touches = key_eq (node, 0); value = λ k. role_row node role }

abbrev pub on_roles : Op → Rewrite (ℕ × ℕ)
on_roles (op.InsertSerial node role gap) = role_at node role
on_roles (op.InsertParallel node role split join one last) = role_at node role
on_roles (op.InsertConditional node role split join gap) = record { touches = λ k. key_eq (split, 0) k || key_eq (node, 0) k; value = λ k. role_row k.0 role }
on_roles (op.DeleteActivity node) = record { touches = key_eq (node, 0); value = λ k. None }
on_roles (op.SetRole node role) = role_at node role
on_roles _ = nowhere

-- ---- they are what the operations do
kept : {X : Type 0} (key : X → ℕ × ℕ) (xs : List X) → Ascends key xs → IsRewrite key nowhere xs xs
kept key xs up = record { ascends = up; rows = λ k. refl }

pub syncs-rewritten : (s : SchemaModel) (o : Op) → Ascends both s.syncs → IsRewrite both (on_syncs o) s.syncs (effect s o).syncs
syncs-rewritten s (op.InsertSync source target) up = record { ascends = ascends_put both (source, target) s.syncs up; rows = λ k. put-at both k (source, target) s.syncs }
syncs-rewritten s (op.DeleteSync source target) up = record { ascends = ascends_drop both (source, target) s.syncs up; rows = λ k. drop-at both k (source, target) s.syncs up }
syncs-rewritten s (op.DeleteActivity node) up = record { ascends = Ascends-filter both _ s.syncs up; rows = λ k. clear-at both (λ k. k.0 == node || k.1 == node) k s.syncs }
syncs-rewritten s _ up = kept both s.syncs up

pub elements-rewritten : (s : SchemaModel) (o : Op) → Ascends first s.elements → IsRewrite first (on_elements o) s.elements (effect s o).elements
elements-rewritten s (op.AddElement element kind) up = record { ascends = ascends_put first (element, kind) s.elements up; rows = λ k. put-at first k (element, kind) s.elements }
elements-rewritten s _ up = kept first s.elements up

pub reads-rewritten : (s : SchemaModel) (o : Op) → Ascends first_two s.reads → IsRewrite first_two (on_reads o) s.reads (effect s o).reads
reads-rewritten s (op.AddRead node element mandatory) up =
    record { ascends = ascends_put first_two (node, element, mandatory) s.reads up; rows = λ k. put-at first_two k (node, element, mandatory) s.reads }
reads-rewritten s (op.RemoveRead node element) up = record { ascends = ascends_drop first_two (node, element) s.reads up; rows = λ k. drop-at first_two k (node, element) s.reads up }
reads-rewritten s (op.DeleteActivity node) up = record { ascends = Ascends-filter first_two _ s.reads up; rows = λ k. clear-at first_two (λ k. k.0 == node) k s.reads }
reads-rewritten s _ up = kept first_two s.reads up

pub writes-rewritten : (s : SchemaModel) (o : Op) → Ascends both s.writes → IsRewrite both (on_writes o) s.writes (effect s o).writes
writes-rewritten s (op.AddWrite node element) up = record { ascends = ascends_put both (node, element) s.writes up; rows = λ k. put-at both k (node, element) s.writes }
writes-rewritten s (op.RemoveWrite node element) up = record { ascends = ascends_drop both (node, element) s.writes up; rows = λ k. drop-at both k (node, element) s.writes up }
writes-rewritten s (op.DeleteActivity node) up = record { ascends = Ascends-filter both _ s.writes up; rows = λ k. clear-at both (λ k. k.0 == node) k s.writes }
writes-rewritten s _ up = kept both s.writes up

role-rewritten : (node role : ℕ) (rows : List (ℕ × ℕ)) → Ascends first rows → IsRewrite first (role_at node role) rows (put_role node role rows)
role-rewritten node role rows up =
    elim (cases_Bool (eqb role 0)) [
      | inl none ↦ rw none (record { ascends = ascends_drop first (node, 0) rows up; rows = λ k. drop-at first k (node, 0) rows up })
      | inr some ↦ rw some (record { ascends = ascends_put first (node, role) rows up; rows = λ k. put-at first k (node, role) rows })
    ]

two_roles : (node split role : ℕ) (rows middle new : List (ℕ × ℕ)) → IsRewrite first (role_at node role) rows middle → IsRewrite first (role_at split role) middle new
    → IsRewrite first (record { touches = λ k. key_eq (split, 0) k || key_eq (node, 0) k; value = λ k. role_row k.0 role }) rows new
two_roles node split role rows middle new one two =
    record { ascends = two.ascends; rows = λ k. two.rows k ∙ at_key k }
  where
    at_key : (k : ℕ × ℕ) → (if key_eq (split, 0) k then role_row split role else row_at first k middle)
        ≡ (if (key_eq (split, 0) k || key_eq (node, 0) k) then role_row k.0 role else row_at first k rows)
    at_key k =
        elim (cases_Bool (key_eq (split, 0) k)) [
          | inl here ↦ rw here (ap (λ n. role_row n role) (eq_means (split, 0) k here).0)
          | inr other ↦ rw other (one.rows k ∙ elim (cases_Bool (key_eq (node, 0) k)) [
            | inl here ↦ rw here (ap (λ n. role_row n role) (eq_means (node, 0) k here).0)
            | inr another ↦ rw another refl
          ])
        ]

pub roles-rewritten : (s : SchemaModel) (o : Op) → Ascends first s.roles → IsRewrite first (on_roles o) s.roles (effect s o).roles
roles-rewritten s (op.InsertSerial node role gap) up = role-rewritten node role s.roles up
roles-rewritten s (op.InsertParallel node role split join one last) up = role-rewritten node role s.roles up
roles-rewritten s (op.InsertConditional node role split join gap) up =
    let one = role-rewritten node role s.roles up in
    two_roles node split role s.roles (put_role node role s.roles) (put_role split role (put_role node role s.roles)) one (role-rewritten split role (put_role node role s.roles) one.ascends)
roles-rewritten s (op.DeleteActivity node) up = role-rewritten node 0 s.roles up
roles-rewritten s (op.SetRole node role) up = role-rewritten node role s.roles up
roles-rewritten s _ up = kept first s.roles up

-- ---- whoever touches a key names it and uses its nodes, or takes one of these nodes away
abbrev pub AnyOf : {X : Type 0} → (X → Type 0) → List X → Type 0
AnyOf P [] = ⊥
AnyOf P (x ∷ xs) = P x ⊎ AnyOf P xs

abbrev pub Names : Name → List ℕ → Op → Type 0
Names n owners o = In n (changes o) × AllRows (λ m. In (name.Node m) (foot o)) owners

abbrev pub TakesAway : List ℕ → Op → Type 0
TakesAway owners o = AnyOf (λ m. In (name.Node m) (changes o)) owners

-- what a rewrite puts at a key is told by the footprint
abbrev pub Told : {X : Type 0} → Name → List ℕ → Op → Option X → Type 0
Told n owners o value = Names n owners o ⊎ ((value ≡ None) × TakesAway owners o)

taken_from : (owners : List ℕ) (a b : Op) → Apart a b → AllRows (λ m. In (name.Node m) (foot a)) owners → TakesAway owners b → ⊥
taken_from [] a b apart used h = h
taken_from (m ∷ ms) a b apart used (inl h) = apart.right (name.Node m) used.0 h
taken_from (m ∷ ms) a b apart used (inr h) = taken_from ms a b apart used.1 h

flipped : (a b : Op) → Apart a b → Apart b a
flipped a b h = record { left = λ n i j. h.right n j i; right = λ n i j. h.left n j i }

-- two operations that are apart put the same where both put something
told-alike : {X : Type 0} (n : Name) (owners : List ℕ) (a b : Op) (v w : Option X) → Apart a b → Told n owners a v → Told n owners b w → v ≡ w
told-alike n owners a b v w apart (inl x) (inl y) = absurd (apart.left n x.0 (changed b n y.0))
told-alike n owners a b v w apart (inl x) (inr y) = absurd (taken_from owners a b apart x.1 y.1)
told-alike n owners a b v w apart (inr x) (inl y) = absurd (taken_from owners b a (flipped a b apart) y.1 x.1)
told-alike n owners a b v w apart (inr x) (inr y) = x.0 ∙ sym y.0

-- what one names, the other leaves
not_told : {X : Type 0} (n : Name) (owners : List ℕ) (a b : Op) (w : Option X) → Apart a b → Names n owners a → Told n owners b w → ⊥
not_told n owners a b w apart x (inl y) = apart.left n x.0 (changed b n y.0)
not_told n owners a b w apart x (inr y) = taken_from owners a b apart x.1 y.1

-- ---- the names of keys, and the nodes that they speak of
abbrev pub sync_name : ℕ × ℕ → Name
sync_name k = name.Sync k.0 k.1

abbrev pub sync_nodes : ℕ × ℕ → List ℕ
sync_nodes k = k.0 ∷ k.1 ∷ []

abbrev pub read_name : ℕ × ℕ → Name
read_name k = name.Read k.0 k.1

abbrev pub write_name : ℕ × ℕ → Name
write_name k = name.Write k.0 k.1

abbrev pub element_name : ℕ × ℕ → Name
element_name k = name.Element k.0

abbrev pub role_name : ℕ × ℕ → Name
role_name k = name.Role k.0

abbrev pub one_node : ℕ × ℕ → List ℕ
one_node k = k.0 ∷ []

abbrev pub no_node : ℕ × ℕ → List ℕ
no_node k = []

abbrev pub ToldAt : {X : Type 0} → (ℕ × ℕ → Name) → (ℕ × ℕ → List ℕ) → (Op → Rewrite X) → Type 0
ToldAt name owners w = (o : Op) (k : ℕ × ℕ) → (w o).touches k ≡ true → Told (name k) (owners k) o ((w o).value k)

-- a fact of a key, at a key that the test finds
at_key : (P : ℕ × ℕ → Type 0) (a k : ℕ × ℕ) → key_eq a k ≡ true → P a → P k
at_key P a k h p = subst P (key-is a k h) p

pub syncs-told : ToldAt sync_name sync_nodes on_syncs
syncs-told (op.InsertSync source target) k h = inl (at_key (λ k. Names (sync_name k) (sync_nodes k) (op.InsertSync source target)) (source, target) k h (inl refl, (inr (inl refl), (inr (inr (inl refl)), tt))))
syncs-told (op.DeleteSync source target) k h = inl (at_key (λ k. Names (sync_name k) (sync_nodes k) (op.DeleteSync source target)) (source, target) k h (inl refl, (inr (inl refl), (inr (inr (inl refl)), tt))))
syncs-told (op.DeleteActivity node) k h =
    inr (
      refl,
      elim (or_cases (eqb k.0 node) (eqb k.1 node) h) [
        | inl one ↦ inl (inl (ap name.Node (eqb-true k.0 node one)))
        | inr two ↦ inr (inl (inl (ap name.Node (eqb-true k.1 node two))))
      ],
    )
syncs-told _ k h = absurd (cc)

pub elements-told : ToldAt element_name no_node on_elements
elements-told (op.AddElement element kind) k h = inl (at_key (λ k. Names (element_name k) (no_node k) (op.AddElement element kind)) (element, 0) k h (inl refl, tt))
elements-told _ k h = absurd (cc)

pub reads-told : ToldAt read_name one_node on_reads
reads-told (op.AddRead node element mandatory) k h = inl (at_key (λ k. Names (read_name k) (one_node k) (op.AddRead node element mandatory)) (node, element) k h (inl refl, (inr (inl refl), tt)))
reads-told (op.RemoveRead node element) k h = inl (at_key (λ k. Names (read_name k) (one_node k) (op.RemoveRead node element)) (node, element) k h (inl refl, (inr (inl refl), tt)))
reads-told (op.DeleteActivity node) k h = inr (refl, inl (inl (ap name.Node (eqb-true k.0 node h))))
reads-told _ k h = absurd (cc)

pub writes-told : ToldAt write_name one_node on_writes
writes-told (op.AddWrite node element) k h = inl (at_key (λ k. Names (write_name k) (one_node k) (op.AddWrite node element)) (node, element) k h (inl refl, (inr (inl refl), tt)))
writes-told (op.RemoveWrite node element) k h = inl (at_key (λ k. Names (write_name k) (one_node k) (op.RemoveWrite node element)) (node, element) k h (inl refl, (inr (inl refl), tt)))
writes-told (op.DeleteActivity node) k h = inr (refl, inl (inl (ap name.Node (eqb-true k.0 node h))))
writes-told _ k h = absurd (cc)

pub roles-told : ToldAt role_name one_node on_roles
roles-told (op.InsertSerial node role gap) k h = inl (at_key (λ k. Names (role_name k) (one_node k) (op.InsertSerial node role gap)) (node, 0) k h (inr (inl refl), (inl refl, tt)))
roles-told (op.InsertParallel node role split join one last) k h =
    inl (at_key (λ k. Names (role_name k) (one_node k) (op.InsertParallel node role split join one last)) (node, 0) k h (inr (inr (inr (inl refl))), (inl refl, tt)))
roles-told (op.InsertConditional node role split join gap) k h =
    inl (elim (or_cases (key_eq (split, 0) k) (key_eq (node, 0) k) h) [
      | inl one ↦ at_key (λ k. Names (role_name k) (one_node k) (op.InsertConditional node role split join gap)) (split, 0) k one (inr (inr (inr (inr (inl refl)))), (inr (inl refl), tt))
      | inr two ↦ at_key (λ k. Names (role_name k) (one_node k) (op.InsertConditional node role split join gap)) (node, 0) k two (inr (inr (inr (inl refl))), (inl refl, tt))
    ])
roles-told (op.DeleteActivity node) k h = inr (refl, inl (inl (ap name.Node (sym (eq_means (node, 0) k h).0))))
roles-told (op.SetRole node role) k h = inl (at_key (λ k. Names (role_name k) (one_node k) (op.SetRole node role)) (node, 0) k h (inl refl, (inr (inl refl), tt)))
roles-told _ k h = absurd (cc)

-- ---- both orders leave the same rows, and each leaves what the other names
module _ {X : Type 0} (key : X → ℕ × ℕ) (naming : ℕ × ℕ → Name) (owners : ℕ × ℕ → List ℕ) (w : Op → Rewrite X) (told : ToldAt naming owners w) (a b : Op) (apart : Apart a b) where
  twice_rewritten : (k : ℕ × ℕ) (old : Option X) (t u : Bool) → (w a).touches k ≡ t → (w b).touches k ≡ u → rewritten (w b) k (rewritten (w a) k old) ≡ rewritten (w a) k (rewritten (w b) k old)
  twice_rewritten k old true true x y = rw (x, y) (sym (told-alike (naming k) (owners k) a b ((w a).value k) ((w b).value k) apart (told a k x) (told b k y)))
  twice_rewritten k old true false x y = rw (x, y) refl
  twice_rewritten k old false true x y = rw (x, y) refl
  twice_rewritten k old false false x y = rw (x, y) refl

  pub rows-commute : (old behind_a behind_b ab ba : List X) → IsRewrite key (w a) old behind_a → IsRewrite key (w b) old behind_b → IsRewrite key (w b) behind_a ab → IsRewrite key (w a) behind_b ba → ab ≡ ba
  rows-commute old behind_a behind_b ab ba one two last_b last_a =
      same-rows key ab ba last_b.ascends last_a.ascends (λ k.
      last_b.rows k ∙ ap (rewritten (w b) k) (one.rows k)
      ∙ twice_rewritten k (row_at key k old) ((w a).touches k) ((w b).touches k) refl refl
      ∙ sym (last_a.rows k ∙ ap (rewritten (w a) k) (two.rows k)))

  pub named-stays : (old new : List X) (k : ℕ × ℕ) → IsRewrite key (w b) old new → Names (naming k) (owners k) a → row_at key k new ≡ row_at key k old
  named-stays old new k is names = is.rows k ∙ go ((w b).touches k) refl
    where
      go : (t : Bool) → (w b).touches k ≡ t → rewritten (w b) k (row_at key k old) ≡ row_at key k old
      go true h = absurd (not_told (naming k) (owners k) a b ((w b).value k) apart names (told b k h))
      go false h = rw h refl
