-- Operations keep the numbers of nodes distinct.
use Rattle.wsm_ops.proofs.Common.{[], ℕ, ◌+◌, ◌==◌, ◌||◌, ◌∙◌, ◌∷◌, ◌≡◌, ◌≤◌, act, ap, applied_from, arith, beside, Bool, by_card, Card, card_at, card_of, cards_of, cases_Bool, change, choice, effect, eq-eqb, eqb, eqb-true, false, Gap, inl}
use Rattle.wsm_ops.proofs.Common.{inr, is_activity, is_behind, is_one_of, is_some, leaving, List, map, NodeKind, nodes_of, None, not, Ok, one_taken, Op, OpFault, Option, option_or, OpWhy, or_parts, Part, parts_places, Place, place, places}
use Rattle.wsm_ops.proofs.Common.{plain_end, put, put_at, refl, refusal, Result, SchemaModel, Some, subst, sym, true, twice, unless_activity, unless_refused, when, without}
use Rattle.wsm_schema.specs.declared.cards.NodeKind.TheVariants.{Start, Finish}
use Rattle.wsm_ops.specs.declared.operations.Op.TheVariants as op
use Rattle.wsm_ops.specs.declared.faults.OpWhy.TheVariants.{WrongKind}
use Rattle.wsm_ops.proofs.Weights.{tally, total, total-append, part_weight, parts_weight, at_place, parts_total, only, named, acts, gap_node, behind_once, put_if-weight, put-weight, without-weight, without-acts, Adds, change-weight}

-- the numbers of a schema's nodes are distinct
abbrev pub IsDistinct : SchemaModel → Type 0
IsDistinct s = twice [] (nodes_of (cards_of s)) ≡ None

-- ---- distinct numbers, by how often each occurs
abbrev pub count : ℕ → ℕ → List ℕ → ℕ
count n c ns = total (λ m. tally (m == n) c) ns

once-each : (seen ns : List ℕ) (n c : ℕ) → twice seen ns ≡ None → tally (is_one_of n seen) c + count n c ns ≤ c
once-each seen [] n c h = elim (cases_Bool (is_one_of n seen)) [ inl old ↦ rw old (omega arith) | inr new ↦ rw new (omega arith) ]
once-each seen (m ∷ ms) n c h =
    elim (cases_Bool (is_one_of m seen)) [
      | inl old ↦ absurd (let bad : Some m ≡ None = rw old at h in cc)
      | inr new ↦
          let later = once-each (m ∷ seen) ms n c (rw new at h) in
          elim (cases_Bool (eqb m n)) [
            | inl same ↦
                let not_seen : is_one_of n seen ≡ false = ap (λ x. is_one_of x seen) (sym (eqb-true m n same)) ∙ new in
                let last : c + count n c ms ≤ c = rw same at later in
                rw (same, not_seen) (omega (arith, last))
            | inr other ↦
                let last : tally (is_one_of n seen) c + count n c ms ≤ c = rw other at later in
                rw other (omega (arith, last))
          ]
    ]

each-once : (seen ns : List ℕ) → ((n : ℕ) → tally (is_one_of n seen) 1 + count n 1 ns ≤ 1) → twice seen ns ≡ None
each-once seen [] h = refl
each-once seen (m ∷ ms) h =
    let here : tally (is_one_of m seen) 1 + (tally (eqb m m) 1 + count m 1 ms) ≤ 1 = h m in
    elim (cases_Bool (is_one_of m seen)) [
      | inl old ↦ absurd (let bad : 1 + (1 + count m 1 ms) ≤ 1 = rw (old, eq-eqb m m refl) at here in omega (arith, bad))
      | inr new ↦ rw new (each-once (m ∷ seen) ms (λ n. shifted n (h n)))
    ]
  where
    shifted : (n : ℕ) → tally (is_one_of n seen) 1 + (tally (eqb m n) 1 + count n 1 ms) ≤ 1 → tally (eqb m n || is_one_of n seen) 1 + count n 1 ms ≤ 1
    shifted n k =
        elim (cases_Bool (eqb m n)) [
          | inl same ↦ let last : tally (is_one_of n seen) 1 + (1 + count n 1 ms) ≤ 1 = rw same at k in rw same (omega (arith, last))
          | inr other ↦ let last : tally (is_one_of n seen) 1 + (0 + count n 1 ms) ≤ 1 = rw other at k in rw other (omega (arith, last))
        ]

-- ---- the sum over the nodes of a schema
abbrev pub schema_weight : (NodeKind → ℕ → ℕ) → SchemaModel → ℕ
schema_weight f s = f Start s.start + (parts_weight f s.body + f Finish s.finish)

cards_total : (f : NodeKind → ℕ → ℕ) (s : SchemaModel) (ps : List Place) → total (λ c. f c.kind c.node) (map (card_of s) ps) ≡ total (at_place f) ps
cards_total f s [] = refl
cards_total f s (p ∷ ps) = ap (λ n. f p.kind p.node + n) (cards_total f s ps)

nodes_total : (f : ℕ → ℕ) (cs : List Card) → total f (nodes_of cs) ≡ total (λ c. f c.node) cs
nodes_total f [] = refl
nodes_total f (c ∷ cs) = ap (λ n. f c.node + n) (nodes_total f cs)

places_total : (f : NodeKind → ℕ → ℕ) (s : SchemaModel) → total (at_place f) (places s.start s.body s.finish) ≡ schema_weight f s
places_total f s =
    let inner = parts_total f s.body (plain_end s.start) s.finish in
    let closing = place s.finish Finish None (leaving s.body (plain_end s.start) ∷ []) [] in
    let whole = total-append (at_place f) (parts_places s.body (plain_end s.start) s.finish) (closing ∷ []) in
    omega (arith, inner, whole)

schema_total : (f : NodeKind → ℕ → ℕ) (s : SchemaModel) → total (λ c. f c.kind c.node) (cards_of s) ≡ schema_weight f s
schema_total f s = cards_total f s (places s.start s.body s.finish) ∙ places_total f s

-- how often a number occurs
abbrev pub times : ℕ → SchemaModel → ℕ
times n s = schema_weight (named n) s

count-weight : (n c : ℕ) (s : SchemaModel) → count n c (nodes_of (cards_of s)) ≡ schema_weight (only n c) s
count-weight n c s = nodes_total (λ m. tally (m == n) c) (cards_of s) ∙ schema_total (only n c) s

at_most : (n c : ℕ) (s : SchemaModel) → IsDistinct s → schema_weight (only n c) s ≤ c
at_most n c s h = let once = once-each [] (nodes_of (cards_of s)) n c h in let same = count-weight n c s in omega (arith, once, same)

from_times : (s : SchemaModel) → ((n : ℕ) → times n s ≤ 1) → IsDistinct s
from_times s h = each-once [] (nodes_of (cards_of s)) (λ n. let same = count-weight n 1 s in let few = h n in omega (arith, same, few))

-- ---- numbers that are new
absent : (n : ℕ) (cs : List Card) → is_some (card_at n cs) ≡ false → count n 1 (nodes_of cs) ≡ 0
absent n [] h = refl
absent n (c ∷ cs) h =
    elim (cases_Bool (eqb c.node n)) [
      | inl same ↦ absurd (let bad : true ≡ false = rw same at h in cc)
      | inr other ↦ let later = absent n cs (rw other at h) in rw other (omega (arith, later))
    ]

not_there : (n : ℕ) (s : SchemaModel) → is_some (card_at n (cards_of s)) ≡ false → times n s ≡ 0
not_there n s h = sym (count-weight n 1 s) ∙ absent n (cards_of s) h

-- a refusal that is none
pub first_none : {X : Type 0} (a b : Option X) → option_or a b ≡ None → (a ≡ None) × (b ≡ None)
first_none (Some x) b h = absurd (cc)
first_none None b h = (refl, h)

pub when_none : {X : Type 0} (test : Bool) (x : X) → when test x ≡ None → test ≡ false
when_none true x h = absurd (cc)
when_none false x h = refl

-- ---- each change
-- a tree with no more of any number
fewer : (s t : SchemaModel) → ((n : ℕ) → times n t ≤ times n s) → IsDistinct s → IsDistinct t
fewer s t less distinct = from_times t (λ n. let few = at_most n 1 s distinct in let no_more = less n in omega (arith, few, no_more))

-- numbers that the schema does not have
abbrev IsNew : SchemaModel → (ℕ → ℕ) → Type 0
IsNew s new = (n : ℕ) → times n s + new n ≤ 1

one_new : (s : SchemaModel) (node : ℕ) → IsDistinct s → is_some (card_at node (cards_of s)) ≡ false → IsNew s (λ n. tally (node == n) 1)
one_new s node distinct away n =
    elim (cases_Bool (eqb node n)) [
      | inl same ↦ let none : times n s ≡ 0 = subst (λ m. times m s ≡ 0) (eqb-true node n same) (not_there node s away) in rw same (omega (arith, none))
      | inr other ↦ let few = at_most n 1 s distinct in rw other (omega (arith, few))
    ]

apart : (a b n : ℕ) → eqb a b ≡ false → tally (a == n) 1 + tally (b == n) 1 ≤ 1
apart a b n differ =
    elim (cases_Bool (eqb a n)) [
      | inl first ↦ elim (cases_Bool (eqb b n)) [
        | inl second ↦ absurd (let bad : true ≡ false = sym (eq-eqb a b (eqb-true a n first ∙ sym (eqb-true b n second))) ∙ differ in cc)
        | inr other ↦ rw (first, other) (omega arith)
      ]
      | inr other ↦ rw other (elim (cases_Bool (eqb b n)) [ inl second ↦ rw second (omega arith) | inr third ↦ rw third (omega arith) ])
    ]

three_new : (s : SchemaModel) (node split join : ℕ) → IsDistinct s → one_taken (cards_of s) node split join ≡ None →
    IsNew s (λ n. tally (split == n) 1 + (tally (node == n) 1 + tally (join == n) 1))
three_new s node split join distinct free n =
    let parts = first_none _ _ free in
    let others = first_none _ _ parts.1 in
    let first = or_parts _ _ (when_none _ _ parts.0) in
    let second = or_parts _ _ (when_none _ _ others.0) in
    let third = or_parts _ _ (when_none _ _ others.1) in
    let split_differs = or_parts (eqb node split) false second.1 in
    let join_differs = or_parts (eqb node join) (eqb split join || false) third.1 in
    let both_differ = or_parts (eqb split join) false join_differs.1 in
    let a = one_new s node distinct first.0 n in
    let b = one_new s split distinct second.0 n in
    let c = one_new s join distinct third.0 n in
    let ab = apart node split n split_differs.0 in
    let ac = apart node join n join_differs.0 in
    let bc = apart split join n both_differ.0 in
    omega (arith, a, b, c, ab, ac, bc)

pub put-distinct : (g : Gap) (x : Part) (s : SchemaModel) → IsDistinct s → IsNew s (λ n. part_weight (named n) x) → IsDistinct (put_at g x s)
put-distinct g x s distinct new =
    from_times (put_at g x s) (λ n.
    let more : ℕ = part_weight (named n) x in
    let inner = put-weight (named n) g x s.body in
    let with_head = put_if-weight (named n) (is_behind g s.start) x (put g x s.body) in
    let head = behind_once g more Start s.start in
    let once = at_most (gap_node g) more s distinct in
    let few = new n in
    omega (arith, inner, with_head, head, once, few))

pub wrap-distinct : (s : SchemaModel) (node split join first last : ℕ) → IsDistinct s → one_taken (cards_of s) node split join ≡ None →
    IsDistinct (record s { body = change (first, last) (beside node split join) s.body })
wrap-distinct s node split join first last distinct free =
    from_times (record s { body = change (first, last) (beside node split join) s.body }) (λ n.
    let more : ℕ = tally (split == n) 1 + (tally (node == n) 1 + tally (join == n) 1) in
    let adds : Adds (named n) (beside node split join) more = λ p. omega arith in
    let inner = change-weight (named n) (first, last) (beside node split join) more adds s.body in
    let once = at_most first more s distinct in
    let few = three_new s node split join distinct free n in
    omega (arith, inner, once, few))

-- an activity that is there
acts_there : (n : ℕ) (cs : List Card) → by_card (λ c. is_activity c.kind) n (card_at n cs) ≡ None → 1 ≤ total (λ c. acts n c.kind c.node) cs
acts_there n [] h = absurd (cc)
acts_there n (c ∷ cs) h =
    elim (cases_Bool (eqb c.node n)) [
      | inl same ↦
          let here : when (not (is_activity c.kind)) (WrongKind n) ≡ None = rw same at h in
          elim (cases_Bool (is_activity c.kind)) [
            | inl is ↦ rw (is, same) (omega arith)
            | inr other ↦ absurd (let bad : Some (WrongKind n) ≡ None = rw other at here in cc)
          ]
      | inr other ↦ let later = acts_there n cs (rw other at h) in omega (arith, later)
    ]

moved-distinct : (s : SchemaModel) (node : ℕ) (g : Gap) → IsDistinct s → unless_activity (cards_of s) node ≡ None →
    IsDistinct (put_at g (act node) (record s { body = without node s.body }))
moved-distinct s node g distinct there =
    let t : SchemaModel = record s { body = without node s.body } in
    let rest : IsDistinct t = fewer s t (λ n. let less = without-weight (named n) node s.body in omega (arith, less)) distinct in
    let gone : times node t ≡ 0 =
    let acting = acts_there node (cards_of s) there in
    let same = schema_total (acts node) s in
    let out = without-acts node s.body in
    let few = at_most node 1 s distinct in
    omega (arith, acting, same, out, few)
    in
    put-distinct g (act node) t rest (λ n.
    elim (cases_Bool (eqb node n)) [
      | inl same ↦ let none : times n t ≡ 0 = subst (λ m. times m t ≡ 0) (eqb-true node n same) gone in rw same (omega (arith, none))
      | inr other ↦ let few = at_most n 1 t rest in rw other (omega (arith, few))
    ])

-- an operation that is not refused
pub step-distinct : (s : SchemaModel) (o : Op) → IsDistinct s → refusal s o ≡ None → IsDistinct (effect s o)
step-distinct s (op.InsertSerial node role g) distinct free =
    let new = or_parts _ _ (when_none _ _ (first_none _ _ free).0) in
    fewer (put_at g (act node) s) (effect s (op.InsertSerial node role g)) (λ n. omega arith) (put-distinct g (act node) s distinct (one_new s node distinct new.0))
step-distinct s (op.InsertParallel node role split join first last) distinct free =
    fewer (record s { body = change (first, last) (beside node split join) s.body }) (effect s (op.InsertParallel node role split join first last)) (λ n. omega arith)
    (wrap-distinct s node split join first last distinct (first_none _ _ free).0)
step-distinct s (op.InsertConditional node role split join g) distinct free =
    let new = three_new s node split join distinct (first_none _ _ free).0 in
    fewer (put_at g (choice node split join) s) (effect s (op.InsertConditional node role split join g)) (λ n. omega arith)
    (put-distinct g (choice node split join) s distinct (λ n. let few = new n in omega (arith, few)))
step-distinct s (op.DeleteActivity node) distinct free =
    fewer s (effect s (op.DeleteActivity node)) (λ n. let less = without-weight (named n) node s.body in omega (arith, less)) distinct
step-distinct s (op.MoveActivity node g) distinct free = moved-distinct s node g distinct (first_none _ _ free).0
step-distinct s (op.InsertSync source target) distinct free = fewer s (effect s (op.InsertSync source target)) (λ n. omega arith) distinct
step-distinct s (op.DeleteSync source target) distinct free = fewer s (effect s (op.DeleteSync source target)) (λ n. omega arith) distinct
step-distinct s (op.AddElement element kind) distinct free = fewer s (effect s (op.AddElement element kind)) (λ n. omega arith) distinct
step-distinct s (op.AddRead node element mandatory) distinct free = fewer s (effect s (op.AddRead node element mandatory)) (λ n. omega arith) distinct
step-distinct s (op.RemoveRead node element) distinct free = fewer s (effect s (op.RemoveRead node element)) (λ n. omega arith) distinct
step-distinct s (op.AddWrite node element) distinct free = fewer s (effect s (op.AddWrite node element)) (λ n. omega arith) distinct
step-distinct s (op.RemoveWrite node element) distinct free = fewer s (effect s (op.RemoveWrite node element)) (λ n. omega arith) distinct
step-distinct s (op.SetRole node role) distinct free = fewer s (effect s (op.SetRole node role)) (λ n. omega arith) distinct

-- what follows an operation, where it has been shown for the schema that it makes
behind_step : (s new : SchemaModel) (o : Op) (index : ℕ) (rest : Result SchemaModel OpFault) → IsDistinct s → (IsDistinct (effect s o) → rest ≡ Ok new → IsDistinct new) →
    unless_refused (refusal s o) index rest ≡ Ok new → IsDistinct new
behind_step s new o index rest distinct next h = go (refusal s o) refl h
  where
    go : (why : Option OpWhy) → refusal s o ≡ why → unless_refused why index rest ≡ Ok new → IsDistinct new
    go (Some why) is h = absurd (cc)
    go None is h = next (step-distinct s o distinct is) h

-- operations that are not refused
pub applied-distinct : (os : List Op) (index : ℕ) (s new : SchemaModel) → IsDistinct s → applied_from index s os ≡ Ok new → IsDistinct new
applied-distinct [] index s new distinct h = let same : s ≡ new = cc in subst IsDistinct same distinct
applied-distinct (o ∷ os) index s new distinct h = behind_step s new o index _ distinct (λ next rest. applied-distinct os (index + 1) (effect s o) new next rest) h
