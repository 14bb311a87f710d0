-- A list of operations, one step at a time.
use Rattle.wsm_ops.proofs.Common.{[], ℕ, ◌+◌, ◌<◌, ◌∙◌, ◌∷◌, ◌≡◌, ◌≤◌, add-one, ap, applied, applied_from, drop, drop-cons, drop_of_length-le, effect, Err, get_or, IsOpFault, length, List, None, Ok, Op, OpFault, Option, OpWhy, refl}
use Rattle.wsm_ops.proofs.Common.{refusal, Result, SchemaModel, Some, subst, sym, unless_refused}
use Rattle.wsm_ops.specs.declared.faults.ApplyRefusal.{ApplyRefusal}
use Rattle.wsm_ops.specs.declared.faults.ApplyRefusal.TheVariants as apply_refusal

-- what follows an operation that is not refused, and what is refused
goes_on : (why : Option OpWhy) (index : ℕ) (made new : SchemaModel) (rest : SchemaModel → Result SchemaModel OpFault) →
    unless_refused why index (Ok made) ≡ Ok new → unless_refused why index (rest made) ≡ rest new
goes_on (Some w) index made new rest h = absurd (cc)
goes_on None index made new rest h = let same : made ≡ new = cc in ap rest same

stops : (why : Option OpWhy) (index : ℕ) (made : SchemaModel) (rest : Result SchemaModel OpFault) (fault : OpFault) →
    unless_refused why index (Ok made) ≡ Err fault → unless_refused why index rest ≡ Err fault
stops (Some w) index made rest fault h = h
stops None index made rest fault h = absurd (cc)

fault-stays : (index : ℕ) (s : SchemaModel) (o : Op) (os : List Op) (r : ApplyRefusal) → IsOpFault (applied_from index s (o ∷ [])) r → IsOpFault (applied_from index s (o ∷ os)) r
fault-stays index s o os (apply_refusal.Fault fault) h = stops (refusal s o) index (effect s o) (applied_from (index + 1) (effect s o) os) fault h
fault-stays index s o os apply_refusal.NoMemory h = tt

split : (os : List Op) (i : ℕ) (d : Op) → i < length os → drop i os ≡ get_or os i d ∷ drop (i + 1) os
split os i d lt = rw (add-one, drop-cons os i d lt) refl

-- the operation at a place, behind those before it
pub step_goes_on : (s now new : SchemaModel) (os : List Op) (i : ℕ) (d : Op) → i < length os →
    applied_from (i + 1) now (get_or os i d ∷ []) ≡ Ok new → applied_from (i + 1) now (drop i os) ≡ applied s os → applied_from (i + 1 + 1) new (drop (i + 1) os) ≡ applied s os
step_goes_on s now new os i d lt done before =
    let o : Op = get_or os i d in
    sym (ap (applied_from (i + 1) now) (split os i d lt) ∙ goes_on (refusal now o) (i + 1) (effect now o) new (λ m. applied_from (i + 1 + 1) m (drop (i + 1) os)) done)
    ∙ before

pub step_stops : (s now : SchemaModel) (os : List Op) (i : ℕ) (d : Op) (r : ApplyRefusal) → i < length os →
    IsOpFault (applied_from (i + 1) now (get_or os i d ∷ [])) r → applied_from (i + 1) now (drop i os) ≡ applied s os → IsOpFault (applied s os) r
step_stops s now os i d r lt fault before =
    subst (λ outcome. IsOpFault outcome r) (ap (applied_from (i + 1) now) (sym (split os i d lt)) ∙ before)
    (fault-stays (i + 1) now (get_or os i d) (drop (i + 1) os) r fault)

-- behind the last operation
pub no_more : (s now : SchemaModel) (os : List Op) (i : ℕ) → length os ≤ i → applied_from (i + 1) now (drop i os) ≡ applied s os → applied s os ≡ Ok now
no_more s now os i le before = sym before ∙ ap (applied_from (i + 1) now) (drop_of_length-le os le)
