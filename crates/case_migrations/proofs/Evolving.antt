-- A type's versions go on from one another.
use Rattle.std.proofs.Common.{◌≡◌, ℕ, suc, ◌+◌, ◌-◌, ◌≤◌, List, [], ◌∷◌, ◌++◌, drop, length, flat_map, refl, ap, sym, ◌∙◌, subst, arith, Result, Ok, Err, length-append, append_assoc, drop_of_length-le, append-nil}
use Rattle.wsm_schema.specs.SchemaModel.{SchemaModel}
use Rattle.wsm_ops.specs.{Apply.applied, declared.operations.Op.Op}
use Rattle.wsm_sound.specs.{Faults.changed_by, VersionModel.VersionModel, Versions.{ops_after, with_schema, next_version, evolved}, declared.faults.Fault.Fault}
use Rattle.wsm_sound.proofs.{InARow.applied-in_a_row, NoFaults.taken_parts}
use Rattle.case_migrations.specs.GoesOn.{GoesOn}

-- each version goes on from itself
pub same-version : (v : VersionModel) → v.number ≡ length v.lineage + 1 → GoesOn v v
same-version v counted =
    let behind : drop (v.number - 1) v.lineage ≡ [] = drop_of_length-le v.lineage (omega (arith, counted)) in
    record {
      counted = counted;
      later = omega arith;
      numbered = omega (arith, counted);
      made = ap (λ lists. applied v.schema (flat_map (λ ops. ops) lists)) behind;
    }

drop-more : {X : Type 0} (n : ℕ) (xs ys : List X) → n ≤ length xs → drop n (xs ++ ys) ≡ drop n xs ++ ys
drop-more ℕ.zero xs ys le = refl
drop-more (suc n) [] ys le = absurd (omega (arith, le))
drop-more (suc n) (x ∷ xs) ys le = drop-more n xs ys (omega (arith, le))

one-more : (lists : List (List Op)) (ops : List Op) → flat_map (λ l. l) (lists ++ ops ∷ []) ≡ flat_map (λ l. l) lists ++ ops
one-more [] ops = append-nil ops
one-more (l ∷ lists) ops = ap (λ rest. l ++ rest) (one-more lists ops) ∙ sym (append_assoc l (flat_map (λ k. k) lists) ops)

-- and so does the next version of a type
pub next-version : (base v w : VersionModel) (ops : List Op) → GoesOn base v → evolved v ops ≡ Ok w → GoesOn base w
next-version base v w ops on h = go (changed_by v.schema ops) refl h
  where
    made-by : (s : SchemaModel) → changed_by v.schema ops ≡ Ok s → GoesOn base (next_version v ops s)
    made-by s changed =
        let counted = on.counted in
        let later = on.later in
        let within : base.number - 1 ≤ length v.lineage = omega (arith, counted, later) in
        let more = length-append v.lineage (ops ∷ []) in
        let whole : ops_after base.number (next_version v ops s) ≡ ops_after base.number v ++ ops =
        ap (flat_map (λ l. l)) (drop-more (base.number - 1) v.lineage (ops ∷ []) within) ∙ one-more (drop (base.number - 1) v.lineage) ops
        in
        record {
          counted = omega (arith, counted, more);
          later = omega (arith, later);
          numbered = on.numbered;
          made = ap (applied base.schema) whole ∙ applied-in_a_row base.schema v.schema s (ops_after base.number v) ops on.made (taken_parts v.schema s ops changed).0;
        }

    go : (r : Result SchemaModel Fault) → changed_by v.schema ops ≡ r → with_schema (next_version v ops) r ≡ Ok w → GoesOn base w
    go (Ok s) is h = let same : next_version v ops s ≡ w = cc in subst (GoesOn base) same (made-by s is)
    go (Err f) is h = absurd (cc)
