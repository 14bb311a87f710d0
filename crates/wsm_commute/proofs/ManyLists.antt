-- Many lists that apply to one schema, of which no two overlap.
use Rattle.wsm_commute.proofs.Common.{[], ℕ, ◌+◌, ◌∙◌, ◌∷◌, ◌≡◌, AllRows, applied, Err, first_overlap, first_refused, in_order, IsOrdered, IsPermutation, least_overlap, List, None, Ok, Op, OpFault, Option, option_map, option_or}
use Rattle.wsm_commute.proofs.{Common.{overlap_with, refl, Result, SchemaModel, Some, sym}, Footprints.{AllApart, no-overlap}, ListsCommute.{Applies, PairsApart, Fits, all-made, any-order}, Reorders.reordered}
use Rattle.std.specs.Result.{result_err}
use Rattle.wsm_commute.specs.declared.refusals.ManyRefusal.TheVariants as many

-- ---- what the tests tell
first_none : {X : Type 0} (a b : Option X) → option_or a b ≡ None → (a ≡ None) × (b ≡ None)
first_none (Some x) b h = absurd (cc)
first_none None b h = (refl, h)

unmapped : {X Y : Type 0} (f : X → Y) (o : Option X) → option_map f o ≡ None → o ≡ None
unmapped f (Some x) h = absurd (cc)
unmapped f None h = refl

applies : (s : SchemaModel) (ops : List Op) → result_err (applied s ops) ≡ None → Applies s ops
applies s ops h = go (applied s ops) refl h
  where
    go : (r : Result SchemaModel OpFault) → applied s ops ≡ r → result_err r ≡ None → Applies s ops
    go (Ok t) is h = record { schema = t; makes = is }
    go (Err fault) is h = absurd (cc)

all-apply : (index : ℕ) (s : SchemaModel) (lists : List (List Op)) → first_refused index s lists ≡ None → AllRows (Applies s) lists
all-apply index s [] h = tt
all-apply index s (ops ∷ lists) h =
    let parts = first_none _ _ h in
    (applies s ops (unmapped (many.List index) (result_err (applied s ops)) parts.0), all-apply (index + 1) s lists parts.1)

apart-from_later : (index other : ℕ) (ops : List Op) (lists : List (List Op)) → overlap_with index ops other lists ≡ None → AllRows (AllApart ops) lists
apart-from_later index other ops [] h = tt
apart-from_later index other ops (l ∷ lists) h =
    let parts = first_none _ _ h in
    (no-overlap ops l (unmapped (many.Overlap index other) (least_overlap ops l) parts.0), apart-from_later index (other + 1) ops lists parts.1)

pairs-apart : (index : ℕ) (lists : List (List Op)) → first_overlap index lists ≡ None → PairsApart lists
pairs-apart index [] h = tt
pairs-apart index (ops ∷ lists) h =
    let parts = first_none _ _ h in
    (apart-from_later index (index + 1) ops lists parts.0, pairs-apart (index + 1) lists parts.1)

fits : (s : SchemaModel) (lists : List (List Op)) → IsOrdered s → first_refused 1 s lists ≡ None → first_overlap 1 lists ≡ None → Fits s lists
fits s lists ordered applied apart = record { ordered = ordered; each = all-apply 1 s lists applied; apart = pairs-apart 1 lists apart }

module _ (s : SchemaModel) (lists : List (List Op)) (ordered : IsOrdered s) (each : first_refused 1 s lists ≡ None) (apart : first_overlap 1 lists ≡ None) where
  -- every order makes what one order makes
  pub every-order : (new : SchemaModel) → in_order s lists ≡ Ok new → (order : List (List Op)) → IsPermutation lists order → in_order s order ≡ Ok new
  every-order new made order permuted = sym (any-order s (reordered lists order permuted) (fits s lists ordered each apart)) ∙ made

  -- no list is refused behind others
  pub no-fault : (fault : OpFault) → in_order s lists ≡ Err fault → ⊥
  no-fault fault refused =
      let whole = all-made s lists (fits s lists ordered each apart) in
      let bad : Ok whole.schema ≡ Err fault = sym whole.makes ∙ refused in
      cc
