-- Two lists that apply to one schema and do not overlap.
use Rattle.wsm_commute.proofs.{Common.{[], ◌∙◌, ◌∷◌, ◌≡◌, applied, Err, in_order, IsOrdered, least_overlap, List, None, Ok, Op, OpFault, SchemaModel, sym}, Footprints.no-overlap, ListsCommute.{Meet, two-lists}}

module _ (s one other : SchemaModel) (left right : List Op) (ordered : IsOrdered s) (first : applied s left ≡ Ok one) (second : applied s right ≡ Ok other) (apart : least_overlap left right ≡ None) where
  meet : Meet 1 1 one other left right
  meet = two-lists 1 1 s one other left right (no-overlap left right apart) ordered first second

  -- what the right list makes behind the left one, the left one makes behind the right one
  pub other-order : (new : SchemaModel) → applied one right ≡ Ok new → in_order s (right ∷ left ∷ []) ≡ Ok new
  other-order new made =
      let same : Ok meet.schema ≡ Ok new = sym meet.right_last ∙ made in
      rw (second, meet.left_last) same

  -- the right list is not refused behind the left one
  pub never-refused : (fault : OpFault) → applied one right ≡ Err fault → ⊥
  never-refused fault refused = let bad : Ok meet.schema ≡ Err fault = sym meet.right_last ∙ refused in cc
