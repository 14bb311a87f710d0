-- The first two of some lists that overlap, found by one walk from the last list to the first.
use Rattle.std.specs.{Prelude.{ℕ, ◌+◌, Bool, List, [], ◌∷◌, min, Option, Some, None, is_some}, List.position_from}
use Rattle.wsm_ops.specs.declared.operations.Op.{Op}
use Rattle.wsm_foot.specs.{Foot.{all_changes, footprint, is_among, least_overlap}, declared.names.Name.Name}

-- the lesser of two places
abbrev pub earlier : Option ℕ → Option ℕ → Option ℕ
earlier None b = b
earlier (Some a) None = Some a
earlier (Some a) (Some b) = Some (min a b)

-- the least place that is noted for one of some names
abbrev pub earliest : (Name → Option ℕ) → List Name → Option ℕ
earliest noted [] = None
earliest noted (n ∷ ns) = earlier (noted n) (earliest noted ns)

-- the first list that changes or uses a name, and the first that changes it, where the lists start at a place
abbrev pub first_touching : ℕ → List (List Op) → Name → Option ℕ
first_touching place lists n = position_from (λ ops. is_among (footprint ops) n) place lists

abbrev pub first_changing : ℕ → List (List Op) → Name → Option ℕ
first_changing place lists n = position_from (λ ops. is_among (all_changes ops) n) place lists

-- whether two lists overlap
abbrev pub overlaps : List Op → List Op → Bool
overlaps left right = is_some (least_overlap left right)

-- a place with its partner, or the pair that is found behind it
abbrev pub pair_or : ℕ → Option ℕ → Option (ℕ × ℕ) → Option (ℕ × ℕ)
pair_or place None later = later
pair_or place (Some partner) later = Some (place, partner)

-- the first list that overlaps with a later one, and the first such, where the lists start at a place
abbrev pub first_pair : ℕ → List (List Op) → Option (ℕ × ℕ)
first_pair place [] = None
first_pair place (ops ∷ lists) = pair_or place (position_from (overlaps ops) (place + 1) lists) (first_pair (place + 1) lists)
