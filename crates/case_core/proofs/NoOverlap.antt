-- A case without own operations has none in common with a version.
use Rattle.case_core.proofs.Common.{[], ◌∷◌, ◌≡◌, all_changes, ap, filter, is_among, least, least_overlap, List, Name, None, Op, refl}

none-among : (names : List Name) → filter (is_among []) names ≡ []
none-among [] = refl
none-among (n ∷ ns) = none-among ns

pub no-overlap : (ops : List Op) → least_overlap [] ops ≡ None
no-overlap ops = ap least (none-among (all_changes ops))
