-- Places in a rank that are still to be visited, in ascending order.
use Rattle.std.specs.Prelude.{ℕ, ◌+◌, Bool, List, [], ◌∷◌, Option, Some, None, if◌then◌else◌}
use Rattle.wsm_settle.specs.declared.places.Others.{Others}
use Rattle.wsm_settle.specs.declared.places.Others.TheVariants.{Few, Many}

pub record Places : Type 0 where
  pub keys : List ℕ

-- the least place, where there is one, and the others
abbrev pub least_first : Option ℕ → List ℕ → List ℕ
least_first None others = others
least_first (Some place) others = place ∷ others

-- the places whose flags are raised, from a place on
abbrev pub flagged : ℕ → List Bool → List ℕ
flagged place [] = []
flagged place (b ∷ bs) = if b then place ∷ flagged (place + 1) bs else flagged (place + 1) bs

abbrev pub waiting : Others → List ℕ
waiting (Few places) = places.keys
waiting (Many flags) = flagged 0 flags.items
