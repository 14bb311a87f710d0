-- The places of names in a list.
use Rattle.std.specs.{Prelude.{ℕ, ◌≡◌, ◌+◌, List, drop, option_map, bytes_eq}, Map.lookup, declared.vec.Vec.Vec}
use Rattle.file_names.specs.Names.{place_of}
use Rattle.file_words.specs.Lines.{Bytes}

-- each name from a place on is found where it stands first
abbrev pub ArePlacesFrom : {S : Type 0} → ℕ → List (Vec ℕ S × ℕ) → List Bytes → Type 0
ArePlacesFrom at entries names = (n : Bytes) → lookup (λ k. bytes_eq n k.items) entries ≡ option_map (λ i. at + i) (place_of (drop at names) n)

abbrev pub ArePlaces : {S : Type 0} → List (Vec ℕ S × ℕ) → List Bytes → Type 0
ArePlaces entries names = (n : Bytes) → lookup (λ k. bytes_eq n k.items) entries ≡ place_of names n
