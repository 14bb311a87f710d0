-- Trails that replay whole, and that repeat no loop's end twice.
use Rattle.std.specs.{Prelude.{ℕ, Bool, true, false, ◌&&◌, not, ◌==◌, List, [], ◌∷◌}, List.list_any}
use Rattle.wsm_schema.specs.{Marks.is_again_of, Replay.{Outcome, whole, fails}, declared.entries.Entry.Entry}
use Rattle.wsm_schema.specs.declared.entries.Entry.TheVariants as entry

-- whether a replay failed nowhere
abbrev pub is_whole : Outcome → Bool
is_whole (whole spots) = true
is_whole (fails position) = false

-- whether a loop's end is repeated
abbrev pub has_again : ℕ → List (ℕ × Entry) → Bool
has_again n es = list_any (λ e. is_again_of n e.1) es

-- whether no loop's end is repeated again behind the entry
abbrev pub again_once : Entry → List (ℕ × Entry) → Bool
again_once (entry.Again node writes) es = not (has_again node es)
again_once _ es = true

abbrev pub agains_once : List (ℕ × Entry) → Bool
agains_once [] = true
agains_once (e ∷ es) = again_once e.1 es && agains_once es
