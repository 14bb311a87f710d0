-- A trail without the Start of a node that is given back.
use Rattle.std.specs.Prelude.{ℕ, not, List, filter}
use Rattle.wsm_schema.specs.{Marks.is_start_of, Trail.TrailModel, declared.entries.Entry.Entry}

abbrev pub starts_of : ℕ → List (ℕ × Entry) → List (ℕ × Entry)
starts_of n es = filter (λ e. is_start_of n e.1) es

-- all other entries stay, at their positions
abbrev pub without_start : ℕ → List (ℕ × Entry) → List (ℕ × Entry)
without_start n es = filter (λ e. not (is_start_of n e.1)) es

abbrev pub withdrawn : ℕ → TrailModel → TrailModel
withdrawn n t = record t { entries = without_start n t.entries }
