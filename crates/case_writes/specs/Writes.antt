-- Which of the values that an end brings are wrong, and how right ones are recorded.
use Rattle.std.specs.Prelude.{ℕ, Bool, false, ◌&&◌, not, List, [], ◌∷◌, ◌++◌, map, filter, fold, Option, Some, None, ◌==◌}
use Rattle.wsm_lists.specs.{declared.values.Value.Value, Keys.first, Rows.put_row, Values.Written, declared.values.ElementKind.ElementKind}
use Rattle.wsm_schema.specs.{Flat.kind_in, Replay.is_of_kind, Trail.is_one_of}

-- the value of the only write
abbrev pub only : Value → Written → Option Value
only v [] = Some v
only v (w ∷ ws) = None

abbrev pub only_value : Written → Option Value
only_value [] = None
only_value (w ∷ ws) = only w.1 ws

abbrev pub writes_to : ℕ → Written → Written
writes_to d writes = filter (λ w. w.0 == d) writes

abbrev pub is_right : List (ℕ × ElementKind) → Option Value → ℕ → Bool
is_right elements None d = false
is_right elements (Some v) d = is_of_kind (kind_in d elements) v

-- an element is wrong unless it is a write edge and exactly one of the writes names it, with a value of its kind
abbrev pub is_wrong : List (ℕ × ElementKind) → List ℕ → Written → ℕ → Bool
is_wrong elements edges writes d = not (is_one_of d edges && is_right elements (only_value (writes_to d writes)) d)

-- numbers in ascending order, each once
abbrev pub number_key : ℕ → ℕ × ℕ
number_key n = (n, 0)

abbrev pub ascending : List ℕ → List ℕ
ascending ns = fold (λ sorted n. put_row number_key n sorted) [] ns

-- the wrong elements among the write edges and the elements that are written
abbrev pub wrong_elements : List (ℕ × ElementKind) → List ℕ → Written → List ℕ
wrong_elements elements edges writes = ascending (filter (is_wrong elements edges writes) (edges ++ map (λ w. w.0) writes))

-- writes in ascending order of their elements
abbrev pub by_element : Written → Written
by_element writes = fold (λ sorted w. put_row first w sorted) [] writes
