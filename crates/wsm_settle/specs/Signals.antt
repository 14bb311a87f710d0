-- What edges signal over marks.
use Rattle.std.specs.{Prelude.{◌≡◌, ℕ, Bool, true, not, is_some, List, map, Option, Some, None}, List.list_any}
use Rattle.wsm_schema.specs.{declared.cards.Card.Card, declared.marks.Mark.Mark}
use Rattle.wsm_marks.specs.Timed.{Timed, awaited, sig_at}
use Rattle.wsm_walk.specs.Walk.{facts_by, times_by}

-- what an edge with that label signals from a node
abbrev pub signal_by : List Card → (ℕ → Mark) → Option ℕ → ℕ → Timed
signal_by cards mark label n = sig_at cards (facts_by mark) (times_by mark) label n

-- the signals of the control edges that a node waits for
abbrev pub awaited_signals : List Card → (ℕ → Mark) → Card → List Timed
awaited_signals cards mark c = map (λ e. signal_by cards mark e.label e.node) (awaited c.kind c.ins)

-- whether one of the signals is missing
abbrev pub lacks : List Timed → Bool
lacks xs = list_any (λ x. not (is_some x)) xs

-- all of these signals, or none where one of them is missing
abbrev pub AllOf : List Timed → Option (List Timed) → Type 0
AllOf xs None = lacks xs ≡ true
AllOf xs (Some ys) = ys ≡ xs
