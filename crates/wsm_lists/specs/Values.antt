-- Values of elements.
use Rattle.std.specs.Prelude.{ℕ, Bool, true, false, ◌&&◌, List, [], ◌∷◌, Option, Some, None, ◌==◌, int_le, bytes_eq, if◌then◌else◌}
use Rattle.wsm_lists.specs.{declared.values.Value.Value, declared.values.ElementKind.ElementKind}
use Rattle.wsm_lists.specs.declared.values.Value.TheVariants as value
use Rattle.wsm_lists.specs.declared.values.ElementKind.TheVariants as kind

-- the kind of a value
abbrev pub kind_of : Value → ElementKind
kind_of (value.Int n) = kind.Int
kind_of (value.Text t) = kind.Text

abbrev pub has_kind : ElementKind → Value → Bool
has_kind kind.Int (value.Int n) = true
has_kind kind.Text (value.Text t) = true
has_kind _ _ = false

abbrev pub same_value : Value → Value → Bool
same_value (value.Int a) (value.Int b) = int_le a b && int_le b a
same_value (value.Text a) (value.Text b) = bytes_eq a b
same_value _ _ = false

abbrev pub same_option_value : Option Value → Option Value → Bool
same_option_value None None = true
same_option_value (Some a) (Some b) = same_value a b
same_option_value _ _ = false

-- elements with the values that were written
abbrev pub Written : Type 0
Written = List (ℕ × Value)

-- the value that a list of writes gives to an element
abbrev pub value_in : ℕ → Written → Option Value
value_in element [] = None
value_in element (w ∷ ws) = if w.0 == element then Some w.1 else value_in element ws
