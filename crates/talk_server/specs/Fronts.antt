-- What an image begins with.
use Rattle.std.specs.Prelude.{◌≡◌, ℕ, List, [], ◌++◌, drop}
use Rattle.store_disk.specs.{Image.framed, Rest.EndsAt}
use Rattle.talk_rules.specs.Units.{UnitRules, header}
use Rattle.talk_server.specs.{Opening.{damaged_at, opened, unbegun}, declared.fronts.Front.Front}
use Rattle.talk_server.specs.declared.fronts.Front.TheVariants as front

-- whatever is said of units
abbrev pub IsFront : List ℕ → Front → Type 0
IsFront image front.Unbegun = EndsAt image [] 0 × ((rules : UnitRules) → opened rules image ≡ unbegun)
IsFront image front.Header = image ≡ framed header ++ drop 13 image
IsFront image front.Other = (rules : UnitRules) → opened rules image ≡ damaged_at 0
