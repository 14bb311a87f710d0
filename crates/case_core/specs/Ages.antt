-- How old a case is: by its trail's positions, and by three for each of its own operations.
use Rattle.std.specs.Prelude.{ℕ, ◌+◌, ◌-◌, ◌*◌, length, Option, Some, None}
use Rattle.case_core.specs.{CaseModel.{CaseModel, LiveModel}, declared.events.Event.Event}
use Rattle.case_core.specs.declared.events.Event.TheVariants as event

abbrev pub live_age : Option LiveModel → ℕ
live_age None = 0
live_age (Some l) = (l.trail.next - 1) + 3 * length l.own

abbrev pub age : CaseModel → ℕ
age s = live_age s.live

-- by how much an event may raise the age
abbrev pub weight : Event → ℕ
weight (event.Create version) = 0
weight (event.Start node user roles) = 1
weight (event.End node user choice writes) = 1
weight (event.Withdraw node user) = 0
weight (event.Change ops) = 3 * length ops
weight (event.Migrate version) = 0
