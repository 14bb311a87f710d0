-- What is found where a running case's schema changes.
use Rattle.std.specs.Prelude.{◌≡◌, ℕ, ◌+◌, true, not, is_some, List, [], ◌∷◌, filter, length, Option, None}
use Rattle.wsm_lists.specs.{ByNumber.changed, Keys.first, Rows.put_row}
use Rattle.wsm_schema.specs.{Flat.{FlatModel, card_at, flat_of}, Marks.marks_of, Replay.{fails, replay_of, whole}, Rules.Spots, SchemaModel.SchemaModel, Trail.is_one_of, declared.cards.Card.Card, declared.marks.Mark.Mark}
use Rattle.wsm_marks.specs.Timed.{Entries}
use Rattle.wsm_adapt.specs.{Adapting.Changes, Border.is_known, Bounds.region_reads, Region.is_reached, declared.adapting.Adapted.Adapted}
use Rattle.wsm_adapt.specs.declared.adapting.Adapted.TheVariants as adapted

-- those of some nodes that the schema does not have
abbrev pub gone_of : List Card → List ℕ → List ℕ
gone_of cards nodes = filter (λ n. not (is_some (card_at n cards))) nodes

-- rows without the marks of some nodes
abbrev pub without : List ℕ → List (ℕ × Option Mark) → List (ℕ × Option Mark)
without [] rows = rows
without (n ∷ ns) rows = without ns (put_row first (n, None) rows)

-- the changes to the marks where the trail replays whole on the new schema, else the position at which it fails
abbrev pub IsAdapted : FlatModel → List (ℕ × Mark) → Entries → Adapted → Type 0
IsAdapted flat kept es (adapted.Moved changes) = (t : Spots) × (replay_of flat es ≡ whole t) × (changed changes kept ≡ marks_of flat es)
IsAdapted flat kept es (adapted.Blocked position) = replay_of flat es ≡ fails position

-- for every trail that replays whole on the old schema and has these marks
abbrev pub AdaptsRight : FlatModel → FlatModel → List ℕ → List ℕ → List (ℕ × Mark) → Entries → Adapted → Type 0
AdaptsRight old new rank touched kept es adapted =
    (before_ after : SchemaModel) → old ≡ flat_of before_ → new ≡ flat_of after → Changes before_ after rank touched es → kept ≡ marks_of old es → IsAdapted new kept es adapted

-- each touched node has a row among the changes
abbrev pub TellsTouched : List ℕ → Adapted → Type 0
TellsTouched touched (adapted.Moved changes) = (n : ℕ) → is_one_of n touched ≡ true → is_known changes n ≡ true
TellsTouched touched (adapted.Blocked position) = Unit {0}

-- how many marks may be read: one for each touched node that the new schema does not have, and for each card of a node that is
-- reached one, and one for each edge into it from a node that is not
abbrev pub marks_to_read : FlatModel → List ℕ → List ℕ → ℕ
marks_to_read new rank touched = length (gone_of new.cards touched) + region_reads (is_reached new.cards rank touched) new.cards
