-- Script lines with the versions that their actors were told, as the code keeps them.
use Rattle.std.specs.{Prelude.{ℕ, ◌+◌, List, [], map, fold, replicate, ◌∷◌, slice_set, Option, Some, None, option_map, Vec}, Borrow.Bor, declared.collections.VecDeque.VecDeque}
use Rattle.audit_model.specs.{Common.{one_added, ClosedKind, front_of, KindEntry, Line, one_taken, queue_of, VersionModel}, Asked.{actor_of, Asked, asks, told_by}}
use Rattle.case_audit.specs.{declared.turns.Turns.Turns, declared.asked.AskedLine.AskedLine, declared.told.Told.Told}

abbrev pub asked_of : AskedLine → Asked
asked_of c = (c.line.now, option_map (λ v. v.now) c.version)

abbrev pub shown_of : ℕ × AskedLine → ℕ × Asked
shown_of p = (p.0, asked_of p.1)

abbrev pub asked_in : List AskedLine → List Asked
asked_in calls = map asked_of calls

-- phase by phase
abbrev pub script_of : {A : Type 0} → List (Vec AskedLine A) → List (List Asked)
script_of phases = map (λ v. asked_in v.items) phases

-- ---- which versions each actor has yet to be told, by the type's number and then by the actor's
abbrev pub Queues : Type 0
Queues = List (List (List VersionModel))

abbrev pub deques_of : {A : Type 0} → List (VecDeque (Bor VersionModel) A) → List (List VersionModel)
deques_of queues = map (λ q. map (λ v. v.now) q.items) queues

abbrev pub told_versions : Told → Queues
told_versions told = map (λ v. deques_of v.items) told.versions.items

abbrev pub none_told : ℕ → List (List VersionModel)
none_told actors = replicate (actors + 1) []

-- the version that an entry told, where it told one, at the end of its caller's
abbrev pub with_version : ℕ → Option VersionModel → List (List VersionModel) → List (List VersionModel)
with_version a None queues = queues
with_version a (Some v) queues = one_added a v queues

abbrev pub with_told : List (List VersionModel) → KindEntry → List (List VersionModel)
with_told queues e = with_version e.caller (told_by e.event e.reply) queues

-- what the entries of a journal told so many actors, and those of each type
abbrev pub journal_told : ℕ → List KindEntry → List (List VersionModel)
journal_told actors journal = fold with_told (none_told actors) journal

abbrev pub all_told : ℕ → List ClosedKind → Queues
all_told actors kinds = map (λ (k : ClosedKind). journal_told actors k.journal) kinds

-- ---- a line asks the type, or none, and takes the version away
abbrev pub next_version : Queues → ℕ → Option ℕ → Option VersionModel
next_version told a None = None
next_version told a (Some t) = front_of (queue_of (queue_of told t) a)

abbrev pub left_in : Queues → ℕ → Option ℕ → Queues
left_in told a None = told
left_in told a (Some t) = slice_set told t (one_taken a (queue_of told t))

abbrev pub asked_by : Queues → List Line → List Asked
asked_by told [] = []
asked_by told (l ∷ ls) = (l, next_version told l.actor (asks l.act)) ∷ asked_by (left_in told l.actor (asks l.act)) ls

abbrev pub left_by : Queues → List Line → Queues
left_by told [] = told
left_by told (l ∷ ls) = left_by (left_in told l.actor (asks l.act)) ls

abbrev pub script_by : Queues → List (List Line) → List (List Asked)
script_by told [] = []
script_by told (lines ∷ phases) = asked_by told lines ∷ script_by (left_by told lines) phases

-- ---- the lines of actors in one phase, as the code keeps them
-- a queue for each actor
abbrev pub queues_of : Turns → List (List Asked)
queues_of t = map (λ q. asked_in q.items) t.by_actor.items

abbrev pub no_queues : ℕ → List (List Asked)
no_queues actors = replicate (actors + 1) []

-- a line at the end of its actor's
abbrev pub with_turn : List (List Asked) → Asked → List (List Asked)
with_turn queues l = one_added (actor_of l) l queues

abbrev pub all_turns : ℕ → List Asked → List (List Asked)
all_turns actors ls = fold with_turn (no_queues actors) ls
