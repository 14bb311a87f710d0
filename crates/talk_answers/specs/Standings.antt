-- What is held, as questions ask for it.
use Rattle.std.specs.{Prelude.{ℕ, ◌==◌, ◌||◌, Bool, true, List, [], ◌∷◌, ◌++◌, length, flat_map, slice_get, Option, Some, None, if◌then◌else◌, codes, decimal}, List.list_any}
use Rattle.case_core.specs.{CaseModel.LiveModel, Shown.{is_finished, items_of}}
use Rattle.case_places.specs.Places.{Placed, places_of}
use Rattle.file_words.specs.Lines.{Bytes}
use Rattle.file_model.specs.{declared.files.ActorDecl.ActorDecl, declared.files.CaseDecl.CaseDecl, declared.files.File.File}
use Rattle.line_calls.specs.Files.{roles_of}
use Rattle.report_text.specs.{Ends.{item_text, progress}, Journals.numbered, Report.side_by_side}
use Rattle.report_words.specs.Words.{role_text, type_text}
use Rattle.script_run.specs.{declared.runs.ClosedCase.ClosedCase, declared.runs.ClosedKind.ClosedKind}
use Rattle.talk_answers.specs.Entries.{if_both}
use Rattle.type_core.specs.Machine.{newest_of}
use Rattle.unit_run.specs.Runs.{Placing}
use Rattle.wsm_items.specs.declared.work_items.Item.{Item}
use Rattle.wsm_items.specs.declared.work_items.Item.TheVariants as item
use Rattle.wsm_sound.specs.VersionModel.{VersionModel}

-- on which version a case stands, whether it is finished, and how many operations of its own it has
abbrev pub standing_of : Option LiveModel → Bytes
standing_of None = codes " none\n"
standing_of (Some l) = codes " " ++ (decimal l.base.number ++ (progress (is_finished l) ++ (codes " own=" ++ (decimal (length l.own) ++ codes "\n"))))

abbrev pub standing : File → CaseDecl → ClosedCase → Bytes
standing f d c = codes "case " ++ (d.name ++ ((codes " " ++ type_text f d.id.type_no) ++ standing_of c.machine.live))

-- of all cases, of the one that was declared at a place, and of those of a type
abbrev pub all_standings : File → Placing → Bytes
all_standings f p = side_by_side (standing f) f.cases p.run.cases

abbrev pub standing_at : File → Placing → ℕ → Bytes
standing_at f p place = if_both (standing f) (slice_get f.cases place) (slice_get p.run.cases place)

abbrev pub standings_of : File → Placing → ℕ → Bytes
standings_of f p t = flat_map (standing_at f p) (places_of t p.placed.types)

-- whether an item is offered to an actor or held by it; where no actor is asked for, each is
abbrev pub has_role : File → ℕ → ℕ → Bool
has_role f a role = list_any (λ r. r == role) (roles_of f a)

abbrev pub concerns : File → Option ℕ → Item → Bool
concerns f None i = true
concerns f (Some a) (item.Offered node role) = role == 0 || has_role f a role
concerns f (Some a) (item.Held node user) = user == a

abbrev pub item_line : File → CaseDecl → Item → Bytes
item_line f d i = codes "item " ++ (d.name ++ (item_text f i ++ codes "\n"))

abbrev pub line_if_concerned : File → Option ℕ → CaseDecl → Item → Bytes
line_if_concerned f a d i = if concerns f a i then item_line f d i else []

abbrev pub item_lines : File → Option ℕ → CaseDecl → Option LiveModel → Bytes
item_lines f a d None = []
item_lines f a d (Some l) = flat_map (line_if_concerned f a d) (items_of l)

abbrev pub case_items : File → Option ℕ → CaseDecl → ClosedCase → Bytes
case_items f a d c = item_lines f a d c.machine.live

abbrev pub items : File → Option ℕ → Placing → Bytes
items f a p = side_by_side (case_items f a) f.cases p.run.cases

-- how many versions a type has: its newest has the last of their numbers, which count from 1
abbrev pub versions_of : Option VersionModel → ℕ
versions_of None = 0
versions_of (Some v) = v.number

-- and how many cases
abbrev pub type_line : File → Placed → ℕ → ClosedKind → Bytes
type_line f placed t k =
    (codes "type " ++ type_text f t) ++ (codes " versions=" ++ (decimal (versions_of (newest_of k.machine.versions)) ++ (codes " cases=" ++ (decimal (length (places_of t placed.types)) ++ codes "\n"))))

abbrev pub types_text : File → Placing → Bytes
types_text f p = numbered (type_line f p.placed) 0 p.run.kinds

-- the actors, with their roles
abbrev pub spaced_role : File → ℕ → Bytes
spaced_role f r = codes " " ++ role_text f r

abbrev pub roles_text : File → List ℕ → Bytes
roles_text f [] = []
roles_text f (r ∷ rs) = codes " roles" ++ flat_map (spaced_role f) (r ∷ rs)

abbrev pub actor_line : File → ActorDecl → Bytes
actor_line f a = codes "actor " ++ (a.name ++ (roles_text f a.roles ++ codes "\n"))

abbrev pub actors_text : File → Bytes
actors_text f = flat_map (actor_line f) f.actors
