-- What the items of a case mean to an actor: it may start what is offered to it, and end what it holds.
use Rattle.std.specs.{Prelude.{◌≡◌, ℕ, ◌==◌, ◌&&◌, Bool, true, false, not, List, [], Option, Some, None}, List.list_any}
use Rattle.case_core.specs.{CaseModel.{CaseModel, LiveModel}, Machine.case_reply, Promises.{IsFairView, goes_on}, Shown.{items_of, shown}, declared.replies.Reply.Reply}
use Rattle.case_core.specs.declared.events.Event.TheVariants as event
use Rattle.case_core.specs.declared.replies.Reply.TheVariants as reply
use Rattle.file_model.specs.declared.files.File.{File}
use Rattle.line_calls.specs.Files.{roles_of}
use Rattle.talk_answers.specs.Standings.{concerns}
use Rattle.wsm_items.specs.declared.work_items.Item.{Item}
use Rattle.wsm_items.specs.declared.work_items.Item.TheVariants as item
use Rattle.wsm_lists.specs.Values.{Written}

-- the items of a case, where it was created
abbrev pub items_shown : Option LiveModel → List Item
items_shown None = []
items_shown (Some l) = items_of l

-- whether an item offers that node to an actor, and whether the actor holds the node by it
abbrev pub offers : File → ℕ → ℕ → Item → Bool
offers f a n (item.Offered node role) = node == n && concerns f (Some a) (item.Offered node role)
offers f a n (item.Held node user) = false

abbrev pub holds : ℕ → ℕ → Item → Bool
holds a n (item.Offered node role) = false
holds a n (item.Held node user) = node == n && user == a

abbrev pub is_started : Reply → Bool
is_started (reply.Started reads) = true
is_started _ = false

-- whether an end was refused since the actor has no such node in hand
abbrev pub has_not : Reply → Bool
has_not reply.NoCase = true
has_not reply.NoNode = true
has_not (reply.NotRunning s) = true
has_not (reply.NotHolder user) = true
has_not _ = false

-- an actor is offered exactly the nodes of which a start by it, with its roles, is accepted
abbrev pub OffersStarts : File → ℕ → CaseModel → Type 0
OffersStarts f a s = (n : ℕ) → list_any (offers f a n) (items_shown s.live) ≡ is_started (case_reply s (event.Start n a (roles_of f a)))

-- and holds exactly those of which no end by it, whatever it chooses and writes, is refused for that
abbrev pub HoldsEnds : ℕ → CaseModel → Type 0
HoldsEnds a s = (n : ℕ) (choice : Option ℕ) (writes : Written) → list_any (holds a n) (items_shown s.live) ≡ not (has_not (case_reply s (event.End n a choice writes)))

-- a case is never stuck, and what is offered there has its values
abbrev pub IsPromised : CaseModel → Type 0
IsPromised s = (goes_on (shown s) ≡ true) × IsFairView s (shown s)
