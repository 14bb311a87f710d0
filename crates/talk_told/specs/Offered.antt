-- What an actor is told of the items of a case.
use Rattle.std.specs.{Prelude.{◌≡◌, ℕ, List, not, Option, Some, filter, flat_map}, List.list_any}
use Rattle.case_core.specs.{CaseModel.{CaseModel, LiveModel}, Machine.case_reply}
use Rattle.case_core.specs.declared.events.Event.TheVariants as event
use Rattle.file_model.specs.{declared.files.CaseDecl.CaseDecl, declared.files.File.File}
use Rattle.line_calls.specs.Files.{roles_of}
use Rattle.talk_answers.specs.{Offers.{has_not, holds, is_started, items_shown, offers}, Standings.{concerns, item_line, item_lines}}
use Rattle.wsm_items.specs.declared.work_items.Item.{Item}
use Rattle.wsm_lists.specs.Values.{Written}

abbrev pub told_items : File → ℕ → Option LiveModel → List Item
told_items f a live = filter (concerns f (Some a)) (items_shown live)

-- A case's lines in the answer to `? items ACTOR` are those of some of its items. Among these the actor is offered exactly the
-- nodes of which a start by it is accepted, and holds exactly those of which no end by it is refused for who it is, or for
-- where.
pub record AreTold (f : File) (a : ℕ) (d : CaseDecl) (s : CaseModel) : Type 0 where
  pub lines : item_lines f (Some a) d s.live ≡ flat_map (item_line f d) (told_items f a s.live)
  pub starts : (n : ℕ) → list_any (offers f a n) (told_items f a s.live) ≡ is_started (case_reply s (event.Start n a (roles_of f a)))
  pub ends : (n : ℕ) (choice : Option ℕ) (writes : Written) → list_any (holds a n) (told_items f a s.live) ≡ not (has_not (case_reply s (event.End n a choice writes)))
