-- A desk as contracts see it: one pass of each type's cell and of each case's cell.
use Rattle.std.specs.Prelude.{◌≡◌, ℕ, ◌^◌, ◌<◌, Bool, true, List, [], ◌∷◌, length, map, get_or, Option, Some, None, IsSome, slice_get}
use Rattle.adept_server.specs.{declared.desks.Desk.Desk, declared.servers.Server.Server}
use Rattle.case_core.specs.{CaseModel.{CaseModel, not_created}, Instances.CountedCase, Machine.{case_after, case_reply}, declared.events.Event.Event, declared.replies.Reply.Reply, declared.views.View.View}
use Rattle.turn_batch.specs.Batch.{AreOf}
use Rattle.turn_cell.specs.{History.state_after, Passes.{PassView, view_of, IsLegalView}, declared.cell.Cell.Cell, declared.pass.Pass.Pass}
use Rattle.type_core.specs.{KindModel.{KindModel, not_defined}, Machine.{kind_after, kind_reply}, declared.events.KindEvent.KindEvent, declared.replies.KindReply.KindReply}
use Rattle.wsm_sound.specs.declared.versions.CaseId.{CaseId}

-- what is seen of a pass of a type's cell, and of a case's cell
abbrev pub KindPass : Type 0
KindPass = PassView KindModel KindEvent KindReply ℕ KindModel

abbrev pub CasePass : Type 0
CasePass = PassView CountedCase Event Reply View CaseModel

-- The passes of a desk: of each type, and of each type's cases by their places. All have the desk's number.
pub record DeskView : Type 0 where
  pub number : ℕ
  pub made : ℕ
  pub taken : ℕ
  pub defined : List Bool
  pub kinds : List KindPass
  pub cases : List (List CasePass)

abbrev pub desk_view : Desk → DeskView
desk_view d = record {
  number = d.number;
  made = d.made;
  taken = d.taken;
  defined = d.defined.items;
  kinds = map view_of d.kinds.items;
  cases = map (λ row. map view_of row.items) d.cases.items;
}

-- what stands for a case in rows of its type's cases
abbrev pub in_row : {X : Type 0} → ℕ → Option (List X) → Option X
in_row place None = None
in_row place (Some row) = slice_get row place

abbrev pub at_case : {X : Type 0} → List (List X) → CaseId → Option X
at_case rows c = in_row c.place (slice_get rows c.type_no)

-- the pass of a case
abbrev pub case_pass : DeskView → CaseId → Option CasePass
case_pass v c = at_case v.cases c

-- how many cases a type has
abbrev pub case_count : DeskView → ℕ → ℕ
case_count v t = length (get_or v.cases t [])

-- The type has a version in what was seen of its cell.
abbrev pub has_version : ℕ → Option KindPass → Type 0
has_version t None = ⊥
has_version t (Some p) = 0 < length (state_after kind_after (not_defined t) p.seen).versions

abbrev pub IsDefinedFor : DeskView → ℕ → Type 0
IsDefinedFor v t = has_version t (slice_get v.kinds t)

-- what holds of each pass of a desk, of a cell that opened with that state
pub record IsPassAt {M E R W S : Type 0} (after : S → E → S) (reply : S → E → R) (opening : S) (v : DeskView) (p : PassView M E R W S) : Type 0 where
  pub opening_is : p.opening ≡ Some opening
  pub number : p.number ≡ v.number
  pub made : p.made ≡ v.made
  pub taken : p.taken ≡ v.taken
  pub legal : IsLegalView after reply p

-- places in rows have numbers of 32 bits
abbrev pub AreShort : {X : Type 0} → List (List X) → Type 0
AreShort [] = Unit {0}
AreShort (row ∷ rows) = (length row < 2 ^ 32) × AreShort rows

pub record IsDesk (v : DeskView) : Type 0 where
  pub kinds : (t : ℕ) (p : KindPass) → slice_get v.kinds t ≡ Some p → IsPassAt kind_after kind_reply (not_defined t) v p
  pub cases : (c : CaseId) (p : CasePass) → case_pass v c ≡ Some p → IsPassAt case_after case_reply (not_created c.type_no) v p
  pub rows : length v.cases ≡ length v.kinds
  pub flags : length v.defined ≡ length v.kinds
  pub few : length v.cases < 2 ^ 32
  pub short : AreShort v.cases
  pub known : (t : ℕ) → slice_get v.defined t ≡ Some true → IsDefinedFor v t

-- The passes are of the cells in rows.
abbrev pub AreRowsOf : {M E R W S : Type 0} {g : _} → List (List (Cell M E R W S)) → List (List (Pass M E R W S g)) → Type 0
AreRowsOf [] [] = Unit {0}
AreRowsOf (c ∷ cs) (p ∷ ps) = AreOf c p × AreRowsOf cs ps
AreRowsOf _ _ = ⊥

-- a desk of a server has a pass of each of its cells
pub record IsDeskOf (s : Server) (d : Desk) : Type 0 where
  pub kinds : AreOf s.kinds.items d.kinds.items
  pub cases : AreRowsOf (map (λ row. row.items) s.cases.items) (map (λ row. row.items) d.cases.items)
  pub desk : IsDesk (desk_view d)

-- which types and cases a server has
abbrev pub has_kind : DeskView → ℕ → Type 0
has_kind v t = t < length v.kinds

abbrev pub has_case : DeskView → CaseId → Type 0
has_case v c = IsSome (case_pass v c)
