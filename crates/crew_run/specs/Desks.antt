-- What becomes of the passes of desks while a crew works.
use Rattle.std.specs.{Prelude.{◌≡◌, ℕ, List, [], length, map, Option, Some, slice_get, fold}, List.AllZip}
use mathlib.Core.List.{IsPrefix}
use Rattle.adept_actor.specs.Growth.{DeskHasDone}
use Rattle.adept_server.specs.{Desks.{CasePass, DeskView, IsDesk, KindPass, case_pass, desk_view}, Opening.joined_desk}
use Rattle.crew_run.specs.declared.workers.Worker.{Worker}
use Rattle.legal_run.specs.LineCalls.{Call}
use Rattle.turn_cell.specs.Passes.{PassView}
use Rattle.wsm_lists.specs.Rows.{AllRows}
use Rattle.wsm_sound.specs.declared.versions.CaseId.{CaseId}

-- the pass of a type, and of a case
abbrev pub kind_at : ℕ → DeskView → Option KindPass
kind_at t v = slice_get v.kinds t

abbrev pub case_at : CaseId → DeskView → Option CasePass
case_at c v = case_pass v c

module _ {M E R W S : Type 0} where
  -- a pass has heard of more calls, and nothing else happened to it
  pub record Heard (p q : PassView M E R W S) : Type 0 where
    pub more : IsPrefix p.seen q.seen
    pub same : q ≡ record p { seen = q.seen }

  -- both have seen the same
  abbrev pub SeenSame : PassView M E R W S → PassView M E R W S → Type 0
  SeenSame p q = p.seen ≡ q.seen

  -- no call was made with it, and none was taken in
  abbrev pub IsIdlePass : PassView M E R W S → Type 0
  IsIdlePass p = (p.own_calls ≡ []) × (p.past ≡ [])

-- what holds of the passes of each type, and of each case, of two desks
pub record Beside (K : KindPass → KindPass → Type 0) (C : CasePass → CasePass → Type 0) (v w : DeskView) : Type 0 where
  pub kinds : AllZip K v.kinds w.kinds
  pub cases : AllZip (AllZip C) v.cases w.cases

-- two desks have seen the same of each cell
abbrev pub DeskSame : DeskView → DeskView → Type 0
DeskSame v w = Beside SeenSame SeenSame v w

-- a desk has heard of more calls, and nothing else happened to its passes
pub record DeskHeard (v w : DeskView) : Type 0 where
  pub number : w.number ≡ v.number
  pub made : w.made ≡ v.made
  pub taken : w.taken ≡ v.taken
  pub passes : Beside Heard Heard v w

-- a desk has the same passes as another
abbrev pub HasPassesOf : DeskView → DeskView → Type 0
HasPassesOf v w = (w.kinds ≡ v.kinds) × (w.cases ≡ v.cases)

-- so it has, and each of a crew has seen what it has
abbrev pub HasTold : DeskView → DeskView → List Worker → Type 0
HasTold v w crew = HasPassesOf v w × AllRows (λ x. DeskSame w (desk_view x.desk)) crew

-- it has as many passes of types, and of each type's cases
abbrev pub HasShapeOf : DeskView → DeskView → Type 0
HasShapeOf v w = (length w.kinds ≡ length v.kinds) × (map length w.cases ≡ map length v.cases)

-- a desk with which no call was made
pub record IsIdle (v : DeskView) : Type 0 where
  pub kinds : (t : ℕ) (p : KindPass) → kind_at t v ≡ Some p → IsIdlePass p
  pub cases : (c : CaseId) (p : CasePass) → case_at c v ≡ Some p → IsIdlePass p

-- a desk has made calls, and then heard of others'
pub record HasDoneAndHeard (calls : List Call) (v w : DeskView) : Type 0 where
  pub between : DeskView
  pub done : DeskHasDone calls v between
  pub heard : DeskHeard between w

-- a desk that has taken the desks of a crew in, one after another
abbrev pub all_joined : DeskView → List Worker → DeskView
all_joined v crew = fold (λ u w. joined_desk u (desk_view w.desk)) v crew
