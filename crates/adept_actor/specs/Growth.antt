-- What a desk has done between two moments.
use Rattle.std.specs.Prelude.{◌≡◌, ℕ, List, ◌++◌, length, map, Some, slice_get}
use mathlib.Core.List.{IsPrefix}
use Rattle.adept_server.specs.Desks.{KindPass, CasePass, DeskView, case_pass}
use Rattle.legal_run.specs.LineCalls.{Call, calls_of_kind, calls_of_case}
use Rattle.turn_cell.specs.{Passes.PassView, declared.journal.Entry.Entry}
use Rattle.wsm_sound.specs.declared.versions.CaseId.{CaseId}

-- a pass has made these calls, and has perhaps seen more
pub record HasDone {M E R W S : Type 0} (es : List (Entry M E R W S)) (p q : PassView M E R W S) : Type 0 where
  pub cell : q.cell ≡ p.cell
  pub opening : q.opening ≡ p.opening
  pub number : q.number ≡ p.number
  pub made : q.made ≡ p.made
  pub taken : q.taken ≡ p.taken
  pub past : q.past ≡ p.past
  pub more : IsPrefix p.seen q.seen
  pub own_calls : q.own_calls ≡ p.own_calls ++ es

pub record DeskHasDone (calls : List Call) (v w : DeskView) : Type 0 where
  pub number : w.number ≡ v.number
  pub made : w.made ≡ v.made
  pub taken : w.taken ≡ v.taken
  pub types : length w.kinds ≡ length v.kinds
  pub rows : map length w.cases ≡ map length v.cases
  pub kinds : (t : ℕ) (p q : KindPass) → slice_get v.kinds t ≡ Some p → slice_get w.kinds t ≡ Some q → HasDone (calls_of_kind t calls) p q
  pub cases : (c : CaseId) (p q : CasePass) → case_pass v c ≡ Some p → case_pass w c ≡ Some q → HasDone (calls_of_case c calls) p q
