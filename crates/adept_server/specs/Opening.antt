-- How desks begin, come to be, meet and end.
use Rattle.std.specs.{Prelude.{◌≡◌, ℕ, ◌+◌, false, ◌||◌, List, [], length, map, Some, slice_get}, List.AllZip}
use Rattle.adept_server.specs.{Desks.{KindPass, CasePass, DeskView, at_case, case_pass}, declared.closing.ClosedServer.ClosedServer}
use Rattle.case_core.specs.{CaseModel.CaseModel, Instances.CountedCase, Machine.{case_after, case_reply}, declared.events.Event.Event, declared.replies.Reply.Reply, declared.views.View.View}
use Rattle.turn_cell.specs.{Passes.{PassView, IsClosed, joined, split_off}, declared.journal.Closed.Closed}
use Rattle.turn_rows.specs.Rows.{IsSeenBy, first_met, second_met, split_from, zip_with}
use Rattle.type_core.specs.{KindModel.KindModel, Machine.{kind_after, kind_reply}, declared.events.KindEvent.KindEvent, declared.replies.KindReply.KindReply}
use Rattle.wsm_sound.specs.declared.versions.CaseId.{CaseId}

-- nothing was seen or done with a pass, and none was joined into it
pub record IsUnused {M E R W S : Type 0} (p : PassView M E R W S) : Type 0 where
  pub seen : p.seen ≡ []
  pub own_calls : p.own_calls ≡ []
  pub past : p.past ≡ []

-- the first desk of a server that has so many cases of each type
pub record IsFirstDesk (counts : List ℕ) (v : DeskView) : Type 0 where
  pub number : v.number ≡ 0
  pub made : v.made ≡ 1
  pub taken : v.taken ≡ 0
  pub rows : map length v.cases ≡ counts
  pub defined : v.defined ≡ map (λ _. false) counts
  pub kinds : (t : ℕ) (p : KindPass) → slice_get v.kinds t ≡ Some p → IsUnused p
  pub cases : (c : CaseId) (p : CasePass) → case_pass v c ≡ Some p → IsUnused p

-- the first desk after another was made, and that desk
abbrev pub parent_desk : DeskView → DeskView
parent_desk v = record v { made = v.made + 1; kinds = map split_from v.kinds; cases = map (map split_from) v.cases }

abbrev pub new_desk : DeskView → DeskView
new_desk v = record { number = v.made; made = 0; taken = 0; defined = v.defined; kinds = map split_off v.kinds; cases = map (map split_off) v.cases }

-- the first desk after it has taken another in
abbrev pub joined_desk : DeskView → DeskView → DeskView
joined_desk v w = record {
  number = v.number;
  made = v.made;
  taken = v.taken + 1;
  defined = zip_with (λ a b. a || b) v.defined w.defined;
  kinds = zip_with joined v.kinds w.kinds;
  cases = zip_with (zip_with joined) v.cases w.cases;
}

-- two desks that met
abbrev pub first_desk_met : DeskView → DeskView → DeskView
first_desk_met v w = record v {
  defined = zip_with (λ a b. a || b) v.defined w.defined;
  kinds = zip_with first_met v.kinds w.kinds;
  cases = zip_with (zip_with first_met) v.cases w.cases;
}

abbrev pub second_desk_met : DeskView → DeskView → DeskView
second_desk_met v w = record w {
  defined = zip_with (λ a b. a || b) v.defined w.defined;
  kinds = zip_with second_met v.kinds w.kinds;
  cases = zip_with (zip_with second_met) v.cases w.cases;
}

-- what one desk has seen of each cell begins what another has
pub record SeesMore (v w : DeskView) : Type 0 where
  pub kinds : AllZip IsSeenBy v.kinds w.kinds
  pub cases : AllZip (AllZip IsSeenBy) v.cases w.cases

-- A closed server: each cell is closed by the last desk's pass.
pub record IsClosedServer (v : DeskView) (s : ClosedServer) : Type 0 where
  pub types : length s.kinds.items ≡ length v.kinds
  pub rows : map (λ row. length row.items) s.cases.items ≡ map length v.cases
  pub kinds : (t : ℕ) (p : KindPass) → slice_get v.kinds t ≡ Some p
      → (c : Closed KindModel KindEvent KindReply ℕ KindModel) × (slice_get s.kinds.items t ≡ Some c) × IsClosed kind_after kind_reply (λ k. k) p c.machine c.journal.items.items
  pub cases : (id : CaseId) (p : CasePass) → case_pass v id ≡ Some p
      → (c : Closed CountedCase Event Reply View CaseModel) × (at_case (map (λ row. row.items) s.cases.items) id ≡ Some c) × IsClosed case_after case_reply (λ (k : CountedCase). k.state) p c.machine c.journal.items.items
