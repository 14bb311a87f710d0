-- What is offered to a role, in the views after what the passes of a desk have seen.
use Rattle.std.specs.Prelude.{◌≡◌, ℕ, ◌+◌, ◌≤◌, ◌==◌, List, [], ◌∷◌, ◌++◌, map, Some, if◌then◌else◌}
use mathlib.Core.List.{IsPrefix}
use Rattle.adept_server.specs.{Desks.{CasePass, DeskView}, declared.worklists.Offer.Offer}
use Rattle.case_core.specs.{CaseModel.not_created, Journals.{BringsChecked, IsShownWell, weights}, Machine.{case_after, case_reply}, Shown.shown, declared.events.Event.Event, declared.views.View.View}
use Rattle.wsm_items.specs.declared.work_items.Item.{Item}
use Rattle.wsm_items.specs.declared.work_items.Item.TheVariants as item
use Rattle.case_core.specs.declared.views.View.TheVariants as view
use Rattle.turn_cell.specs.{History.state_after, Passes.IsLegalView}
use Rattle.wsm_lists.specs.Rows.{AllRows}
use Rattle.wsm_sound.specs.declared.versions.CaseId.{CaseId}

-- the offered nodes of that role among work items, as offers of the case
abbrev pub offer_of : ℕ → CaseId → Item → List Offer
offer_of role c (item.Offered node wanted) = if wanted == role then record { case = c; node = node } ∷ [] else []
offer_of role c (item.Held node user) = []

abbrev pub offers_of : ℕ → CaseId → List Item → List Offer
offers_of role c [] = []
offers_of role c (i ∷ items) = offer_of role c i ++ offers_of role c items

abbrev pub offers_in : ℕ → CaseId → View → List Offer
offers_in role c view.None = []
offers_in role c (view.Live version own finished marking values items) = offers_of role c items

-- the view of a case of that type after what a pass has seen
abbrev pub view_after : ℕ → CasePass → View
view_after t p = shown (state_after case_after (not_created t) p.seen)

-- the offers of a type's cases from a place on, and those of all types from one on
abbrev pub row_offers : ℕ → ℕ → ℕ → List CasePass → List Offer
row_offers role t place [] = []
row_offers role t place (p ∷ ps) = offers_in role (record { type_no = t; place = place }) (view_after t p) ++ row_offers role t (place + 1) ps

abbrev pub all_offers : ℕ → ℕ → List (List CasePass) → List Offer
all_offers role t [] = []
all_offers role t (row ∷ rows) = row_offers role t 0 row ++ all_offers role (t + 1) rows

-- what looks leave of a pass: it may have seen more
pub record HasLooked (p q : CasePass) : Type 0 where
  pub cell : q.cell ≡ p.cell
  pub opening : q.opening ≡ p.opening
  pub number : q.number ≡ p.number
  pub made : q.made ≡ p.made
  pub taken : q.taken ≡ p.taken
  pub past : q.past ≡ p.past
  pub own_calls : q.own_calls ≡ p.own_calls
  pub more : IsPrefix p.seen q.seen
  pub legal : IsLegalView case_after case_reply p → IsLegalView case_after case_reply q

abbrev pub EachLooked : List CasePass → List CasePass → Type 0
EachLooked [] [] = Unit {0}
EachLooked (p ∷ ps) (q ∷ qs) = HasLooked p q × EachLooked ps qs
EachLooked _ _ = ⊥

abbrev pub AllLooked : List (List CasePass) → List (List CasePass) → Type 0
AllLooked [] [] = Unit {0}
AllLooked (row ∷ rows) (new ∷ news) = EachLooked row new × AllLooked rows news
AllLooked _ _ = ⊥

-- the cells opened with a case of that type that is not created
abbrev pub OpenedAs : ℕ → List CasePass → Type 0
OpenedAs t [] = Unit {0}
OpenedAs t (p ∷ ps) = (p.opening ≡ Some (not_created t)) × OpenedAs t ps

abbrev pub AllOpened : ℕ → List (List CasePass) → Type 0
AllOpened t [] = Unit {0}
AllOpened t (row ∷ rows) = OpenedAs t row × AllOpened (t + 1) rows

-- what the looks of a work list leave of a desk
pub record Looks (v w : DeskView) : Type 0 where
  pub others : w ≡ record v { cases = w.cases }
  pub looked : AllLooked v.cases w.cases

-- the events of the calls that a pass has seen
abbrev pub events_seen : CasePass → List Event
events_seen p = map (λ e. e.event) p.seen

-- a case that calls brought there is never stuck, and finds its data, if the versions that they brought were checked and they
-- are no more than a case may have
abbrev pub IsSeenWell : ℕ → CasePass → Type 0
IsSeenWell t p = AllRows BringsChecked (events_seen p) → weights (events_seen p) ≤ 4000000000 → IsShownWell (state_after case_after (not_created t) p.seen)

abbrev pub AreSeenWell : ℕ → List CasePass → Type 0
AreSeenWell t ps = AllRows (IsSeenWell t) ps

abbrev pub AllSeenWell : ℕ → List (List CasePass) → Type 0
AllSeenWell t [] = Unit {0}
AllSeenWell t (row ∷ rows) = AreSeenWell t row × AllSeenWell (t + 1) rows
