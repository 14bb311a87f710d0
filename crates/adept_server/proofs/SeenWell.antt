-- What calls make of a case is never stuck, and finds its data.
use Rattle.adept_server.proofs.Common.{[], ℕ, ◌+◌, ◌∷◌, ◌≡◌, AllSeenWell, AreSeenWell, case_after, CaseModel, CasePass, Entry, Event, events_seen, fold, IsSeenWell, List, map, not_created, refl, state_after, subst}
use Rattle.case_core.specs.Journals.{IsShownWell}
use Rattle.case_core.proofs.Journals.{journals-keep}

module _ {M R W : Type 0} where
  same-state : (s : CaseModel) (es : List (Entry M Event R W CaseModel)) → fold case_after s (map (λ e. e.event) es) ≡ state_after case_after s es
  same-state s [] = refl
  same-state s (e ∷ es) = same-state (case_after s e.event) es

seen-well : (t : ℕ) (p : CasePass) → IsSeenWell t p
seen-well t p checked light = subst IsShownWell (same-state (not_created t) p.seen) (journals-keep t (events_seen p) checked light).1

row-well : (t : ℕ) (ps : List CasePass) → AreSeenWell t ps
row-well t [] = tt
row-well t (p ∷ ps) = (seen-well t p, row-well t ps)

pub all_well : (t : ℕ) (rows : List (List CasePass)) → AllSeenWell t rows
all_well t [] = tt
all_well t (row ∷ rows) = (row-well t row, all_well (t + 1) rows)
