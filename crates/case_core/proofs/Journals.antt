-- The case machine alone: its steps keep what a case keeps, so all that a journal leads to has it.
use Rattle.case_core.proofs.Common.{[], ℕ, ◌*◌, ◌++◌, ◌+◌, ◌==◌, ◌∷◌, ◌≡◌, ◌≤◌, age, AllRows, applied-in_a_row, arith, Bool, by_element, Card, card_at, cards_of, case_after, CaseModel, change_live, change_with, changed_by, created_on}
use Rattle.case_core.proofs.Common.{end_on, end_refusal, ended_reply, ended_trail, Err, Event, failed_at, fails, false, Fault, flat_of, fold, hold_refusal, is_finished, is_whole, IsChecked, Kept, KeptIn, length, length-append, List}
use Rattle.case_core.proofs.Common.{live_age, LiveModel, migrate_live, migrate_refusal, migrate_with, migrated, misfit, next_case, None, not, not_created, Ok, Op, Option, or_reply, Outcome, pushed, reads_now, refl, repeats, replay_of_case}
use Rattle.case_core.proofs.Common.{Reply, Result, SchemaModel, Some, start_entry, start_on, start_refusal, taken_parts, true, VersionModel, weight, when_reply, whole, with_live, with_trail, withdraw_on, withdrawn, Written}
use Rattle.case_core.proofs.{AgesOfSteps.age-next_case, CheckedSchemas.checked-made, Fairness.{fair, never-stuck}, Keeping.{kept-created, kept-end, kept-on_schema, kept-repeat, kept-start, kept-withdrawn}, TrailFacts.last-writes}
use Rattle.case_core.specs.{Journals.{BringsChecked, IsShownWell, JournalsKeep, weights}, Machine.changed}
use Rattle.case_core.specs.declared.events.Event.TheVariants as event
use Rattle.case_core.specs.declared.replies.Reply.TheVariants as reply

-- a step that is refused leaves a case as it is
module _ {S : Type 0} (P : S → Type 0) where
  unless-refused : (r : Option Reply) (s : S) (step : S × Reply) → P s → (r ≡ None → P step.0) → P (or_reply r s step).0
  unless-refused None s step before after = after refl
  unless-refused (Some x) s step before after = before

module _ (l : LiveModel) (kept : Kept l) where
  start-keeps : (node user : ℕ) (roles : List ℕ) (o : Option Card) → card_at node (cards_of l.schema) ≡ o → Kept (start_on l node user roles o).0
  start-keeps node user roles None at = kept
  start-keeps node user roles (Some c) at =
      unless-refused Kept (start_refusal l c node roles) l (with_trail l (pushed (start_entry l c node user) l.trail), reply.Started (reads_now l c)) kept (kept-start l kept node user c at roles)

  ended-keeps : (node user : ℕ) (writes : Written) (choice : Option ℕ) (c : Card) → card_at node (cards_of l.schema) ≡ Some c → end_refusal l c node user writes choice ≡ None →
      (b : Bool) → repeats c choice ≡ b → Kept (with_trail l (ended_trail l node (by_element writes) choice b))
  ended-keeps node user writes choice c at none true goes_on = kept-repeat l kept node user c at writes choice none goes_on
  ended-keeps node user writes choice c at none false leaves = kept-end l kept node user c at writes choice none leaves

  end-keeps : (node user : ℕ) (writes : Written) (choice : Option ℕ) (o : Option Card) → card_at node (cards_of l.schema) ≡ o → Kept (end_on l node user writes choice o).0
  end-keeps node user writes choice None at = kept
  end-keeps node user writes choice (Some c) at =
      unless-refused Kept (end_refusal l c node user writes choice) l (with_trail l (ended_trail l node (by_element writes) choice (repeats c choice)), ended_reply (repeats c choice)) kept
      (λ none. ended-keeps node user writes choice c at none (repeats c choice) refl)

  withdraw-keeps : (node user : ℕ) (o : Option Card) → card_at node (cards_of l.schema) ≡ o → Kept (withdraw_on l node user o).0
  withdraw-keeps node user None at = kept
  withdraw-keeps node user (Some c) at =
      unless-refused Kept (hold_refusal l node user) l (with_trail l (withdrawn node l.trail), reply.Withdrawn) kept (kept-withdrawn l kept node user c at)

  whole-where : (o : Outcome) → misfit l (failed_at o) ≡ None → is_whole o ≡ true
  whole-where (whole t) h = refl
  whole-where (fails p) h = absurd (cc)

  change-with_keeps : (ops : List Op) → live_age (Some l) + 3 * length ops ≤ 4000000000 → (o : Result SchemaModel Fault) → changed_by l.schema ops ≡ o → Kept (change_with l ops o).0
  change-with_keeps ops few (Err fault) made = kept
  change-with_keeps ops few (Ok schema) made =
      let new : LiveModel = changed l ops schema in
      let long : length (l.own ++ ops) ≡ length l.own + length ops = length-append l.own ops in
      unless-refused Kept (misfit l (failed_at (replay_of_case new))) l (new, reply.Changed) kept
      (λ fits.
      kept-on_schema l l.base (l.own ++ ops) schema kept (checked-made l.schema schema ops kept.checked made)
      (applied-in_a_row l.base.schema l.schema schema l.own ops kept.own (taken_parts l.schema schema ops made).0) (omega (arith, long, few)) (whole-where (replay_of_case new) fits))

  change-keeps : (ops : List Op) → live_age (Some l) + 3 * length ops ≤ 4000000000 → Kept (change_live l ops).0
  change-keeps ops few =
      unless-refused Kept (when_reply (is_finished l) reply.Finished) l (change_with l ops (changed_by l.schema ops)) kept (λ going. change-with_keeps ops few (changed_by l.schema ops) refl)

  migrate-with_keeps : (version : VersionModel) → IsChecked version.schema → (o : Result SchemaModel Fault) → changed_by version.schema l.own ≡ o → Kept (migrate_with l version o).0
  migrate-with_keeps version checked (Err fault) made = kept
  migrate-with_keeps version checked (Ok schema) made =
      let new : LiveModel = migrated l version schema in
      unless-refused Kept (misfit l (failed_at (replay_of_case new))) l (new, reply.Migrated version.number) kept
      (λ fits.
      kept-on_schema l version l.own schema kept (checked-made version.schema schema l.own checked made) (taken_parts version.schema schema l.own made).0 kept.few
      (whole-where (replay_of_case new) fits))

  migrate-keeps : (version : VersionModel) → IsChecked version.schema → Kept (migrate_live l version).0
  migrate-keeps version checked =
      unless-refused Kept (migrate_refusal l version) l (migrate_with l version (changed_by version.schema l.own)) kept
      (λ may. migrate-with_keeps version checked (changed_by version.schema l.own) refl)

-- each event that is accepted keeps what a case keeps
pub step-keeps : (s : CaseModel) (e : Event) → KeptIn s.live → BringsChecked e → age s + weight e ≤ 4000000000 → KeptIn (next_case s e).0.live
step-keeps s e kept checked few = go s.live kept e checked few
  where
    go : (live : Option LiveModel) → KeptIn live → (e : Event) → BringsChecked e → live_age live + weight e ≤ 4000000000 → KeptIn (next_case (record { type_no = s.type_no; live = live }) e).0.live
    go None kept (event.Create version) checked few =
        unless-refused (λ (c : CaseModel). KeptIn c.live) (when_reply (not (version.type_no == s.type_no)) reply.OtherType) (not_created s.type_no)
        (with_live (not_created s.type_no) (created_on version, reply.Created)) tt (λ own. kept-created version checked)
    go None kept (event.Start node user roles) checked few = tt
    go None kept (event.End node user choice writes) checked few = tt
    go None kept (event.Withdraw node user) checked few = tt
    go None kept (event.Change ops) checked few = tt
    go None kept (event.Migrate version) checked few = tt
    go (Some l) kept (event.Create version) checked few = kept
    go (Some l) kept (event.Start node user roles) checked few = start-keeps l kept node user roles (card_at node (flat_of l.schema).cards) refl
    go (Some l) kept (event.End node user choice writes) checked few = end-keeps l kept node user writes choice (card_at node (flat_of l.schema).cards) refl
    go (Some l) kept (event.Withdraw node user) checked few = withdraw-keeps l kept node user (card_at node (flat_of l.schema).cards) refl
    go (Some l) kept (event.Change ops) checked few = change-keeps l kept ops few
    go (Some l) kept (event.Migrate version) checked few =
        unless-refused (λ (c : CaseModel). KeptIn c.live) (when_reply (not (version.type_no == s.type_no)) reply.OtherType) (record { type_no = s.type_no; live = Some l })
        (with_live (record { type_no = s.type_no; live = Some l }) (migrate_live l version)) kept (λ own. migrate-keeps l kept version checked)

-- so does a journal
journal-keeps : (s : CaseModel) (es : List Event) → KeptIn s.live → AllRows BringsChecked es → age s + weights es ≤ 4000000000 → KeptIn (fold case_after s es).live
journal-keeps s [] kept checked few = kept
journal-keeps s (e ∷ es) kept checked few =
    let older : age (next_case s e).0 ≤ age s + weight e = age-next_case s e in
    let here : age s + weight e ≤ 4000000000 = omega (arith, few) in
    journal-keeps (case_after s e) es (step-keeps s e kept checked.0 here) checked.1 (omega (arith, older, few))

-- and what is shown where that is kept is never stuck, and finds its data
shown-well : (s : CaseModel) → KeptIn s.live → IsShownWell s
shown-well s kept = go s.live kept
  where
    go : (live : Option LiveModel) → KeptIn live → IsShownWell (record { type_no = s.type_no; live = live })
    go None kept = (refl, (tt, tt))
    go (Some l) kept = (never-stuck l kept, (fair l kept, last-writes l kept))

pub journals-keep : (type_no : ℕ) → JournalsKeep type_no
journals-keep type_no es checked few =
    let kept = journal-keeps (not_created type_no) es tt checked (omega (arith, few)) in
    (kept, shown-well (fold case_after (not_created type_no) es) kept)
