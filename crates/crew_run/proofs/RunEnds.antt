-- How a run ends: legal, and with no full journal.
use Rattle.crew_run.proofs.Common.{[], ℕ, ◌++◌, ◌+◌, ◌∙◌, ◌∷◌, ◌≡◌, ◌≢◌, ◌≤◌, All-from_recursion, all_joined, AllByRecursion, ap, AreOfActors, arith, at_case, Call, calls_of, calls_of_case, calls_of_kind, case_after, case_at}
use Rattle.crew_run.proofs.Common.{case_reply, CaseDecl, CaseId, CaseModel, CasePass, Closed, closed_case, closed_kind, CountedCase, Desk, desk_view, DeskView, done_by, Entry, entry, Event, File, flat_map, HasShapeOf}
use Rattle.crew_run.proofs.Common.{HasWorkedAll, IsActor, IsByPhases, IsClosedServer, IsCrew, IsKept, IsLegal, IsLegalCase, IsLegalKind, IsOverfull, IsRunOf, IsSound, IsWorkable, joined, joined_desk, kind_after, kind_at}
use Rattle.crew_run.proofs.Common.{kind_reply, KindEvent, KindPass, KindReply, Legal, length, length-append, length-map, Line, lines_in, lines_of, lines_upto, List, map, None, not_created, of_case, of_kind, Option, PassView, refl, Reply}
use Rattle.crew_run.proofs.{Common.{row-at, SeesMany, Server, slice_get, slice_get-map, slice_get_within, Some, some_one, subst, suc, sum_by-cons, sym, take, there-as, Trace, TypeDecl, View, Worker, zero}, CasePlaces.there-for_case}
use Rattle.crew_run.proofs.{CrewAlong.{case-cell, kind-cell}, DesksMeet.beside-shape, Journals.{calls-with, no-more, none-of, of-parts, only-first}, OneCell.{HasEnded, has-ended, taken-in}, SideBySide.made-long}
use Rattle.crew_run.proofs.SideBySide.{made-rows}
use Rattle.std.specs.Option.{option_map}
use Rattle.adept_server.specs.declared.closing.ClosedServer.{ClosedServer}
use Rattle.script_run.specs.{Serial.program, declared.runs.Run.Run}
use Rattle.turn_cell.specs.declared.limits.TheConstants.{MAX_ENTRIES}
use Rattle.type_core.proofs.Versions.{sound-defined}
use Rattle.type_core.specs.KindModel.{KindModel, not_defined}
use Rattle.type_core.specs.declared.events.KindEvent.TheVariants as event
use Rattle.type_core.specs.declared.replies.KindReply.TheVariants as reply
use Rattle.wsm_sound.specs.Faults.{fault_of}

-- ---- the first desk once it has taken the crew in
pub record HasTaken (many : ℕ) (v w : DeskView) : Type 0 where
  pub number : w.number ≡ v.number
  pub made : w.made ≡ v.made
  pub taken : w.taken ≡ v.taken + many
  pub shape : HasShapeOf v w

take-all : (u v : DeskView) (ws : List Worker) → HasShapeOf u v → ((i : ℕ) (w : Worker) → slice_get ws i ≡ Some w → HasShapeOf u (desk_view w.desk)) → HasTaken (length ws) v (all_joined v ws)
take-all u v [] shape all = record { number = refl; made = refl; taken = omega arith; shape = (refl, refl) }
take-all u v (w ∷ ws) (types, rows) all =
    let (types_w, rows_w) = all zero w refl in
    let many = made-long joined v.kinds (desk_view w.desk).kinds (types_w ∙ sym types) in
    let long = made-rows joined v.cases (desk_view w.desk).cases (rows_w ∙ sym rows) in
    let r = take-all u (joined_desk v (desk_view w.desk)) ws (many ∙ types, long ∙ rows) (λ i. all (suc i)) in
    record { number = r.number; made = r.made; taken = (let e = r.taken in omega arith); shape = (r.shape.0 ∙ many, r.shape.1 ∙ long) }

pub has-taken : (s : Server) (f : File) (first : Desk) (crew : List Worker) → IsCrew s f first crew → (last : DeskView) → last ≡ all_joined (desk_view first) crew → HasTaken (length crew) (desk_view first) last
has-taken s f first crew k last joins = subst (HasTaken (length crew) (desk_view first)) (sym joins) (take-all (desk_view first) (desk_view first) crew (refl, refl) (λ i w at. beside-shape (desk_view first) (desk_view w.desk) (k.each i w at).same))

-- ---- one cell
module _ {M E R W S : Type 0} (f : File) where
  -- entries none of which is the first desk's are the actors'
  by-actors : (es : List (Entry M E R W S)) → AllByRecursion (λ e. e.caller ≤ length f.actors) es → calls_of 0 es ≡ [] → AreOfActors f es
  by-actors es few none = λ i d low. let not = All-from_recursion (λ e. e.caller ≢ 0) es (none-of 0 es none) i d low in (omega (arith, not), All-from_recursion (λ e. e.caller ≤ length f.actors) es few i d low)

  -- of a cell that an actor calls no more often than it has lines no more was seen than the lines are, and what the first desk has called
  seen-few : (at : DeskView → Option (PassView M E R W S)) (on : List Call → List (Entry M E R W S)) (after : S → E → S) (reply : S → E → R) (k : ℕ) (traces : List Trace) (crew : List Worker) (s t : S) (p : PassView M E R W S) (journal : List (Entry M E R W S))
      → IsKept f at on traces crew p → HasEnded after reply (length f.actors) s p t journal → ((a : ℕ) → IsActor f a → length (on (done_by a traces)) ≤ length (lines_of a (lines_upto f k))) → length p.seen ≤ length p.own_calls + length (lines_upto f k)
  seen-few at on after reply k traces crew s t p journal kept h few =
      let all =
      no-more (λ (e : Entry M E R W S). e.caller) (λ (l : Line). l.actor) (length f.actors) journal (lines_upto f k) h.callers
      (λ a low high. let e = ap length (sym (calls-with a journal) ∙ (ap (calls_of a) h.whole ∙ kept.calls.whole a (low, high))) in omega (arith, e, few a (low, high))) in
      omega (arith, all, ap length (sym (calls-with 0 journal) ∙ h.own), ap length h.whole)

-- the lines of some phases are no more than those of all
upto-few : (k : ℕ) (phases : List (List Line)) → length (flat_map (λ (ls : List Line). ls) (take k phases)) ≤ lines_in phases
upto-few zero [] = omega arith
upto-few zero (ls ∷ phases) = omega arith
upto-few (suc k) [] = omega arith
upto-few (suc k) (ls ∷ phases) = omega (arith, upto-few k phases, length-append ls (flat_map (λ (ls : List Line). ls) (take k phases)), sum_by-cons (λ (ls : List Line). length ls) ls phases)

max-is : MAX_ENTRIES ≡ 65536
max-is = refl

module _ (f : File) (traces : List Trace) (crew : List Worker) where
  -- a type
  kind-legal : (t : ℕ) (d : TypeDecl) (p : KindPass) (answer : KindReply) (machine : KindModel) (journal : List (Entry KindModel KindEvent KindReply ℕ KindModel)) → fault_of d.schema ≡ None → p.own_calls ≡ entry program (event.Define d.schema) answer ∷ []
      → IsKept f (kind_at t) (calls_of_kind t) traces crew p → HasEnded kind_after kind_reply (length f.actors) (not_defined t) p machine journal → IsLegalKind f traces t d (record { machine = machine; journal = journal })
  kind-legal t d p answer machine journal sound own k h =
      let first = entry program (event.Define d.schema) answer in
      let rest = k.begins.0 in
      let callers = of-parts (λ e. e.caller ≤ length f.actors) k.start rest (subst (AllByRecursion (λ e. e.caller ≤ length f.actors)) (h.whole ∙ sym k.begins.1) h.callers) in
      let start_is : k.start ≡ first ∷ [] = sym (only-first (length f.actors) k.start callers.0 (λ a low high. none-of a k.start (k.none a (low, high)))) ∙ (k.first ∙ own) in
      let whole : journal ≡ first ∷ rest = h.whole ∙ (sym k.begins.1 ∙ ap (λ xs. xs ++ rest) start_is) in
      let answer_is : answer ≡ reply.Defined = (subst (IsLegal kind_after kind_reply (not_defined t)) whole h.legal).0 ∙ ap (λ step. step.1) (sound-defined t d.schema sound) in
      let none : calls_of 0 rest ≡ [] = cc (sym (ap (calls_of 0) whole) ∙ (h.own ∙ own)) in
      record {
        legal = h.legal;
        machine = h.machine;
        others = rest;
        defined = whole ∙ ap (λ a. entry program (event.Define d.schema) a ∷ rest) answer_is;
        callers = by-actors f rest callers.1 none;
        calls = subst (IsByPhases f (calls_of_kind t) traces) (sym h.whole) k.calls;
      }

  -- a case
  case-legal : (d : CaseDecl) (p : CasePass) (machine : CaseModel) (journal : List (Entry CountedCase Event Reply View CaseModel)) → p.own_calls ≡ [] → IsKept f (case_at d.id) (calls_of_case d.id) traces crew p
      → HasEnded case_after case_reply (length f.actors) (not_created d.id.type_no) p machine journal → IsLegalCase f traces d (record { machine = machine; journal = journal })
  case-legal d p machine journal own k h = record {
    legal = h.legal;
    machine = h.machine;
    callers = by-actors f journal h.callers (h.own ∙ own);
    calls = subst (IsByPhases f (calls_of_case d.id) traces) (sym h.whole) k.calls;
  }

-- ---- the run
module _ (s : Server) (f : File) (workable : IsWorkable f) (first : Desk) (crew : List Worker) (k : IsCrew s f first crew) (last : DeskView) (joins : last ≡ all_joined (desk_view first) crew) (closed : ClosedServer) (closes : IsClosedServer last closed) where
  kind-ended : (t : ℕ) (p : KindPass) → kind_at t (desk_view first) ≡ Some p → p.past ≡ []
      → (c : Closed KindModel KindEvent KindReply ℕ KindModel) × (slice_get closed.kinds.items t ≡ Some c) × HasEnded kind_after kind_reply (length f.actors) (not_defined t) p c.machine c.journal.items.items
  kind-ended t p at none =
      let taken = taken-in (kind_at t) (calls_of_kind t) kind_after kind_reply (kind-cell t) f (desk_view first) crew k.actors k.each p at none in
      let (c, at_c, end) = closes.kinds t taken.pass (ap (kind_at t) joins ∙ taken.there) in
      (c, at_c, has-ended kind_after kind_reply (λ m. m) (kind_at t) (length f.actors) (not_defined t) p (all_joined (desk_view first) crew) c.machine c.journal.items.items taken (k.desk.desk.kinds t p at).opening_is end)

  case-ended : (id : CaseId) (p : CasePass) → case_at id (desk_view first) ≡ Some p → p.past ≡ []
      → (c : Closed CountedCase Event Reply View CaseModel) × (at_case (map (λ row. row.items) closed.cases.items) id ≡ Some c) × HasEnded case_after case_reply (length f.actors) (not_created id.type_no) p c.machine.state c.journal.items.items
  case-ended id p at none =
      let taken = taken-in (case_at id) (calls_of_case id) case_after case_reply (case-cell id) f (desk_view first) crew k.actors k.each p at none in
      let (c, at_c, end) = closes.cases id taken.pass (ap (case_at id) joins ∙ taken.there) in
      (c, at_c, has-ended case_after case_reply (λ (m : CountedCase). m.state) (case_at id) (length f.actors) (not_created id.type_no) p (all_joined (desk_view first) crew) c.machine c.journal.items.items taken (k.desk.desk.cases id p at).opening_is end)

  -- it is legal where all phases were worked
  pub legal-of : (run : Run) → HasWorkedAll f (desk_view first) crew → IsRunOf f closed run → Legal f run
  legal-of run (traces, fit, along) is = record {
    traces = traces;
    of_lines = fit;
    as_many_kinds = ap length is.kinds ∙ (length-map closed.kinds.items closed_kind ∙ (closes.types ∙ ((has-taken s f first crew k last joins).shape.0 ∙ k.shape.types)));
    as_many_cases = is.decls;
    kinds = λ t d c at_d at_c.
        let (p, at_p) = there-as f.types (desk_view first).kinds t d k.shape.types at_d in
        let (kept, own, past) = along.kinds t p at_p in
        let (answer, defined) = own.told (slice_get_within f.types t d at_d) d at_d in
        let (e, at_e, ended) = kind-ended t p at_p past in
        let c_is : closed_kind e ≡ c = some_one (slice_get-map closed_kind closed.kinds.items t ∙ ap (option_map closed_kind) at_e) (ap (λ ks. slice_get ks t) (sym is.kinds) ∙ at_c) in
        subst (IsLegalKind f traces t d) c_is (kind-legal f traces crew t d p answer e.machine e.journal.items.items (row-at IsSound f.types t d workable.sound at_d) defined kept ended);
    cases = λ i d c at_d at_c.
        let (p, at_p) = there-for_case f (desk_view first).cases i d workable k.shape.counted at_d in
        let (kept, (own, past)) = along.cases d.id p at_p in
        let (e, at_e, ended) = case-ended d.id p at_p past in
        let (x, at_x, c_is) = is.cases i d c at_d at_c in
        subst (IsLegalCase f traces d) (ap closed_case (some_one at_e at_x) ∙ sym c_is) (case-legal f traces crew d p e.machine.state e.journal.items.items own kept ended);
  }

  -- there is no crew that leaves a full journal
  pub never-overfull : IsOverfull f (desk_view first) crew → ⊥
  never-overfull o = full o.many
    where
      full : SeesMany (desk_view first) → ⊥
      full (of_kind t p at many) =
          let (kept, own, past) = o.along.kinds t p at in
          let (c, at_c, ended) = kind-ended t p at past in
          let short = seen-few f (kind_at t) (calls_of_kind t) kind_after kind_reply o.phases o.traces crew (not_defined t) c.machine p c.journal.items.items kept ended (o.few.kinds t) in
          omega (arith, many, short, own.few, upto-few o.phases f.phases, workable.lines, max-is)
      full (of_case id p at many) =
          let (kept, (own, past)) = o.along.cases id p at in
          let (c, at_c, ended) = case-ended id p at past in
          let short = seen-few f (case_at id) (calls_of_case id) case_after case_reply o.phases o.traces crew (not_created id.type_no) c.machine.state p c.journal.items.items kept ended (o.few.cases id) in
          omega (arith, many, short, ap length own, upto-few o.phases f.phases, workable.lines, max-is)
