-- A full journal that one of the crew met was seen by the first desk once all have met.
use Rattle.crew_run.proofs.Common.{ℕ, ◌∙◌, ◌≡◌, ap, AreMet, arith, beside, CallFault, CallsKind, desk_view, DeskView, Err, File, HasWorked, IfErr, is_full_fault, IsErrAnd, IsSeenBy, KindEvent, length}
use Rattle.crew_run.proofs.Common.{length-append, Line, List, list_any, None, of_case, of_kind, Ok, Option, refl, Result, roles_of, SeesFull, SeesMany, SeesMore, Server, slice_get, slice_get-get_or, Some, subst, sym, there-as}
use Rattle.crew_run.proofs.{Common.{true, Worker, WorksLines}, DesksMeet.{heard-is-more, same-is-seen}, SideBySide.beside-case}
use Rattle.std.proofs.lemmas.List.Folds.{Any-from_list_any}
use Rattle.adept_actor.proofs.Acts.{kind-full}
use Rattle.adept_actor.specs.Work.SeesFull.{of_case as case_is_full, of_kind as kind_is_full}
use Rattle.turn_cell.specs.declared.faults.CallFault.TheVariants as fault

-- what holds of a fault holds of the same fault
pub if_err-same : {A E : Type 0} (P : E → Type 0) (r : Result A E) (f : E) → IsErrAnd r (λ e. e ≡ f) → P f → IfErr r P
if_err-same P (Ok a) f same p = absurd same
if_err-same P (Err e) f same p = subst P (sym same) p

-- who has seen more has seen many
pub many-seen : (v w : DeskView) → SeesMore v w → SeesMany v → SeesMany w
many-seen v w more (of_kind t p at_p many) =
    let (q, at_q, prefix) = beside IsSeenBy v.kinds w.kinds t p more.kinds at_p in
    of_kind t q at_q (let e = ap length prefix.1 in let l = length-append p.seen prefix.0 in omega (arith, many))
many-seen v w more (of_case c p at_p many) =
    let (q, at_q, prefix) = beside-case IsSeenBy v.cases w.cases c p more.cases at_p in
    of_case c q at_q (let e = ap length prefix.1 in let l = length-append p.seen prefix.0 in omega (arith, many))

full-is-many : (v : DeskView) → SeesFull v → SeesMany v
full-is-many v (kind_is_full t p at_p full) = of_kind t p at_p (omega (arith, full))
full-is-many v (case_is_full c p at_p full) = of_case c p at_p (omega (arith, full))

-- where a call of a type met a full journal, the desk has seen it
pub called-full : (e : KindEvent) (t : ℕ) (f : CallFault) (v w : DeskView) → CallsKind e t (Err f) v w → f ≡ fault.Full → SeesMany w
called-full e t f v w k is = full-is-many w (kind-full e t f v w k is)

-- where one of the crew met a full journal, the first desk has seen it once all have met
pub full-among : (s : Server) (f : File) (lines : List Line) (first : DeskView) (old mid new : List Worker) → length mid ≡ length old → length new ≡ length mid → list_any (λ (w : Worker). is_full_fault w.fault) new ≡ true
    → ((i : ℕ) (w x : Worker) → slice_get old i ≡ Some w → slice_get mid i ≡ Some x → HasWorked s f lines w x) → AreMet s first mid new → SeesMany first
full-among s f lines first old mid new many many_too any worked met =
    let (i, y, low, at, is) = Any-from_list_any (λ (w : Worker). is_full_fault w.fault) new any in
    let at_y = slice_get-get_or new i y low ∙ ap Some at in
    let (x, at_x) = there-as new mid i y (sym many_too) at_y in
    let (w, at_w) = there-as mid old i x (sym many) at_x in
    let k = met i x y at_x at_y in
    let full = met-full w x (worked i w x at_w at_x) x.fault refl (ap is_full_fault (sym k.fault) ∙ is) in
    many-seen (desk_view y.desk) first (same-is-seen first (desk_view y.desk) k.same) (many-seen (desk_view x.desk) (desk_view y.desk) (heard-is-more (desk_view x.desk) (desk_view y.desk) k.heard) (full-is-many (desk_view x.desk) full))
  where
    met-full : (w x : Worker) → HasWorked s f lines w x → (o : Option CallFault) → x.fault ≡ o → is_full_fault o ≡ true → SeesFull (desk_view x.desk)
    met-full w x k (Some fault.Full) is full = (subst (λ o. WorksLines (roles_of f (desk_view w.desk).number) lines o (desk_view w.desk) (desk_view x.desk)) is k.1).0.1 refl
    met-full w x k (Some fault.NoMemory) is full = absurd (cc (full))
    met-full w x k None is full = absurd (cc (full))
