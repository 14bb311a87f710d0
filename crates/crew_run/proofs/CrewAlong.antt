-- A crew before the first phase, and behind one phase more.
use Rattle.crew_run.proofs.Common.{[], ℕ, ◌++◌, ◌+◌, ◌==◌, ◌∙◌, ◌∷◌, ◌≡◌, ◌≤◌, AllZip, ap, append-nil, AreFew, AreHired, AreMet, AreTraces, arith, at_case, beside, Call, calls_of_case, calls_of_kind, case_after, case_at, case_reply, CaseId}
use Rattle.crew_run.proofs.Common.{CasePass, Defines, Desk, desk_view, DeskHeard, DeskView, done_by, File, filter-append, flat_map-append, HasShape, Heard, inl, inr, IsAlong, IsCrew, IsDefinedUpTo, IsDeskOf, IsTrace, joined}
use Rattle.crew_run.proofs.Common.{kind_after, kind_at, kind_reply, KindPass, length, length-append, Line, lines_of, lines_upto, List, PhaseWorked, refl, roles_of, SeenSame, Server, slice_get, Some, subst, suc, sym, take, there-as}
use Rattle.crew_run.proofs.{Common.{Trace, Tries, TypeDecl, Worker}, DesksCanWork.shape-of, DesksMeet.beside-shape, OneCell.{IsCell, done-more, kept-first, kept-more}, SideBySide.{beside-case, made-at, made-at_case, zip-back}}
use Rattle.crew_run.proofs.TypesDefined.{shape-defined}
use Rattle.std.specs.Prelude.{flat_map}
use Rattle.adept_actor.proofs.Desks.{case-there}
use Rattle.legal_run.proofs.{OnMachines.{calls_of_case-append, calls_of_kind-append}, OncePerLine.{case_once_begun, case_once_per_line, kind_once_begun, kind_once_per_line}}

-- ---- cells
pub kind-cell : (t : ℕ) → IsCell (kind_at t) (calls_of_kind t) kind_after kind_reply
kind-cell t = record {
  on-none = refl;
  on-append = calls_of_kind-append t;
  there = λ v p desk at. let k = desk.kinds t p at in (k.number, k.legal);
  heard = λ v w p h at. beside Heard v.kinds w.kinds t p h.passes.kinds at;
  before = λ v w q h at. let behind = λ (q p : KindPass). Heard p q in beside behind w.kinds v.kinds t q (zip-back Heard behind (λ p q k. k) v.kinds w.kinds h.passes.kinds) at;
  same = λ v w p s at. beside SeenSame v.kinds w.kinds t p s.kinds at;
  done = λ calls v w p d at. let (q, at_q) = there-as v.kinds w.kinds t p d.types at in (q, at_q, d.kinds t p q at at_q);
  joins = λ v w p q at at_too. made-at joined v.kinds w.kinds t p q at at_too;
}

pub case-cell : (c : CaseId) → IsCell (case_at c) (calls_of_case c) case_after case_reply
case-cell c = record {
  on-none = refl;
  on-append = calls_of_case-append c;
  there = λ v p desk at. let k = desk.cases c p at in (k.number, k.legal);
  heard = λ v w p h at. beside-case Heard v.cases w.cases c p h.passes.cases at;
  before = λ v w q h at.
      let behind = λ (q p : CasePass). Heard p q in
      beside-case behind w.cases v.cases c q (zip-back (AllZip Heard) (AllZip behind) (zip-back Heard behind (λ p q k. k)) v.cases w.cases h.passes.cases) at;
  same = λ v w p s at. beside-case SeenSame v.cases w.cases c p s.cases at;
  done = λ calls v w p d at. let (q, at_q) = case-there v.cases w.cases c p d.rows at in (q, at_q, d.cases c p q at at_q);
  joins = λ v w p q at at_too. made-at_case joined v.cases w.cases c p q at at_too;
}

-- ---- a crew that has met
module _ (s : Server) (f : File) (v : DeskView) (first : Desk) (mid crew : List Worker) (desk : IsDeskOf s first) (heard : DeskHeard v (desk_view first)) (met : AreMet s (desk_view first) mid crew) (many : length crew ≡ length mid) where
  pub crew-of : length mid ≡ length f.actors → HasShape f v → v.number ≡ 0 → v.made ≡ length mid + 1 → v.taken ≡ 0 → ((i : ℕ) (w : Worker) → slice_get mid i ≡ Some w → (desk_view w.desk).number ≡ suc i) → IsCrew s f first crew
  crew-of actors shape number made taken numbered = record {
    desk = desk;
    desks = λ i x at. let (w, at_w) = there-as crew mid i x (sym many) at in (met i w x at_w at).desk;
    each = λ i x at.
        let (w, at_w) = there-as crew mid i x (sym many) at in
        let k = met i w x at_w at in
        record { number = k.heard.number ∙ numbered i w at_w; desk = k.desk.desk; same = k.same };
    actors = many ∙ actors;
    shape = shape-of f v (desk_view first) (beside-shape v (desk_view first) heard.passes) shape;
    number = heard.number ∙ number;
    made = (let e = heard.made in omega (arith, e, made, many));
    taken = heard.taken ∙ taken;
  }

-- before the first phase: whatever types the first desk could define, nothing else was called
pub along-first : (s : Server) (f : File) (done : ℕ) (hired : Desk) (v : DeskView) (first : Desk) (old crew : List Worker) → AreHired s hired old → Defines f.types done (desk_view hired) v → DeskHeard v (desk_view first)
    → AreMet s (desk_view first) old crew → length crew ≡ length old → IsCrew s f first crew → IsAlong f done [] (desk_view first) crew
along-first s f done hired v first old crew h d heard met many k = record {
  kinds = λ t p at.
      let (q, at_q, more) = (kind-cell t).before v (desk_view first) p heard at in
      let (own, past) = d.each t q at_q in (
        kept-first (kind_at t) (calls_of_kind t) kind_after kind_reply (kind-cell t) f (desk_view first) crew k.actors k.each p at k.desk.desk k.number (λ i x at_x. let (w, at_w) = worker i x at_x in (desk_view w.desk, (met i w x at_w at_x).heard, (h.each i w at_w).2.kinds t)),
        subst (IsDefinedUpTo f.types done t) (sym (ap (λ (x : KindPass). x.own_calls) more.same)) own,
        ap (λ (x : KindPass). x.past) more.same ∙ past,
      );
  cases = λ c p at.
      let (q, at_q, more) = (case-cell c).before v (desk_view first) p heard at in
      let (own, past) = h.idle.cases c q (ap (λ rows. at_case rows c) (sym d.cases) ∙ at_q) in (
        kept-first (case_at c) (calls_of_case c) case_after case_reply (case-cell c) f (desk_view first) crew k.actors k.each p at k.desk.desk k.number (λ i x at_x. let (w, at_w) = worker i x at_x in (desk_view w.desk, (met i w x at_w at_x).heard, (h.each i w at_w).2.cases c)),
        (ap (λ (x : CasePass). x.own_calls) more.same ∙ own, ap (λ (x : CasePass). x.past) more.same ∙ past),
      );
}
  where
    worker : (i : ℕ) (x : Worker) → slice_get crew i ≡ Some x → (w : Worker) × (slice_get old i ≡ Some w)
    worker i x at = there-as crew old i x (sym many) at

-- the crew behind the definitions
pub begun : (s : Server) (f : File) (types : List TypeDecl) (done : ℕ) (hired : Desk) (v : DeskView) (first : Desk) (old crew : List Worker) → AreHired s hired old → length old ≡ length f.actors → HasShape f (desk_view hired) → types ≡ f.types → Defines types done (desk_view hired) v
    → IsDeskOf s first × DeskHeard v (desk_view first) → AreMet s (desk_view first) old crew → length crew ≡ length old → IsCrew s f first crew × IsAlong f done [] (desk_view first) crew
begun s f types done hired v first old crew h actors shape same defines (desk, heard) met many =
    let d = subst (λ ts. Defines ts done (desk_view hired) v) same defines in
    let k = crew-of s f v first old crew desk heard met many actors (shape-defined f done (desk_view hired) v d shape) (d.number ∙ h.number) (d.made ∙ h.made) (d.taken ∙ h.taken) (λ i w at. (h.each i w at).1) in
    (k, along-first s f done hired v first old crew h d heard met many k)

-- behind a phase more
pub along-then : (s : Server) (f : File) (done : ℕ) (traces : List Trace) (lines : List Line) (trace : Trace) (v : DeskView) (first : Desk) (old crew : List Worker) → IsAlong f done traces v old → PhaseWorked f lines trace old crew
    → DeskHeard v (desk_view first) → IsCrew s f first crew → IsAlong f done (traces ++ trace ∷ []) (desk_view first) crew
along-then s f done traces lines trace v first old crew a phase heard k = record {
  kinds = λ t q at.
      let (p, at_p, more) = (kind-cell t).before v (desk_view first) q heard at in
      let (kept, own, past) = a.kinds t p at_p in (
        kept-more (kind_at t) (calls_of_kind t) kind_after kind_reply (kind-cell t) f (desk_view first) crew k.actors k.each traces trace old p q phase.many more at kept phase.each,
        subst (IsDefinedUpTo f.types done t) (sym (ap (λ (x : KindPass). x.own_calls) more.same)) own,
        ap (λ (x : KindPass). x.past) more.same ∙ past,
      );
  cases = λ c q at.
      let (p, at_p, more) = (case-cell c).before v (desk_view first) q heard at in
      let (kept, (own, past)) = a.cases c p at_p in (
        kept-more (case_at c) (calls_of_case c) case_after case_reply (case-cell c) f (desk_view first) crew k.actors k.each traces trace old p q phase.many more at kept phase.each,
        (ap (λ (x : CasePass). x.own_calls) more.same ∙ own, ap (λ (x : CasePass). x.past) more.same ∙ past),
      );
}

-- ---- traces
pub traces-push : (f : File) (phases : List (List Line)) (traces : List Trace) (lines : List Line) (trace : Trace) → AreTraces f phases traces → IsTrace f lines trace → AreTraces f (phases ++ lines ∷ []) (traces ++ trace ∷ [])
traces-push f [] [] lines trace all one = (one, tt)
traces-push f [] (t ∷ traces) lines trace all one = absurd all
traces-push f (ls ∷ phases) [] lines trace all one = absurd all
traces-push f (ls ∷ phases) (t ∷ traces) lines trace (first, all) one = (first, traces-push f phases traces lines trace all one)

-- each line makes at most one call of a type, and of a case
kind-once : (f : File) (t a : ℕ) (lines : List Line) (calls : List Call) → Tries f lines a calls → length (calls_of_kind t calls) ≤ length (lines_of a lines)
kind-once f t a lines calls (inl k) = kind_once_per_line (roles_of f a) a t (lines_of a lines) calls k
kind-once f t a lines calls (inr k) = kind_once_begun (roles_of f a) a t (lines_of a lines) calls k

case-once : (f : File) (c : CaseId) (a : ℕ) (lines : List Line) (calls : List Call) → Tries f lines a calls → length (calls_of_case c calls) ≤ length (lines_of a lines)
case-once f c a lines calls (inl k) = case_once_per_line (roles_of f a) a c (lines_of a lines) calls k
case-once f c a lines calls (inr k) = case_once_begun (roles_of f a) a c (lines_of a lines) calls k

few-more : {X : Type 0} (on : List Call → List X) → ((xs ys : List Call) → on (xs ++ ys) ≡ on xs ++ on ys) → (a : ℕ) (traces : List Trace) (trace : Trace) (before lines : List Line) → length (on (done_by a traces)) ≤ length (lines_of a before)
    → length (on (trace a)) ≤ length (lines_of a lines) → length (on (done_by a (traces ++ trace ∷ []))) ≤ length (lines_of a (before ++ lines))
few-more on append a traces trace before lines few here =
    let calls = ap length (ap on (done-more a traces trace) ∙ append (done_by a traces) (trace a)) in
    let all = ap length (filter-append (λ (l : Line). l.actor == a) before lines) in
    omega (arith, few, here, calls, all, length-append (on (done_by a traces)) (on (trace a)), length-append (lines_of a before) (lines_of a lines))

pub few-none : (f : File) → AreFew f 0 []
few-none f = record { kinds = λ t a is. omega arith; cases = λ c a is. omega arith }

pub few-then : (f : File) (k : ℕ) (traces : List Trace) (lines : List Line) (trace : Trace) (old new : List Worker) → take (k + 1) f.phases ≡ take k f.phases ++ lines ∷ [] → AreFew f k traces → PhaseWorked f lines trace old new → AreFew f (k + 1) (traces ++ trace ∷ [])
few-then f k traces lines trace old new took few phase = record {
  kinds = λ t a is. rw (all) (few-more (calls_of_kind t) (calls_of_kind-append t) a traces trace (lines_upto f k) lines (few.kinds t a is) (kind-once f t a lines (trace a) (phase.tries a is)));
  cases = λ c a is. rw (all) (few-more (calls_of_case c) (calls_of_case-append c) a traces trace (lines_upto f k) lines (few.cases c a is) (case-once f c a lines (trace a) (phase.tries a is)));
}
  where
    all : lines_upto f (k + 1) ≡ lines_upto f k ++ lines
    all = ap (λ phases. flat_map (λ (ls : List Line). ls) phases) took ∙ (flat_map-append (λ (ls : List Line). ls) (take k f.phases) (lines ∷ []) ∙ ap (λ ls. lines_upto f k ++ ls) (append-nil lines))
