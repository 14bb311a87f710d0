-- The lines of an actor, one after another.
use Rattle.adept_actor.proofs.Common.{[], ℕ, ◌++◌, ◌==◌, ◌∙◌, ◌∷◌, ◌≡◌, ◌≢◌, Acts, ap, AreBegun, AreCallsOf, AreCallsOfLines, ArePartOf, arith, Bool, CallFault, CanCall, CanWork, case_pass, CaseId, CasePass, Desk, desk_view, DeskHasDone}
use Rattle.adept_actor.proofs.Common.{DeskView, Does, drop, eq-eqb, false, get_or, has_case, has_kind, if◌then◌else◌, inl, inr, is_some, IsDeskOf, IsUnnamedCase, IsUnnamedKind, Leaves, LeavesCells, LeavesUnnamed, length, Line, lines_of}
use Rattle.adept_actor.proofs.{Common.{List, names_case, names_kind, ne_eqb, None, Option, refl, Server, Some, subst, suc, sym, true, WorksLines, zero}, Acts.leaves-then, Desks.{case-there, done-defined, nothing-done, then-done}}
use Rattle.std.proofs.Math.ListN.{get_or-map}
use Rattle.legal_run.specs.LineCalls.{Call as Told}
use Rattle.line_calls.proofs.Facts.{cells-same}
use Rattle.line_calls.specs.Calls as line
use Rattle.line_calls.specs.declared.calls.Call.{Call}
use Rattle.line_calls.specs.declared.calls.Call.TheVariants as call
use Rattle.line_calls.specs.declared.calls.Told.TheVariants as tell
use Rattle.wsm_lists.specs.Rows.{AllRows}

-- a desk that can make calls can still do so behind other calls
module _ (calls : List Told) (v w : DeskView) (d : DeskHasDone calls v w) where
  case-still : (c : CaseId) → has_case v c → has_case w c
  case-still c = go (case_pass v c) refl
    where
      go : (o : Option CasePass) → case_pass v c ≡ o → is_some o ≡ true → has_case w c
      go None is has = absurd (cc (has))
      go (Some p) is has = ap is_some (case-there v.cases w.cases c p d.rows is).1

  kind-still : (t : ℕ) → has_kind v t → has_kind w t
  kind-still t there = let e = d.types in omega (arith, there)

  call-still : (k : Call) → CanCall v k → CanCall w k
  call-still (call.Kind t e) (there, light) = (kind-still t there, light)
  call-still (call.Case c e) (there, light) = (case-still c there, light)
  call-still (call.Newest t (tell.Create c)) (own, there, known) = (own, case-still c there, done-defined calls v w d c.type_no known)
  call-still (call.Newest t (tell.Migrate many)) (there, known, enough) =
      let same = sym (get_or-map length w.cases t []) ∙ (ap (λ ns. get_or ns t 0) d.rows ∙ get_or-map length v.cases t []) in
      (kind-still t there, done-defined calls v w d t known, omega (arith, enough, same))

  work-still : (lines : List Line) → CanWork v lines → CanWork w lines
  work-still [] all = tt
  work-still (l ∷ lines) (can, all) = (λ own a roles. call-still (line.call_of a roles l.act) (can (own ∙ d.number) a roles), work-still lines all)

-- what holds of all lines holds of the next one
pub row-next : {X : Type 0} (P : X → Type 0) (xs rest : List X) (i : ℕ) (x : X) → drop i xs ≡ x ∷ rest → AllRows P xs → P x
row-next P [] rest zero x is all = absurd (cc (is))
row-next P [] rest (suc i) x is all = absurd (cc (is))
row-next P (y ∷ xs) rest zero x is all = let same : y ≡ x = cc (is) in subst P same all.0
row-next P (y ∷ xs) rest (suc i) x is all = row-next P xs rest i x is all.1

-- a line leaves the cells that none of the lines names
line-leaves : (a : ℕ) (roles : List ℕ) (lines rest : List Line) (i : ℕ) (l : Line) (v w : DeskView) → drop i lines ≡ l ∷ rest → LeavesCells (line.cells_in (line.call_of a roles l.act)) v w → LeavesUnnamed lines v w
line-leaves a roles lines rest i l v w is k = record {
  kinds = λ t unnamed. k.kinds t (ap (line.has_kind t) (cells-same a roles l.act) ∙ row-next (λ (m : Line). names_kind t m.act ≡ false) lines rest i l is unnamed);
  cases = λ c unnamed. k.cases c (ap (line.has_case c) (cells-same a roles l.act) ∙ row-next (λ (m : Line). names_case c m.act ≡ false) lines rest i l is unnamed);
}

module _ (s : Server) (roles : List ℕ) (whole : List Line) (v : DeskView) where
  -- Some lines of a whole are left to a desk: it can work them, and whatever they come to, the whole comes to.
  pub record IsAmong (left : List Line) (d : Desk) : Type 0 where
    pub desk : IsDeskOf s d
    pub able : CanWork (desk_view d) left
    pub number : (desk_view d).number ≡ v.number
    pub others : LeavesUnnamed whole v (desk_view d)
    pub done : (u : DeskView) → Does (AreCallsOfLines roles v.number (lines_of v.number left)) (desk_view d) u → Does (AreCallsOfLines roles v.number (lines_of v.number whole)) v u
    pub begun : (u : DeskView) → Does (AreBegun roles v.number (lines_of v.number left)) (desk_view d) u → Does (AreBegun roles v.number (lines_of v.number whole)) v u

  -- the same while it has met no fault, and where it has met one, all is done that it could
  abbrev pub IsOnItsWay : List Line → Desk → Option CallFault → Type 0
  IsOnItsWay left d None = IsAmong left d
  IsOnItsWay left d (Some f) = IsDeskOf s d × WorksLines roles whole (Some f) v (desk_view d)

  -- no line is left
  pub way-last : (d : Desk) (o : Option CallFault) → IsOnItsWay [] d o → IsDeskOf s d × WorksLines roles whole o v (desk_view d)
  way-last d None k = (k.desk, (k.done (desk_view d) ([], refl, nothing-done (desk_view d)), k.others))
  way-last d (Some f) k = k

  module _ (l : Line) (left : List Line) (d : Desk) where
    cut : (b : Bool) → (l.actor == v.number) ≡ b → lines_of v.number (l ∷ left) ≡ (if b then l ∷ lines_of v.number left else lines_of v.number left)
    cut b is = ap (λ (b : Bool). if b then l ∷ lines_of v.number left else lines_of v.number left) is

    -- another's line is passed over
    pub way-over : (o : Option CallFault) → IsOnItsWay (l ∷ left) d o → l.actor ≢ v.number → IsOnItsWay left d o
    way-over (Some f) k not = k
    way-over None k not = record {
      desk = k.desk;
      able = k.able.1;
      number = k.number;
      others = k.others;
      done = λ u r. k.done u (subst (λ ls. Does (AreCallsOfLines roles v.number ls) (desk_view d) u) (sym (cut false (ne_eqb l.actor v.number not))) r);
      begun = λ u r. k.begun u (subst (λ ls. Does (AreBegun roles v.number ls) (desk_view d) u) (sym (cut false (ne_eqb l.actor v.number not))) r);
    }

    -- the desk's own line is worked
    pub way-on : (i : ℕ) (e : Desk) (o : Option CallFault) → drop i whole ≡ l ∷ left → IsAmong (l ∷ left) d → l.actor ≡ v.number → IsDeskOf s e → Acts roles l.act o (desk_view d) (desk_view e) → IsOnItsWay left e o
    way-on i e o split k own desk (leaves, others) = go o leaves
      where
        same : lines_of v.number (l ∷ left) ≡ l ∷ lines_of v.number left
        same = cut true (eq-eqb l.actor v.number own)

        unnamed : LeavesUnnamed whole v (desk_view e)
        unnamed = leaves-then (IsUnnamedKind whole) (IsUnnamedCase whole) v (desk_view d) (desk_view e) k.others (line-leaves (desk_view d).number roles whole left i l (desk_view d) (desk_view e) split others)

        go : (o : Option CallFault) → Leaves (AreCallsOf roles (desk_view d).number l.act) (ArePartOf roles (desk_view d).number l.act) o (desk_view d) (desk_view e) → IsOnItsWay left e o
        go None (first, fit, done) =
            let here : AreCallsOf roles v.number l.act first = subst (λ n. AreCallsOf roles n l.act first) k.number fit in
            record {
              desk = desk;
              able = work-still first (desk_view d) (desk_view e) done left k.able.1;
              number = done.number ∙ k.number;
              others = unnamed;
              done = λ u r. k.done u (subst (λ ls. Does (AreCallsOfLines roles v.number ls) (desk_view d) u) (sym same) (first ++ r.0, (first, r.0, refl, here, r.1), then-done first r.0 (desk_view d) (desk_view e) u done r.2));
              begun = λ u r. k.begun u (subst (λ ls. Does (AreBegun roles v.number ls) (desk_view d) u) (sym same) (first ++ r.0, inr (first, r.0, refl, here, r.1), then-done first r.0 (desk_view d) (desk_view e) u done r.2));
            }
        go (Some f) ((calls, part, done), full) =
            let here : ArePartOf roles v.number l.act calls = subst (λ n. ArePartOf roles n l.act calls) k.number part in
            (desk, ((k.begun (desk_view e) (subst (λ ls. Does (AreBegun roles v.number ls) (desk_view d) (desk_view e)) (sym same) (calls, inl here, done)), full), unnamed))

-- no line is worked yet
pub among-first : (s : Server) (roles : List ℕ) (lines : List Line) (d : Desk) → IsDeskOf s d → CanWork (desk_view d) lines → IsAmong s roles lines (desk_view d) lines d
among-first s roles lines d desk able = record { desk = desk; able = able; number = refl; others = record { kinds = λ t such. refl; cases = λ c such. refl }; done = λ u k. k; begun = λ u k. k }
