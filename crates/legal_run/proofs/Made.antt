-- What calls make of a run: a machine goes on by those that it is told, and its journal has them.
use Rattle.legal_run.proofs.Common.{[], ℕ, ◌++◌, ◌∙◌, ◌∷◌, ◌≡◌, ap, append-nil, append_assoc, Call, calls_of_case, calls_of_kind, case_after, case_reply, CaseDecl, CaseId, CaseModel, ClosedCase, ClosedKind, Entry, Event, File, IsLegal}
use Rattle.legal_run.proofs.{Common.{kind_after, kind_reply, KindEvent, KindModel, length, List, None, Option, refl, Reply, Run, slice_get, Some, state_after, subst, sym}, OnMachines.{IsOn, on-append, on-case, on-kind}, Places.some_one}
use Rattle.legal_run.proofs.Places.{there-as}
use Rattle.case_core.specs.{Instances.CountedCase, declared.views.View.View}
use Rattle.type_core.specs.declared.replies.KindReply.{KindReply}

module _ {M E R W S : Type 0} (after : S → E → S) (reply : S → E → R) where
  -- calls take a machine from one state to another, and each has the reply that the machine gives there
  abbrev pub Takes : S → List (Entry M E R W S) → S → Type 0
  Takes s [] t = t ≡ s
  Takes s (e ∷ es) t = (e.reply ≡ reply s e.event) × Takes (after s e.event) es t

  pub takes-then : (s t u : S) (xs ys : List (Entry M E R W S)) → Takes s xs t → Takes t ys u → Takes s (xs ++ ys) u
  takes-then s t u [] ys same more = subst (λ m. Takes m ys u) same more
  takes-then s t u (x ∷ xs) ys (is, takes) more = (is, takes-then (after s x.event) t u xs ys takes more)

  pub takes-legal : (s t : S) (es : List (Entry M E R W S)) → Takes s es t → IsLegal after reply s es × (t ≡ state_after after s es)
  takes-legal s t [] same = (tt, same)
  takes-legal s t (e ∷ es) (is, takes) = let (legal, state) = takes-legal (after s e.event) t es takes in ((is, legal), state)

-- Machines with their journals side by side, and what each is told among calls.
pub record Cells (M E R W S X : Type 0) : Type 0 where
  pub after : S → E → S
  pub reply : S → E → R
  pub machine : X → S
  pub journal : X → List (Entry M E R W S)
  pub on : ℕ → List Call → List (Entry M E R W S)
  pub is_on : (i : ℕ) → IsOn (on i)

module _ {M E R W S X : Type 0} (m : Cells M E R W S X) where
  -- one has gone on by these calls
  pub record HasMade (calls : List (Entry M E R W S)) (x y : X) : Type 0 where
    pub takes : Takes m.after m.reply (m.machine x) calls (m.machine y)
    pub grown : m.journal y ≡ m.journal x ++ calls

  pub made-none : (x : X) → HasMade [] x x
  made-none x = record { takes = refl; grown = sym (append-nil (m.journal x)) }

  -- each has gone on by its own among these calls
  pub record HaveMade (calls : List Call) (xs ys : List X) : Type 0 where
    pub many : length ys ≡ length xs
    pub each : (i : ℕ) (x y : X) → slice_get xs i ≡ Some x → slice_get ys i ≡ Some y → HasMade (m.on i calls) x y

  pub have-none : (calls : List Call) (xs : List X) → ((i : ℕ) → m.on i calls ≡ []) → HaveMade calls xs xs
  have-none calls xs none = record { many = refl; each = λ i x y at at_then. subst (λ es. HasMade es x y) (sym (none i)) (subst (HasMade [] x) (some_one at at_then) (made-none x)) }

  pub have-then : (cs ds : List Call) (xs ys zs : List X) → HaveMade cs xs ys → HaveMade ds ys zs → HaveMade (cs ++ ds) xs zs
  have-then cs ds xs ys zs h k = record {
    many = k.many ∙ h.many;
    each = λ i x z at at_then.
        let (y, at_y) = there-as xs ys i x h.many at in
        let first = h.each i x y at at_y in
        let second = k.each i y z at_y at_then in
        subst (λ es. HasMade es x z) (sym (on-append (m.on i) (m.is_on i) cs ds)) (record {
          takes = takes-then m.after m.reply (m.machine x) (m.machine y) (m.machine z) (m.on i cs) (m.on i ds) first.takes second.takes;
          grown = second.grown ∙ (ap (λ es. es ++ m.on i ds) first.grown ∙ append_assoc (m.journal x) (m.on i cs) (m.on i ds));
        });
  }

-- the types, and the cases of a file
abbrev pub kind_cells : Cells KindModel KindEvent KindReply ℕ KindModel ClosedKind
kind_cells = record { after = kind_after; reply = kind_reply; machine = λ k. k.machine; journal = λ k. k.journal; on = calls_of_kind; is_on = on-kind }

abbrev pub id_in : Option CaseDecl → CaseId
id_in None = record { type_no = 0; place = 0 }
id_in (Some d) = d.id

abbrev pub id_at : File → ℕ → CaseId
id_at f i = id_in (slice_get f.cases i)

abbrev pub case_cells : File → Cells CountedCase Event Reply View CaseModel ClosedCase
case_cells f = record { after = case_after; reply = case_reply; machine = λ c. c.machine; journal = λ c. c.journal; on = λ i. calls_of_case (id_at f i); is_on = λ i. on-case (id_at f i) }

-- each type and each case of a run has gone on by its own among these calls
pub record HasGone (f : File) (calls : List Call) (r s : Run) : Type 0 where
  pub kinds : HaveMade kind_cells calls r.kinds s.kinds
  pub cases : HaveMade (case_cells f) calls r.cases s.cases

pub gone-none : (f : File) (r : Run) → HasGone f [] r r
gone-none f r = record { kinds = have-none kind_cells [] r.kinds (λ t. refl); cases = have-none (case_cells f) [] r.cases (λ i. refl) }

pub gone-then : (f : File) (xs ys : List Call) (r m s : Run) → HasGone f xs r m → HasGone f ys m s → HasGone f (xs ++ ys) r s
gone-then f xs ys r m s h k = record {
  kinds = have-then kind_cells xs ys r.kinds m.kinds s.kinds h.kinds k.kinds;
  cases = have-then (case_cells f) xs ys r.cases m.cases s.cases h.cases k.cases;
}
