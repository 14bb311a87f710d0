-- How a server ends.
use Rattle.adept_server.proofs.Common.{[], ◌+◌, ◌∙◌, ◌∷◌, ◌≡◌, All, AllZip, ap, at_case, CanClose, case_after, case_reply, CaseId, CaseModel, Closed, ClosedServer, CountedCase, Desk, desk_view, DeskView, Event, in_row, IsClosedAs}
use Rattle.adept_server.proofs.Common.{IsClosedServer, IsDeskOf, kind_after, kind_reply, length, List, lists_of, map, Pass, refl, Reply, row_views, Server, Some, subst, suc, sym, Vec, View, views}
use Rattle.adept_server.proofs.Zips.{row_of_case, all_from_places, all_from_cases, beside}

-- the first desk of a server can close it once it has taken in all others
pub can_close : (s : Server) (d : Desk) → IsDeskOf s d → (desk_view d).number ≡ 0 → (desk_view d).made ≡ (desk_view d).taken + 1 → All CanClose (views d.kinds.items) × All (All CanClose) (row_views d.cases.items)
can_close s d k first all =
    let v : DeskView = desk_view d in (
      all_from_places CanClose v.kinds (λ t p is. let at = k.desk.kinds t p is in (at.number ∙ first, at.made ∙ (all ∙ ap (λ n. n + 1) (sym at.taken)))),
      all_from_cases CanClose v.cases (λ c p is. let at = k.desk.cases c p is in (at.number ∙ first, at.made ∙ (all ∙ ap (λ n. n + 1) (sym at.taken)))),
    )

module _ {A B : Type 0} (R : A → B → Type 0) where
  -- as many stand beside others as there are
  even : (xs : List A) (ys : List B) → AllZip R xs ys → length ys ≡ length xs
  even [] [] all = refl
  even [] (y ∷ ys) all = absurd all
  even (x ∷ xs) [] all = absurd all
  even (x ∷ xs) (y ∷ ys) all = ap suc (even xs ys all.1)

  -- what stands beside a case
  beside_case : (xs : List (List A)) (ys : List (List B)) (c : CaseId) (x : A) → AllZip (AllZip R) xs ys → at_case xs c ≡ Some x → (y : B) × (at_case ys c ≡ Some y) × R x y
  beside_case xs ys c x all is =
      let r = row_of_case xs c x is in
      let row = beside (AllZip R) xs ys c.type_no r.0 all r.1 in
      let item = beside R r.0 row.0 c.place x row.2 r.2 in
      (item.0, ap (in_row c.place) row.1 ∙ item.1, item.2)

even_rows : {A B Z : Type 0} (R : A → B → Type 0) (xs : List (List A)) (ys : List (Vec B Z)) → AllZip (AllZip R) xs (lists_of ys) → map (λ row. length row.items) ys ≡ map length xs
even_rows R [] [] all = refl
even_rows R [] (y ∷ ys) all = absurd all
even_rows R (x ∷ xs) [] all = absurd all
even_rows R (x ∷ xs) (y ∷ ys) all =
    let first = even R x y.items all.0 in
    let rest = even_rows R xs ys all.1 in
    cc

pub server_closed : (d : Desk) (s : ClosedServer) → AllZip (IsClosedAs kind_after kind_reply (λ k. k)) (views d.kinds.items) s.kinds.items → AllZip (AllZip (IsClosedAs case_after case_reply (λ (k : CountedCase). k.state))) (row_views d.cases.items) (lists_of s.cases.items) → IsClosedServer (desk_view d) s
server_closed d s kinds cases = record {
  types = even (IsClosedAs kind_after kind_reply (λ k. k)) (views d.kinds.items) s.kinds.items kinds;
  rows = even_rows (IsClosedAs case_after case_reply (λ (k : CountedCase). k.state)) (row_views d.cases.items) s.cases.items cases;
  kinds = λ t p is. beside (IsClosedAs kind_after kind_reply (λ k. k)) (views d.kinds.items) s.kinds.items t p kinds is;
  cases = λ c p is. beside_case (IsClosedAs case_after case_reply (λ (k : CountedCase). k.state)) (row_views d.cases.items) (lists_of s.cases.items) c p cases is;
}

-- what is said of rows is said of equal ones
pub cases_closed : {A : Type 0} {g : _} {ps qs : List (Vec (Pass CountedCase Event Reply View CaseModel g) A)} {cs ds : List (Vec (Closed CountedCase Event Reply View CaseModel) A)} → AllZip (AllZip (IsClosedAs case_after case_reply (λ (k : CountedCase). k.state))) (row_views ps) (lists_of cs)
    → ps ≡ qs → ds ≡ cs → AllZip (AllZip (IsClosedAs case_after case_reply (λ (k : CountedCase). k.state))) (row_views qs) (lists_of ds)
cases_closed {qs = qs} {cs = cs} k before behind =
    subst (λ rows. AllZip (AllZip (IsClosedAs case_after case_reply (λ (k : CountedCase). k.state))) (row_views qs) (lists_of rows)) (sym behind) (subst (λ rows. AllZip (AllZip (IsClosedAs case_after case_reply (λ (k : CountedCase). k.state))) (row_views rows) (lists_of cs)) before k)
