-- A desk that takes another in.
use Rattle.adept_server.proofs.Common.{◌+◌, ◌<◌, ◌||◌, ◌∙◌, ◌≡◌, All, AllJoined, AllZip, ap, arith, Bool, CanJoin, case_after, case_reply, Desk, desk_view, DeskView, IsDesk, IsDeskOf, IsLegalView, IsSeenBy, joined, joined_desk, kind_after}
use Rattle.adept_server.proofs.{Common.{kind_reply, length, length-zip_with, refl, row_views, RowJoined, SeesMore, Server, subst, sym, views, zip_with}, Changed.{desk_again, first_comes, first_case_comes, known_by_both}, Made.same_views}
use Rattle.adept_server.proofs.{Meeting.even_kinds, Short.short_zip, Zips.{all_from_places, all_from_cases}}

pub joined_is_desk : (v w : DeskView) → IsDesk v → IsDesk w → length w.kinds ≡ length v.kinds → All (IsLegalView kind_after kind_reply) (zip_with joined v.kinds w.kinds) → All (All (IsLegalView case_after case_reply)) (zip_with (zip_with joined) v.cases w.cases)
    → AllZip IsSeenBy v.kinds (zip_with joined v.kinds w.kinds) × AllZip IsSeenBy w.kinds (zip_with joined v.kinds w.kinds) → IsDesk (joined_desk v w)
joined_is_desk v w one two even legal legal_cases more =
    let x : DeskView = joined_desk v w in
    let even_cases : length w.cases ≡ length v.cases = two.rows ∙ (even ∙ sym one.rows) in
    let even_flags : length w.defined ≡ length v.defined = two.flags ∙ (even ∙ sym one.flags) in
    desk_again v x one (length-zip_with joined v.kinds w.kinds even, length-zip_with (zip_with joined) v.cases w.cases even_cases, length-zip_with (λ (a b : Bool). a || b) v.defined w.defined even_flags) (short_zip joined v.cases w.cases one.short)
    (first_comes kind_after kind_reply v x joined (record { opening = λ p o. refl; counted = λ p o counts. (counts.0, counts.1, ap (λ n. n + 1) counts.2) }) v.kinds w.kinds legal)
    (first_case_comes case_after case_reply v x joined (record { opening = λ p o. refl; counted = λ p o counts. (counts.0, counts.1, ap (λ n. n + 1) counts.2) }) v.cases w.cases legal_cases)
    (known_by_both v w x one two refl more.0 more.1)

-- the first desk of a server that has taken in fewer than that can take in another
pub can_join : (s : Server) (d : Desk) → IsDeskOf s d → (desk_view d).number ≡ 0 → (desk_view d).taken < 33 → All CanJoin (views d.kinds.items) × All (All CanJoin) (row_views d.cases.items)
can_join s d k first few =
    let v : DeskView = desk_view d in (
      all_from_places CanJoin v.kinds (λ t p is. let at = k.desk.kinds t p is in (at.number ∙ first, omega (arith, at.taken, few))),
      all_from_cases CanJoin v.cases (λ c p is. let at = k.desk.cases c p is in (at.number ∙ first, omega (arith, at.taken, few))),
    )

-- a desk of a server that took another in, and what both were before
pub record HasTaken (s : Server) (d e d' : Desk) : Type 0 where
  pub desk : IsDeskOf s d'
  pub joined : desk_view d' ≡ joined_desk (desk_view d) (desk_view e)
  pub more : SeesMore (desk_view d) (desk_view d') × SeesMore (desk_view e) (desk_view d')

pub desk_taken : (s : Server) (d e d' : Desk) → IsDeskOf s d → IsDeskOf s e → d'.number ≡ d.number → d'.made ≡ d.made → d'.taken ≡ d.taken + 1 → d'.defined.items ≡ zip_with (λ a b. a || b) d.defined.items e.defined.items
    → RowJoined kind_after kind_reply s.kinds.items d.kinds.items e.kinds.items d'.kinds.items → AllJoined case_after case_reply s.cases.items d.cases.items e.cases.items d'.cases.items → HasTaken s d e d'
desk_taken s d e d' of_one of_two number made taken flags kinds cases =
    let v : DeskView = desk_view d in
    let w : DeskView = desk_view e in
    let is : desk_view d' ≡ joined_desk v w = same_views (joined_desk v w) (desk_view d') number made taken flags kinds.are cases.are in
    let desk : IsDesk (joined_desk v w) =
    joined_is_desk v w of_one.desk of_two.desk (even_kinds s d e of_one of_two) (subst (All (IsLegalView kind_after kind_reply)) kinds.are kinds.legal) (subst (All (All (IsLegalView case_after case_reply))) cases.are cases.legal)
    (subst (AllZip IsSeenBy v.kinds) kinds.are kinds.more.0, subst (AllZip IsSeenBy w.kinds) kinds.are kinds.more.1) in
    record {
      desk = record { kinds = kinds.of; cases = cases.of; desk = subst IsDesk (sym is) desk };
      joined = is;
      more = (record { kinds = kinds.more.0; cases = cases.more.0 }, record { kinds = kinds.more.1; cases = cases.more.1 });
    }
