-- Desks that meet.
use Rattle.adept_server.proofs.Common.{◌||◌, ◌∙◌, ◌≡◌, All, AllMet, AllZip, arith, Bool, case_after, case_reply, Desk, desk_view, DeskView, first_desk_met, first_met, IsDesk, IsDeskOf, IsLegalView, IsSeenBy, kind_after, kind_reply, length}
use Rattle.adept_server.proofs.{Common.{length-passes, length-views, length-zip_with, refl, RowMet, second_desk_met, second_met, SeesMore, Server, subst, sym, zip_with}, Changed.{desk_again, first_comes, first_case_comes, second_comes}}
use Rattle.adept_server.proofs.{Changed.{second_case_comes, known_by_both}, Made.same_views, Short.short_zip, Zips.{all_from_places, all_from_cases}}

module _ (v w : DeskView) (one : IsDesk v) (two : IsDesk w) (even : length w.kinds ≡ length v.kinds) where
  even_cases : length w.cases ≡ length v.cases
  even_cases = two.rows ∙ (even ∙ sym one.rows)

  even_flags : length w.defined ≡ length v.defined
  even_flags = two.flags ∙ (even ∙ sym one.flags)

  pub first_is_desk : All (IsLegalView kind_after kind_reply) (zip_with first_met v.kinds w.kinds) → All (All (IsLegalView case_after case_reply)) (zip_with (zip_with first_met) v.cases w.cases)
      → AllZip IsSeenBy v.kinds (zip_with first_met v.kinds w.kinds) × AllZip IsSeenBy w.kinds (zip_with first_met v.kinds w.kinds) → IsDesk (first_desk_met v w)
  first_is_desk legal legal_cases more =
      let x : DeskView = first_desk_met v w in
      desk_again v x one
      (length-zip_with first_met v.kinds w.kinds even, length-zip_with (zip_with first_met) v.cases w.cases even_cases, length-zip_with (λ (a b : Bool). a || b) v.defined w.defined even_flags) (short_zip first_met v.cases w.cases one.short)
      (first_comes kind_after kind_reply v x first_met (record { opening = λ p o. refl; counted = λ p o counts. counts }) v.kinds w.kinds legal)
      (first_case_comes case_after case_reply v x first_met (record { opening = λ p o. refl; counted = λ p o counts. counts }) v.cases w.cases legal_cases)
      (known_by_both v w x one two refl more.0 more.1)

  pub second_is_desk : All (IsLegalView kind_after kind_reply) (zip_with second_met v.kinds w.kinds) → All (All (IsLegalView case_after case_reply)) (zip_with (zip_with second_met) v.cases w.cases)
      → AllZip IsSeenBy v.kinds (zip_with second_met v.kinds w.kinds) × AllZip IsSeenBy w.kinds (zip_with second_met v.kinds w.kinds) → IsDesk (second_desk_met v w)
  second_is_desk legal legal_cases more =
      let x : DeskView = second_desk_met v w in
      desk_again w x two
      (length-zip_with second_met v.kinds w.kinds even ∙ sym even, length-zip_with (zip_with second_met) v.cases w.cases even_cases ∙ sym even_cases, length-zip_with (λ (a b : Bool). a || b) v.defined w.defined even_flags ∙ sym even_flags) (short_zip second_met v.cases w.cases one.short)
      (second_comes kind_after kind_reply w x second_met (record { opening = λ o p. refl; counted = λ o p counts. counts }) v.kinds w.kinds legal)
      (second_case_comes case_after case_reply w x second_met (record { opening = λ o p. refl; counted = λ o p counts. counts }) v.cases w.cases legal_cases)
      (known_by_both v w x one two refl more.0 more.1)

-- what each pass of a desk has seen is legal
pub legal_desk : (v : DeskView) → IsDesk v → All (IsLegalView kind_after kind_reply) v.kinds × All (All (IsLegalView case_after case_reply)) v.cases
legal_desk v desk = (all_from_places (IsLegalView kind_after kind_reply) v.kinds (λ t p is. (desk.kinds t p is).legal), all_from_cases (IsLegalView case_after case_reply) v.cases (λ c p is. (desk.cases c p is).legal))

-- the same counts
pub record SameCounts (d e : Desk) : Type 0 where
  pub number : e.number ≡ d.number
  pub made : e.made ≡ d.made
  pub taken : e.taken ≡ d.taken

-- two desks of a server that met, and what they were before
pub record DesksMet (s : Server) (d e d' e' : Desk) : Type 0 where
  pub desks : IsDeskOf s d' × IsDeskOf s e'
  pub one : desk_view d' ≡ first_desk_met (desk_view d) (desk_view e)
  pub two : desk_view e' ≡ second_desk_met (desk_view d) (desk_view e)
  pub more : SeesMore (desk_view d) (desk_view d') × SeesMore (desk_view e) (desk_view d')

module _ (s : Server) (d e : Desk) (of_one : IsDeskOf s d) (of_two : IsDeskOf s e) where
  pub even_kinds : length (desk_view e).kinds ≡ length (desk_view d).kinds
  even_kinds = omega (arith, length-views d.kinds.items, length-views e.kinds.items, length-passes s.kinds.items d.kinds.items of_one.kinds, length-passes s.kinds.items e.kinds.items of_two.kinds)

  pub even_flags_of : length (desk_view e).defined ≡ length (desk_view d).defined
  even_flags_of = of_two.desk.flags ∙ (even_kinds ∙ sym of_one.desk.flags)

  pub desks_met : (d' e' : Desk) → SameCounts d d' → SameCounts e e' → d'.defined.items ≡ zip_with (λ a b. a || b) d.defined.items e.defined.items → e'.defined.items ≡ zip_with (λ a b. a || b) d.defined.items e.defined.items
      → RowMet kind_after kind_reply s.kinds.items d.kinds.items e.kinds.items d'.kinds.items e'.kinds.items → AllMet case_after case_reply s.cases.items d.cases.items e.cases.items d'.cases.items e'.cases.items → DesksMet s d e d' e'
  desks_met d' e' same same_too flags flags_too kinds cases =
      let v : DeskView = desk_view d in
      let w : DeskView = desk_view e in
      let one : desk_view d' ≡ first_desk_met v w = same_views (first_desk_met v w) (desk_view d') same.number same.made same.taken flags kinds.one cases.one in
      let two : desk_view e' ≡ second_desk_met v w = same_views (second_desk_met v w) (desk_view e') same_too.number same_too.made same_too.taken flags_too kinds.two cases.two in
      let first : IsDesk (first_desk_met v w) =
      first_is_desk v w of_one.desk of_two.desk even_kinds (subst (All (IsLegalView kind_after kind_reply)) kinds.one kinds.legal.0) (subst (All (All (IsLegalView case_after case_reply))) cases.one cases.legal.0)
      (subst (AllZip IsSeenBy v.kinds) kinds.one kinds.more_of_one.0, subst (AllZip IsSeenBy w.kinds) kinds.one kinds.more_of_two.0) in
      let second : IsDesk (second_desk_met v w) =
      second_is_desk v w of_one.desk of_two.desk even_kinds (subst (All (IsLegalView kind_after kind_reply)) kinds.two kinds.legal.1) (subst (All (All (IsLegalView case_after case_reply))) cases.two cases.legal.1)
      (subst (AllZip IsSeenBy v.kinds) kinds.two kinds.more_of_one.1, subst (AllZip IsSeenBy w.kinds) kinds.two kinds.more_of_two.1) in
      record {
        desks = (
          record { kinds = kinds.of_one; cases = cases.of_one; desk = subst IsDesk (sym one) first },
          record { kinds = kinds.of_two; cases = cases.of_two; desk = subst IsDesk (sym two) second },
        );
        one = one;
        two = two;
        more = (record { kinds = kinds.more_of_one.0; cases = cases.more_of_one.0 }, record { kinds = kinds.more_of_two.0; cases = cases.more_of_two.0 });
      }
