-- A desk that makes another.
use Rattle.adept_server.proofs.Common.{[], ◌+◌, ◌<◌, ◌∙◌, ◌∷◌, ◌≡◌, All, All-slice_get, AllSplit, AllZip, ap, append-nil, arith, CanSplit, case_after, case_reply, Desk, desk_view, DeskView, IsDesk, IsDeskOf, IsLegalView, IsSeenBy}
use Rattle.adept_server.proofs.{Common.{kind_after, kind_reply, List, map, new_desk, parent_desk, PassView, refl, row_views, RowSplit, Server, split_from, split_off, subst, sym, views}, Changed.{ComesOf, IsCountedBy, desk_again}}
use Rattle.adept_server.proofs.{Changed.still_defined, Made.same_views, Short.short_map, Zips.{map_there, map_of_case, all_of_case, all_from_places, all_from_cases}}
use Rattle.std.proofs.lemmas.List.{length-map}

-- passes that have seen the same have seen no less
seen_by_image : {M E R W S : Type 0} (f : PassView M E R W S → PassView M E R W S) → ((p : PassView M E R W S) → (f p).seen ≡ p.seen) → (ps : List (PassView M E R W S)) → AllZip IsSeenBy ps (map f ps)
seen_by_image f same [] = tt
seen_by_image f same (p ∷ ps) = (([], append-nil p.seen ∙ sym (same p)), seen_by_image f same ps)

module _ {M E R W S : Type 0} (after : S → E → S) (reply : S → E → R) (v x : DeskView) (f : PassView M E R W S → PassView M E R W S)
    (opening : (p : PassView M E R W S) → (f p).opening ≡ p.opening) (counted : (p : PassView M E R W S) → IsCountedBy v p → IsCountedBy x (f p)) where
  image_comes : (p q : PassView M E R W S) → q ≡ f p → IsLegalView after reply q → ComesOf after reply v x p q
  image_comes p q is legal = record { opening = ap (λ (r : PassView M E R W S). r.opening) is ∙ opening p; counted = λ counts. subst (IsCountedBy x) (sym is) (counted p counts); legal = legal }

-- a pass that was split is legal still
still_legal : {M E R W S : Type 0} (after : S → E → S) (reply : S → E → R) (p q : PassView M E R W S) → q ≡ split_from p → IsLegalView after reply p → IsLegalView after reply q
still_legal after reply p q is k = let split : IsLegalView after reply (split_from p) = record { legal = k.legal; own = k.own } in subst (IsLegalView after reply) (sym is) split

module _ (v : DeskView) (desk : IsDesk v) where
  pub parent_is_desk : IsDesk (parent_desk v)
  parent_is_desk =
      let x : DeskView = parent_desk v in
      desk_again v x desk (length-map v.kinds split_from, length-map v.cases (map split_from), refl) (short_map split_from v.cases desk.short)
      (λ t q is. let p = map_there split_from v.kinds t q is in
      (p.0, p.1, image_comes kind_after kind_reply v x split_from (λ p. refl) (λ p counts. (counts.0, ap (λ n. n + 1) counts.1, counts.2)) p.0 q p.2 (still_legal kind_after kind_reply p.0 q p.2 (desk.kinds t p.0 p.1).legal)))
      (λ c q is. let p = map_of_case split_from v.cases c q is in
      (p.0, p.1, image_comes case_after case_reply v x split_from (λ p. refl) (λ p counts. (counts.0, ap (λ n. n + 1) counts.1, counts.2)) p.0 q p.2 (still_legal case_after case_reply p.0 q p.2 (desk.cases c p.0 p.1).legal)))
      (λ t is. still_defined t t v.kinds x.kinds (seen_by_image split_from (λ p. refl) v.kinds) (desk.known t is))

  pub new_is_desk : All (IsLegalView kind_after kind_reply) (map split_off v.kinds) → All (All (IsLegalView case_after case_reply)) (map (map split_off) v.cases) → IsDesk (new_desk v)
  new_is_desk legal legal_cases =
      let x : DeskView = new_desk v in
      desk_again v x desk (length-map v.kinds split_off, length-map v.cases (map split_off), refl) (short_map split_off v.cases desk.short)
      (λ t q is. let p = map_there split_off v.kinds t q is in
      (p.0, p.1, image_comes kind_after kind_reply v x split_off (λ p. refl) (λ p counts. (counts.1, refl, refl)) p.0 q p.2 (All-slice_get (IsLegalView kind_after kind_reply) x.kinds t q legal is)))
      (λ c q is. let p = map_of_case split_off v.cases c q is in
      (p.0, p.1, image_comes case_after case_reply v x split_off (λ p. refl) (λ p counts. (counts.1, refl, refl)) p.0 q p.2 (all_of_case (IsLegalView case_after case_reply) x.cases c q legal_cases is)))
      (λ t is. still_defined t t v.kinds x.kinds (seen_by_image split_off (λ p. refl) v.kinds) (desk.known t is))

-- the first desk of a server that has made fewer than that can make another
pub can_split : (s : Server) (d : Desk) → IsDeskOf s d → (desk_view d).number ≡ 0 → (desk_view d).made < 33 → All CanSplit (views d.kinds.items) × All (All CanSplit) (row_views d.cases.items)
can_split s d k first few =
    let v : DeskView = desk_view d in (
      all_from_places CanSplit v.kinds (λ t p is. let at = k.desk.kinds t p is in (at.number ∙ first, omega (arith, at.made, few))),
      all_from_cases CanSplit v.cases (λ c p is. let at = k.desk.cases c p is in (at.number ∙ first, omega (arith, at.made, few))),
    )

-- a desk of a server that made another, and what it was before
pub record HasMade (s : Server) (d d' e : Desk) : Type 0 where
  pub desks : IsDeskOf s d' × IsDeskOf s e
  pub first : desk_view d' ≡ parent_desk (desk_view d)
  pub new : desk_view e ≡ new_desk (desk_view d)

pub desk_made : (s : Server) (d d' e : Desk) → IsDeskOf s d → d'.number ≡ d.number → d'.made ≡ d.made + 1 → d'.taken ≡ d.taken → d'.defined ≡ d.defined → e.number ≡ d.made → e.made ≡ 0 → e.taken ≡ 0 → e.defined.items ≡ d.defined.items
    → RowSplit kind_after kind_reply s.kinds.items d.kinds.items d'.kinds.items e.kinds.items → AllSplit case_after case_reply s.cases.items d.cases.items d'.cases.items e.cases.items → HasMade s d d' e
desk_made s d d' e of number made taken flags new_number new_made new_taken new_flags kinds cases =
    let v : DeskView = desk_view d in
    let first : desk_view d' ≡ parent_desk v = same_views (parent_desk v) (desk_view d') number made taken (ap (λ (x : _). x.items) flags) kinds.firsts cases.firsts in
    let new : desk_view e ≡ new_desk v = same_views (new_desk v) (desk_view e) new_number new_made new_taken new_flags kinds.new cases.new in
    let new_desk_is : IsDesk (new_desk v) = new_is_desk v of.desk (subst (All (IsLegalView kind_after kind_reply)) kinds.new kinds.legal) (subst (All (All (IsLegalView case_after case_reply))) cases.new cases.legal) in
    record {
      desks = (record { kinds = kinds.of; cases = cases.of; desk = subst IsDesk (sym first) (parent_is_desk v of.desk) }, record { kinds = kinds.of_new; cases = cases.of_new; desk = subst IsDesk (sym new) new_desk_is });
      first = first;
      new = new;
    }
