-- Desks that were made of others.
use Rattle.adept_server.proofs.Common.{ℕ, ◌||◌, ◌∙◌, ◌≡◌, All, All-slice_get, AllZip, ap, AreShort, arith, at_case, Bool, case_after, case_pass, case_reply, CaseId, CasePass, DeskView, has_version, inl, inr, IsDefinedFor, IsDesk}
use Rattle.adept_server.proofs.{Common.{IsLegalView, IsPassAt, IsSeenBy, kind_after, kind_reply, KindPass, length, List, None, not_created, not_defined, Option, PassView, refl, slice_get, Some, subst, sym, true, zip_with}, Keeping.has_more}
use Rattle.adept_server.proofs.Zips.{zip_there, zip_of_case, all_of_case, beside, either_raised}

-- the number and counts of a pass are the desk's
abbrev pub IsCountedBy : {M E R W S : Type 0} → DeskView → PassView M E R W S → Type 0
IsCountedBy v p = (p.number ≡ v.number) × (p.made ≡ v.made) × (p.taken ≡ v.taken)

-- A pass q of the desk x was made of the pass p of the desk v, and is of the same cell.
pub record ComesOf {M E R W S : Type 0} (after : S → E → S) (reply : S → E → R) (v x : DeskView) (p q : PassView M E R W S) : Type 0 where
  pub opening : q.opening ≡ p.opening
  pub counted : IsCountedBy v p → IsCountedBy x q
  pub legal : IsLegalView after reply q

module _ {M E R W S : Type 0} (after : S → E → S) (reply : S → E → R) (v x : DeskView) where
  pub pass_again : (opening : S) (p q : PassView M E R W S) → IsPassAt after reply opening v p → ComesOf after reply v x p q → IsPassAt after reply opening x q
  pass_again opening p q k comes =
      let counts = comes.counted (k.number, k.made, k.taken) in
      record { opening_is = comes.opening ∙ k.opening_is; number = counts.0; made = counts.1; taken = counts.2; legal = comes.legal }

-- where each pass was made of one of another desk
pub desk_again : (v x : DeskView) → IsDesk v → (length x.kinds ≡ length v.kinds) × (length x.cases ≡ length v.cases) × (length x.defined ≡ length v.defined) → AreShort x.cases
    → ((t : ℕ) (q : KindPass) → slice_get x.kinds t ≡ Some q → (p : KindPass) × (slice_get v.kinds t ≡ Some p) × ComesOf kind_after kind_reply v x p q)
    → ((c : CaseId) (q : CasePass) → case_pass x c ≡ Some q → (p : CasePass) × (case_pass v c ≡ Some p) × ComesOf case_after case_reply v x p q)
    → ((t : ℕ) → slice_get x.defined t ≡ Some true → IsDefinedFor x t) → IsDesk x
desk_again v x desk even short kinds cases known = record {
  kinds = λ t q is. let p = kinds t q is in pass_again kind_after kind_reply v x (not_defined t) p.0 q (desk.kinds t p.0 p.1) p.2;
  cases = λ c q is. let p = cases c q is in pass_again case_after case_reply v x (not_created c.type_no) p.0 q (desk.cases c p.0 p.1) p.2;
  rows = even.1 ∙ (desk.rows ∙ sym even.0);
  flags = even.2 ∙ (desk.flags ∙ sym even.0);
  few = omega (arith, even.1, desk.few);
  short = short;
  known = known;
}

-- where more was seen of each type, a type that had a version has one
pub still_defined : (t u : ℕ) (ps qs : List KindPass) → AllZip IsSeenBy ps qs → has_version t (slice_get ps u) → has_version t (slice_get qs u)
still_defined t u ps qs more = go (slice_get ps u) refl
  where
    go : (o : Option KindPass) → slice_get ps u ≡ o → has_version t o → has_version t (slice_get qs u)
    go None is has = absurd has
    go (Some p) is has = let q = beside IsSeenBy ps qs u p more is in subst (has_version t) (sym q.1) (has_more t p q.0 q.2 has)

-- what two desks know, a desk knows that has seen what both have
pub known_by_both : (v w x : DeskView) → IsDesk v → IsDesk w → x.defined ≡ zip_with (λ a b. a || b) v.defined w.defined → AllZip IsSeenBy v.kinds x.kinds → AllZip IsSeenBy w.kinds x.kinds
    → (t : ℕ) → slice_get x.defined t ≡ Some true → IsDefinedFor x t
known_by_both v w x one two flags more_of_one more_of_two t is =
    let raised = zip_there (λ (a b : Bool). a || b) v.defined w.defined t true (ap (λ bs. slice_get bs t) (sym flags) ∙ is) in
    elim (either_raised raised.0 raised.1 (sym raised.4)) [
      | inl a ↦ still_defined t t v.kinds x.kinds more_of_one (one.known t (raised.2 ∙ ap Some a))
      | inr b ↦ still_defined t t w.kinds x.kinds more_of_two (two.known t (raised.3 ∙ ap Some b))
    ]

module _ {M E R W S : Type 0} (after : S → E → S) (reply : S → E → R) (v x : DeskView) where
  module _ (f : PassView M E R W S → PassView M E R W S → PassView M E R W S) where
    -- f makes passes of the first ones that it is given, or of the second
    pub record OfFirst : Type 0 where
      pub opening : (p o : PassView M E R W S) → (f p o).opening ≡ p.opening
      pub counted : (p o : PassView M E R W S) → IsCountedBy v p → IsCountedBy x (f p o)

    pub record OfSecond : Type 0 where
      pub opening : (o p : PassView M E R W S) → (f o p).opening ≡ p.opening
      pub counted : (o p : PassView M E R W S) → IsCountedBy v p → IsCountedBy x (f o p)

    comes_of_first : OfFirst → (p o q : PassView M E R W S) → q ≡ f p o → IsLegalView after reply q → ComesOf after reply v x p q
    comes_of_first k p o q is legal = record { opening = ap (λ (r : PassView M E R W S). r.opening) is ∙ k.opening p o; counted = λ counts. subst (IsCountedBy x) (sym is) (k.counted p o counts); legal = legal }

    comes_of_second : OfSecond → (o p q : PassView M E R W S) → q ≡ f o p → IsLegalView after reply q → ComesOf after reply v x p q
    comes_of_second k o p q is legal = record { opening = ap (λ (r : PassView M E R W S). r.opening) is ∙ k.opening o p; counted = λ counts. subst (IsCountedBy x) (sym is) (k.counted o p counts); legal = legal }

    module _ (k : OfFirst) where
      pub first_comes : (ps os : List (PassView M E R W S)) → All (IsLegalView after reply) (zip_with f ps os) → (t : ℕ) (q : PassView M E R W S) → slice_get (zip_with f ps os) t ≡ Some q
          → (p : PassView M E R W S) × (slice_get ps t ≡ Some p) × ComesOf after reply v x p q
      first_comes ps os legal t q is = let r = zip_there f ps os t q is in (r.0, r.2, comes_of_first k r.0 r.1 q r.4 (All-slice_get (IsLegalView after reply) (zip_with f ps os) t q legal is))

      pub first_case_comes : (ps os : List (List (PassView M E R W S))) → All (All (IsLegalView after reply)) (zip_with (zip_with f) ps os) → (c : CaseId) (q : PassView M E R W S) → at_case (zip_with (zip_with f) ps os) c ≡ Some q
          → (p : PassView M E R W S) × (at_case ps c ≡ Some p) × ComesOf after reply v x p q
      first_case_comes ps os legal c q is = let r = zip_of_case f ps os c q is in (r.0, r.2, comes_of_first k r.0 r.1 q r.4 (all_of_case (IsLegalView after reply) (zip_with (zip_with f) ps os) c q legal is))

    module _ (k : OfSecond) where
      pub second_comes : (os ps : List (PassView M E R W S)) → All (IsLegalView after reply) (zip_with f os ps) → (t : ℕ) (q : PassView M E R W S) → slice_get (zip_with f os ps) t ≡ Some q
          → (p : PassView M E R W S) × (slice_get ps t ≡ Some p) × ComesOf after reply v x p q
      second_comes os ps legal t q is = let r = zip_there f os ps t q is in (r.1, r.3, comes_of_second k r.0 r.1 q r.4 (All-slice_get (IsLegalView after reply) (zip_with f os ps) t q legal is))

      pub second_case_comes : (os ps : List (List (PassView M E R W S))) → All (All (IsLegalView after reply)) (zip_with (zip_with f) os ps) → (c : CaseId) (q : PassView M E R W S) → at_case (zip_with (zip_with f) os ps) c ≡ Some q
          → (p : PassView M E R W S) × (at_case ps c ≡ Some p) × ComesOf after reply v x p q
      second_case_comes os ps legal c q is = let r = zip_of_case f os ps c q is in (r.1, r.3, comes_of_second k r.0 r.1 q r.4 (all_of_case (IsLegalView after reply) (zip_with (zip_with f) os ps) c q legal is))
