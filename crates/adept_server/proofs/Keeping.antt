-- A desk stays one behind each call.
use Rattle.adept_server.proofs.Common.{[], ℕ, ◌++◌, ◌<◌, ◌^◌, ◌∙◌, ◌∷◌, ◌≡◌, ◌⊎◌, answer_tells, ap, AreShort, arith, at_case, Bool, CallFault, Calls, CallsCase, CallsCases, CallsKind, CallsOne, case_after, case_pass, case_reply, CaseId}
use Rattle.adept_server.proofs.Common.{CasePass, DeskView, drop, entry, Err, Event, false, has_version, if◌then◌else◌, in_row, inl, inr, IsAnswered, IsDefinedFor, IsDesk, IsLegal, IsLegalFrom, IsPassAt, kind_after, kind_reply, KindEvent}
use Rattle.adept_server.proofs.Common.{KindModel, KindPass, KindReply, length, length-set, List, None, not_created, not_defined, Ok, Option, PassView, refl, Reply, Result, set, slice_get, slice_get_within, Some, state_after, subst, sym}
use Rattle.adept_server.proofs.{Common.{tells_version, true, versions-kept}, Fronts.{first-even, first_behind}, Histories.{state-append, last-reply}, OneCall.{legal_behind, more_seen, one_behind, one_before}, Places.get-set_same}
use Rattle.adept_server.proofs.{Places.set_cases, Rows.case_cases, Short.short_set, Versions.told-version}
use mathlib.Core.List.{IsPrefix}

-- what no call changes of a desk
pub record Beside (v w : DeskView) : Type 0 where
  pub number : w.number ≡ v.number
  pub made : w.made ≡ v.made
  pub taken : w.taken ≡ v.taken

module _ {M E R W S : Type 0} (after : S → E → S) (reply : S → E → R) (v w : DeskView) (same : Beside v w) where
  pub pass_beside : (opening : S) (p : PassView M E R W S) → IsPassAt after reply opening v p → IsPassAt after reply opening w p
  pass_beside opening p k = record {
    opening_is = k.opening_is;
    number = k.number ∙ sym same.number;
    made = k.made ∙ sym same.made;
    taken = k.taken ∙ sym same.taken;
    legal = k.legal;
  }

  pub pass_behind : (opening : S) (e : E) (p q : PassView M E R W S) (answer : Result R CallFault) → IsPassAt after reply opening v p → IsAnswered after reply e p answer q → IsPassAt after reply opening w q
  pass_behind opening e p q answer k c = record {
    opening_is = c.opening ∙ k.opening_is;
    number = c.number ∙ (k.number ∙ sym same.number);
    made = c.made ∙ (k.made ∙ sym same.made);
    taken = c.taken ∙ (k.taken ∙ sym same.taken);
    legal = legal_behind after reply e p q answer c;
  }

  -- the same of a pass that did not call, or did
  pub pass_either : (opening : S) (e : E) (p q : PassView M E R W S) (answer : Result R CallFault) (A : Type 0) → IsPassAt after reply opening v p → (q ≡ p) ⊎ (A × IsAnswered after reply e p answer q) → IsPassAt after reply opening w q
  pass_either opening e p q answer A k (inl same) = subst (IsPassAt after reply opening w) (sym same) (pass_beside opening p k)
  pass_either opening e p q answer A k (inr c) = pass_behind opening e p q answer k c.1

-- the number of versions that a type has after what was seen
pub has_more : (t : ℕ) (p q : KindPass) → IsPrefix p.seen q.seen → has_version t (Some p) → has_version t (Some q)
has_more t p q more has =
    let state = state_after kind_after (not_defined t) p.seen in
    let grown = versions-kept state more.0 in
    let all = ap (λ (k : KindModel). length k.versions) (ap (state_after kind_after (not_defined t)) (sym more.1) ∙ state-append kind_after (not_defined t) p.seen more.0) in
    omega arith

-- a call with that reply was made
pub answered : (e : KindEvent) (p q : KindPass) (answer : Result KindReply CallFault) (r : KindReply) → answer ≡ Ok r → IsAnswered kind_after kind_reply e p answer q → Calls kind_after kind_reply e p r q
answered e p q answer r is c = (subst (λ a. IsAnswered kind_after kind_reply e p a q) is c).outcome

-- behind a reply that tells of a version the type has one
told_behind : (e : KindEvent) (t : ℕ) (p q : KindPass) (r : KindReply) → Calls kind_after kind_reply e p r q → q.opening ≡ Some (not_defined t) → tells_version r ≡ true → has_version t (Some q)
told_behind e t p q r c opening tells =
    let seen = p.seen ++ c.others in
    let legal : IsLegal kind_after kind_reply (not_defined t) (seen ++ entry p.number e r ∷ []) = subst (IsLegal kind_after kind_reply (not_defined t)) c.seen (subst (λ o. IsLegalFrom kind_after kind_reply o q.seen) opening c.legal) in
    let reply_is = last-reply kind_after kind_reply (not_defined t) seen (entry p.number e r) legal in
    let some = told-version (state_after kind_after (not_defined t) seen) e (ap tells_version (sym reply_is) ∙ tells) in
    let all = ap (λ (s : KindModel). length s.versions) (ap (state_after kind_after (not_defined t)) c.seen ∙ state-append kind_after (not_defined t) seen (entry p.number e r ∷ [])) in
    omega arith

module _ (e : KindEvent) (t : ℕ) (answer : Result KindReply CallFault) (v w : DeskView) (k : CallsKind e t answer v w) where
  pub kind_beside : Beside v w
  kind_beside = record { number = ap (λ (x : DeskView). x.number) k.others; made = ap (λ (x : DeskView). x.made) k.others; taken = ap (λ (x : DeskView). x.taken) k.others }

  -- a type that the desk knows to be defined is known so still
  pub kind_still_defined : (u : ℕ) → IsDefinedFor v u → IsDefinedFor w u
  kind_still_defined u = go (slice_get v.kinds u) refl
    where
      still : (p q : KindPass) (A : Type 0) → (q ≡ p) ⊎ (A × IsAnswered kind_after kind_reply e p answer q) → has_version u (Some p) → has_version u (Some q)
      still p q A (inl same) has = subst (λ x. has_version u (Some x)) (sym same) has
      still p q A (inr c) has = has_more u p q (more_seen kind_after kind_reply e p q answer c.1) has

      go : (o : Option KindPass) → slice_get v.kinds u ≡ o → has_version u o → IsDefinedFor w u
      go None is has = absurd has
      go (Some p) is has =
          let q = one_before kind_after kind_reply e t answer v.kinds w.kinds k.called u p is in
          subst (has_version u) (sym q.1) (still p q.0 (u ≡ t) q.2 has)

  -- behind an answer that tells of a version the desk knows one
  pub kind_now_defined : (r : KindReply) → answer ≡ Ok r → tells_version r ≡ true → IsDesk v → IsDefinedFor w t
  kind_now_defined r is tells desk =
      let pass = desk.kinds t k.called.before k.called.there in
      let opening : k.called.behind.opening ≡ Some (not_defined t) = k.called.called.opening ∙ pass.opening_is in
      let there : slice_get w.kinds t ≡ Some k.called.behind = ap (λ xs. slice_get xs t) k.called.others ∙ get-set_same v.kinds t k.called.behind (slice_get_within v.kinds t k.called.before k.called.there) in
      subst (has_version t) (sym there) (told_behind e t k.called.before k.called.behind r (answered e k.called.before k.called.behind answer r is k.called.called) opening tells)

  -- the flags stand for what the desk knows
  pub kind_known : IsDesk v → (u : ℕ) → slice_get w.defined u ≡ Some true → IsDefinedFor w u
  kind_known desk u is = go (answer_tells answer) refl (ap (λ xs. slice_get xs u) (sym (ap (λ (x : DeskView). x.defined) k.others)) ∙ is)
    where
      told : (a : Result KindReply CallFault) → answer ≡ a → answer_tells a ≡ true → IsDefinedFor w t
      told (Ok r) stands tells = kind_now_defined r stands tells desk
      told (Err f) stands tells = absurd (cc)

      go : (b : Bool) → answer_tells answer ≡ b → slice_get (if b then set v.defined t true else v.defined) u ≡ Some true → IsDefinedFor w u
      go true tells is = elim (set_cases v.defined t u true true is) [
        | inl s ↦ subst (IsDefinedFor w) (sym s.0) (told answer refl tells)
        | inr s ↦ kind_still_defined u (desk.known u s)
      ]
      go false tells is = kind_still_defined u (desk.known u is)

  flags-length : (b : Bool) → length (if b then set v.defined t true else v.defined) ≡ length v.defined
  flags-length true = length-set v.defined t true
  flags-length false = refl

  -- a desk is one still behind a call of a type
  pub kind_keeps : IsDesk v → IsDesk w
  kind_keeps desk = record {
    kinds = λ u q is.
        let p = one_behind kind_after kind_reply e t answer v.kinds w.kinds k.called u q is in
        pass_either kind_after kind_reply v w kind_beside (not_defined u) e p.0 q answer (u ≡ t) (desk.kinds u p.0 p.1) p.2;
    cases = λ c p is. pass_beside case_after case_reply v w kind_beside (not_created c.type_no) p (desk.cases c p (ap (λ rows. at_case rows c) (sym same_cases) ∙ is));
    rows = ap length same_cases ∙ (desk.rows ∙ sym kinds-length);
    flags = ap length (ap (λ (x : DeskView). x.defined) k.others) ∙ (flags-length (answer_tells answer) ∙ (desk.flags ∙ sym kinds-length));
    few = subst (λ (rows : List (List CasePass)). length rows < 2 ^ 32) (sym same_cases) desk.few;
    short = subst (λ (rows : List (List CasePass)). AreShort rows) (sym same_cases) desk.short;
    known = kind_known desk;
  }
    where
      same_cases : w.cases ≡ v.cases
      same_cases = ap (λ (x : DeskView). x.cases) k.others

      kinds-length : length w.kinds ≡ length v.kinds
      kinds-length = ap length k.called.others ∙ length-set v.kinds t k.called.behind

-- what makes up a call of a type
pub kind_call : (e : KindEvent) (t : ℕ) (answer : Result KindReply CallFault) (v w : DeskView) (tells : Bool) → answer_tells answer ≡ tells → CallsOne kind_after kind_reply e t answer v.kinds w.kinds
    → w ≡ record v { kinds = w.kinds; defined = if tells then set v.defined t true else v.defined } → CallsKind e t answer v w
kind_call e t answer v w tells is called others = record {
  called = called;
  others = others ∙ ap (λ (b : Bool). let x : DeskView = record v { kinds = w.kinds; defined = if b then set v.defined t true else v.defined } in x) (sym is);
}

module _ (e : Event) (id : CaseId) (answer : Result Reply CallFault) (v w : DeskView) (k : CallsCase e id answer v w) where
  pub case_beside : Beside v w
  case_beside = record { number = ap (λ (x : DeskView). x.number) k.others; made = ap (λ (x : DeskView). x.made) k.others; taken = ap (λ (x : DeskView). x.taken) k.others }

  -- a call of a case tells nothing of types
  pub case_still_defined : (u : ℕ) → IsDefinedFor v u → IsDefinedFor w u
  case_still_defined u has = subst (λ ps. has_version u (slice_get ps u)) (sym (ap (λ (x : DeskView). x.kinds) k.others)) has

  -- a desk is one still behind a call of a case
  pub case_keeps : IsDesk v → IsDesk w
  case_keeps desk = record {
    kinds = λ u p is. pass_beside kind_after kind_reply v w case_beside (not_defined u) p (desk.kinds u p (ap (λ ps. slice_get ps u) (sym same_kinds) ∙ is));
    cases = λ c q is. go c q (case_cases v.cases id.type_no k.row_behind c q (ap (λ rows. at_case rows c) (sym cases_behind) ∙ is));
    rows = ap length cases_behind ∙ (length-set v.cases id.type_no k.row_behind ∙ (desk.rows ∙ ap length (sym same_kinds)));
    flags = ap length same_flags ∙ (desk.flags ∙ ap length (sym same_kinds));
    few = omega (arith, ap length cases_behind, length-set v.cases id.type_no k.row_behind, desk.few);
    short = subst (λ (rows : List (List CasePass)). AreShort rows) (sym cases_behind) (short_set v.cases id.type_no k.row k.row_behind k.there (ap length k.called.others ∙ length-set k.row id.place k.called.behind) desk.short);
    known = λ u is. case_still_defined u (desk.known u (ap (λ xs. slice_get xs u) (sym same_flags) ∙ is));
  }
    where
      same_kinds : w.kinds ≡ v.kinds
      same_kinds = ap (λ (x : DeskView). x.kinds) k.others

      same_flags : w.defined ≡ v.defined
      same_flags = ap (λ (x : DeskView). x.defined) k.others

      cases_behind : w.cases ≡ set v.cases id.type_no k.row_behind
      cases_behind = ap (λ (x : DeskView). x.cases) k.others

      go : (c : CaseId) (q : CasePass) → ((c.type_no ≡ id.type_no) × (slice_get k.row_behind c.place ≡ Some q)) ⊎ (case_pass v c ≡ Some q) → IsPassAt case_after case_reply (not_created c.type_no) w q
      go c q (inl s) =
          let p = one_behind case_after case_reply e id.place answer k.row k.row_behind k.called c.place q s.1 in
          let there = ap (in_row c.place) (ap (slice_get v.cases) s.0 ∙ k.there) ∙ p.1 in
          pass_either case_after case_reply v w case_beside (not_created c.type_no) e p.0 q answer (c.place ≡ id.place) (desk.cases c p.0 there) p.2
      go c q (inr s) = pass_beside case_after case_reply v w case_beside (not_created c.type_no) q (desk.cases c q s)

module _ (e : Event) (t many : ℕ) (answers : List (Result Reply CallFault)) (v w : DeskView) (k : CallsCases e t many answers v w) where
  pub cases_beside : Beside v w
  cases_beside = record { number = ap (λ (x : DeskView). x.number) k.others; made = ap (λ (x : DeskView). x.made) k.others; taken = ap (λ (x : DeskView). x.taken) k.others }

  pub cases_still_defined : (u : ℕ) → IsDefinedFor v u → IsDefinedFor w u
  cases_still_defined u has = subst (λ ps. has_version u (slice_get ps u)) (sym (ap (λ (x : DeskView). x.kinds) k.others)) has

  -- a desk is one still behind a call of each of the first so many cases of a type
  pub cases_keep : IsDesk v → IsDesk w
  cases_keep desk = record {
    kinds = λ u p is. pass_beside kind_after kind_reply v w cases_beside (not_defined u) p (desk.kinds u p (ap (λ ps. slice_get ps u) (sym same_kinds) ∙ is));
    cases = λ c q is. go c q (case_cases v.cases t row_behind c q (ap (λ rows. at_case rows c) (sym cases_behind) ∙ is));
    rows = ap length cases_behind ∙ (length-set v.cases t row_behind ∙ (desk.rows ∙ ap length (sym same_kinds)));
    flags = ap length same_flags ∙ (desk.flags ∙ ap length (sym same_kinds));
    few = omega (arith, ap length cases_behind, length-set v.cases t row_behind, desk.few);
    short = subst (λ (rows : List (List CasePass)). AreShort rows) (sym cases_behind) (short_set v.cases t k.row row_behind k.there (first-even case_after case_reply e many answers k.row k.front k.called) desk.short);
    known = λ u is. cases_still_defined u (desk.known u (ap (λ xs. slice_get xs u) (sym same_flags) ∙ is));
  }
    where
      same_kinds : w.kinds ≡ v.kinds
      same_kinds = ap (λ (x : DeskView). x.kinds) k.others

      same_flags : w.defined ≡ v.defined
      same_flags = ap (λ (x : DeskView). x.defined) k.others

      row_behind : List CasePass
      row_behind = k.front ++ drop many k.row

      cases_behind : w.cases ≡ set v.cases t row_behind
      cases_behind = ap (λ (x : DeskView). x.cases) k.others

      go : (c : CaseId) (q : CasePass) → ((c.type_no ≡ t) × (slice_get row_behind c.place ≡ Some q)) ⊎ (case_pass v c ≡ Some q) → IsPassAt case_after case_reply (not_created c.type_no) w q
      go c q (inl s) =
          let p = first_behind case_after case_reply e many answers k.row k.front k.called c.place q s.1 in
          let there = ap (in_row c.place) (ap (slice_get v.cases) s.0 ∙ k.there) ∙ p.2 in
          pass_either case_after case_reply v w cases_beside (not_created c.type_no) e p.0 q p.1 (c.place < many) (desk.cases c p.0 there) p.3
      go c q (inr s) = pass_beside case_after case_reply v w cases_beside (not_created c.type_no) q (desk.cases c q s)
