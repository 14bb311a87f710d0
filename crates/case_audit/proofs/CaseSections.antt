-- The cases of a report, joined in their order.
use Rattle.case_audit.proofs.Common.{[], ℕ, ◌++◌, ◌+◌, ◌<◌, ◌∙◌, ◌∷◌, ◌≡◌, AllZip, ap, AreOwed, AreSections, arith, Asked, Bytes, called-rows, calls_decl, CanAudit, case_reader, CaseDecl, cases_reader, ClosedCase, few-filled, File}
use Rattle.case_audit.proofs.Common.{filled, Followed, Follows, get_or, given, HasScript, IfOk, InCases, IsCaseAt, IsModest, IsModestScript, IsSection, length, length-append, length-range_with_len, List, MatchOption, None, numbers, Ok, Option, Owed}
use Rattle.case_audit.proofs.{Common.{owed_case, owed_of, range_with_len, refl, Result, row-on, row-stops, same_Some, Section, slice_get, slice_get-get_or, Some, subst, suc, sym, zero}, OwedOf.{each-owed, owed-filled, owed-many, range-at}}
use Rattle.std.proofs.lemmas.{Option.slice_get_within, Slice.Zip.{AllZip-long, AllZip-right}}
use Rattle.std.specs.Prelude.{IsSomeAnd}

decl-at : (cs : List CaseDecl) (i : ℕ) → i < length cs → (d : CaseDecl) × (slice_get cs i ≡ Some d) × (d ≡ get_or cs i d)
decl-at [] i low = absurd (omega (arith, low))
decl-at (x ∷ xs) zero low = (x, refl, refl)
decl-at (x ∷ xs) (suc i) low = decl-at xs i (omega (arith, low))

pub followed-is : (s : Followed) (text : Bytes) (n : ℕ) → s.text ≡ text → n ≡ s.at → s ≡ record { text = text; at = n }
followed-is s text n same at = ap (λ t. record { text = t; at = s.at }) same ∙ ap (λ m. record { text = text; at = m }) (sym at)

-- what the script's lines owe to the cases of a file that can be judged
pub are-owed : (f : File) (owed : List Owed) (script : List (List Asked)) → CanAudit f → IsModestScript script → numbers owed ≡ given calls_decl f.cases script → AreOwed f owed
are-owed f owed script file (modest, few) same = record {
  file = file;
  modest = each-owed calls_decl script IsModestScript (λ d. (called-rows IsModest (λ l. calls_decl d l) script modest, few-filled (λ l. calls_decl d l) script few)) f.cases owed same;
  many = owed-many calls_decl script f.cases owed same;
  script = (script, same);
}

module _ (f : File) (owed : List Owed) where
  -- ---- one case
  -- as it is judged now
  pub judged-at : (i : ℕ) (decl : CaseDecl) (o : Owed) (old new : Followed) (value : Option ClosedCase) → i < length f.cases → decl ≡ get_or f.cases i decl → i < length owed → o ≡ get_or owed i o
      → ((phases : List (List Asked)) → owed_of o ≡ filled (owed_case decl.id phases) → Follows (case_reader f phases decl) old new value) → IsCaseAt f owed i old new value
  judged-at i decl o old new value low is within at each phases d same there =
      let own : decl ≡ d = same_Some decl d (ap Some is ∙ (sym (slice_get-get_or f.cases i decl low) ∙ there)) in
      let owing = owed-filled calls_decl phases f.cases owed i d o same there within at in
      subst (λ e. Follows (case_reader f phases e) old new value) own (each phases (owing ∙ ap (λ (e : CaseDecl). filled (owed_case e.id phases)) (sym own)))

  -- the text stays
  pub text-stays : (i : ℕ) (old new : Followed) (value : Option ClosedCase) → i < length f.cases → HasScript f owed → IsCaseAt f owed i old new value → new.text ≡ old.text
  text-stays i old new value low (phases, same) at = let (d, there, is) = decl-at f.cases i low in (at phases d same there).0

  -- a case more, or the one that is wrong
  pub sections-on : (phases : List (List Asked)) (first old new : Followed) (cs : List ClosedCase) (case : ClosedCase) → numbers owed ≡ given calls_decl f.cases phases → length cs < length f.cases
      → InCases f phases first old cs (length cs) → IsCaseAt f owed (length cs) old new (Some case) → InCases f phases first new (cs ++ case ∷ []) (length (cs ++ case ∷ []))
  sections-on phases first old new cs case same low begun at =
      let (d, there, is) = decl-at f.cases (length cs) low in
      subst (λ n. InCases f phases first new (cs ++ case ∷ []) n) (sym (length-append cs (case ∷ []))) (row-on (λ n e. case_reader f phases e) f.cases first old new cs (length cs) d case low is begun (at phases d same there))

  pub sections-stop : (phases : List (List Asked)) (first old new : Followed) (cs : List ClosedCase) → numbers owed ≡ given calls_decl f.cases phases → length cs < length f.cases
      → InCases f phases first old cs (length cs) → IsCaseAt f owed (length cs) old new None → Follows (cases_reader f phases f.cases) first new None
  sections-stop phases first old new cs same low begun at =
      let (d, there, is) = decl-at f.cases (length cs) low in
      row-stops (λ n e. case_reader f phases e) f.cases first old new cs (length cs) d low is begun (at phases d same there)

  -- ---- all of them
  pub sections-zipped : {E : Type 0} (text : Bytes) (rs : List (Result Section E)) → AllZip (λ i r. IfOk r (IsSection f owed text i)) (range_with_len 0 (length f.cases)) rs → AreSections f owed text rs
  sections-zipped {E} text rs all = (many, each)
    where
      many : length rs ≡ length f.cases
      many = AllZip-long (λ (k : ℕ) (r : Result Section E). IfOk r (IsSection f owed text k)) (range_with_len 0 (length f.cases)) rs all ∙ length-range_with_len 0 (length f.cases)

      each : (i : ℕ) (s : Section) → slice_get rs i ≡ Some (Ok s) → IsSection f owed text i s
      each i s is =
          let low : i < length f.cases = omega (arith, many, slice_get_within rs i (Ok s) is) in
          let at = AllZip-right (λ (k : ℕ) (r : Result Section E). IfOk r (IsSection f owed text k)) (range_with_len 0 (length f.cases)) rs all i in
          subst (λ o. IsSomeAnd o (λ k. IsSection f owed text k s)) (range-at (length f.cases) i low)
          (subst (λ (o : Option (Result Section E)). MatchOption o (Unit {0}) (λ r. IsSomeAnd (slice_get (range_with_len 0 (length f.cases)) i) (λ k. IfOk r (IsSection f owed text k)))) is at)
