-- Types by their numbers and cases by their declarations: which of them a line calls.
use Rattle.case_audit.proofs.Common.{[], ℕ, ◌&&◌, ◌++◌, ◌+◌, ◌==◌, ◌∙◌, ◌∷◌, ◌≡◌, ◌≤◌, ap, ArePlaced, arith, Asked, called_case, calls_decl, calls_number, case_among, case_put, CaseDecl, CaseId, Cells, cells_of, changed_where, declared_at}
use Rattle.case_audit.proofs.Common.{each_among, false, fold, given, has_case, has_id, has_kind, if◌then◌else◌, is_case, kind_among, kind_put, length, length-map, length-range_with_len, List, map, moved_type, None, put_line, put_where}
use Rattle.case_audit.proofs.{Common.{range_with_len, refl, Some, sym, with_line}, Sharing.{phase-put, put-at, put-map, put-none, put-one, put-same}}
use Rattle.file_facts.proofs.Cases.{ids-distinct}
use Rattle.line_calls.proofs.Places.{position-from_0}
use Rattle.audit_model.proofs.{Callers.other-way, Queues.same-id}
use Rattle.line_calls.specs.declared.calls.Cells.TheVariants as cells

-- ---- types
abbrev Numbered : Type 0
Numbered = List (ℕ × List Asked)

kind-put-line : (n p : ℕ) (xs : List Numbered) (l : Asked) → length xs ≤ n → kind_put p xs l ≡ put_line calls_number (range_with_len 0 n) p xs l
kind-put-line n p xs l few = by (cells_of l.0.act)
  where
    by : (x : Cells) → changed_where (with_line p l) (kind_among x) xs ≡ put_where (λ t. has_kind t x) (with_line p l) (range_with_len 0 n) xs
    by (cells.Kind t) = put-at (with_line p l) n t xs few
    by (cells.Case c) = sym (put-none (λ t. false) (with_line p l) (range_with_len 0 n) xs (λ i t at. refl))
    by (cells.KindAndCase t c) = put-at (with_line p l) n t xs few
    by (cells.KindAndEach t many) = put-at (with_line p l) n t xs few

kind-lines : (n p : ℕ) (lines : List Asked) (g : ℕ → Numbered) → fold (kind_put p) (map g (range_with_len 0 n)) lines ≡ fold (put_line calls_number (range_with_len 0 n) p) (map g (range_with_len 0 n)) lines
kind-lines n p [] g = refl
kind-lines n p (l ∷ ls) g =
    let same : kind_put p (map g (range_with_len 0 n)) l ≡ put_line calls_number (range_with_len 0 n) p (map g (range_with_len 0 n)) l
    = kind-put-line n p (map g (range_with_len 0 n)) l (omega (arith, length-map (range_with_len 0 n) g, length-range_with_len 0 n)) in
    let made = put-map (λ t. calls_number t l) (with_line p l) g (range_with_len 0 n) in
    ap (λ xs. fold (kind_put p) xs ls) (same ∙ made)
    ∙ (kind-lines n p ls (λ t. if calls_number t l then with_line p l (g t) else g t) ∙ ap (λ xs. fold (put_line calls_number (range_with_len 0 n) p) xs ls) (sym made))

pub kinds-more : (n p : ℕ) (phases : List (List Asked)) (lines : List Asked) → p ≡ length phases
    → fold (kind_put p) (given calls_number (range_with_len 0 n) phases) lines ≡ given calls_number (range_with_len 0 n) (phases ++ lines ∷ [])
kinds-more n p phases lines at = kind-lines n p lines _ ∙ phase-put calls_number (range_with_len 0 n) p phases lines at

-- ---- cases
pub cases-more : (cases : List CaseDecl) (p : ℕ) (phases : List (List Asked)) (lines : List Asked) → p ≡ length phases
    → fold (case_put cases p) (given calls_decl cases phases) lines ≡ given calls_decl cases (phases ++ lines ∷ [])
cases-more cases p phases lines at = phase-put calls_decl cases p phases lines at

both-ways : (a b c d : ℕ) → ((a == b) && (c == d)) ≡ ((b == a) && (d == c))
both-ways a b c d = ap (λ test. test && (c == d)) (other-way a b) ∙ ap (λ test. (b == a) && test) (other-way c d)

-- the case that was declared with an id gets the line
pub case-called : (cases : List CaseDecl) (c : CaseId) (f : Numbered → Numbered) (xs : List Numbered) → ArePlaced cases → changed_where f (declared_at cases c) xs ≡ put_where (λ d. is_case d.id c) f cases xs
case-called cases c f xs placed =
    ap (λ o. changed_where f o xs) (sym (position-from_0 (has_id c) cases))
    ∙ (put-one (has_id c) f cases xs (λ i j d e at there one two. ids-distinct cases i j d e placed at there (same-id c d.id one ∙ sym (same-id c e.id two)))
    ∙ put-same (has_id c) (λ d. is_case d.id c) f cases xs (λ d. both-ways d.id.type_no c.type_no d.id.place c.place))

-- the lines that call one case, and those that call none
pub one-called : (cases : List CaseDecl) (p : ℕ) (xs : List Numbered) (l : Asked) (c : CaseId) → ArePlaced cases → called_case l.0.act ≡ Some c → changed_where (with_line p l) (declared_at cases c) xs ≡ case_put cases p xs l
one-called cases p xs l c placed is = by (cells_of l.0.act) is
  where
    by : (x : Cells) → case_among x ≡ Some c → changed_where (with_line p l) (declared_at cases c) xs ≡ put_where (λ d. has_case d.id x) (with_line p l) cases xs
    by (cells.Kind t) is = absurd (cc (is))
    by (cells.Case d) is = let same : d ≡ c = cc is in case-called cases c (with_line p l) xs placed ∙ ap (λ e. put_where (λ d. is_case d.id e) (with_line p l) cases xs) (sym same)
    by (cells.KindAndCase t d) is = let same : d ≡ c = cc is in case-called cases c (with_line p l) xs placed ∙ ap (λ e. put_where (λ d. is_case d.id e) (with_line p l) cases xs) (sym same)
    by (cells.KindAndEach t many) is = absurd (cc (is))

pub none-called : (cases : List CaseDecl) (p : ℕ) (xs : List Numbered) (l : Asked) → called_case l.0.act ≡ None → moved_type l.0.act ≡ None → xs ≡ case_put cases p xs l
none-called cases p xs l none still = by (cells_of l.0.act) none still
  where
    by : (x : Cells) → case_among x ≡ None → each_among x ≡ None → xs ≡ put_where (λ d. has_case d.id x) (with_line p l) cases xs
    by (cells.Kind t) none still = sym (put-none (λ (d : CaseDecl). false) (with_line p l) cases xs (λ i d is. refl))
    by (cells.Case d) none still = absurd (cc (none))
    by (cells.KindAndCase t d) none still = absurd (cc (none))
    by (cells.KindAndEach t many) none still = absurd (cc (still))
