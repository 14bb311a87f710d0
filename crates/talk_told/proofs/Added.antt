-- What the journals have more where a type or a case was declared.
use Rattle.talk_told.proofs.Common.{[], ℕ, ◌++◌, ◌+◌, ◌∙◌, ◌∷◌, ◌≡◌, ap, append-nil, arith, CaseDecl, cases_more, ClosedCase, ClosedKind, defined, File, kind_entry, kinds_more, length, List, not_defined, program, refl, Run, run_more, sym}
use Rattle.talk_told.proofs.{Common.{TypeDecl, uncalled, with_case, with_kind}, Changed.{cases-left, kinds-left}, Entries.{case-left, kind-called, kind-left}}
use Rattle.type_core.specs.declared.events.KindEvent.TheVariants as kind_event

-- a type that is defined behind others
kinds-added : (f : File) (t n : ℕ) (d : TypeDecl) (ks : List ClosedKind) → kinds_more f t ks (ks ++ defined n d ∷ []) ≡ kind_entry f (t + length ks) (defined n d)
kinds-added f t n d [] =
    let none : t ≡ t + 0 = omega arith in
    append-nil _ ∙ kind-called f t program (kind_event.Define d.schema) (record { machine = not_defined n; journal = [] }) ∙ ap (λ m. kind_entry f m (defined n d)) none
kinds-added f t n d (k ∷ ks) =
    let same : t + 1 + length ks ≡ t + length (k ∷ ks) = omega arith in
    ap (λ l. l ++ kinds_more f (t + 1) ks (ks ++ defined n d ∷ [])) (kind-left f t k) ∙ kinds-added f (t + 1) n d ks ∙ ap (λ m. kind_entry f m (defined n d)) same

pub type-told : (f : File) (r : Run) (d : TypeDecl) → kind_entry f (length r.kinds) (defined (length r.kinds) d) ≡ run_more f r (with_kind d r)
type-told f r d =
    let n = length r.kinds in
    let none : n ≡ 0 + n = omega arith in
    ap (λ m. kind_entry f m (defined n d)) none ∙ sym (kinds-added f 0 n d r.kinds) ∙ sym (append-nil (kinds_more f 0 r.kinds (r.kinds ++ defined n d ∷ [])))
    ∙ ap (λ l. kinds_more f 0 r.kinds (r.kinds ++ defined n d ∷ []) ++ l) (sym (cases-left f f.cases r.cases))

-- a case behind others, which nobody has called
cases-added : (f : File) (ds : List CaseDecl) (d : CaseDecl) (cs : List ClosedCase) → length cs ≡ length ds → cases_more f (ds ++ d ∷ []) cs (cs ++ uncalled d ∷ []) ≡ []
cases-added f [] d [] even = refl
cases-added f [] d (c ∷ cs) even = absurd (omega (arith, even))
cases-added f (e ∷ ds) d [] even = absurd (omega (arith, even))
cases-added f (e ∷ ds) d (c ∷ cs) even = ap (λ l. l ++ cases_more f (ds ++ d ∷ []) cs (cs ++ uncalled d ∷ [])) (case-left f e c) ∙ cases-added f ds d cs (omega (arith, even))

pub case-told : (f : File) (r : Run) (ds : List CaseDecl) (d : CaseDecl) → f.cases ≡ ds ++ d ∷ [] → length r.cases ≡ length ds → run_more f r (with_case d r) ≡ []
case-told f r ds d is even =
    ap (λ l. l ++ cases_more f f.cases r.cases (r.cases ++ uncalled d ∷ [])) (kinds-left f 0 r.kinds)
    ∙ ap (λ all. cases_more f all r.cases (r.cases ++ uncalled d ∷ [])) is ∙ cases-added f ds d r.cases even
