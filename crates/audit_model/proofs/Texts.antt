-- Texts as the lines that they are.
use Rattle.std.proofs.Common.{◌≡◌, ℕ, ◌+◌, ◌==◌, Bool, true, false, List, [], ◌∷◌, ◌++◌, append-nil, Option, refl, sym, ap, ◌∙◌, append_assoc, flat_map, Some, None, codes, decimal, sum_by}
use Rattle.audit_model.proofs.Common.{Bytes, case_head, case_line, case_shown, case_totals, CaseDecl, CaseEntry, cut-together, CutLines, end_text, ended, ending, Entry, event_text, File, first_line, item_text, items_line, journal_line, kind_event_text, kind_line, kind_reply_text, kind_shown, KindEntry, line_start, lines_from, lines_of, LiveModel, marking_line, numbered, onto_lines, reply_text, Run, shown_line, state_line, summary, type_text, values_line, with_fate}
use Rattle.case_core.specs.Shown.{items_of}
use Rattle.report_words.specs.declared.totals.Fate.TheVariants as fate

pub ending-append : (xs ys : List Bytes) → ending (xs ++ ys) ≡ ending xs ++ ending ys
ending-append [] ys = refl
ending-append (x ∷ xs) ys = ap (λ zs. x ++ 10 ∷ zs) (ending-append xs ys) ∙ sym (append_assoc x (10 ∷ ending xs) (ending ys))

-- ---- a text that a line feed ends is its lines
-- there is a line, and nothing behind the last
record IsLines (cut : CutLines) : Type 0 where
  first : Bytes
  others : List Bytes
  lines : cut.ended ≡ first ∷ others
  nothing : cut.left ≡ []

onto-is_lines : (b : ℕ) (cut : CutLines) → IsLines cut → (test : Bool) → (b == 10) ≡ test → IsLines (onto_lines b cut)
onto-is_lines b cut h true is = rw is (record { first = []; others = cut.ended; lines = refl; nothing = h.nothing })
onto-is_lines b cut h false is = rw is (rw h.lines (record { first = b ∷ h.first; others = h.others; lines = refl; nothing = h.nothing }))

is-lines : (bs : Bytes) → IsLines (lines_of (bs ++ 10 ∷ []))
is-lines [] = record { first = []; others = []; lines = refl; nothing = refl }
is-lines (b ∷ bs) = onto-is_lines b (lines_of (bs ++ 10 ∷ [])) (is-lines bs) (b == 10) refl

pub ending-ended : (bs : Bytes) → ending (ended (bs ++ 10 ∷ [])) ≡ bs ++ 10 ∷ []
ending-ended bs = sym (append-nil (ending (ended (bs ++ 10 ∷ [])))) ∙ (ap (λ left. ending (ended (bs ++ 10 ∷ [])) ++ left) (sym (is-lines bs).nothing) ∙ cut-together (bs ++ 10 ∷ []))

-- ---- the lines of journals
line-shown : (f : File) (k caller : ℕ) (event reply : Bytes) → journal_line f k caller event reply ≡ shown_line f k caller event reply ++ 10 ∷ []
line-shown f k caller event reply =
    let start = line_start f k caller in
    ap (λ xs. start ++ (event ++ xs)) (sym (append_assoc (codes " -> ") reply (10 ∷ [])))
    ∙ (ap (λ xs. start ++ xs) (sym (append_assoc event (codes " -> " ++ reply) (10 ∷ []))) ∙ sym (append_assoc start (event ++ (codes " -> " ++ reply)) (10 ∷ [])))

pub kind-line : (f : File) (k : ℕ) (e : KindEntry) → kind_line f k e ≡ kind_shown f k e ++ 10 ∷ []
kind-line f k e = line-shown f k e.caller (kind_event_text e.event) (kind_reply_text f e.reply)

pub case-line : (f : File) (k : ℕ) (e : CaseEntry) → case_line f k e ≡ case_shown f k e ++ 10 ∷ []
case-line f k e = line-shown f k e.caller (event_text f e.event) (reply_text f e.reply)

-- numbered lines of entries are those that a reader of a journal takes
module _ {M E R W S L : Type 0} (after : S → E → S) (reply : S → E → R) (actor_of : L → ℕ) (event_of : L → Option E) (caller_in : ℕ → Bytes → Option ℕ) (line shown : ℕ → Entry M E R W S → Bytes)
    (same : (k : ℕ) (e : Entry M E R W S) → line k e ≡ shown k e ++ 10 ∷ []) where
  pub numbered-lines : (k : ℕ) (es : List (Entry M E R W S)) → numbered line k es ≡ ending (lines_from after reply actor_of event_of caller_in shown k es)
  numbered-lines k [] = refl
  numbered-lines k (e ∷ es) = ap (λ bs. bs ++ numbered line (k + 1) es) (same k e) ∙ (append_assoc (shown k e) (10 ∷ []) (numbered line (k + 1) es) ∙ ap (λ bs. shown k e ++ 10 ∷ bs) (numbered-lines (k + 1) es))

-- ---- texts that end in a line feed
pub record EndsLine (text : Bytes) : Type 0 where
  pub before : Bytes
  pub is : text ≡ before ++ 10 ∷ []

pub ends-behind : (front text : Bytes) → EndsLine text → EndsLine (front ++ text)
ends-behind front text h = record { before = front ++ h.before; is = ap (λ bs. front ++ bs) h.is ∙ sym (append_assoc front h.before (10 ∷ [])) }

pub line-feed : EndsLine (codes "\n")
line-feed = record { before = []; is = refl }

pub ending-lines : (text : Bytes) → EndsLine text → ending (ended text) ≡ text
ending-lines text h = ap (λ xs. ending (ended xs)) h.is ∙ (ending-ended h.before ∙ sym h.is)

-- ---- texts of a report that are whole lines
pub head-ends : (f : File) (d : CaseDecl) → EndsLine (case_head f d)
head-ends f d = ends-behind (codes "case ") _ (ends-behind d.name _ (ends-behind (codes " " ++ type_text f d.id.type_no) (codes "\n") line-feed))

pub end-ends : (f : File) (o : Option LiveModel) → EndsLine (end_text f o)
end-ends f None = record { before = codes "state none"; is = refl }
end-ends f (Some l) =
    ends-behind (state_line l) (marking_line f l ++ (values_line f l ++ items_line f l))
    (ends-behind (marking_line f l) (values_line f l ++ items_line f l)
    (ends-behind (values_line f l) (items_line f l)
    (ends-behind (codes "items") (flat_map (item_text f) (items_of l) ++ codes "\n") (ends-behind (flat_map (item_text f) (items_of l)) (codes "\n") line-feed))))

pub summary-ends : (f : File) (r : Run) → EndsLine (summary f r)
summary-ends f r =
    ends-behind (case_totals r.cases) _ (ends-behind (codes "migrated=") _ (ends-behind (decimal (sum_by (with_fate fate.Migrated) r.cases)) _
    (ends-behind (codes " blocked=") _ (ends-behind (decimal (sum_by (with_fate fate.Blocked) r.cases)) _
    (ends-behind (codes " overlap=") _ (ends-behind (decimal (sum_by (with_fate fate.Overlap) r.cases)) (codes "\n") line-feed))))))

pub header-ends : (f : File) → EndsLine (first_line f)
header-ends f = ends-behind (codes "adept report ") _ (ends-behind (decimal f.format) (codes "\n") line-feed)
