-- One entry more of a journal is its last one.
use Rattle.talk_told.proofs.Common.{[], ℕ, ◌++◌, ◌+◌, ◌∙◌, ◌∷◌, ◌≡◌, ap, append-nil, append_assoc, Bytes, call_case, call_kind, case_entry, case_more, case_name, case_numbered, CaseDecl, ClosedCase, ClosedKind, codes, drop-append_seam}
use Rattle.talk_told.proofs.Common.{drop-length, entries_more, Event, File, kind_entry, kind_more, kind_name, kind_numbered, KindEvent, length, List, next_kind, sym}
use Rattle.case_core.specs.Machine.{next_case}
use Rattle.report_text.specs.Journals.{case_line, kind_line, numbered}
use Rattle.report_words.specs.Words.{type_text}
use Rattle.script_run.specs.Entries.{CaseEntry, KindEntry}
use Rattle.talk_answers.proofs.Last.{last-of}

pub one-more : {X : Type 0} (name : Bytes) (line : ℕ → X → Bytes) (journal : List X) (e : X) → entries_more name line journal (journal ++ e ∷ []) ≡ name ++ line (length journal + 1) e
one-more name line journal e =
    ap (λ es. numbered (λ n x. name ++ line n x) (length journal + 1) es) (drop-append_seam journal (e ∷ [])) ∙ append-nil (name ++ line (length journal + 1) e)

pub none-more : {X : Type 0} (name : Bytes) (line : ℕ → X → Bytes) (journal : List X) → entries_more name line journal journal ≡ []
none-more name line journal = ap (λ es. numbered (λ n x. name ++ line n x) (length journal + 1) es) (drop-length journal)

-- the name stands behind a word, and the line behind a space
kind-named : (a b c d : Bytes) → (a ++ (b ++ c)) ++ d ≡ (a ++ b) ++ (c ++ d)
kind-named a b c d = append_assoc a (b ++ c) d ∙ ap (λ l. a ++ l) (append_assoc b c d) ∙ sym (append_assoc a b (c ++ d))

case-named : (a b c d : Bytes) → (a ++ (b ++ c)) ++ d ≡ a ++ (b ++ (c ++ d))
case-named a b c d = append_assoc a (b ++ c) d ∙ ap (λ l. a ++ l) (append_assoc b c d)

-- a type that was called once more, and a case
pub kind-called : (f : File) (t a : ℕ) (e : KindEvent) (k : ClosedKind) → kind_more f t k (call_kind a e k) ≡ kind_entry f t (call_kind a e k)
kind-called f t a e k =
    let entry : KindEntry = record { caller = a; event = e; reply = (next_kind k.machine e).1 } in
    one-more (kind_name f t) (kind_line f) k.journal entry ∙ kind-named (codes "type ") (type_text f t) (codes " ") (kind_line f (length k.journal + 1) entry)
    ∙ sym (last-of (kind_numbered f t) k.journal entry)

pub case-called : (f : File) (d : CaseDecl) (a : ℕ) (e : Event) (c : ClosedCase) → case_more f d c (call_case a e c) ≡ case_entry f d (call_case a e c)
case-called f d a e c =
    let entry : CaseEntry = record { caller = a; event = e; reply = (next_case c.machine e).1 } in
    one-more (case_name d) (case_line f) c.journal entry ∙ case-named (codes "case ") d.name (codes " ") (case_line f (length c.journal + 1) entry)
    ∙ sym (last-of (case_numbered f d) c.journal entry)

-- one that was not
pub kind-left : (f : File) (t : ℕ) (k : ClosedKind) → kind_more f t k k ≡ []
kind-left f t k = none-more (kind_name f t) (kind_line f) k.journal

pub case-left : (f : File) (d : CaseDecl) (c : ClosedCase) → case_more f d c c ≡ []
case-left f d c = none-more (case_name d) (case_line f) c.journal
