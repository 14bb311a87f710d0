-- A line without a long word has a form that is short.
use Rattle.process_text.proofs.Common.{ℕ, ◌≡◌, ◌≤◌, arith, Bool, Bor, Bytes, false, fits_in, fitting, IfSome, if◌then◌else◌, length, length-map, List, None, Option, shown, Some, subst, sym, true}
use Rattle.file_words.specs.Lengths.{first_long}
use Rattle.file_forms.specs.{DeclarationForms.declaration_line, Forms.{Declaration, TypeLine, ScriptLine, OperationLine}, NamesInForms.{roles_in, writes_in}, OperationForms.operation_line, ScriptForms.script_line, TypeForms.type_line}
use Rattle.file_forms.proofs.{FewWrites.{declaration-few, script_line-few}, NamesInForms.{declaration-has, operation-has, script_line-has, type_line-has}}
use Rattle.file_drafts.specs.{Drafts.around, declared.drafts.Draft.Draft}
use Rattle.file_model.specs.ShortForms.{IsShort, IsShortDeclaration, IsShortOperation, IsShortScriptLine, IsShortTypeLine, IsShortWrite}
use Rattle.file_model.proofs.ShortWords.{words-short}

given : {F : Type 0} (P : F → Type 0) (o : Option F) (f : F) → Some f ≡ o → IfSome o P → P f
given P o f is h = subst (λ o. IfSome o P) (sym is) h

fitted : (d : Draft) (o : Option TypeLine) → IfSome o IsShortTypeLine → IfSome (fitting d o) IsShortTypeLine
fitted d None h = tt
fitted d (Some l) h = by (fits_in (around d.frames) l)
  where
    by : (test : Bool) → IfSome (if test then Some l else None) IsShortTypeLine
    by true = h
    by false = tt

pub short_declaration : (format : ℕ) (ws : List Bytes) (f : Declaration) → first_long ws ≡ None → Some f ≡ declaration_line format ws → IsShortDeclaration f
short_declaration format ws f none is = given IsShortDeclaration (declaration_line format ws) f is (declaration-has IsShort IsShortWrite format ws (words-short ws none))

pub few_roles : (format : ℕ) (words : List (Bor Bytes)) (f : Declaration) → Some f ≡ declaration_line format (shown words) → roles_in f ≤ length words
few_roles format words f is =
    let few : roles_in f ≤ length (shown words) = given (λ d. roles_in d ≤ length (shown words)) (declaration_line format (shown words)) f is (declaration-few format (shown words)) in
    omega (arith, few, length-map words (λ (w : Bor Bytes). w.now))

pub short_type_line : (format : ℕ) (d : Draft) (ws : List Bytes) (f : TypeLine) → first_long ws ≡ None → Some f ≡ fitting d (type_line format ws) → IsShortTypeLine f
short_type_line format d ws f none is =
    given IsShortTypeLine (fitting d (type_line format ws)) f is (fitted d (type_line format ws) (type_line-has IsShort IsShortWrite format ws (words-short ws none)))

pub short_script_line : (format : ℕ) (ws : List Bytes) (f : ScriptLine) → first_long ws ≡ None → Some f ≡ script_line format ws → IsShortScriptLine f
short_script_line format ws f none is = given IsShortScriptLine (script_line format ws) f is (script_line-has IsShort IsShortWrite format ws (words-short ws none))

pub few_writes : (format : ℕ) (words : List (Bor Bytes)) (f : ScriptLine) → Some f ≡ script_line format (shown words) → writes_in f ≤ length words
few_writes format words f is =
    let few : writes_in f ≤ length (shown words) = given (λ l. writes_in l ≤ length (shown words)) (script_line format (shown words)) f is (script_line-few format (shown words)) in
    omega (arith, few, length-map words (λ (w : Bor Bytes). w.now))

pub short_operation : (format : ℕ) (ws : List Bytes) (f : OperationLine) → first_long ws ≡ None → Some f ≡ operation_line format ws → IsShortOperation f
short_operation format ws f none is = given IsShortOperation (operation_line format ws) f is (operation-has IsShort IsShortWrite format ws (words-short ws none))
