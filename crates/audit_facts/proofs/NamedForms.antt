-- The names in the forms of lines are names, and the writes are in one line.
use Rattle.audit_facts.proofs.Common.{[], ℕ, ◌∷◌, AllRows, Bytes, Declaration, declaration_line, Deed, IfSome, IsName, List, NamedGap, operation_line, OperationLine, RoleWord, script_line, ScriptLine, type_line, TypeLine}
use Rattle.file_forms.specs.NamesInForms.{RoleHas, DeclarationHas, TypeLineHas, DeedHas, ScriptLineHas, GapHas, OperationHas}
use Rattle.file_forms.proofs.NamesInForms.{WordHas, declaration-has, operation-has, script_line-has, type_line-has}
use Rattle.audit_facts.proofs.Words.{IsWrite, name-is, pair-is}

words-are : (ws : List Bytes) → AllRows (WordHas IsName IsWrite) ws
words-are [] = tt
words-are (w ∷ ws) = ((name-is w, pair-is w), words-are ws)

abbrev pub NamedRole : RoleWord → Type 0
NamedRole r = RoleHas IsName r

abbrev pub NamedDeclaration : Declaration → Type 0
NamedDeclaration d = DeclarationHas IsName d

pub declaration-named : (format : ℕ) (ws : List Bytes) → IfSome (declaration_line format ws) NamedDeclaration
declaration-named format ws = declaration-has IsName IsWrite format ws (words-are ws)

abbrev pub NamedTypeLine : TypeLine → Type 0
NamedTypeLine l = TypeLineHas IsName l

pub type_line-named : (format : ℕ) (ws : List Bytes) → IfSome (type_line format ws) NamedTypeLine
type_line-named format ws = type_line-has IsName IsWrite format ws (words-are ws)

abbrev pub NamedDeed : Deed → Type 0
NamedDeed d = DeedHas IsName IsWrite d

abbrev pub NamedScriptLine : ScriptLine → Type 0
NamedScriptLine l = ScriptLineHas IsName IsWrite l

pub script_line-named : (format : ℕ) (ws : List Bytes) → IfSome (script_line format ws) NamedScriptLine
script_line-named format ws = script_line-has IsName IsWrite format ws (words-are ws)

abbrev pub NamedPlace : NamedGap → Type 0
NamedPlace p = GapHas IsName p

abbrev pub NamedOperation : OperationLine → Type 0
NamedOperation l = OperationHas IsName l

pub operation-named : (format : ℕ) (ws : List Bytes) → IfSome (operation_line format ws) NamedOperation
operation-named format ws = operation-has IsName IsWrite format ws (words-are ws)
