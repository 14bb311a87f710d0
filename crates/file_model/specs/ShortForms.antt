-- Forms whose names and texts are as short as a file keeps them.
use Rattle.std.specs.Prelude.{◌≡◌, ◌≤◌, true, length}
use Rattle.wsm_lists.specs.declared.values.Value.{Value}
use Rattle.wsm_lists.specs.declared.values.Value.TheVariants as value
use Rattle.file_limits.specs.declared.TheConstants.{MAX_TEXT}
use Rattle.file_words.specs.Lines.{Bytes}
use Rattle.file_names.specs.ShortNames.{is_short_name}
use Rattle.file_forms.specs.{Forms.{Declaration, TypeLine, Deed, ScriptLine, NamedGap, OperationLine}, NamesInForms.{DeclarationHas, TypeLineHas, DeedHas, ScriptLineHas, GapHas, OperationHas}}

abbrev pub IsShort : Bytes → Type 0
IsShort n = is_short_name n ≡ true

abbrev pub IsShortValue : Value → Type 0
IsShortValue (value.Int n) = Unit {0}
IsShortValue (value.Text t) = length t ≤ MAX_TEXT

abbrev pub IsShortWrite : Bytes × Value → Type 0
IsShortWrite w = IsShort w.0 × IsShortValue w.1

abbrev pub IsShortDeclaration : Declaration → Type 0
IsShortDeclaration d = DeclarationHas IsShort d

abbrev pub IsShortTypeLine : TypeLine → Type 0
IsShortTypeLine l = TypeLineHas IsShort l

abbrev pub IsShortDeed : Deed → Type 0
IsShortDeed d = DeedHas IsShort IsShortWrite d

abbrev pub IsShortScriptLine : ScriptLine → Type 0
IsShortScriptLine l = ScriptLineHas IsShort IsShortWrite l

abbrev pub IsShortGap : NamedGap → Type 0
IsShortGap p = GapHas IsShort p

abbrev pub IsShortOperation : OperationLine → Type 0
IsShortOperation l = OperationHas IsShort l
