-- What a line makes of the draft that it stands in.
use Rattle.std.specs.Prelude.{◌≡◌, Bool, true, false, Ok}
use Rattle.file_forms.specs.Forms.{TypeLine, type_end}
use Rattle.file_drafts.specs.declared.drafts.Draft.{Draft}
use Rattle.file_model.specs.{Steps.at_place, Typing.typed, declared.states.Contents.Contents}
use Rattle.file_model.specs.declared.states.Section.TheVariants as section

-- the draft and the contents behind a line that stays in the type; a line that ends the type has left them as they were
abbrev pub Taken : Bool → TypeLine → Draft → Contents → Draft → Contents → Type 0
Taken true line d c d_new c_new = typed line d c ≡ Ok (at_place (section.InType d_new) c_new)
Taken false line d c d_new c_new = (line ≡ type_end) × (d_new ≡ d) × (c_new ≡ c)
