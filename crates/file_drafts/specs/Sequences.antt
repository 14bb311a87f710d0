-- Parts of a tree one after another, and branches side by side, as contracts see them while a type is read.
use Rattle.std.specs.{Prelude.{◌≡◌, ℕ, List, [], ◌∷◌, refl}, Coded.{Coded, code_by, coded×, coded_ℕ, coded_list}}
use Rattle.std.proofs.Common.{ap}
use Rattle.wsm_schema.specs.{Tree.{Part, Parts, nothing, part, parts}, Tokens.tree_code}

abbrev pub list_of : Parts → List Part
list_of nothing = []
list_of (part p ps) = p ∷ list_of ps

pub list_of-parts : (ps : List Part) → list_of (parts ps) ≡ ps
list_of-parts [] = refl
list_of-parts (p ∷ ps) = ap (λ r. p ∷ r) (list_of-parts ps)

-- the codes by which a proof tells such lists apart
abbrev pub sequence_code : Coded (List Part)
sequence_code = code_by Parts tree_code parts list_of list_of-parts

abbrev pub branches_code : Coded (List (ℕ × Parts))
branches_code = coded_list (coded× coded_ℕ tree_code)
