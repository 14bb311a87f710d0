-- Lines of a type.
use Rattle.std.specs.{Prelude.{ℕ, List, [], ◌∷◌, Option, None, option_map, if◌then◌else◌, codes}, Option.option_or}
use Rattle.file_words.specs.{Lines.Bytes, Words.is, Numbers.code}
use Rattle.file_forms.specs.{Forms.{TypeLine, activity, opens_and, opens_xor, opens_branch, opens_loop, closes_block, a_sync, an_element, a_read, a_write, type_end}, PieceForms.{◌>>=◌, nothing_more, only, two_names, name_and_role}}
use Rattle.file_forms.specs.PieceForms.{two_names_and_role, element_and_kind, read_edge}

-- lines that make the tree of blocks, of which the keyword is k
abbrev pub tree_line : ℕ → Bytes → List Bytes → Option TypeLine
tree_line format k ws =
    if is (codes "act") k then option_map (λ p. activity p.0 p.1) (name_and_role format ws)
    else (if is (codes "and") k then option_map (λ p. opens_and p.0 p.1) (two_names ws)
    else (if is (codes "xor") k then option_map (λ p. opens_xor p.0 p.1 p.2) (two_names_and_role format ws)
    else (if is (codes "loop") k then option_map (λ p. opens_loop p.0 p.1 p.2) (two_names_and_role format ws)
    else (if is (codes "branch") k then option_map opens_branch (only ws >>= code)
    else (if is (codes "done") k then nothing_more closes_block ws
    else None)))))

-- lines that stand outside of all blocks
abbrev pub outer_line : Bytes → List Bytes → Option TypeLine
outer_line k ws =
    if is (codes "sync") k then option_map (λ p. a_sync p.0 p.1) (two_names ws)
    else (if is (codes "element") k then option_map (λ p. an_element p.0 p.1) (element_and_kind ws)
    else (if is (codes "read") k then option_map (λ p. a_read p.0 p.1 p.2) (read_edge ws)
    else (if is (codes "write") k then option_map (λ p. a_write p.0 p.1) (two_names ws)
    else (if is (codes "end") k then nothing_more type_end ws
    else None))))

-- a line of a file of that format; no keyword is in both
abbrev pub type_line : ℕ → List Bytes → Option TypeLine
type_line format [] = None
type_line format (k ∷ ws) = option_or (tree_line format k ws) (outer_line k ws)
