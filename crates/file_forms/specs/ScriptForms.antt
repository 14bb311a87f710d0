-- Lines of a phase.
use Rattle.std.specs.Prelude.{ℕ, ◌&&◌, nat_le, List, [], ◌∷◌, length, ◌==◌, Option, Some, None, option_map, if◌then◌else◌, codes}
use Rattle.wsm_lists.specs.declared.values.Value.{Value}
use Rattle.file_words.specs.{Lines.Bytes, Words.is, Names.name, Numbers.code, Pairs.pair}
use Rattle.file_forms.specs.{Forms.{Deed, to_create, to_start, to_withdraw, to_end, to_change, to_install, to_migrate, ScriptLine, next_phase, a_deed}, PieceForms.{◌>>=◌, one_name, two_names, two_names_ahead}}

abbrev pub pairs : List Bytes → Option (List (Bytes × Value))
pairs [] = Some []
pairs (w ∷ ws) = do
  p ← pair w
  ps ← pairs ws
  Some (p ∷ ps)

abbrev pub code_ahead : List Bytes → Option (Option ℕ × List Bytes)
code_ahead [] = None
code_ahead (c ∷ ws) = option_map (λ n. (Some n, ws)) (code c)

-- `choice` and a code, or else nothing, and the words behind: no pair is the word `choice`
abbrev pub choice_ahead : List Bytes → Option (Option ℕ × List Bytes)
choice_ahead [] = Some (None, [])
choice_ahead (k ∷ ws) = if is (codes "choice") k then code_ahead ws else Some (None, k ∷ ws)

abbrev pub end_behind : Bytes → Bytes → List Bytes → Option Deed
end_behind case node ws = do
  choice ← choice_ahead ws
  writes ← pairs choice.1
  Some (to_end case node choice.0 writes)

abbrev pub end_deed : List Bytes → Option Deed
end_deed ws = do
  p ← two_names_ahead ws
  end_behind p.0 p.1 p.2

-- what an actor does where one name says on what
abbrev pub named_deed : Bytes → Bytes → Option Deed
named_deed k n =
    if is (codes "create") k then Some (to_create n)
    else (if is (codes "change") k then Some (to_change n)
    else (if is (codes "install") k then Some (to_install n)
    else (if is (codes "migrate") k then Some (to_migrate n)
    else None)))

-- what an actor does, but for an end; a node is given back from format 2 on
abbrev pub plain_deed : ℕ → Bytes → List Bytes → Option Deed
plain_deed format k ws =
    if is (codes "start") k then option_map (λ p. to_start p.0 p.1) (two_names ws)
    else (if is (codes "withdraw") k && nat_le 2 format then option_map (λ p. to_withdraw p.0 p.1) (two_names ws)
    else one_name ws >>= named_deed k)

abbrev pub deed : ℕ → List Bytes → Option Deed
deed format [] = None
deed format (k ∷ ws) = if is (codes "end") k then end_deed ws else plain_deed format k ws

abbrev pub deed_line : ℕ → Bytes → List Bytes → Option ScriptLine
deed_line format a ws = do
  actor ← name a
  d ← deed format ws
  Some (a_deed actor d)

-- a line of a file of that format; in formats 1 and 2 an actor may be called `phase`
abbrev pub script_line : ℕ → List Bytes → Option ScriptLine
script_line format [] = None
script_line format (k ∷ ws) = if is (codes "phase") k && length ws == 0 then Some next_phase else deed_line format k ws
