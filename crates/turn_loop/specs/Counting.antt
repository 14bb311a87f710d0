-- A responder to lines, of which some are kept.
use Rattle.std.specs.Prelude.{◌≡◌, ◌==◌, ◌&&◌, ℕ, ◌+◌, ◌<◌, ◌^◌, true, false, Bool, List, [], ◌∷◌, ◌++◌, length, nat_lt}
use Rattle.std.proofs.{Common.{ap, arith}, lemmas.Bool.ltb-true, lemmas.List.length-append}
use Rattle.store_disk.specs.Image.{all_framed, framed, u32}
use Rattle.store_disk.proofs.Framing.{framed-more}
use Rattle.turn_loop.specs.Talk.{Bytes, Rules}

-- a line ends at a line feed
abbrev pub line_ends : Bytes → ℕ → Bool
line_ends begun b = b == 10

-- whether a line begins with a plus
abbrev pub begins_with_plus : Bytes → Bool
begins_with_plus [] = false
begins_with_plus (b ∷ bytes) = b == 43

-- such a line is kept where it finds room
abbrev pub keeps_line : List Bytes → Bytes → Bool
keeps_line ps line = begins_with_plus line && nat_lt (length (all_framed ps) + (5 + length line)) (2 ^ 30)

abbrev pub word : Bool → Bytes
word true = 43 ∷ 10 ∷ []
word false = 45 ∷ 10 ∷ []

-- a rest that is not empty is not kept
abbrev pub last_word : Bytes → Bytes
last_word [] = []
last_word (b ∷ rest) = word false

abbrev pub line_rules : Rules
line_rules = record {
  ends = line_ends;
  accepts = keeps_line;
  answer = λ first ps line. word (keeps_line ps line);
  ending = λ ps rest. last_word rest;
}

and-right : (a b : Bool) → a && b ≡ true → b ≡ true
and-right true b e = e
and-right false b e = absurd cc

pub line-fits : (ps : List Bytes) (line : Bytes) → keeps_line ps line ≡ true → length (all_framed (ps ++ line ∷ [])) < 2 ^ 30
line-fits ps line keeps =
    let n : ℕ = length (all_framed ps) + (5 + length line) in
    let less : n < 2 ^ 30 = ltb-true n (2 ^ 30) (and-right (begins_with_plus line) (nat_lt n (2 ^ 30)) keeps) in
    omega (arith, ap length (framed-more ps line), length-append (all_framed ps) (framed line), length-append (1 ∷ u32 (length line)) line, less)
